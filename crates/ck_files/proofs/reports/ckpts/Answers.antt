use Rattle.std.proofs.Common.{◌++◌, sym, ap, ◌∙◌}
use Rattle.std.proofs.lemmas.List.{append-nil}
use Rattle.ck_model.specs.declared.reply.Reply.TheVariants.{Listing}
use Rattle.ck_files.specs.Reports.{listed}
use Rattle.ck_files.proofs.Listed.{lines-is}
use Rattle.ck_files.proofs.reports.ckpts.Goals as goal

pub returns : goal.returns
returns g c store mounts =
    let t = g.M.Meta.table c.args.meta.now in
    ap Listing (c.of.ensures
    ∙ sym (append-nil c.loop-id.lines.items)
    ∙ sym (ap (λ ids. c.loop-id.lines.items ++ listed t c.loop-id.older ids) c.in_default.ensures.next)
    ∙ sym c.loop-id.invariant
    ∙ sym (lines-is store t (g.met.M.Meta.lawful c.args.meta.now)))
