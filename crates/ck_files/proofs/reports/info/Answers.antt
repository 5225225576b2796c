use Rattle.std.proofs.Common.{◌≡◌, ◌≤◌, ◌-◌, length, sym, ap, ◌∙◌, arith}
use Rattle.ck_model.specs.declared.reply.Reply.TheVariants.{Info}
use Rattle.ck_model.specs.declared.checkpoint.Limits.{Limits}
use Rattle.ck_model.specs.Space.{held, records_in}
use Rattle.ck_model.specs.Table.{record_count}
use Rattle.ck_model.specs.TableWorld.{checkpoints_on, world_on}
use Rattle.ck_nodata.proofs.HeldLaws.{held-is, records-is}
use Rattle.ck_files.proofs.Listed.{length-is}
use Rattle.ck_files.proofs.reports.info.Goals as goal

pub returns : goal.returns
returns g c store mounts =
    let t = g.M.Meta.table c.args.meta.now in
    let w = world_on store mounts t in
    let ours = c.requires.ours in
    let blocks_limit : c.args.limits.blocks ≡ t.blocks = ap (λ (l : Limits). l.blocks) c.requires.limits in
    let records_limit : c.args.limits.records ≡ t.records = ap (λ (l : Limits). l.records) c.requires.limits in
    let below : record_count t ≤ t.records = ours.sized.fits in
    let counted : c.args.limits.records - c.spare.result ≡ record_count t = omega (arith, c.spare.ensures) in
    let used : c.from.result ≡ held w = c.from.ensures ∙ c.requires.used ∙ sym (held-is store mounts t ours.lawful ours.sound c.requires.drained.none c.requires.drained.stripped) in
    let blocks : c.from-2.result ≡ t.blocks = c.from-2.ensures ∙ blocks_limit in
    let records : c.from-3.result ≡ records_in w = c.from-3.ensures ∙ counted ∙ sym (records-is store mounts t ours.lawful ours.sound c.requires.drained.none) in
    let limit : c.from-4.result ≡ t.records = c.from-4.ensures ∙ records_limit in
    let count : c.count_live.result ≡ length (checkpoints_on store t) = c.count_live.ensures ∙ sym (length-is store t ours.lawful) in
    λ i. Info (used i) (blocks i) (records i) (limit i) (count i)
