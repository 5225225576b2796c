use Rattle.std.proofs.Common.{◌≡◌, sym, ap, ◌∙◌}
use Rattle.ck_model.specs.declared.entry.Entry.{Entry}
use Rattle.ck_volume.specs.Causes.{is_done}
use Rattle.ck_history.specs.History.{entries_of}
use Rattle.ck_volume.specs.Event.{newest}
use Rattle.ck_volume.proofs.EventLemmas.{newest-last}
use Rattle.ck_volume.proofs.log.Log.is_done.Goals as goal

pub returns : goal.returns
returns c =
    let history = entries_of c.args.self.now.history in
    let last : newest history ≡ c.entry.result.now = newest-last history c.entry.result.now c.length.result c.requires c.length.ensures c.entry.ensures in
    c.is_done.ensures ∙ ap (λ (e : Entry). is_done e.reply) (sym last)
