use Rattle.std.proofs.Common.{subst}
use Rattle.ck_model.specs.TableWorld.{values_of}
use Rattle.ck_model.specs.Streams.{changed}
use Rattle.ck_model.specs.Values.{cells_on}
use Rattle.ck_changed.specs.Compare.{cells_from, store_on, IsNextOf}
use Rattle.ck_changed.proofs.compare.Compare.turn.Goals as goal

pub returns-clause-next : goal.returns-clause-next
returns-clause-next g c = λ goes tells s.
    let t = g.M.Meta.table c.args.meta.now in
    let changes = changed (cells_from s t c.args.self.now.from) (cells_on (store_on (g.D.Disk.means c.args.disk.now).shows c.args.base) (values_of t c.args.self.now.to)) in
    subst (λ after. IsNextOf changes after c.answer-next.result) c.as_ref.ensures.value (c.answer-next.ensures.next goes tells s)
