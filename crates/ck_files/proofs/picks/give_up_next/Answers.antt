use Rattle.std.proofs.Common.{sym, subst}
use Rattle.ck_nodata.specs.StripItem.{IsStrippedTo}
use Rattle.ck_reclaim.proofs.GivenLaws.{picked_live}
use Rattle.ck_files.proofs.CheckpointLemmas.{place_gone}
use Rattle.ck_files.proofs.picks.give_up_next.Goals as goal

pub returns-clause-stripped : goal.returns-clause-stripped
returns-clause-stripped g c =
    let t = g.M.Meta.table c.args.meta.now in
    subst (λ u. IsStrippedTo u c.go_back.new.stripped) (sym c.mark_gone.ensures.table)
    (place_gone t c.in-Some.id (picked_live t c.in-Some.id (sym c.in-Some.ensures.pick)) c.args.stripped.now c.go_back.new.stripped c.requires.stripped c.go_back.ensures.back c.go_back.ensures.same)
