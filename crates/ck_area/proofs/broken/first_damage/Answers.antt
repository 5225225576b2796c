use Rattle.std.proofs.Common.{length, subst}
use Rattle.ck_area.specs.Damage.{breaks}
use Rattle.ck_area.specs.Firsts.{IsFirst}
use Rattle.ck_area.proofs.FirstLemmas.{first_is_damage}
use Rattle.ck_area.proofs.broken.first_damage.Goals as goal

pub returns-in-Some : goal.returns-in-Some
returns-in-Some c =
    let area = c.args.area.now in
    first_is_damage c.args.blocks c.args.records area _ (subst (IsFirst (breaks c.args.blocks c.args.records area) (length area)) c.in-Some.is c.in_ok-slot.ensures)

pub returns-in-None : goal.returns-in-None
returns-in-None c =
    let area = c.args.area.now in
    first_is_damage c.args.blocks c.args.records area _ (subst (IsFirst (breaks c.args.blocks c.args.records area) (length area)) c.in-None.is c.in_ok-slot.ensures)
