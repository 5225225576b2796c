use Rattle.std.proofs.Common.{sym, subst, IsSome, inl, inr}
use mathlib.Core.Bool.{false≢true}
use Rattle.std.specs.Cmp.{nat_cmp_total}
use Rattle.std.specs.FinMap.{nat_cmp-IsAntisymmetric}
use Rattle.ck_model.proofs.PlaceLaws.{set_found, set_gap, get_gap}
use Rattle.ck_slots.proofs.filesets.set.Goals as goal

pub unwrap-requires : goal.unwrap-requires
unwrap-requires c = elim c.requires.room [
  | inl stands ↦ absurd (false≢true (subst IsSome (sym (get_gap nat_cmp_total nat_cmp-IsAntisymmetric c.args.id c.args.filesets.now.items c.in-Err.at (rw c.deref.ensures.value at c.in-Err.ensures.absent) c.requires.sorted)) stands))
  | inr room ↦ c.insert.ensures.succeeds room
]

pub returns-in-Ok-clause-set : goal.returns-in-Ok-clause-set
returns-in-Ok-clause-set c = set_found nat_cmp_total nat_cmp-IsAntisymmetric c.args.id c.args.fileset c.args.filesets.now.items c.in-Ok.at c.index_mut.result.now (rw c.deref.ensures.value at c.in-Ok.ensures.found) c.index_mut.ensures.value c.requires.sorted

pub returns-in-Err-clause-set : goal.returns-in-Err-clause-set
returns-in-Err-clause-set c = rw (c.insert.ensures.items, c.unwrap.ensures) (set_gap nat_cmp_total nat_cmp-IsAntisymmetric c.args.id c.args.fileset c.args.filesets.now.items c.in-Err.at (rw c.deref.ensures.value at c.in-Err.ensures.absent) c.requires.sorted)
