-- Calls on a device, one after the other.
use Rattle.std.proofs.Common.{refl, ◌∙◌, inl, inr, ⊎_elim, arith}
use Rattle.ck_disk.specs.Disk.{Image, Meaning, Lawful, Step, Within, LeavesOnly}
use Rattle.ck_disk.specs.Runs.{Runs, OnlyReads}
use Rattle.ck_disk.proofs.MomentLaws.{leaves_more, leaves_both, leaves_now}

-- ---- any calls

pub runs-none : (m : Meaning) → Runs m m
runs-none m = record { size = refl; tells = refl; reads = omega arith; writes = omega arith; later = omega arith }

pub runs-more : (old mid new : Meaning) → Runs old mid → Runs mid new → Runs old new
runs-more old mid new first next = record {
  size = next.size ∙ first.size;
  tells = next.tells ∙ first.tells;
  reads = omega (arith, first.reads, next.reads);
  writes = omega (arith, first.writes, next.writes);
  later = omega (arith, first.later, next.later);
}

-- a call that leaves these images runs
pub runs_of : (old new : Meaning) (P : Image → Type 0) → LeavesOnly old new P → Runs old new
runs_of old new P ran = record { size = ran.size; tells = ran.tells; reads = ran.reads; writes = ran.writes; later = ran.later }

-- calls that each leave no more than could be left before
pub leaves_on : (old mid new : Meaning) → Lawful mid → LeavesOnly old mid old.may_leave → LeavesOnly mid new mid.may_leave → LeavesOnly old new old.may_leave
leaves_on old mid new law first second =
    leaves_both old mid new old.may_leave first (leaves_more mid new mid.may_leave old.may_leave (leaves_now old mid old.may_leave law first) second)

-- ---- reads

-- two calls in a row, of which the first lets no crash leave more than before
pub step_after : (old mid new : Meaning) → Lawful old → Within mid.may_leave old.may_leave → Step old mid → Step mid new → Step old new
step_after old mid new law within first second = record {
  size = second.size ∙ first.size;
  tells = second.tells ∙ first.tells;
  reads = omega (arith, first.reads, second.reads);
  writes = omega (arith, first.writes, second.writes);
  later = omega (arith, first.later, second.later);
  nothing_else = λ t c le left. ⊎_elim
      (λ was. ⊎_elim (λ before. inl before) (λ may. inl (law.counts_now t c le (within c may))) (first.nothing_else t c le was))
      (λ may. inr may)
      (second.nothing_else t c (omega (arith, le, first.later)) left);
  keeps = λ t c le left. second.keeps t c (omega (arith, le, first.later)) (first.keeps t c le left);
}

pub reads_on : (old mid new : Meaning) → Lawful old → OnlyReads old mid → OnlyReads mid new → OnlyReads old new
reads_on old mid new law first second = record {
  shows = second.shows ∙ first.shows;
  crash = λ c left. first.crash c (second.crash c left);
  marks = λ k clean. second.marks k (first.marks k clean);
  step = step_after old mid new law first.crash first.step second.step;
}
