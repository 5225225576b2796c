-- How a run of disk calls goes on.
use Rattle.std.proofs.Common.{◌≡◌, ◌≢◌, IsTrue, get_or, inl, inr, ⊎_elim, ℕ, List, [], set, refl, sym, ◌∙◌, subst, arith, get_or-set_other, ext_get_or}
use Rattle.std.proofs.lemmas.List.{length-set, set-get_or}
use Rattle.ck_disk.specs.Disk.{Image, Meaning, Lawful, Step, LeavesOnly, TearsAt, Only, Within, Agrees, IsSynced, Reaches}

-- where no write stands on a disk, a crash leaves what reads give
pub synced_only : (m : Meaning) → Lawful m → IsTrue m.tells → IsSynced m → Only m.shows m.may_leave
synced_only m law told synced c left =
    let same = law.clean told c left in
    ext_get_or [] c m.shows same.size (λ k lt. same.at k (synced k))

-- where a write changes nothing
pub torn_same : (at : ℕ) (all : Image → Type 0) → TearsAt at all all
torn_same at all c left = (c, get_or c at [], left, sym (set-get_or c at []))

pub set_same : (at : ℕ) (s : Image) → (b : List ℕ) × (s ≡ set s at b)
set_same at s = (get_or s at [], sym (set-get_or s at []))

-- before the first call
pub leaves_start : (m : Meaning) (P : Image → Type 0) → Lawful m → ((c : Image) → m.may_leave c → P c) → LeavesOnly m m P
leaves_start m P law here = record {
  size = refl;
  tells = refl;
  reads = omega arith;
  writes = omega arith;
  later = omega arith;
  each = λ c left. here c (law.only_now c left);
  before = λ t c le left. inl left;
}

-- one call more, after which a crash leaves what has P
pub leaves_step : (old mid new : Meaning) (P : Image → Type 0) → LeavesOnly old mid P → Step mid new → ((c : Image) → new.may_leave c → P c) → LeavesOnly old new P
leaves_step old mid new P so_far step here = record {
  size = step.size ∙ so_far.size;
  tells = step.tells ∙ so_far.tells;
  reads = omega (arith, so_far.reads, step.reads);
  writes = omega (arith, so_far.writes, step.writes);
  later = omega (arith, so_far.later, step.later);
  each = λ c left. ⊎_elim (so_far.each c) (here c) (step.nothing_else old.moment c so_far.later left);
  before = λ t c le left. ⊎_elim (so_far.before t c le) (λ now. inr (here c now)) (step.nothing_else t c (omega (arith, le, so_far.later)) left);
}

-- any that implies another
pub leaves_more : (old new : Meaning) (P Q : Image → Type 0) → ((c : Image) → P c → Q c) → LeavesOnly old new P → LeavesOnly old new Q
leaves_more old new P Q more run = record {
  size = run.size;
  tells = run.tells;
  reads = run.reads;
  writes = run.writes;
  later = run.later;
  each = λ c left. more c (run.each c left);
  before = λ t c le left. ⊎_elim (λ was. inl was) (λ p. inr (more c p)) (run.before t c le left);
}

-- two runs, one after the other
pub leaves_both : (old mid new : Meaning) (P : Image → Type 0) → LeavesOnly old mid P → LeavesOnly mid new P → LeavesOnly old new P
leaves_both old mid new P a b = record {
  size = b.size ∙ a.size;
  tells = b.tells ∙ a.tells;
  reads = omega (arith, a.reads, b.reads);
  writes = omega (arith, a.writes, b.writes);
  later = omega (arith, a.later, b.later);
  each = λ c left. ⊎_elim (a.each c) (λ p. p) (b.before old.moment c a.later left);
  before = λ t c le left. ⊎_elim (a.before t c le) (λ p. inr p) (b.before t c (omega (arith, le, a.later)) left);
}

-- what may be left now has P
pub leaves_now : (old new : Meaning) (P : Image → Type 0) → Lawful new → LeavesOnly old new P → (c : Image) → new.may_leave c → P c
leaves_now old new P law run c left = run.each c (law.counts_now old.moment c run.later left)

pub agrees_same : (K : ℕ → Type 0) (c : Image) → Agrees K c c
agrees_same K c = record { size = refl; at = λ k in_k. refl }

pub agrees_on : (K : ℕ → Type 0) (c d e : Image) → Agrees K c d → Agrees K d e → Agrees K c e
agrees_on K c d e a b = record { size = b.size ∙ a.size; at = λ k in_k. b.at k in_k ∙ a.at k in_k }

pub agrees_less : (K L : ℕ → Type 0) (c d : Image) → ((k : ℕ) → L k → K k) → Agrees K c d → Agrees L c d
agrees_less K L c d less a = record { size = a.size; at = λ k in_l. a.at k (less k in_l) }

-- a block outside K replaced
pub agrees_set : (K : ℕ → Type 0) (d : Image) (at : ℕ) (b : List ℕ) → ((k : ℕ) → K k → k ≢ at) → Agrees K d (set d at b)
agrees_set K d at b apart = record { size = length-set d at b; at = λ k in_k. get_or-set_other d at k b [] (apart k in_k) }

-- the images after a write outside K
pub reaches_torn : (K : ℕ → Type 0) (all old new : Image → Type 0) (at : ℕ) → ((k : ℕ) → K k → k ≢ at)
    → ((c : Image) → old c → Reaches K all c) → TearsAt at old new → (c : Image) → new c → Reaches K all c
reaches_torn K all old new at apart so_far torn c left =
    let from = torn c left in
    let was = so_far from.0 from.2 in
    let same : Agrees K from.0 c = subst (λ e. Agrees K from.0 e) (sym from.3) (agrees_set K from.0 at from.1 apart) in
    (was.0, was.1, agrees_on K was.0 from.0 c was.2 same)

-- a write outside K
pub writes_on : (K : ℕ → Type 0) (old mid new : Meaning) (at : ℕ) → ((k : ℕ) → K k → k ≢ at) → Lawful mid
    → LeavesOnly old mid (Reaches K old.may_leave) → Step mid new → TearsAt at mid.may_leave new.may_leave → LeavesOnly old new (Reaches K old.may_leave)
writes_on K old mid new at apart law run step torn =
    leaves_step old mid new (Reaches K old.may_leave) run step (reaches_torn K old.may_leave mid.may_leave new.may_leave at apart (leaves_now old mid (Reaches K old.may_leave) law run) torn)

-- a read or a sync
pub keeps_on : (old mid new : Meaning) (P : Image → Type 0) → Lawful mid → LeavesOnly old mid P → Step mid new → Within new.may_leave mid.may_leave → LeavesOnly old new P
keeps_on old mid new P law run step within = leaves_step old mid new P run step (λ c left. leaves_now old mid P law run c (within c left))
