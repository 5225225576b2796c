-- A write that fails without the disk below being asked for it.
use Rattle.std.proofs.Common.{◌≡◌, ◌≤◌, ◌||◌, inl, inr, ⊎_elim, ℕ, Bool, true, nat_eq, List, ◌∷◌, refl, sym, ◌∙◌, ap, subst, arith}
use Rattle.std.proofs.lemmas.Bool.Decides.{nat_tests}
use Rattle.ck_disk.specs.Disk.{Meaning, Lawful, Step, TearsAt, KeepsCleanBut}
use Rattle.ck_disk.specs.Lost.{LeftBut, is_written_with, but_lost}
use Rattle.ck_disk.specs.LostLaws.{one_more_left, other}

module _ (m : Meaning) (places later : List ℕ) (at : ℕ) (more : later ≡ at ∷ places) where
  pub lost_crash : TearsAt at (LeftBut places m.may_leave) (LeftBut later m.may_leave)
  lost_crash = subst (λ (l : List ℕ). TearsAt at (LeftBut places m.may_leave) (LeftBut l m.may_leave)) (sym more) (λ c left. (left.0, left.1, left.3, left.4))

  pub lost_marks : KeepsCleanBut at (is_written_with places m.written) (is_written_with later m.written)
  lost_marks = λ k ne clean. ap (λ (l : List ℕ). is_written_with l m.written k) more ∙ other at places m.written k ne clean

  pub lost_counts : is_written_with later m.written at ≡ true
  lost_counts = ap (λ (l : List ℕ). is_written_with l m.written at) more ∙ ap (λ (b : Bool). b || is_written_with places m.written at) itself
    where
      itself : nat_eq at at ≡ true
      itself = grind (arith, nat_tests)

  pub lost_step : Lawful m → (reads writes writes' : ℕ) → writes ≤ writes' → Step (but_lost places reads writes m) (but_lost later reads writes' m)
  lost_step law reads writes writes' le = record {
    size = refl;
    tells = refl;
    reads = omega arith;
    writes = omega arith;
    later = omega arith;
    nothing_else = λ t c before left. ⊎_elim (λ below. inl (inl below)) (λ now. inr now) left;
    keeps = λ t c before left. ⊎_elim (λ below. inl below) (λ now. inr (subst (λ (l : List ℕ). LeftBut l m.may_leave c) (sym more) (one_more_left places m at law c now))) left;
  }
