-- The counts of faults of a device, one entry after another.
use Rattle.std.proofs.Common.{◌≡◌, ℕ, ◌+◌, ◌≤◌, Bool, true, false, ◌⊎◌, inl, inr, List, [], ◌∷◌, ◌++◌, if◌then◌else◌, refl, sym, subst, arith}
use Rattle.std.specs.Prelude.{◌-◌, ◌^◌, min}
use Rattle.ck_disk.specs.Disk.{Meaning, Rose}
use Rattle.ck_model.specs.declared.entry.Entry.{Entry}
use Rattle.ck_model.specs.declared.reply.Reply.{Reply}
use Rattle.ck_model.specs.History.{is_write_fault}
use Rattle.ck_volume.specs.Causes.{replies_of, HasCauses}
use Rattle.ck_disk.specs.Runs.{Runs}
use Rattle.ck_volume.specs.Event.{HasCause, is_read_fault}

replies-more : (is : Reply → Bool) (history : List Entry) (entry : Entry) → replies_of is (history ++ entry ∷ []) ≡ replies_of is history + (if is entry.reply then 1 else 0)
replies-more is [] entry = omega arith
replies-more is (first ∷ history) entry = omega (arith, replies-more is history entry)

cause-more : (old mid new count more : ℕ) → min (old + count) (2 ^ 64 - 1) ≤ mid → mid ≤ new → (more ≡ 0) ⊎ ((more ≡ 1) × Rose mid new) → min (old + (count + more)) (2 ^ 64 - 1) ≤ new
cause-more old mid new count more so_far later (inl none) = omega (arith, so_far, later, none)
cause-more old mid new count more so_far later (inr one) = omega (arith, so_far, later, one.0, one.1)

abbrev one_if : Bool → ℕ
one_if b = if b then 1 else 0

one_or_none : (b : Bool) (P : Type 0) → (b ≡ true → P) → (one_if b ≡ 0) ⊎ ((one_if b ≡ 1) × P)
one_or_none true P h = inr (refl, h refl)
one_or_none false P h = inl refl

pub causes-more : (old mid new : Meaning) (history : List Entry) (entry : Entry) → HasCauses old mid history → Runs mid new → HasCause mid new entry.reply → HasCauses old new (history ++ entry ∷ [])
causes-more old mid new history entry causes runs cause = record {
  reads = subst (λ (n : ℕ). min (old.read_faults + n) (2 ^ 64 - 1) ≤ new.read_faults) (sym (replies-more is_read_fault history entry))
      (cause-more old.read_faults mid.read_faults new.read_faults (replies_of is_read_fault history) (if is_read_fault entry.reply then 1 else 0) causes.reads runs.reads (one_or_none (is_read_fault entry.reply) (Rose mid.read_faults new.read_faults) cause.read));
  writes = subst (λ (n : ℕ). min (old.write_faults + n) (2 ^ 64 - 1) ≤ new.write_faults) (sym (replies-more is_write_fault history entry))
      (cause-more old.write_faults mid.write_faults new.write_faults (replies_of is_write_fault history) (if is_write_fault entry.reply then 1 else 0) causes.writes runs.writes (one_or_none (is_write_fault entry.reply) (Rose mid.write_faults new.write_faults) cause.write));
}

pub causes-still : (old mid new : Meaning) (history : List Entry) → HasCauses old mid history → Runs mid new → HasCauses old new history
causes-still old mid new history causes runs = record {
  reads = omega (arith, causes.reads, runs.reads);
  writes = omega (arith, causes.writes, runs.writes);
}

-- ---- before the first entry

pub causes-none : (m : Meaning) → HasCauses m m []
causes-none m = record { reads = omega arith; writes = omega arith }
