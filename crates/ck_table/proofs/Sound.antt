-- The rules of a table after its checkpoints' records change and no entry does.
use Rattle.std.proofs.Common.{◌≡◌, ℕ, ◌<◌, ◌≤◌, Bool, true, false, List, [], ◌∷◌, Option, Some, None, IsSome, IsSomeAnd, is_some, length, ◌≢◌, refl, sym, ap, ◌∙◌, ◌⊎◌, inl, inr}
use Rattle.std.specs.FinMap as map
use Rattle.ck_model.specs.declared.key.Key.{Key}
use Rattle.ck_model.specs.declared.held.Held.{Held}
use Rattle.ck_model.specs.declared.held.Held.TheVariants.{Absent, Mark}
use Rattle.ck_model.specs.declared.checkpoint.Fileset.{Fileset}
use Rattle.ck_model.specs.Table.{Table, Filesets, column}
use Rattle.ck_model.specs.Chain.{is_live, live_ids, keeps_data}
use Rattle.ck_model.specs.Rules.{IsOrderly, IsSound, IsNeeded, first_holder}
use Rattle.std.specs.Option.{option_or, option_map}

-- the table with these records and this next id
abbrev pub with_records : Table → Filesets → ℕ → Table
with_records t filesets id = record t { filesets = filesets; counters = record (t.counters) { id = id } }

-- what the new records must keep
pub record Keeps (t : Table) (filesets : Filesets) (next : ℕ) : Type 0 where
  pub names : (a b : ℕ) (f g : Fileset) → map.get filesets a ≡ Some f → map.get filesets b ≡ Some g → f.gone ≡ false → g.gone ≡ false → f.name ≡ g.name → a ≡ b
  pub ids : (id : ℕ) → IsSome (map.get filesets id) → id < next
  pub live : length (live_ids (with_records t filesets next)) ≤ 64
  -- a checkpoint with an entry stays
  pub homes : (fs : ℕ) (key : Key) → IsSome (column t key fs) → IsSome (map.get t.filesets fs) → IsSome (map.get filesets fs)
  -- where no data was kept, none is kept
  pub marks : (fs : ℕ) → IsSome (map.get t.filesets fs) → keeps_data t fs ≡ false → keeps_data (with_records t filesets next) fs ≡ false
  pub absents : (fs : ℕ) (key : Key) → is_live (with_records t filesets next) fs ≡ true → column t key fs ≡ Some Absent → IsNeeded (with_records t filesets next) key fs

-- a mark stands in a checkpoint
marked_one : (t : Table) → IsOrderly t → (fs : ℕ) (key : Key) (stamp : ℕ) → column t key fs ≡ Some (Mark stamp) → IsSome (map.get t.filesets fs)
marked_one t orderly fs key stamp is = elim (orderly.homes fs key (ap is_some is)) [
  | inl zero ↦ absurd (orderly.primary key (Mark stamp) (ap (column t key) (sym zero) ∙ is))
  | inr stands ↦ stands
]

pub sound_with : (t : Table) (filesets : Filesets) (next : ℕ) → IsSound t → Keeps t filesets next → IsSound (with_records t filesets next)
sound_with t filesets next sound keeps = record {
  orderly = record {
    names = keeps.names;
    ids = keeps.ids;
    live = keeps.live;
    homes = λ fs key entry. elim (sound.orderly.homes fs key entry) as (λ _. (fs ≡ 0) ⊎ IsSome (map.get filesets fs)) [ inl zero ↦ inl zero | inr stands ↦ inr (keeps.homes fs key entry stands) ];
    stamps = sound.orderly.stamps;
    numbers = sound.orderly.numbers;
    blocks = sound.orderly.blocks;
    unshared = sound.orderly.unshared;
    primary = sound.orderly.primary;
    marks = λ fs key stamp is. keeps.marks fs (marked_one t sound.orderly fs key stamp is) (sound.orderly.marks fs key stamp is);
    versions = sound.orderly.versions;
  };
  absents = keeps.absents;
}

-- the entry with its checkpoint
abbrev pub held_by : ℕ → Held → ℕ × Held
held_by x entry = (x, entry)

-- it stands in one that is gone, or isn't an absent
abbrev pub Counts : (ℕ → Bool) → ℕ × Held → Type 0
Counts gone holder = (gone holder.0 ≡ true) ⊎ (holder.1 ≢ Absent)

still_counts : (gone now : ℕ → Bool) (x : ℕ) (entry : Held) → (gone x ≡ true → now x ≡ true) → Counts gone (held_by x entry) → Counts now (held_by x entry)
still_counts gone now x entry more (inl left) = inl (more left)
still_counts gone now x entry more (inr other) = inr other

-- an absent that is needed stays so, where those that are gone stay gone
pub still_needed : (held : ℕ → Option Held) (gone now : ℕ → Bool) → ((x : ℕ) → IsSome (held x) → gone x ≡ true → now x ≡ true) → (xs : List ℕ)
    → IsSomeAnd (first_holder held xs) (Counts gone) → IsSomeAnd (first_holder held xs) (Counts now)
still_needed held gone now more [] needed =
    elim (held 0) as (λ o. held 0 ≡ o → IsSomeAnd (option_map (held_by 0) o) (Counts gone) → IsSomeAnd (option_map (held_by 0) o) (Counts now)) [
      | None ↦ λ _ h. h
      | Some entry ↦ λ is h. still_counts gone now 0 entry (more 0 (ap is_some is)) h
    ] refl needed
still_needed held gone now more (x ∷ xs) needed =
    elim (held x) as (λ o. held x ≡ o → IsSomeAnd (option_or (option_map (held_by x) o) (first_holder held xs)) (Counts gone) → IsSomeAnd (option_or (option_map (held_by x) o) (first_holder held xs)) (Counts now)) [
      | None ↦ λ _ h. still_needed held gone now more xs h
      | Some entry ↦ λ is h. still_counts gone now x entry (more x (ap is_some is)) h
    ] refl needed
