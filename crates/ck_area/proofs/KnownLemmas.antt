-- The checkpoints and entries of a table, found in its slots.
use Rattle.std.proofs.Common.{◌≡◌, ℕ, ◌+◌, ◌<◌, Bool, true, false, cond, ◌&&◌, ◌||◌, not, Option, Some, None, List, [], ◌∷◌, ◌++◌, length, take, get_or, is_some, nat_le, refl, sym, ap, ◌∙◌}
use Rattle.std.specs.declared.cmp.Ordering.{Ordering}
use Rattle.std.specs.Ordering.{nat_cmp, is_eq, eq_by_cmp}
use Rattle.std.specs.Option.{option_or}
use Rattle.std.specs.FinMap.{find}
use Rattle.std.proofs.lemmas.List.Folds.{list_any-append}
use Rattle.std.proofs.lemmas.Cmp.{eq_by_cmp_equiv}
use Rattle.ck_model.specs.declared.key.Key.{Key}
use Rattle.ck_model.specs.declared.held.Held.{Held}
use Rattle.ck_model.specs.declared.checkpoint.Fileset.{Fileset}
use Rattle.ck_model.specs.Key.{key_cmp, entry_cmp, entry_cmp_total}
use Rattle.ck_model.specs.World.{keeps_files}
use Rattle.ck_model.specs.contracts.key.KeyOrd.TheImpl.{ghosts}
use Rattle.ck_model.proofs.ValueLaws.{tied_entry}
use Rattle.ck_record.specs.declared.records.Record.{Record}
use Rattle.ck_area.specs.Area.{Area, entries_by, entries_in, filesets_by, filesets_in}
use Rattle.ck_area.specs.Damage.{data_upto}
use Rattle.ck_area.specs.Known.{column_order, is_home, found_at_home}
use Rattle.ck_area.proofs.OrderLemmas.{derived_key, both_equal}
use Rattle.ck_area.proofs.SlotLemmas.{entries_more, filesets_more}

cond_or : {X : Type 0} (b : Bool) (v : X) (o p : Option X) → cond b (Some v) (option_or o p) ≡ option_or (cond b (Some v) o) p
cond_or true v o p = refl
cond_or false v o p = refl

pub find-join : {K X : Type 0} (R : K → K → Ordering) (q : K) (xs ys : List (K × X)) → find R q (xs ++ ys) ≡ option_or (find R q xs) (find R q ys)
find-join R q [] ys = refl
find-join R q (e ∷ xs) ys = ap (cond (eq_by_cmp R q e.0) (Some e.1)) (find-join R q xs ys) ∙ cond_or (eq_by_cmp R q e.0) e.1 (find R q xs) (find R q ys)

cond_join : {X : Type 0} (b : Bool) (o p : Option X) → cond b (option_or o p) None ≡ option_or (cond b o None) (cond b p None)
cond_join true o p = refl
cond_join false o p = refl

-- ---- one more slot

module _ (area : Area) (at : ℕ) (slot : Option Record) (within : at < length area) (is : slot ≡ get_or area at slot) where
  pub fileset_more : (id : ℕ) (had : Option Fileset) → had ≡ find nat_cmp id (filesets_in (take at area)) → option_or had (find nat_cmp id (filesets_by slot)) ≡ find nat_cmp id (filesets_in (take (at + 1) area))
  fileset_more id had h =
      ap (λ o. option_or o (find nat_cmp id (filesets_by slot))) h
      ∙ sym (ap (find nat_cmp id) (filesets_more area at slot within is) ∙ find-join nat_cmp id (filesets_in (take at area)) (filesets_by slot))

  pub entry_more : (filesets : ℕ → Option Fileset) (fs : ℕ) (key : Key) (had : Option Held) → had ≡ found_at_home filesets (entries_in (take at area)) fs key
      → option_or had (found_at_home filesets (entries_by slot) fs key) ≡ found_at_home filesets (entries_in (take (at + 1) area)) fs key
  entry_more filesets fs key had h =
      ap (λ o. option_or o (found_at_home filesets (entries_by slot) fs key)) h
      ∙ sym (ap (λ es. found_at_home filesets es fs key) (entries_more area at slot within is)
      ∙ ap (λ o. cond (is_home filesets fs) o None) (find-join entry_cmp (fs, key) (entries_in (take at area)) (entries_by slot))
      ∙ cond_join (is_home filesets fs) (find entry_cmp (fs, key) (entries_in (take at area))) (find entry_cmp (fs, key) (entries_by slot)))

  pub data_more : (fs : ℕ) (had : Bool) → data_upto (filesets_in (take at area)) fs ≡ had → data_upto (filesets_in (take (at + 1) area)) fs ≡ (had || data_upto (filesets_by slot) fs)
  data_more fs had h =
      ap (λ es. data_upto es fs) (filesets_more area at slot within is)
      ∙ list_any-append (λ (e : ℕ × Fileset). nat_le e.0 fs && (not e.1.gone && keeps_files e.1.kind)) (filesets_in (take at area)) (filesets_by slot)
      ∙ ap (λ b. b || data_upto (filesets_by slot) fs) h

-- ---- one entry

turned : (a b : Bool) → (a && b) ≡ (b && a)
turned true true = refl
turned true false = refl
turned false true = refl
turned false false = refl

-- the order by keys first ties the same entries
pub same_columns : (fs gs : ℕ) (key other : Key) → eq_by_cmp column_order (key, fs) (other, gs) ≡ eq_by_cmp entry_cmp (fs, key) (gs, other)
same_columns fs gs key other =
    both_equal ((ghosts).cmp key other) (nat_cmp fs gs)
    ∙ ap (λ o. is_eq o && is_eq (nat_cmp fs gs)) (derived_key key other)
    ∙ turned (is_eq (key_cmp key other)) (is_eq (nat_cmp fs gs))
    ∙ sym (both_equal (nat_cmp fs gs) (key_cmp key other))

same_none : {X : Type 0} (b : Bool) → ◌≡◌ {A = Option X} (cond b None None) None
same_none true = refl
same_none false = refl

pub entry_at_home : (filesets : ℕ → Option Fileset) (gs : ℕ) (other : Key) (held : Held) (fs : ℕ) (key : Key) → is_home filesets gs ≡ true
    → cond (eq_by_cmp column_order (key, fs) (other, gs)) (Some held) None ≡ found_at_home filesets (((gs, other), held) ∷ []) fs key
entry_at_home filesets gs other held fs key home =
    ap (λ b. cond b (Some held) None) (same_columns fs gs key other)
    ∙ elim (eq_by_cmp entry_cmp (fs, key) (gs, other)) as (λ b. eq_by_cmp entry_cmp (fs, key) (gs, other) ≡ b → cond b (Some held) None ≡ cond (is_home filesets fs) (cond b (Some held) None) None) [
      | true ↦ λ tied.
          let same : fs ≡ gs = ap (λ x. x.0) (tied_entry (fs, key) (gs, other) tied) in
          sym (ap (λ b. cond b (Some held) None) (ap (is_home filesets) same ∙ home))
      | false ↦ λ apart. sym (same_none (is_home filesets fs))
    ] refl

-- ---- an entry that is added where none stands

tied_column : (q place : Key × ℕ) → eq_by_cmp column_order q place ≡ true → q ≡ place
tied_column q place tied =
    let same : (q.1, q.0) ≡ (place.1, place.0) = tied_entry (q.1, q.0) (place.1, place.0) (sym (same_columns q.1 place.1 q.0 place.0) ∙ tied) in
    λ i. ((same i).1, (same i).0)

either_way : (q place : Key × ℕ) → eq_by_cmp column_order place q ≡ eq_by_cmp column_order q place
either_way q place =
    same_columns place.1 q.1 place.0 q.0
    ∙ (eq_by_cmp_equiv entry_cmp_total).symm (place.1, place.0) (q.1, q.0)
    ∙ sym (same_columns q.1 place.1 q.0 place.0)

or_none : {X : Type 0} (o : Option X) → option_or o None ≡ o
or_none None = refl
or_none (Some x) = refl

or_had : {X : Type 0} (o p : Option X) → is_some o ≡ true → o ≡ option_or o p
or_had None p h = cc
or_had (Some x) p h = refl

pub added : (old new : Key × ℕ → Option Held) (place q : Key × ℕ) (held : Held) → new q ≡ cond (eq_by_cmp column_order place q) (Some held) (old q) → old place ≡ None
    → new q ≡ option_or (old q) (cond (eq_by_cmp column_order q place) (Some held) None)
added old new place q held is none =
    is ∙ ap (λ b. cond b (Some held) (old q)) (either_way q place)
    ∙ elim (eq_by_cmp column_order q place) as (λ b. eq_by_cmp column_order q place ≡ b → cond b (Some held) (old q) ≡ option_or (old q) (cond b (Some held) None)) [
      | true ↦ λ tied. sym (ap (λ o. option_or o (Some held)) (ap old (tied_column q place tied) ∙ none))
      | false ↦ λ apart. sym (or_none (old q))
    ] refl

pub kept : (old : Key × ℕ → Option Held) (place q : Key × ℕ) (held : Held) → is_some (old place) ≡ true
    → old q ≡ option_or (old q) (cond (eq_by_cmp column_order q place) (Some held) None)
kept old place q held had =
    elim (eq_by_cmp column_order q place) as (λ b. eq_by_cmp column_order q place ≡ b → old q ≡ option_or (old q) (cond b (Some held) None)) [
      | true ↦ λ tied. or_had (old q) (Some held) (ap (λ x. is_some (old x)) (tied_column q place tied) ∙ had)
      | false ↦ λ apart. sym (or_none (old q))
    ] refl

pub is_none : {X : Type 0} (o : Option X) → is_some o ≡ false → o ≡ None
is_none None h = refl
is_none (Some x) h = cc
