-- The laws of tables after each change.
use Rattle.std.proofs.Common.{◌≡◌, ℕ, ◌+◌, ◌-◌, ◌<◌, ◌≤◌, Bool, true, false, cond, Option, Some, None, is_some, IsSome, refl, sym, subst, ◌∙◌, ◌⊎◌, inl, inr, arith}
use mathlib.Core.Bool.{false≢true}
use Rattle.std.specs.declared.cmp.Ordering.{Ordering}
use Rattle.std.specs.declared.cmp.Ordering.TheVariants.{Less, Equal, Greater}
use Rattle.std.specs.Ordering.{is_eq, eq_by_cmp}
use Rattle.std.specs.Cmp.{IsTotalOrder, nat_cmp_total}
use Rattle.std.specs.FinMap.{IsAntisymmetric, nat_cmp-IsAntisymmetric, get-insert, get-remove, len-insert, len-remove}
use Rattle.std.specs.FinMap as map
use Rattle.ck_model.specs.declared.key.Key.{Key}
use Rattle.ck_model.specs.declared.held.Held.{Held}
use Rattle.ck_model.specs.declared.checkpoint.Fileset.{Fileset}
use Rattle.ck_model.specs.Key.{entry_cmp_total, entry_cmp_exact}
use Rattle.ck_model.specs.Held.{IsWord, IsEntry, IsFileset}
use Rattle.ck_model.specs.Table.{Table, Entries, Filesets, column, written, recorded, with_entry, with_fileset, spare_count, IsTable, IsSized}

pub equal : (o : Ordering) → is_eq o ≡ true → o ≡ Equal
equal Less h = cc
equal Equal h = refl
equal Greater h = cc

pub some_same : {X : Type 0} (x y : X) → ◌≡◌ {A = Option X} (Some x) (Some y) → x ≡ y
some_same x y h = cc

pub none_some : {X : Type 0} (x : X) → ◌≡◌ {A = Option X} None (Some x) → ⊥
none_some x h = cc

module _ {K X : Type 0} {R : K → K → Ordering} (total : IsTotalOrder R) (exact : IsAntisymmetric R) (P : K → X → Type 0) (m : map.FinMap R X) (each : (q : K) (v : X) → map.get m q ≡ Some v → P q v) where
  each-insert : (k : K) (x : X) → P k x → (q : K) (v : X) → map.get (map.insert m k x) q ≡ Some v → P q v
  each-insert k x here q v h =
      elim (eq_by_cmp R q k) as (λ b. eq_by_cmp R q k ≡ b → cond b (Some x) (map.get m q) ≡ Some v → P q v) [
        | true ↦ λ p h. subst (λ y. P q y) (some_same x v h) (subst (λ y. P y x) (sym (exact q k (equal _ p))) here)
        | false ↦ λ p h. each q v h
      ] refl (sym (get-insert total m k x q) ∙ h)

  each-remove : (k : K) (q : K) (v : X) → map.get (map.remove m k) q ≡ Some v → P q v
  each-remove k q v h =
      elim (eq_by_cmp R q k) as (λ b. cond b None (map.get m q) ≡ Some v → P q v) [
        | true ↦ λ h. absurd (none_some v h)
        | false ↦ λ h. each q v h
      ] (sym (get-remove total m k q) ∙ h)

-- what a table has of an entry or a record
abbrev Holds : ℕ × Key → Held → Type 0
Holds entry held = IsWord entry.0 × IsEntry entry.1 held

pub IsTable-with_entry : (t : Table) (fs : ℕ) (key : Key) (w : Option Held) → IsTable t → IsWord fs → ((held : Held) → w ≡ Some held → IsEntry key held) → IsTable (with_entry t fs key w)
IsTable-with_entry t fs key None table word entry = record {
  entries = λ gs q held h. each-remove entry_cmp_total entry_cmp_exact Holds t.entries (λ e v found. table.entries e.0 e.1 v found) (fs, key) (gs, q) held h;
  filesets = table.filesets;
  counters = table.counters;
}
IsTable-with_entry t fs key (Some new) table word entry = record {
  entries = λ gs q held h. each-insert entry_cmp_total entry_cmp_exact Holds t.entries (λ e v found. table.entries e.0 e.1 v found) (fs, key) new (word, entry new refl) (gs, q) held h;
  filesets = table.filesets;
  counters = table.counters;
}

pub IsTable-with_fileset : (t : Table) (id : ℕ) (w : Option Fileset) → IsTable t → ((fileset : Fileset) → w ≡ Some fileset → IsFileset id fileset) → IsTable (with_fileset t id w)
IsTable-with_fileset t id None table fits = record {
  entries = table.entries;
  filesets = each-remove nat_cmp_total nat_cmp-IsAntisymmetric IsFileset t.filesets table.filesets id;
  counters = table.counters;
}
IsTable-with_fileset t id (Some new) table fits = record {
  entries = table.entries;
  filesets = each-insert nat_cmp_total nat_cmp-IsAntisymmetric IsFileset t.filesets table.filesets id new (fits new refl);
  counters = table.counters;
}

-- ---- the records fit

no_more : (b : Bool) (new old : ℕ) → new ≡ cond b (old - 1) old → new ≤ old
no_more true new old h = omega arith
no_more false new old h = omega arith

room_kept : {X : Type 0} (o : Option X) (new old others records : ℕ) → IsSome o ⊎ (0 < records - (old + others)) → old + others ≤ records → new ≡ cond (is_some o) old (old + 1) → new + others ≤ records
room_kept None new old others records (inl stands) fits is = absurd (false≢true stands)
room_kept None new old others records (inr room) fits is = omega arith
room_kept (Some h) new old others records room fits is = omega arith

pub IsSized-with_entry : (t : Table) (fs : ℕ) (key : Key) (w : Option Held) → IsSized t → (IsSome w → IsSome (column t key fs) ⊎ (0 < spare_count t)) → IsSized (with_entry t fs key w)
IsSized-with_entry t fs key None sized room = record {
  blocks = sized.blocks;
  records = sized.records;
  fits = omega (arith, sized.fits, no_more (map.contains_key t.entries (fs, key)) _ _ (len-remove entry_cmp_total t.entries (fs, key)));
}
IsSized-with_entry t fs key (Some new) sized room = record {
  blocks = sized.blocks;
  records = sized.records;
  fits = room_kept (map.get t.entries (fs, key)) _ (map.len t.entries) (map.len t.filesets) t.records (room refl) sized.fits (len-insert entry_cmp_total t.entries (fs, key) new);
}

pub IsSized-with_fileset : (t : Table) (id : ℕ) (w : Option Fileset) → IsSized t → (IsSome w → IsSome (map.get t.filesets id) ⊎ (0 < spare_count t)) → IsSized (with_fileset t id w)
IsSized-with_fileset t id None sized room = record {
  blocks = sized.blocks;
  records = sized.records;
  fits = omega (arith, sized.fits, no_more (map.contains_key t.filesets id) _ _ (len-remove nat_cmp_total t.filesets id));
}
IsSized-with_fileset t id (Some new) sized room =
    let swapped : IsSome (map.get t.filesets id) ⊎ (0 < t.records - (map.len t.filesets + map.len t.entries)) = elim (room refl) [ inl stands ↦ inl stands | inr free ↦ inr (omega arith) ] in
    let fits : map.len t.filesets + map.len t.entries ≤ t.records = omega (arith, sized.fits) in
    let kept = room_kept (map.get t.filesets id) _ (map.len t.filesets) (map.len t.entries) t.records swapped fits (len-insert nat_cmp_total t.filesets id new) in
    record { blocks = sized.blocks; records = sized.records; fits = omega (arith, kept) }

-- ---- the parts of a changed table

pub entered : (t : Table) (es : Entries) (records fs : ℕ) (key : Key) (w : Option Held) → es ≡ written t.entries fs key w → records ≡ t.records → ◌≡◌ {A = Table} (record { entries = es; filesets = t.filesets; counters = t.counters; blocks = t.blocks; records = records }) (with_entry t fs key w)
entered t es records fs key w p q i = record { entries = p i; filesets = t.filesets; counters = t.counters; blocks = t.blocks; records = q i }

pub recorded_in : (t : Table) (es : Filesets) (id : ℕ) (w : Option Fileset) → es ≡ recorded t.filesets id w → ◌≡◌ {A = Table} (record { entries = t.entries; filesets = es; counters = t.counters; blocks = t.blocks; records = t.records }) (with_fileset t id w)
recorded_in t es id w p i = record { entries = t.entries; filesets = p i; counters = t.counters; blocks = t.blocks; records = t.records }

pub as_given : {X : Type 0} (P : X → Type 0) (x : X) → P x → (y : X) → ◌≡◌ {A = Option X} (Some x) (Some y) → P y
as_given P x h y same = subst (λ z. P z) (some_same x y same) h

pub nothing_given : {X : Type 0} (P : X → Type 0) (y : X) → ◌≡◌ {A = Option X} None (Some y) → P y
nothing_given P y same = absurd (none_some y same)
