-- The data blocks in use are as many as the table names.
use Rattle.std.proofs.Common.{◌≡◌, ℕ, ◌+◌, Bool, true, false, cond, T, ◌||◌, is_some, List, [], ◌∷◌, length, Some, nat_eq, refl, sym, ap, subst, ◌∙◌, ◌⊎◌, inl, inr, arith}
use Rattle.std.specs.Ordering.{nat_cmp, eq_by_cmp, is_eq}
use Rattle.std.specs.Cmp.{unsigned_tied}
use Rattle.std.specs.List.{list_any}
use Rattle.std.specs.FinMap.{nat_cmp-IsAntisymmetric, is_sorted, entries_sorted}
use Rattle.std.specs.FinMap.Entries.{below_all}
use Rattle.std.specs.FinMap as map
use Rattle.std.specs.FinSet as set
use Rattle.std.proofs.lemmas.Bool.Decides.{nat_tests}
use Rattle.std.proofs.lemmas.Cmp.{nat_cmp_total, tied_itself}
use Rattle.ck_model.proofs.ValueLaws.{tied_entry}
use mathlib.Core.Bool.{false≢true}
use Rattle.ck_model.specs.declared.key.Key.{Key}
use Rattle.ck_model.specs.declared.held.Held.{Held}
use Rattle.ck_model.specs.declared.held.Held.TheVariants.{Absent, Plain, Extent, Mark}
use Rattle.ck_model.specs.Key.{entry_cmp, entry_cmp_total, entry_cmp_exact}
use Rattle.ck_model.specs.Table.{Table, column}
use Rattle.ck_model.specs.Rules.{IsSound}
use Rattle.ck_model.specs.TableWorld.{blocks_of, extents_of, extent_count}
use Rattle.ck_model.proofs.CaseLaws.{head_of}
use Rattle.ck_model.proofs.FilesetLaws.{not_below}
use Rattle.ck_alloc.specs.Blocks.{Allocation}
use Rattle.ck_files.specs.Allocated.{is_named, IsAllocated}
use Rattle.ck_files.specs.Places.{AreDistinct}

any_same : (x : ℕ) (xs : List ℕ) → list_any (eq_by_cmp nat_cmp x) xs ≡ list_any (nat_eq x) xs
any_same x [] = refl
any_same x (y ∷ ys) = λ i. unsigned_tied x y i || any_same x ys i

pub contains-listed : (x : ℕ) (xs : List ℕ) → set.contains (set.from_list {R = nat_cmp} xs) x ≡ list_any (nat_eq x) xs
contains-listed x xs = set.contains-from_list nat_cmp_total xs x ∙ any_same x xs

pub distinct_count : (xs : List ℕ) → AreDistinct xs → set.len (set.from_list {R = nat_cmp} xs) ≡ length xs
distinct_count [] h = set.len-empty nat_cmp
distinct_count (x ∷ xs) h =
    set.len-insert nat_cmp_total (set.from_list xs) x
    ∙ ap (λ b. cond b (set.len (set.from_list {R = nat_cmp} xs)) (set.len (set.from_list {R = nat_cmp} xs) + 1)) (contains-listed x xs ∙ h.0)
    ∙ omega (arith, distinct_count xs h.1)

-- an entry that names the data block
record Naming (block : ℕ) (es : List ((ℕ × Key) × Held)) : Type 0 where
  place : ℕ × Key
  stamp : ℕ
  found : map.find entry_cmp place es ≡ Some (Extent stamp block)

found_on : (x : (ℕ × Key) × Held) (es : List ((ℕ × Key) × Held)) (place : ℕ × Key) (h : Held) → T (below_all entry_cmp x.0 es) → map.find entry_cmp place es ≡ Some h → map.find entry_cmp place (x ∷ es) ≡ Some h
found_on x es place h below found =
    elim (eq_by_cmp entry_cmp place x.0) as (λ b. eq_by_cmp entry_cmp place x.0 ≡ b → cond b (Some x.1) (map.find entry_cmp place es) ≡ Some h) [
      | true ↦ λ tied. let same : place ≡ x.0 = tied_entry place x.0 tied in
          absurd (false≢true (ap is_some (sym (not_below entry_cmp_total entry_cmp_exact x.0 es below) ∙ ap (λ p. map.find entry_cmp p es) (sym same) ∙ found)))
      | false ↦ λ _. found
    ] refl

naming_on : {block : ℕ} (x : (ℕ × Key) × Held) (es : List ((ℕ × Key) × Held)) → T (below_all entry_cmp x.0 es) → Naming block es → Naming block (x ∷ es)
naming_on x es below n = record { place = n.place; stamp = n.stamp; found = found_on x es n.place (Extent n.stamp _) below n.found }

found_here : (place : ℕ × Key) (h : Held) (es : List ((ℕ × Key) × Held)) → map.find entry_cmp place ((place, h) ∷ es) ≡ Some h
found_here place h es = ap (λ o. cond (is_eq o) (Some h) (map.find entry_cmp place es)) (tied_itself entry_cmp_total place)

naming_here : (place : ℕ × Key) (s block : ℕ) (es : List ((ℕ × Key) × Held)) → Naming block ((place, Extent s block) ∷ es)
naming_here place s block es = record { place = place; stamp = s; found = found_here place (Extent s block) es }

one_or : (a b : Bool) → (a || b) ≡ true → (a ≡ true) ⊎ (b ≡ true)
one_or true b h = inl refl
one_or false b h = inr h

naming : (block : ℕ) (es : List ((ℕ × Key) × Held)) → T (is_sorted entry_cmp es) → list_any (nat_eq block) (blocks_of es) ≡ true → Naming block es
naming block [] sorted h = absurd (false≢true h)
naming block ((place, Absent) ∷ es) sorted h = let parts = head_of (below_all entry_cmp place es) (is_sorted entry_cmp es) sorted in naming_on (place, Absent) es parts.0 (naming block es parts.1 h)
naming block ((place, Plain s small) ∷ es) sorted h = let parts = head_of (below_all entry_cmp place es) (is_sorted entry_cmp es) sorted in naming_on (place, Plain s small) es parts.0 (naming block es parts.1 h)
naming block ((place, Mark s) ∷ es) sorted h = let parts = head_of (below_all entry_cmp place es) (is_sorted entry_cmp es) sorted in naming_on (place, Mark s) es parts.0 (naming block es parts.1 h)
naming block ((place, Extent s b) ∷ es) sorted h =
    let parts = head_of (below_all entry_cmp place es) (is_sorted entry_cmp es) sorted in
    elim (one_or (nat_eq block b) (list_any (nat_eq block) (blocks_of es)) h) [
      | inl same ↦ let is : b ≡ block = grind (arith, nat_tests) in subst (λ x. Naming x ((place, Extent s b) ∷ es)) is (naming_here place s b es)
      | inr rest ↦ naming_on (place, Extent s b) es parts.0 (naming block es parts.1 rest)
    ]

-- an entry of a table names the data block
pub named_entry : (t : Table) (block : ℕ) → is_named t block ≡ true → (place : ℕ × Key) × (stamp : ℕ) × (column t place.1 place.0 ≡ Some (Extent stamp block))
named_entry t block h =
    let n = naming block (map.entries t.entries) (entries_sorted t.entries) h in
    (n.place, n.stamp, map.get-entries t.entries n.place ∙ n.found)

or_none : (a : Bool) → (a || false) ≡ a
or_none true = refl
or_none false = refl

-- no data block of a sound table stands twice in the list
module _ (t : Table) (sound : IsSound t) where
  twice : (place other : ℕ × Key) (s r block : ℕ) → column t place.1 place.0 ≡ Some (Extent s block) → column t other.1 other.0 ≡ Some (Extent r block) → place ≡ other
  twice place other s r block one two =
      let same = sound.orderly.unshared place.0 other.0 place.1 other.1 (Extent s block) (Extent r block) block one two refl refl in
      λ i. (same.0 i, same.1 i)

  -- what is found in these entries stands in the table
  abbrev Stand : List ((ℕ × Key) × Held) → Type 0
  Stand es = (place : ℕ × Key) (h : Held) → map.find entry_cmp place es ≡ Some h → column t place.1 place.0 ≡ Some h

  none_again : (place : ℕ × Key) (s b : ℕ) (es : List ((ℕ × Key) × Held)) → Stand ((place, Extent s b) ∷ es) → T (below_all entry_cmp place es) → T (is_sorted entry_cmp es) → (any : Bool) → list_any (nat_eq b) (blocks_of es) ≡ any → any ≡ false
  none_again place s b es stand below sorted true h =
      let n = naming b es sorted h in
      let here = stand place (Extent s b) (found_here place (Extent s b) es) in
      let there = stand n.place (Extent n.stamp b) (found_on (place, Extent s b) es n.place (Extent n.stamp b) below n.found) in
      let same = twice place n.place s n.stamp b here there in
      absurd (false≢true (ap is_some (sym (not_below entry_cmp_total entry_cmp_exact place es below) ∙ ap (λ p. map.find entry_cmp p es) same ∙ n.found)))
  none_again place s b es stand below sorted false h = refl

  distinct : (es : List ((ℕ × Key) × Held)) → T (is_sorted entry_cmp es) → Stand es → AreDistinct (blocks_of es)
  distinct [] sorted stand = tt
  distinct ((place, Absent) ∷ es) sorted stand = let parts = head_of (below_all entry_cmp place es) (is_sorted entry_cmp es) sorted in distinct es parts.1 (λ p h found. stand p h (found_on (place, Absent) es p h parts.0 found))
  distinct ((place, Plain s small) ∷ es) sorted stand = let parts = head_of (below_all entry_cmp place es) (is_sorted entry_cmp es) sorted in distinct es parts.1 (λ p h found. stand p h (found_on (place, Plain s small) es p h parts.0 found))
  distinct ((place, Mark s) ∷ es) sorted stand = let parts = head_of (below_all entry_cmp place es) (is_sorted entry_cmp es) sorted in distinct es parts.1 (λ p h found. stand p h (found_on (place, Mark s) es p h parts.0 found))
  distinct ((place, Extent s b) ∷ es) sorted stand =
      let parts = head_of (below_all entry_cmp place es) (is_sorted entry_cmp es) sorted in (
        none_again place s b es stand parts.0 parts.1 (list_any (nat_eq b) (blocks_of es)) refl,
        distinct es parts.1 (λ p h found. stand p h (found_on (place, Extent s b) es p h parts.0 found)),
      )

  pub extents_distinct : AreDistinct (extents_of t)
  extents_distinct = distinct (map.entries t.entries) (entries_sorted t.entries) (λ place h found. map.get-entries t.entries place ∙ found)

  -- the blocks in use are as many as are named
  pub used_count : (blocks : Allocation) → IsAllocated t blocks → set.len blocks.used ≡ extent_count t
  used_count blocks allocated =
      ap set.len (set.same_set nat_cmp_total nat_cmp-IsAntisymmetric blocks.used (set.from_list (extents_of t)) (λ b. allocated.used b ∙ or_none (is_named t b) ∙ sym (contains-listed b (extents_of t))))
      ∙ distinct_count (extents_of t) extents_distinct
