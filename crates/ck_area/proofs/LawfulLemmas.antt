-- The entries and filesets of a sound table, in their order, break no rule of the slots.
use Rattle.std.proofs.Common.{◌≡◌, ◌≢◌, ℕ, ◌+◌, ◌<◌, ◌≤◌, Bool, true, false, cond, T, ◌&&◌, ◌||◌, not, nat_lt, nat_le, nat_eq, List, [], ◌∷◌, ◌++◌, map as list_map, filter, length, length-append, Option, Some, None, IsSome, IfSome, IsSomeAnd, is_some, refl, sym, ap, subst, ◌∙◌, ◌⊎◌, inl, inr, arith}
use Rattle.std.specs.Ordering.{nat_cmp, eq_by_cmp, is_eq}
use Rattle.std.specs.Cmp.Lexicographic.{pointwise, same_text}
use Rattle.std.specs.Option.{option_map_or}
use Rattle.std.specs.FinMap.{nat_cmp-IsAntisymmetric, is_sorted, entries_sorted}
use Rattle.std.specs.FinMap as map
use Rattle.std.proofs.lemmas.Bool.Decides.{nat_tests}
use Rattle.std.proofs.lemmas.Cmp.{nat_cmp_total, tied_itself}
use Rattle.std.proofs.lemmas.List.Elements.{filter-append}
use mathlib.Core.Bool.{false≢true}
use Rattle.ck_model.specs.declared.key.Key.{Key}
use Rattle.ck_model.specs.declared.key.Key.TheVariants.{Name, Node, Block}
use Rattle.ck_model.specs.declared.held.Held.{Held}
use Rattle.ck_model.specs.declared.held.Held.TheVariants.{Absent, Plain, Extent, Mark}
use Rattle.ck_model.specs.declared.held.Small.TheVariants.{To, File, Dir}
use Rattle.ck_model.specs.declared.checkpoint.Fileset.{Fileset}
use Rattle.ck_model.specs.Key.{key_cmp, entry_cmp, entry_cmp_total, entry_cmp_exact}
use Rattle.ck_model.specs.Table.{Table, IsTable, column, newer}
use Rattle.ck_model.specs.World.{keeps_files}
use Rattle.ck_model.specs.Chain.{is_live, is_gone, is_live_data, live_ids, keeps_data}
use Rattle.ck_model.specs.Rules.{IsSound, IsOwn, KeyBelow, HeldBelow, first_holder, stamp_in, block_in}
use Rattle.ck_model.proofs.CellLaws.{tied-is}
use Rattle.ck_area.specs.Damage.{is_alike, has_place, has_version, has_block, has_fileset, live_count, is_id_past, is_number_past, number_in, node_in, data_upto, is_absent, is_needed_by, is_misplaced, breaks_lower, breaks_whole}
use Rattle.ck_area.proofs.Fronts.{Each, Among, none_of, passes_none, none_passes, each_where, among_left, among_right, among_map, among_filter, sorted_found, sorted_apart}
use Rattle.ck_area.proofs.SlotsLemmas.{EntryFine, FilesetFine}
use Rattle.ck_area.proofs.UndamagedLemmas.{filter_same, filter_keys}

-- ---- tests and what makes them false

from_key_below : (limit : ℕ) (key : Key) → KeyBelow limit key → nat_le limit (number_in key) ≡ false
from_key_below limit (Name directory name) h = grind (arith, nat_tests)
from_key_below limit (Node number) h = grind (arith, nat_tests)
from_key_below limit (Block number index) h = grind (arith, nat_tests)

from_held_below : (limit : ℕ) (held : Held) → HeldBelow limit held → option_map_or (λ node. nat_le limit node) (node_in held) false ≡ false
from_held_below limit Absent h = refl
from_held_below limit (Plain stamp (To node)) h = grind (arith, nat_tests)
from_held_below limit (Plain stamp (File size)) h = refl
from_held_below limit (Plain stamp Dir) h = refl
from_held_below limit (Extent stamp block) h = refl
from_held_below limit (Mark stamp) h = refl

from_within : (limit : ℕ) (o : Option ℕ) → IfSome o (λ n. n < limit) → option_map_or (λ n. nat_le limit n) o false ≡ false
from_within limit None h = refl
from_within limit (Some n) h = grind (arith, nat_tests)

not_alike : (o p : Option ℕ) → ((n : ℕ) → o ≡ Some n → p ≡ Some n → ⊥) → is_alike o p ≡ false
not_alike None None h = refl
not_alike None (Some y) h = refl
not_alike (Some x) None h = refl
not_alike (Some x) (Some y) h =
    elim (nat_eq x y) as (λ b. nat_eq x y ≡ b → b ≡ false) [
      | true ↦ λ is. let same : x ≡ y = grind (arith, nat_tests) in absurd (h x refl (ap Some (sym same)))
      | false ↦ λ _. refl
    ] refl

other_number : (n m : ℕ) → eq_by_cmp nat_cmp n m ≡ false → nat_eq n m ≡ false
other_number n m h = grind (arith, nat_tests)

at_home : (fs : ℕ) (o : Option Fileset) → (fs ≡ 0) ⊎ IsSome o → (not (nat_eq fs 0) && not (is_some o)) ≡ false
at_home fs o (inl zero) = ap (λ n. not (nat_eq n 0) && not (is_some o)) zero
at_home fs o (inr some) = ap (λ b. not (nat_eq fs 0) && not b) some ∙ never (not (nat_eq fs 0))
  where
    never : (b : Bool) → (b && false) ≡ false
    never true = refl
    never false = refl

present_is : (held : Held) → held ≢ Absent → not (is_absent held) ≡ true
present_is Absent h = absurd (h refl)
present_is (Plain stamp small) h = refl
present_is (Extent stamp block) h = refl
present_is (Mark stamp) h = refl

or_true : (a b : Bool) → b ≡ true → (a || b) ≡ true
or_true true b h = refl
or_true false b h = h

from_needed : (t : Table) (o : Option (ℕ × Held)) → IsSomeAnd o (λ holder. (is_gone t holder.0 ≡ true) ⊎ (holder.1 ≢ Absent)) → is_needed_by t o ≡ true
from_needed t None h = absurd h
from_needed t (Some holder) h =
    elim h [
      | inl gone ↦ ap (λ b. b || not (is_absent holder.1)) gone
      | inr other ↦ or_true (is_gone t holder.0) (not (is_absent holder.1)) (present_is holder.1 other)
    ]

not_both : (a b : Bool) → (a ≡ true → b ≡ true → ⊥) → (a && b) ≡ false
not_both true true h = absurd (h refl refl)
not_both true false h = refl
not_both false b h = refl

both_true : (a b : Bool) → (a && b) ≡ true → (a ≡ true) × (b ≡ true)
both_true true b h = (refl, h)
both_true false b h = absurd (false≢true h)

is_not : (b : Bool) → not b ≡ true → b ≡ false
is_not true h = absurd (false≢true h)
is_not false h = refl

filter_all : {X : Type 0} (p : X → Bool) (xs : List X) → ((x : X) → Among x xs → p x ≡ true) → filter p xs ≡ xs
filter_all p [] all = refl
filter_all p (x ∷ xs) all = (λ i. cond (all x (inl refl) i) (x ∷ filter p xs) (filter p xs)) ∙ ap (λ l. x ∷ l) (filter_all p xs (λ y h. all y (inr h)))

-- ---- what stands in a table's lists

pub entry_there : (t : Table) (e : (ℕ × Key) × Held) → Among e (map.entries t.entries) → column t e.0.1 e.0.0 ≡ Some e.1
entry_there t e h = map.get-entries t.entries e.0 ∙ sorted_found entry_cmp_total entry_cmp_exact e (map.entries t.entries) (entries_sorted t.entries) h

fileset_there : (t : Table) (e : ℕ × Fileset) → Among e (map.entries t.filesets) → map.get t.filesets e.0 ≡ Some e.1
fileset_there t e h = map.get-entries t.filesets e.0 ∙ sorted_found nat_cmp_total nat_cmp-IsAntisymmetric e (map.entries t.filesets) (entries_sorted t.filesets) h

-- ---- a sound table

module _ (t : Table) (lawful : IsTable t) (sound : IsSound t) where
  abbrev es : List ((ℕ × Key) × Held)
  es = map.entries t.entries

  abbrev fsx : List (ℕ × Fileset)
  fsx = map.entries t.filesets

  -- ---- filesets

  module _ (before : List (ℕ × Fileset)) (x : ℕ × Fileset) (behind : List (ℕ × Fileset)) (parted : before ++ x ∷ behind ≡ fsx) where
    this_fileset : map.get t.filesets x.0 ≡ Some x.1
    this_fileset = fileset_there t x (subst (Among x) parted (among_right x before (x ∷ behind) (inl refl)))

    lower_fileset : (y : ℕ × Fileset) → Among y before → map.get t.filesets y.0 ≡ Some y.1
    lower_fileset y h = fileset_there t y (subst (Among y) parted (among_left y before (x ∷ behind) h))

    other_id : (y : ℕ × Fileset) → Among y before → nat_eq x.0 y.0 ≡ false
    other_id y h = other_number x.0 y.0 (sorted_apart nat_cmp_total nat_cmp-IsAntisymmetric y x before behind (subst (λ l. T (is_sorted nat_cmp l)) (sym parted) (entries_sorted t.filesets)) h)

    other_name : (y : ℕ × Fileset) → Among y before → (not x.1.gone && not y.1.gone && pointwise nat_eq x.1.name y.1.name) ≡ false
    other_name y h = not_both (not x.1.gone && not y.1.gone) (pointwise nat_eq x.1.name y.1.name) (λ stand alike.
        let live = both_true (not x.1.gone) (not y.1.gone) stand in
        let same : x.0 ≡ y.0 = sound.orderly.names x.0 y.0 x.1 y.1 this_fileset (lower_fileset y h) (is_not x.1.gone live.0) (is_not y.1.gone live.1) (same_text x.1.name y.1.name (sym alike)) in
        let apart = other_id y h in
        absurd (false≢true (sym apart ∙ ap (λ n. nat_eq n y.0) same ∙ itself y.0)))
      where
        itself : (n : ℕ) → nat_eq n n ≡ true
        itself n = grind (arith, nat_tests)

    new_fileset : has_fileset before x.0 x.1 ≡ false
    new_fileset = none_passes (λ e. nat_eq x.0 e.0 || (not x.1.gone && not e.1.gone && pointwise nat_eq x.1.name e.1.name)) before (λ y h. none_of _ _ (other_id y h) (other_name y h))

    id_below : is_id_past (Some t.counters) x.0 ≡ false
    id_below = let below : x.0 < t.counters.id = sound.orderly.ids x.0 (ap is_some this_fileset) in grind (arith, nat_tests)

  live_alike : (e : ℕ × Fileset) → Among e fsx → is_live t e.0 ≡ not e.1.gone
  live_alike e h = ap (λ o. option_map_or (λ (fileset : Fileset). not fileset.gone) o false) (fileset_there t e h)

  some_id : (e : ℕ × Fileset) → Among e fsx → nat_lt 0 e.0 ≡ true
  some_id e h = let some : 1 ≤ e.0 = (lawful.filesets e.0 e.1 (fileset_there t e h)).some in grind (arith, nat_tests)

  key_of : (id : ℕ) (l : List (ℕ × Fileset)) → ((e : ℕ × Fileset) → Among e l → nat_lt 0 e.0 ≡ true) → Among id (list_map (λ e. e.0) l) → nat_lt 0 id ≡ true
  key_of id [] each h = absurd h
  key_of id (e ∷ l) each h = elim h [ inl same ↦ ap (λ n. nat_lt 0 n) same ∙ each e (inl refl) | inr rest ↦ key_of id l (λ x g. each x (inr g)) rest ]

  all_newer : newer t 0 ≡ map.keys t.filesets
  all_newer = filter_all (λ id. nat_lt 0 id) (map.keys t.filesets) (λ id h. key_of id fsx some_id h)

  -- those that aren't gone, counted in order
  count_live : live_count fsx ≡ length (live_ids t)
  count_live = sym (ap (λ (l : List ℕ). length (filter (is_live t) l)) all_newer ∙ filter_keys (is_live t) fsx ∙ ap length (filter_same (λ e. is_live t e.0) (λ e. not e.1.gone) fsx live_alike))

  few_lower : (before : List (ℕ × Fileset)) (x : ℕ × Fileset) (behind : List (ℕ × Fileset)) → before ++ x ∷ behind ≡ fsx → (not x.1.gone && nat_le 64 (live_count before)) ≡ false
  few_lower before x behind parted =
      let p = λ (e : ℕ × Fileset). not e.1.gone in
      let joined : live_count (before ++ x ∷ behind) ≡ live_count before + live_count (x ∷ behind) = ap length (filter-append p before (x ∷ behind)) ∙ length-append (filter p before) (filter p (x ∷ behind)) in
      let all : live_count (before ++ x ∷ behind) ≤ 64 = let few = sound.orderly.live in omega (arith, ap live_count parted, count_live, few) in
      elim x.1.gone as (λ b. live_count (before ++ x ∷ behind) ≡ live_count before + length (cond (not b) (x ∷ filter p behind) (filter p behind)) → (not b && nat_le 64 (live_count before)) ≡ false) [
        | true ↦ λ _. refl
        | false ↦ λ joined. let less : live_count before < 64 = omega (arith, joined, all) in grind (arith, nat_tests)
      ] joined

  pub filesets_lawful : Each (FilesetFine (Some t.counters)) [] fsx
  filesets_lawful = each_where (FilesetFine (Some t.counters)) [] fsx (λ before x behind parted.
      none_of _ _ (none_of _ _ (new_fileset before x behind parted) (id_below before x behind parted)) (few_lower before x behind parted))

  -- ---- entries

  -- at or below this id no checkpoint keeps data
  from_no_data : (fs : ℕ) → keeps_data t fs ≡ false → data_upto fsx fs ≡ false
  from_no_data fs none = none_passes (λ e. nat_le e.0 fs && (not e.1.gone && keeps_files e.1.kind)) fsx (λ e h.
      let keeping : is_live_data t e.0 ≡ (not e.1.gone && keeps_files e.1.kind) = ap (λ o. option_map_or (λ (fileset : Fileset). not fileset.gone && keeps_files fileset.kind) o false) (fileset_there t e h) in
      let there : Among e.0 (newer t 0) = among_filter (λ id. nat_lt 0 id) e.0 (map.keys t.filesets) (among_map (λ x. x.0) e fsx h) (some_id e h) in
      ap (λ b. nat_le e.0 fs && b) (sym keeping) ∙ passes_none (λ id. nat_le id fs && is_live_data t id) e.0 (newer t 0) none there)

  not_primary : (fs : ℕ) (key : Key) (held : Held) → column t key fs ≡ Some held → (IsOwn held → ⊥) → nat_eq fs 0 ≡ false
  not_primary fs key held is other =
      elim (nat_eq fs 0) as (λ b. nat_eq fs 0 ≡ b → b ≡ false) [
        | true ↦ λ same. let zero : fs ≡ 0 = grind (arith, nat_tests) in absurd (other (sound.orderly.primary key held (ap (column t key) (sym zero) ∙ is)))
        | false ↦ λ _. refl
      ] refl

  well_placed : (fs : ℕ) (key : Key) (held : Held) → column t key fs ≡ Some held → is_misplaced t fsx fs key held ≡ false
  well_placed fs key Absent is = none_of _ _ (not_primary fs key Absent is (λ own. own))
      (not_both (is_live t fs) (not (is_needed_by t (first_holder (column t key) (newer t fs)))) (λ live needless.
      false≢true (sym (is_not (is_needed_by t (first_holder (column t key) (newer t fs))) needless) ∙ from_needed t (first_holder (column t key) (newer t fs)) (sound.absents fs key live is))))
  well_placed fs key (Plain stamp small) is = refl
  well_placed fs key (Extent stamp block) is = refl
  well_placed fs key (Mark stamp) is = none_of _ _ (not_primary fs key (Mark stamp) is (λ own. own)) (from_no_data fs (sound.orderly.marks fs key stamp is))

  whole_fine : (fs : ℕ) (key : Key) (held : Held) → column t key fs ≡ Some held → breaks_whole t fsx fs key held ≡ false
  whole_fine fs key held is = none_of _ _ (at_home fs (map.get t.filesets fs) (sound.orderly.homes fs key (ap is_some is))) (well_placed fs key held is)

  module _ (before : List ((ℕ × Key) × Held)) (x : (ℕ × Key) × Held) (behind : List ((ℕ × Key) × Held)) (parted : before ++ x ∷ behind ≡ es) where
    this : column t x.0.1 x.0.0 ≡ Some x.1
    this = entry_there t x (subst (Among x) parted (among_right x before (x ∷ behind) (inl refl)))

    lower : (y : (ℕ × Key) × Held) → Among y before → column t y.0.1 y.0.0 ≡ Some y.1
    lower y h = entry_there t y (subst (Among y) parted (among_left y before (x ∷ behind) h))

    other_place : (y : (ℕ × Key) × Held) → Among y before → eq_by_cmp entry_cmp x.0 y.0 ≡ false
    other_place y h = sorted_apart entry_cmp_total entry_cmp_exact y x before behind (subst (λ l. T (is_sorted entry_cmp l)) (sym parted) (entries_sorted t.entries)) h

    -- a fileset and a key are one place
    clash : (y : (ℕ × Key) × Held) → Among y before → x.0.0 ≡ y.0.0 → x.0.1 ≡ y.0.1 → ⊥
    clash y h fileset key =
        let same : x.0 ≡ y.0 = λ i. (fileset i, key i) in
        false≢true (sym (other_place y h) ∙ ap (λ p. eq_by_cmp entry_cmp p y.0) same ∙ ap is_eq (tied_itself entry_cmp_total y.0))

    new_place : has_place before x.0.0 x.0.1 ≡ false
    new_place = none_passes (λ e. eq_by_cmp entry_cmp (x.0.0, x.0.1) e.0) before (λ y h. other_place y h)

    new_block : has_block before (block_in x.1) ≡ false
    new_block = none_passes (λ e. is_alike (block_in x.1) (block_in e.1)) before (λ y h. not_alike (block_in x.1) (block_in y.1) (λ block has also.
        let same = sound.orderly.unshared x.0.0 y.0.0 x.0.1 y.0.1 x.1 y.1 block this (lower y h) has also in
        clash y h same.0 same.1))

    other_version : (y : (ℕ × Key) × Held) → Among y before → (eq_by_cmp key_cmp x.0.1 y.0.1 && is_alike (stamp_in x.1) (stamp_in y.1)) ≡ false
    other_version y h =
        elim (eq_by_cmp key_cmp x.0.1 y.0.1) as (λ b. eq_by_cmp key_cmp x.0.1 y.0.1 ≡ b → (b && is_alike (stamp_in x.1) (stamp_in y.1)) ≡ false) [
          | true ↦ λ tied. let key : x.0.1 ≡ y.0.1 = tied-is x.0.1 y.0.1 tied in
              not_alike (stamp_in x.1) (stamp_in y.1) (λ stamp has also.
              clash y h (sound.orderly.versions x.0.0 y.0.0 x.0.1 x.1 y.1 stamp this (ap (λ k. column t k y.0.0) key ∙ lower y h) has also) key)
          | false ↦ λ _. refl
        ] refl

    new_version : has_version before x.0.1 (stamp_in x.1) ≡ false
    new_version = none_passes (λ e. eq_by_cmp key_cmp x.0.1 e.0.1 && is_alike (stamp_in x.1) (stamp_in e.1)) before other_version

    number_below : is_number_past (Some t.counters) x.0.1 x.1 ≡ false
    number_below = let below = sound.orderly.numbers x.0.0 x.0.1 x.1 this in none_of _ _ (from_key_below t.counters.number x.0.1 below.0) (from_held_below t.counters.number x.1 below.1)

    lower_fine : breaks_lower (Some t.counters) t.blocks before x.0.0 x.0.1 x.1 ≡ false
    lower_fine =
        none_of _ _ (none_of _ _ (none_of _ _ (none_of _ _ (none_of _ _
        new_place
        (from_within t.counters.stamp (stamp_in x.1) (sound.orderly.stamps x.0.0 x.0.1 x.1 this)))
        number_below)
        (from_within t.blocks (block_in x.1) (sound.orderly.blocks x.0.0 x.0.1 x.1 this)))
        new_block)
        new_version

  pub entries_lawful : Each (EntryFine (Some t.counters) t.blocks t fsx) [] es
  entries_lawful = each_where (EntryFine (Some t.counters) t.blocks t fsx) [] es (λ before x behind parted.
      (lower_fine before x behind parted, whole_fine x.0.0 x.0.1 x.1 (this before x behind parted)))
