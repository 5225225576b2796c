-- The changes of a file that bytes are written to.
use Rattle.std.proofs.Common.{◌≡◌, ◌≢◌, ℕ, zero, suc, ◌+◌, ◌-◌, ◌<◌, ◌≤◌, true, false, not, cond, ◌&&◌, ◌||◌, Some, List, [], ◌∷◌, ◌++◌, All, length, append_assoc, map as list_map, if◌then◌else◌, nat_lt, refl, sym, ap, subst, ◌∙◌, arith}
use Rattle.std.specs.Ordering.{eq_by_cmp}
use Rattle.std.specs.List.{list_any, range_with_len}
use Rattle.std.specs.Option.{option_or}
use Rattle.std.specs.FinMap.{find}
use Rattle.std.specs.FinMap as map
use Rattle.std.proofs.lemmas.List.{length-map}
use Rattle.std.proofs.lemmas.List.FromFn.{length-range_with_len, get_or-range_with_len, map-range_with_len_more}
use Rattle.std.proofs.lemmas.List.Elements.{All-map, All-from_get_or}
use Rattle.ck_model.specs.declared.key.Key.{Key}
use Rattle.ck_model.specs.declared.key.Key.TheVariants.{Node, Block}
use Rattle.ck_model.specs.declared.cell.Cell.{Cell}
use Rattle.ck_model.specs.declared.cell.Payload.TheVariants as payload
use Rattle.ck_model.specs.declared.change.Change.{Change}
use Rattle.ck_model.specs.declared.change.Change.TheVariants.{Put, Write}
use Rattle.ck_model.specs.declared.held.Small.TheVariants.{File}
use Rattle.ck_model.specs.Key.{key_cmp, key_cmp_total, key_cmp_exact}
use Rattle.ck_model.specs.Cells.{Cells, size_at, with_cells}
use Rattle.ck_model.specs.Changes.{cell_of, touched, grown_to, block_after, written}
use Rattle.ck_model.proofs.CellLaws.{tied-is, get-with_cells}
use Rattle.ck_chain.specs.Changes.{deletions_first, is_deletion, key_of}
use Rattle.ck_tree.specs.Plan.{with_changes, Differ}
use Rattle.ck_tree.specs.Writes.{grown_put, block_writes}
use Rattle.ck_tree.proofs.ResizeLemmas.{with_changes-append}

-- one block more
pub writes_more : (node first index : ℕ) → first ≤ index → (old : List Change) → (old ++ block_writes node (range_with_len first (index - first))) ++ Write node index 0 ∷ [] ≡ old ++ block_writes node (range_with_len first (index + 1 - first))
writes_more node first index le old =
    let next : index + 1 - first ≡ index - first + 1 = omega (arith, le) in
    append_assoc old (block_writes node (range_with_len first (index - first))) (Write node index 0 ∷ [])
    ∙ ap (λ xs. old ++ xs) (sym (map-range_with_len_more (λ i. Write node i 0) first (index - first) index (omega (arith, le))))
    ∙ ap (λ n. old ++ block_writes node (range_with_len first n)) (sym next)

-- ---- the map

module _ (bytes : ℕ → ℕ → List ℕ) (stamp node : ℕ) where
  abbrev block_cell : ℕ → Cell
  block_cell index = cell_of stamp (payload.Bytes (bytes node index))

  abbrev block_cells : List ℕ → List (Key × Cell)
  block_cells indexes = list_map (λ index. (Block node index, block_cell index)) indexes

  -- each has the cell of its index, however often it is written
  found_or : (q : Key) (i : ℕ) → q ≡ Block node i → (indexes : List ℕ) → option_or (find key_cmp q (block_cells indexes)) (Some (block_cell i)) ≡ Some (block_cell i)
  found_or q i is [] = refl
  found_or q i is (j ∷ indexes) =
      elim (eq_by_cmp key_cmp q (Block node j)) as (λ b. eq_by_cmp key_cmp q (Block node j) ≡ b → option_or (cond b (Some (block_cell j)) (find key_cmp q (block_cells indexes))) (Some (block_cell i)) ≡ Some (block_cell i)) [
        | true ↦ λ tied.
            let same : Block node i ≡ Block node j = sym is ∙ tied-is q (Block node j) tied in
            let index : j ≡ i = cc in
            ap (λ n. Some (block_cell n)) index
        | false ↦ λ _. found_or q i is indexes
      ] refl

  get-writes : (indexes : List ℕ) (base : Cells) (q : Key) → map.get (with_changes bytes stamp base (block_writes node indexes)) q ≡ option_or (find key_cmp q (block_cells indexes)) (map.get base q)
  get-writes [] base q = refl
  get-writes (i ∷ indexes) base q =
      get-writes indexes (map.insert base (Block node i) (block_cell i)) q
      ∙ ap (option_or (find key_cmp q (block_cells indexes))) (map.get-insert key_cmp_total base (Block node i) (block_cell i) q)
      ∙ elim (eq_by_cmp key_cmp q (Block node i)) as (λ b. eq_by_cmp key_cmp q (Block node i) ≡ b
      → option_or (find key_cmp q (block_cells indexes)) (cond b (Some (block_cell i)) (map.get base q)) ≡ option_or (cond b (Some (block_cell i)) (find key_cmp q (block_cells indexes))) (map.get base q)) [
        | true ↦ λ tied. found_or q i (tied-is q (Block node i) tied) indexes
        | false ↦ λ _. refl
      ] refl

  writes_are : (indexes : List ℕ) (base : Cells) → with_changes bytes stamp base (block_writes node indexes) ≡ with_cells base (block_cells indexes)
  writes_are indexes base = map.same_map key_cmp_total key_cmp_exact _ _ (λ q. get-writes indexes base q ∙ sym (get-with_cells base (block_cells indexes) q))

  grown_is : (cells : Cells) (old end : ℕ) → old ≡ size_at cells node → with_changes bytes stamp cells (grown_put node old end) ≡ with_cells cells (grown_to cells stamp node end)
  grown_is cells old end is =
      elim (nat_lt old end) as (λ b. with_changes bytes stamp cells (if b then Put (Node node) (File end) ∷ [] else []) ≡ with_cells cells (if b then (Node node, cell_of stamp (payload.File end)) ∷ [] else [])) [
        | true ↦ refl
        | false ↦ refl
      ]
      ∙ ap (λ n. with_cells cells (if nat_lt n end then (Node node, cell_of stamp (payload.File end)) ∷ [] else [])) is

-- some bytes at a place
pub written_is : (stamp node at : ℕ) (cells : Cells) (byte : ℕ) (bytes : List ℕ) (old : ℕ) → old ≡ size_at cells node
    → with_changes (λ n index. block_after cells n at (byte ∷ bytes) index) stamp cells (grown_put node old (at + length (byte ∷ bytes)) ++ block_writes node (touched at (length (byte ∷ bytes)))) ≡ written cells stamp node at (byte ∷ bytes)
written_is stamp node at cells byte bytes old is =
    let after = λ (n : ℕ) (index : ℕ). block_after cells n at (byte ∷ bytes) index in
    with_changes-append after stamp cells (grown_put node old (at + length (byte ∷ bytes))) (block_writes node (touched at (length (byte ∷ bytes))))
    ∙ ap (λ base. with_changes after stamp base (block_writes node (touched at (length (byte ∷ bytes))))) (grown_is after stamp node cells old (at + length (byte ∷ bytes)) is)
    ∙ writes_are after stamp node (touched at (length (byte ∷ bytes))) (with_cells cells (grown_to cells stamp node (at + length (byte ∷ bytes))))

-- ---- the list

no_deletions : (node : ℕ) (indexes : List ℕ) → list_any is_deletion (block_writes node indexes) ≡ false
no_deletions node [] = refl
no_deletions node (i ∷ indexes) = no_deletions node indexes

puts_only : (xs : List Change) → list_any is_deletion xs ≡ false → deletions_first xs ≡ true
puts_only [] none = refl
puts_only (x ∷ xs) none =
    elim (is_deletion x) as (λ b. (b || list_any is_deletion xs) ≡ false → ((b || not (list_any is_deletion xs)) && deletions_first xs) ≡ true) [
      | true ↦ λ clash. cc
      | false ↦ λ rest. (λ i. not (rest i) && puts_only xs rest i)
    ] none

pub writes_first : (node old end : ℕ) (indexes : List ℕ) → deletions_first (grown_put node old end ++ block_writes node indexes) ≡ true
writes_first node old end indexes =
    puts_only (grown_put node old end ++ block_writes node indexes)
    (elim (nat_lt old end) as (λ b. list_any is_deletion ((if b then Put (Node node) (File end) ∷ [] else []) ++ block_writes node indexes) ≡ false) [
      | true ↦ no_deletions node indexes
      | false ↦ no_deletions node indexes
    ])

pub in_range : (P : ℕ → Type 0) (from count : ℕ) → ((i : ℕ) → from ≤ i → i < from + count → P i) → All P (range_with_len from count)
in_range P from count each =
    All-from_get_or P (range_with_len from count) 0 (λ i low.
    let within : i < count = omega (arith, low, length-range_with_len from count) in
    subst P (sym (get_or-range_with_len from count i 0 within)) (each (from + i) (omega arith) (omega (arith, within))))

writes_differ : (node from count : ℕ) → Differ (block_writes node (range_with_len from count))
writes_differ node from zero = tt
writes_differ node from (suc count) = (
  All-map (λ (other : Change). key_of other ≢ Block node from) (λ i. Write node i 0) (range_with_len (from + 1) count)
      (in_range (λ i. Block node i ≢ Block node from) (from + 1) count (λ i low high same. let clash : i ≡ from = cc in omega (arith, low, clash))),
  writes_differ node (from + 1) count,
)

pub grown_differ : (node old end from count : ℕ) → Differ (grown_put node old end ++ block_writes node (range_with_len from count))
grown_differ node old end from count =
    elim (nat_lt old end) as (λ b. Differ ((if b then Put (Node node) (File end) ∷ [] else []) ++ block_writes node (range_with_len from count))) [
      | true ↦ (
        All-map (λ (other : Change). key_of other ≢ Node node) (λ i. Write node i 0) (range_with_len from count) (in_range (λ i. Block node i ≢ Node node) from count (λ i low high same. cc)),
        writes_differ node from count,
      )
      | false ↦ writes_differ node from count
    ]

pub grown_few : (node old end from count : ℕ) → length (grown_put node old end ++ block_writes node (range_with_len from count)) ≤ 1 + count
grown_few node old end from count =
    let blocks = length-map (range_with_len from count) (λ i. Write node i 0) in
    let all = length-range_with_len from count in
    elim (nat_lt old end) as (λ b. length ((if b then Put (Node node) (File end) ∷ [] else []) ++ block_writes node (range_with_len from count)) ≤ 1 + count) [
      | true ↦ omega (arith, blocks, all)
      | false ↦ omega (arith, blocks, all)
    ]
