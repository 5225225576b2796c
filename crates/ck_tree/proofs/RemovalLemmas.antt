-- The deletions of a file's blocks, one after the other.
use Rattle.std.proofs.Common.{◌≡◌, ℕ, Bool, true, false, cond, ◌&&◌, Option, Some, None, is_some, List, [], ◌∷◌, ◌++◌, append_assoc, append-nil, filter, map as list_map, if◌then◌else◌, refl, sym, ap, ◌∙◌, arith}
use Rattle.std.specs.declared.cmp.Ordering.TheVariants.{Equal}
use Rattle.std.specs.Ordering.{nat_cmp, is_lt, ordering_then}
use Rattle.std.specs.List.{filter_map, cons_option, AllByRecursion}
use Rattle.std.specs.Option.{option_and_then, option_to_list}
use Rattle.std.specs.FinMap.{find}
use Rattle.std.specs.FinMap as map
use Rattle.std.proofs.lemmas.Bool.Decides.{nat_tests}
use mathlib.Core.Bool.{false≢true}
use Rattle.ck_model.specs.declared.key.Key.{Key}
use Rattle.ck_model.specs.declared.key.Key.TheVariants.{Name, Node, Block}
use Rattle.ck_model.specs.declared.held.Held.{Held}
use Rattle.ck_model.specs.declared.change.Change.{Change}
use Rattle.ck_model.specs.declared.change.Change.TheVariants.{Del}
use Rattle.ck_model.specs.Key.{key_cmp, key_cmp_total, key_cmp_exact}
use Rattle.ck_model.specs.Table.{Table, column}
use Rattle.ck_model.specs.Rows.{row_of}
use Rattle.ck_model.proofs.FilesetLaws.{all_found}
use Rattle.ck_model.proofs.RowLaws.{find-row_of, is_sorted-row_of}
use Rattle.ck_model.proofs.CaseLaws.{true_or_false}
use Rattle.ck_chain.specs.Order.{IsNext, is_behind}
use Rattle.ck_chain.proofs.OrderLaws.{keys-row}
use Rattle.ck_tree.specs.Deletions.{is_block_from, blocks_from, deletions, deletion_at}
use Rattle.ck_tree.proofs.DirectoryLemmas.{left, left_next, none_before, none_left, Skips}

-- the deletion of an entry, where it is of such a block
abbrev pub block_deletion : ℕ → ℕ → Key × Held → Option Change
block_deletion node first e = if is_block_from node first e.0 then Some (Del e.0) else None

-- what is to be deleted from a key on
abbrev pub left_to_delete : Table → ℕ → ℕ → Option Key → List Change
left_to_delete t node first here = filter_map (left (block_deletion node first) here) (row_of t 0)

deletions-row : (node first : ℕ) (es : List (Key × Held)) → deletions (filter (is_block_from node first) (list_map (λ x. x.0) es)) ≡ filter_map (block_deletion node first) es
deletions-row node first [] = refl
deletions-row node first (e ∷ es) =
    elim (is_block_from node first e.0) as (λ b. deletions (cond b (e.0 ∷ filter (is_block_from node first) (list_map (λ x. x.0) es)) (filter (is_block_from node first) (list_map (λ x. x.0) es)))
    ≡ cons_option (if b then Some (Del e.0) else None) (filter_map (block_deletion node first) es)) [
      | true ↦ ap (λ cs. Del e.0 ∷ cs) (deletions-row node first es)
      | false ↦ deletions-row node first es
    ]

-- such a block isn't before the first
not_before_first : (node first : ℕ) (key : Key) → is_block_from node first key ≡ true → is_behind key (Block node first) ≡ false
not_before_first node first (Name directory name) clash = cc
not_before_first node first (Node number) clash = cc
not_before_first node first (Block number index) is =
    let level : nat_cmp number node ≡ Equal = grind (arith, nat_tests) in
    let behind : is_lt (ordering_then (nat_cmp index first) Equal) ≡ false = grind (arith, nat_tests) in
    ap (λ o. is_lt (ordering_then o (ordering_then (nat_cmp index first) Equal))) level ∙ behind

module _ (t : Table) (node first : ℕ) where
  abbrev passes : Key → Bool
  passes q = is_block_from node first q && is_some (column t q 0)

  skips : AllByRecursion (Skips (block_deletion node first) passes) (row_of t 0)
  skips = all_found key_cmp_total key_cmp_exact (Skips (block_deletion node first) passes) (row_of t 0) (is_sorted-row_of t 0) (λ key held found none.
      ap (λ b. if b then Some (Del key) else None) (first_false (is_block_from node first key) (is_some (column t key 0)) (ap is_some (sym (find-row_of t 0 key) ∙ found)) none))
    where
      first_false : (a b : Bool) → b ≡ true → (a && b) ≡ false → a ≡ false
      first_false true b h g = cc
      first_false false b h g = refl

  -- all is left at the first block
  pub deletions_first_left : left_to_delete t node first (Some (Block node first)) ≡ deletions (blocks_from t node first)
  deletions_first_left =
      none_before (block_deletion node first) (Block node first) (row_of t 0)
      (all_found key_cmp_total key_cmp_exact (λ e. is_behind e.0 (Block node first) ≡ true → block_deletion node first e ≡ None) (row_of t 0) (is_sorted-row_of t 0) (λ key held found low.
      ap (λ b. if b then Some (Del key) else None) (true_or_false (is_block_from node first key) (λ is. false≢true (sym (not_before_first node first key is) ∙ low)))))
      ∙ sym (deletions-row node first (row_of t 0))
      ∙ sym (ap (λ ks. deletions (filter (is_block_from node first) ks)) (keys-row 0 (map.entries t.entries)))

  here_is : (key : Key) → is_block_from node first key ≡ true → (o : Option Held) → option_to_list (option_and_then (λ held. block_deletion node first (key, held)) o) ≡ (if is_some o then Del key ∷ [] else [])
  here_is key is None = refl
  here_is key is (Some held) = ap (λ b. option_to_list (if b then Some (Del key) else None)) is

  -- a block's deletion, and what is left at the next, are what was left
  pub deletions_next : (key : Key) (next : Option Key) → is_block_from node first key ≡ true → IsNext t passes (Some key) next → (old changes : List Change)
      → changes ++ left_to_delete t node first (Some key) ≡ old ++ deletions (blocks_from t node first)
      → (changes ++ deletion_at t key) ++ left_to_delete t node first next ≡ old ++ deletions (blocks_from t node first)
  deletions_next key next is next_is old changes so_far =
      append_assoc changes (deletion_at t key) (left_to_delete t node first next)
      ∙ sym (ap (λ xs. changes ++ xs) (left_next (block_deletion node first) passes t key next next_is (row_of t 0) (is_sorted-row_of t 0) skips
      ∙ ap (λ xs. xs ++ left_to_delete t node first next) (here_is key is (find key_cmp key (row_of t 0)) ∙ ap (λ o. if is_some o then Del key ∷ [] else []) (find-row_of t 0 key))))
      ∙ so_far

  pub deletions_last : (old changes : List Change) → changes ++ left_to_delete t node first None ≡ old ++ deletions (blocks_from t node first) → changes ≡ old ++ deletions (blocks_from t node first)
  deletions_last old changes so_far = sym (append-nil changes) ∙ ap (λ xs. changes ++ xs) (sym (none_left (block_deletion node first) (row_of t 0))) ∙ so_far
