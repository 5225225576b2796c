-- The deletions of a file: what the primary map is without it.
use Rattle.std.proofs.Common.{◌≡◌, ◌≢◌, ℕ, ◌≤◌, Bool, true, false, not, cond, T, ◌&&◌, ◌||◌, IsSome, is_some, Option, Some, None, List, [], ◌∷◌, All, length, filter, map as list_map, if◌then◌else◌, nat_eq, nat_le, refl, sym, ap, subst, ◌∙◌, arith}
use Rattle.std.specs.Ordering.{eq_by_cmp, is_lt}
use Rattle.std.specs.FinMap.{is_sorted}
use Rattle.std.specs.FinMap.Entries.{below_all, where_key, is_sorted-where_key}
use Rattle.std.specs.FinMap as map
use Rattle.std.proofs.lemmas.Bool.Decides.{nat_tests}
use Rattle.std.proofs.lemmas.List.{length-map}
use Rattle.std.proofs.lemmas.List.Sums.{length-filter, count_by-le-length}
use Rattle.std.proofs.lemmas.List.Elements.{All-nil, All-cons, All-map, All-filter, All-same, All-weaker, All-from_recursion, filter_passes}
use mathlib.Core.Bool.{false≢true}
use Rattle.ck_model.specs.declared.key.Key.{Key}
use Rattle.ck_model.specs.declared.key.Key.TheVariants.{Name, Node, Block}
use Rattle.ck_model.specs.declared.held.Held.{Held}
use Rattle.ck_model.specs.declared.change.Change.{Change}
use Rattle.ck_model.specs.declared.change.Change.TheVariants.{Del}
use Rattle.ck_model.specs.Key.{key_cmp, key_cmp_total, key_cmp_exact, is_of}
use Rattle.ck_model.specs.Cells.{Cells}
use Rattle.ck_model.specs.Changes.{without_file}
use Rattle.ck_model.specs.Table.{Table, IsSized, column, keys_in}
use Rattle.ck_model.specs.Chain.{present}
use Rattle.ck_model.specs.TableWorld.{is_among}
use Rattle.ck_model.specs.Rows.{row_of}
use Rattle.ck_model.proofs.CellLaws.{get-retain_keys}
use Rattle.ck_model.proofs.FilesetLaws.{all_found}
use Rattle.ck_model.proofs.RowLaws.{find-row_of, is_sorted-row_of}
use Rattle.ck_model.proofs.CaseLaws.{head_of}
use Rattle.ck_chain.specs.Changes.{deletions_first, key_of}
use Rattle.ck_chain.specs.Order.{is_behind}
use Rattle.ck_chain.proofs.KeyOrderLaws.{behind-itself}
use Rattle.ck_chain.proofs.OrderLaws.{keys-row, filter-keys, among-passing}
use Rattle.ck_tree.specs.Plan.{with_changes, Differ}
use Rattle.ck_tree.specs.Deletions.{is_block_from, blocks_from, deletions, file_keys}
use Rattle.ck_tree.specs.Map.{StandsFor}
use Rattle.ck_tree.proofs.DirectoryLemmas.{true_of}

-- ---- the map

out_of_both : {X : Type 0} (a b : Bool) (o : Option X) → cond b None (cond a None o) ≡ cond (a || b) None o
out_of_both true true o = refl
out_of_both true false o = refl
out_of_both false b o = refl

-- what the map has without these keys
pub get-deletions : (bytes : ℕ → ℕ → List ℕ) (stamp : ℕ) (keys : List Key) (cells : Cells) (q : Key) → map.get (with_changes bytes stamp cells (deletions keys)) q ≡ cond (is_among q keys) None (map.get cells q)
get-deletions bytes stamp [] cells q = refl
get-deletions bytes stamp (key ∷ keys) cells q =
    get-deletions bytes stamp keys (map.remove cells key) q
    ∙ ap (cond (is_among q keys) None) (map.get-remove key_cmp_total cells key q)
    ∙ out_of_both (eq_by_cmp key_cmp q key) (is_among q keys) (map.get cells q)

same_node : (a b : ℕ) → eq_by_cmp key_cmp (Node a) (Node b) ≡ nat_eq a b
same_node a b = grind (arith, nat_tests)

none_of : {X : Type 0} (o : Option X) → is_some o ≡ false → o ≡ None
none_of None h = refl
none_of (Some x) h = cc

pub no_cell : (t : Table) (cells : Cells) → StandsFor t 0 cells → (q : Key) → column t q 0 ≡ None → map.get cells q ≡ None
no_cell t cells stands q none = none_of (map.get cells q) (stands.present q ∙ ap (λ o. is_some (present o)) none)

module _ (t : Table) (cells : Cells) (stands : StandsFor t 0 cells) (name : Key) (node : ℕ) where
  -- a node or a block is gone, where it is the file's
  beside_name : (q : Key) → cond (eq_by_cmp key_cmp q (Node node) || is_some (cond (is_block_from node 0 q) (column t q 0) None)) None (map.get cells q) ≡ (if not (is_of node q) then map.get cells q else None)
  beside_name (Name directory other) = refl
  beside_name (Node number) =
      ap (λ b. cond (b || false) None (map.get cells (Node number))) (same_node number node)
      ∙ elim (nat_eq number node) as (λ b. cond (b || false) None (map.get cells (Node number)) ≡ (if not b then map.get cells (Node number) else None)) [ true ↦ refl | false ↦ refl ]
  beside_name (Block number index) =
      let least : nat_le 0 index ≡ true = grind (arith, nat_tests) in
      let q : Key = Block number index in
      ap (λ b. cond (is_some (cond (nat_eq number node && b) (column t q 0) None)) None (map.get cells q)) least
      ∙ elim (nat_eq number node) as (λ b. cond (is_some (cond (b && true) (column t q 0) None)) None (map.get cells q) ≡ (if not b then map.get cells q else None)) [
        | false ↦ refl
        | true ↦ elim (column t q 0) as (λ o. column t q 0 ≡ o → cond (is_some o) None (map.get cells q) ≡ None) [
          | None ↦ λ none. no_cell t cells stands q none
          | Some held ↦ λ _. refl
        ] refl
      ]

  file_gone : (q : Key) → cond (is_among q (file_keys t name node)) None (map.get cells q) ≡ cond (eq_by_cmp key_cmp q name) None (if not (is_of node q) then map.get cells q else None)
  file_gone q =
      ap (λ b. cond (eq_by_cmp key_cmp q name || (eq_by_cmp key_cmp q (Node node) || b)) None (map.get cells q)) (among-passing t 0 (is_block_from node 0) q)
      ∙ elim (eq_by_cmp key_cmp q name) as (λ b. cond (b || (eq_by_cmp key_cmp q (Node node) || is_some (cond (is_block_from node 0 q) (column t q 0) None))) None (map.get cells q) ≡ cond b None (if not (is_of node q) then map.get cells q else None)) [
        | true ↦ refl
        | false ↦ beside_name q
      ]

  -- without a file's entries the map is without the file
  pub file_deleted : (bytes : ℕ → ℕ → List ℕ) (stamp : ℕ) → with_changes bytes stamp cells (deletions (file_keys t name node)) ≡ without_file cells name node
  file_deleted bytes stamp = map.same_map key_cmp_total key_cmp_exact _ _ (λ q.
      get-deletions bytes stamp (file_keys t name node) cells q ∙ file_gone q
      ∙ sym (map.get-remove key_cmp_total (map.retain_keys cells (λ key. not (is_of node key))) name q
      ∙ ap (cond (eq_by_cmp key_cmp q name) None) (get-retain_keys cells (λ key. not (is_of node key)) q)))

-- ---- the list

pub all_deletions : (keys : List Key) → deletions_first (deletions keys) ≡ true
all_deletions [] = refl
all_deletions (key ∷ keys) = all_deletions keys

-- a key that is before these keys is none of them
apart_behind : (k : Key) (es : List (Key × Held)) → T (below_all key_cmp k es) → All (λ other. key_of other ≢ k) (deletions (list_map (λ e. e.0) es))
apart_behind k [] below = All-nil (λ (other : Change). key_of other ≢ k)
apart_behind k (e ∷ es) below =
    let parts = head_of (is_lt (key_cmp k e.0)) (below_all key_cmp k es) below in
    All-cons (λ (other : Change). key_of other ≢ k) (Del e.0) (deletions (list_map (λ x. x.0) es))
    (λ same. false≢true (sym (behind-itself k) ∙ ap (is_behind k) (sym same) ∙ true_of (is_behind k e.0) parts.0))
    (apart_behind k es parts.1)

differ-sorted : (es : List (Key × Held)) → T (is_sorted key_cmp es) → Differ (deletions (list_map (λ e. e.0) es))
differ-sorted [] sorted = tt
differ-sorted (e ∷ es) sorted =
    let parts = head_of (below_all key_cmp e.0 es) (is_sorted key_cmp es) sorted in
    (apart_behind e.0 es parts.0, differ-sorted es parts.1)

-- a key that is no such block
abbrev pub IsNoBlock : ℕ → ℕ → Key → Type 0
IsNoBlock node first k = (q : Key) → is_block_from node first q ≡ true → q ≢ k

pub node_no_block : (node first : ℕ) → IsNoBlock node first (Node node)
node_no_block node first (Name d n) clash same = cc
node_no_block node first (Node n) clash same = cc
node_no_block node first (Block n i) block same = cc

name_no_block : (node first directory : ℕ) (last : List ℕ) → IsNoBlock node first (Name directory last)
name_no_block node first directory last (Name d n) clash same = cc
name_no_block node first directory last (Node n) clash same = cc
name_no_block node first directory last (Block n i) block same = cc

module _ (t : Table) where
  keys-are : (passes : Key → Bool) → filter passes (keys_in t 0) ≡ list_map (λ e. e.0) (where_key key_cmp passes (row_of t 0))
  keys-are passes = ap (filter passes) (keys-row 0 (map.entries t.entries)) ∙ filter-keys passes (row_of t 0)

  pub blocks_differ : (node first : ℕ) → Differ (deletions (blocks_from t node first))
  blocks_differ node first =
      subst (λ ks. Differ (deletions ks)) (sym (keys-are (is_block_from node first)))
      (differ-sorted (where_key key_cmp (is_block_from node first) (row_of t 0)) (is_sorted-where_key key_cmp (is_block_from node first) (row_of t 0) (is_sorted-row_of t 0)))

  pub blocks_apart : (node first : ℕ) (k : Key) → IsNoBlock node first k → All (λ other. key_of other ≢ k) (deletions (blocks_from t node first))
  blocks_apart node first k no_block =
      All-map (λ (other : Change). key_of other ≢ k) (λ key. Del key) (blocks_from t node first)
      (All-weaker (λ q. is_block_from node first q ≡ true) (λ q. q ≢ k) no_block (blocks_from t node first) (filter_passes (is_block_from node first) (keys_in t 0)))

  -- the keys of a file differ
  pub file_differs : (directory : ℕ) (last : List ℕ) (name : Key) → name ≡ Name directory last → (node : ℕ) → Differ (deletions (file_keys t name node))
  file_differs directory last name is node = (
    All-cons (λ (other : Change). key_of other ≢ name) (Del (Node node)) (deletions (blocks_from t node 0))
        (λ same. let clash : Node node ≡ Name directory last = same ∙ is in cc)
        (blocks_apart node 0 name (λ q block same. name_no_block node 0 directory last q block (same ∙ is))),
    (blocks_apart node 0 (Node node) (node_no_block node 0), blocks_differ node 0),
  )

  -- each of them is an entry's
  pub blocks_stand : (node first : ℕ) → All (λ key. IsSome (column t key 0)) (blocks_from t node first)
  blocks_stand node first =
      All-filter (is_block_from node first) (λ key. IsSome (column t key 0)) (keys_in t 0)
      (All-same (λ key. IsSome (column t key 0)) (keys_in t 0) (list_map (λ e. e.0) (row_of t 0)) (keys-row 0 (map.entries t.entries))
      (All-map (λ key. IsSome (column t key 0)) (λ (e : Key × Held). e.0) (row_of t 0)
      (All-from_recursion (λ (e : Key × Held). IsSome (column t e.0 0)) (row_of t 0)
      (all_found key_cmp_total key_cmp_exact (λ (e : Key × Held). IsSome (column t e.0 0)) (row_of t 0) (is_sorted-row_of t 0)
      (λ key held found. ap is_some (sym (find-row_of t 0 key) ∙ found))))))

  passed-fewer : {X : Type 0} (p : X → Bool) (xs : List X) → length (filter p xs) ≤ length xs
  passed-fewer p xs = omega (arith, length-filter p xs, count_by-le-length p xs)

  -- there are at most as many blocks as records
  pub blocks_few : IsSized t → (node first : ℕ) → length (deletions (blocks_from t node first)) ≤ 262144
  blocks_few sized node first =
      let all = length-map (blocks_from t node first) (λ key. Del key) in
      let blocks = passed-fewer (is_block_from node first) (keys_in t 0) in
      let keys = length-map (filter (λ e. nat_eq e.0.0 0) (map.entries t.entries)) (λ (e : (ℕ × Key) × Held). e.0.1) in
      let entries = passed-fewer (λ (e : (ℕ × Key) × Held). nat_eq e.0.0 0) (map.entries t.entries) in
      let len = map.len-entries t.entries in
      let fits = sized.fits in
      let limit = sized.records in
      omega (arith, all, blocks, keys, entries, len, fits, limit)

  pub file_few : IsSized t → (name : Key) (node : ℕ) → length (deletions (file_keys t name node)) ≤ 262146
  file_few sized name node = let few = blocks_few sized node 0 in omega (arith, few)
