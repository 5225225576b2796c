-- The changes of a file that gets another size.
use Rattle.std.proofs.Common.{◌≡◌, ◌≢◌, ℕ, ◌+◌, ◌*◌, ◌/◌, ◌%◌, ◌<◌, ◌≤◌, Bool, true, false, not, cond, ◌&&◌, ◌||◌, is_some, Some, None, List, [], ◌∷◌, ◌++◌, All, length, length-append, if◌then◌else◌, nat_eq, nat_le, nat_lt, refl, sym, ap, ◌∙◌, ◌⊎◌, inl, inr, arith}
use Rattle.std.specs.List.{list_any}
use Rattle.std.specs.FinMap as map
use Rattle.std.proofs.lemmas.Bool.{cases_lt}
use Rattle.std.proofs.lemmas.Bool.Decides.{nat_tests}
use Rattle.std.proofs.lemmas.List.Elements.{All-nil, All-push, All-head, All-tail}
use Rattle.ck_model.specs.declared.key.Key.{Key}
use Rattle.ck_model.specs.declared.key.Key.TheVariants.{Name, Node, Block}
use Rattle.ck_model.specs.declared.cell.Payload.TheVariants as payload
use Rattle.ck_model.specs.declared.change.Change.{Change}
use Rattle.ck_model.specs.declared.change.Change.TheVariants.{Put, Write, Del}
use Rattle.ck_model.specs.declared.held.Small.TheVariants.{File}
use Rattle.ck_model.specs.declared.checkpoint.Counters.{Counters}
use Rattle.ck_model.specs.Key.{key_cmp_total, key_cmp_exact, is_past}
use Rattle.ck_model.specs.Cells.{Cells, size_at, with_cells}
use Rattle.ck_model.specs.Changes.{cell_of, cut_block, cut_at, cut_to, resized}
use Rattle.ck_model.specs.Table.{Table, column}
use Rattle.ck_model.specs.Chain.{value_at}
use Rattle.ck_model.specs.TableWorld.{is_among}
use Rattle.ck_model.proofs.CellLaws.{get-retain_keys}
use Rattle.ck_chain.specs.Changes.{deletions_first, is_deletion, key_of}
use Rattle.ck_chain.proofs.OrderLaws.{among-passing}
use Rattle.ck_tree.specs.Plan.{with_changes, Differ, MayBeMade}
use Rattle.ck_tree.specs.Deletions.{is_block_from, blocks_from, deletions}
use Rattle.ck_tree.specs.Sizes.{first_past, cut_write, cut_changes, size_put, size_changes}
use Rattle.ck_tree.specs.Map.{StandsFor}
use Rattle.ck_tree.proofs.DeletionLemmas.{get-deletions, no_cell}

-- ---- lists of changes

pub with_changes-append : (bytes : ℕ → ℕ → List ℕ) (stamp : ℕ) (cells : Cells) (xs ys : List Change) → with_changes bytes stamp cells (xs ++ ys) ≡ with_changes bytes stamp (with_changes bytes stamp cells xs) ys
with_changes-append bytes stamp cells [] ys = refl
with_changes-append bytes stamp cells (Put key small ∷ xs) ys = with_changes-append bytes stamp (map.insert cells key _) xs ys
with_changes-append bytes stamp cells (Write node index block ∷ xs) ys = with_changes-append bytes stamp (map.insert cells (Block node index) _) xs ys
with_changes-append bytes stamp cells (Del key ∷ xs) ys = with_changes-append bytes stamp (map.remove cells key) xs ys

-- one more change, of another key
pub differ-push : (xs : List Change) (x : Change) → Differ xs → All (λ other. key_of other ≢ key_of x) xs → Differ (xs ++ x ∷ [])
differ-push [] x differ apart = (All-nil (λ (other : Change). key_of other ≢ key_of x), tt)
differ-push (y ∷ ys) x differ apart = (
  All-push (λ (other : Change). key_of other ≢ key_of y) ys x differ.0 (λ same. All-head (λ (other : Change). key_of other ≢ key_of x) y ys apart (sym same)),
  differ-push ys x differ.1 (All-tail (λ (other : Change). key_of other ≢ key_of x) y ys apart),
)

-- ---- the blocks behind a size

past_is : (node size : ℕ) (q : Key) → is_past node size q ≡ is_block_from node (first_past size) q
past_is node size (Name directory name) = refl
past_is node size (Node number) = refl
past_is node size (Block number index) = ap (λ b. nat_eq number node && b) (level (cases_lt (index * 4096) size))
  where
    level : (index * 4096 < size) ⊎ (size ≤ index * 4096) → nat_le size (index * 4096) ≡ nat_le (first_past size) index
    level (inl low) =
        let out : nat_le size (index * 4096) ≡ false = grind (arith, nat_tests) in
        let under : index < first_past size = omega (arith, low) in
        let also : nat_le (first_past size) index ≡ false = grind (arith, nat_tests) in
        out ∙ sym also
    level (inr past) =
        let in' : nat_le size (index * 4096) ≡ true = grind (arith, nat_tests) in
        let over : first_past size ≤ index = omega (arith, past) in
        let also : nat_le (first_past size) index ≡ true = grind (arith, nat_tests) in
        in' ∙ sym also

module _ (t : Table) (cells : Cells) (stands : StandsFor t 0 cells) (node size : ℕ) (bytes : ℕ → ℕ → List ℕ) (stamp : ℕ) where
  past_gone : (q : Key) → cond (is_among q (blocks_from t node (first_past size))) None (map.get cells q) ≡ (if not (is_past node size q) then map.get cells q else None)
  past_gone q =
      ap (λ b. cond b None (map.get cells q)) (among-passing t 0 (is_block_from node (first_past size)) q)
      ∙ elim (is_block_from node (first_past size) q) as (λ b. cond (is_some (cond b (column t q 0) None)) None (map.get cells q) ≡ (if not b then map.get cells q else None)) [
        | false ↦ refl
        | true ↦ elim (column t q 0) as (λ o. column t q 0 ≡ o → cond (is_some o) None (map.get cells q) ≡ None) [
          | None ↦ λ none. no_cell t cells stands q none
          | Some held ↦ λ _. refl
        ] refl
      ]
      ∙ sym (ap (λ b. if not b then map.get cells q else None) (past_is node size q))

  past_deleted : with_changes bytes stamp cells (deletions (blocks_from t node (first_past size))) ≡ map.retain_keys cells (λ key. not (is_past node size key))
  past_deleted = map.same_map key_cmp_total key_cmp_exact _ _ (λ q.
      get-deletions bytes stamp (blocks_from t node (first_past size)) cells q ∙ past_gone q
      ∙ sym (get-retain_keys cells (λ key. not (is_past node size key)) q))

  abbrev last_bytes : Type 0
  last_bytes = bytes node (size / 4096) ≡ cut_block cells node (size / 4096) (size % 4096)

  -- the last block as the size cuts it
  last_cut : last_bytes → (base : Cells) → with_changes bytes stamp base (cut_write t node size) ≡ with_cells base (cut_at cells stamp node size)
  last_cut same base =
      elim (not (nat_eq (size % 4096) 0) && is_some (value_at t 0 (Block node (size / 4096)))) as (λ b. with_changes bytes stamp base (if b then Write node (size / 4096) 0 ∷ [] else [])
      ≡ with_cells base (if b then (Block node (size / 4096), cell_of stamp (payload.Bytes (cut_block cells node (size / 4096) (size % 4096)))) ∷ [] else [])) [
        | true ↦ ap (λ content. map.insert base (Block node (size / 4096)) (cell_of stamp (payload.Bytes content))) same
        | false ↦ refl
      ]
      ∙ sym (ap (λ b. with_cells base (if not (nat_eq (size % 4096) 0) && b then (Block node (size / 4096), cell_of stamp (payload.Bytes (cut_block cells node (size / 4096) (size % 4096)))) ∷ [] else []))
      (stands.present (Block node (size / 4096))))

  cut_is : last_bytes → with_changes bytes stamp cells (cut_changes t node size) ≡ cut_to cells stamp node size
  cut_is same =
      with_changes-append bytes stamp cells (deletions (blocks_from t node (first_past size))) (cut_write t node size)
      ∙ ap (λ base. with_changes bytes stamp base (cut_write t node size)) past_deleted
      ∙ last_cut same (map.retain_keys cells (λ key. not (is_past node size key)))

  -- the changes lead to the file at its new size
  pub resized_is : last_bytes → (old : ℕ) → old ≡ size_at cells node → with_changes bytes stamp cells (size_changes t node old size) ≡ resized cells stamp node size
  resized_is same old is =
      with_changes-append bytes stamp cells (if nat_lt size old then cut_changes t node size else []) (size_put node old size)
      ∙ elim (nat_eq size old) as (λ b. nat_eq size old ≡ b → with_changes bytes stamp (with_changes bytes stamp cells (if nat_lt size old then cut_changes t node size else [])) (if b then [] else Put (Node node) (File size) ∷ [])
      ≡ (if b then cells else with_cells (if nat_lt size old then cut_to cells stamp node size else cells) ((Node node, cell_of stamp (payload.File size)) ∷ []))) [
        | true ↦ λ level.
            let no_less : nat_lt size old ≡ false = grind (arith, nat_tests) in
            ap (λ b. with_changes bytes stamp cells (if b then cut_changes t node size else [])) no_less
        | false ↦ λ _. ap (λ base. map.insert base (Node node) (cell_of stamp (payload.File size)))
            (elim (nat_lt size old) as (λ b. with_changes bytes stamp cells (if b then cut_changes t node size else []) ≡ (if b then cut_to cells stamp node size else cells)) [
              | true ↦ cut_is same
              | false ↦ refl
            ])
      ] refl
      ∙ ap (λ n. if nat_eq size n then cells else with_cells (if nat_lt size n then cut_to cells stamp node size else cells) ((Node node, cell_of stamp (payload.File size)) ∷ [])) is

-- ---- what the changes are

-- changes that may be made, at most so many
pub record Fit (t : Table) (next : Counters) (most : ℕ) (changes : List Change) : Type 0 where
  pub first : deletions_first changes ≡ true
  pub once : Differ changes
  pub each : All (MayBeMade t next) changes
  pub few : length changes ≤ most

deletions_first-push : (xs : List Change) (x : Change) → is_deletion x ≡ false → deletions_first xs ≡ true → deletions_first (xs ++ x ∷ []) ≡ true
deletions_first-push [] x put h = ap (λ b. (b || true) && true) put
deletions_first-push (y ∷ ys) x put h =
    let parts = both (is_deletion y || not (list_any is_deletion ys)) (deletions_first ys) h in
    (λ i. (is_deletion y || not (none ys i)) && deletions_first-push ys x put parts.1 i) ∙ ap (λ b. b && true) parts.0
  where
    both : (a b : Bool) → (a && b) ≡ true → (a ≡ true) × (b ≡ true)
    both true b h = (refl, h)
    both false b h = cc

    none : (zs : List Change) → list_any is_deletion (zs ++ x ∷ []) ≡ list_any is_deletion zs
    none [] = ap (λ b. b || false) put
    none (z ∷ zs) = ap (λ b. is_deletion z || b) (none zs)

module _ (t : Table) (next : Counters) where
  pub fit-none : Fit t next 0 []
  fit-none = record { first = refl; once = tt; each = All-nil (MayBeMade t next); few = omega arith }

  -- one more, which is no deletion
  pub fit-push : (most : ℕ) (xs : List Change) (x : Change) → Fit t next most xs → is_deletion x ≡ false → All (λ other. key_of other ≢ key_of x) xs → MayBeMade t next x → Fit t next (most + 1) (xs ++ x ∷ [])
  fit-push most xs x fit put apart may = record {
    first = deletions_first-push xs x put fit.first;
    once = differ-push xs x fit.once apart;
    each = All-push (MayBeMade t next) xs x fit.each may;
    few = let few = fit.few in omega (arith, length-append xs (x ∷ []), few);
  }

  pub fit-weaker : (few most : ℕ) (xs : List Change) → few ≤ most → Fit t next few xs → Fit t next most xs
  fit-weaker few most xs le fit = record {
    first = fit.first;
    once = fit.once;
    each = fit.each;
    few = let bound = fit.few in omega (arith, le, bound);
  }
