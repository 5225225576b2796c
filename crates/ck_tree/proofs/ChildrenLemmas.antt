-- The names of a directory in the map that a fileset stands for.
use Rattle.std.proofs.Common.{◌≡◌, ℕ, ◌<◌, ◌≤◌, Bool, true, false, cond, ◌&&◌, ◌||◌, Option, Some, None, is_some, List, [], ◌∷◌, ◌++◌, append_assoc, append-nil, map as list_map, if◌then◌else◌, refl, sym, ap, ◌∙◌, arith}
use Rattle.std.specs.declared.cmp.Ordering.TheVariants.{Less, Equal, Greater}
use Rattle.std.specs.Ordering.{eq_by_cmp, nat_cmp, is_lt, ordering_then}
use Rattle.std.specs.Cmp.Lexicographic.{slice_cmp}
use Rattle.std.specs.List.{list_any, filter_map, AllByRecursion}
use Rattle.std.specs.Option.{option_and_then, option_to_list, option_map}
use Rattle.std.specs.FinMap.{find, entries_sorted}
use Rattle.std.specs.FinMap as map
use Rattle.std.proofs.lemmas.Bool.Decides.{nat_tests}
use mathlib.Core.Bool.{false≢true}
use Rattle.ck_model.specs.declared.key.Key.{Key}
use Rattle.ck_model.specs.declared.key.Key.TheVariants.{Name, Node, Block}
use Rattle.ck_model.specs.declared.cell.Cell.{Cell}
use Rattle.ck_model.specs.declared.child.Child.{Child}
use Rattle.ck_model.specs.Key.{key_cmp, key_cmp_total, key_cmp_exact, is_name_in}
use Rattle.ck_model.specs.Held.{IsKey}
use Rattle.ck_model.specs.Name.{IsName}
use Rattle.ck_model.specs.Cells.{Cells, named_node, is_directory_at}
use Rattle.ck_model.specs.FileCalls.{has_names}
use Rattle.ck_model.specs.Contents.{child_in, children}
use Rattle.ck_model.specs.Table.{Table, IsTable}
use Rattle.ck_model.specs.Chain.{value_at}
use Rattle.ck_model.proofs.CellLaws.{tied-is}
use Rattle.ck_model.proofs.FilesetLaws.{all_found}
use Rattle.ck_model.proofs.CaseLaws.{true_or_false}
use Rattle.ck_chain.specs.Order.{is_before, IsNext, is_behind}
use Rattle.ck_chain.proofs.KeyOrderLaws.{same_or_before}
use Rattle.ck_tree.specs.Directory.{child_at, least_name}
use Rattle.ck_tree.specs.Map.{StandsFor}
use Rattle.ck_tree.proofs.MapLaws.{value_key}
use Rattle.ck_tree.proofs.DirectoryLemmas.{left, left_next, none_before, none_left, Skips}

-- no name is before the least one
least_of : (name : List ℕ) → IsName name → is_lt (slice_cmp nat_cmp name least_name) ≡ false
least_of [] is = absurd (let some = is.some in omega (arith, some))
least_of (byte ∷ bytes) is =
    let low : 33 ≤ byte = (is.each 0 0 (omega arith)).low in
    elim (nat_cmp byte 33) as (λ o. nat_cmp byte 33 ≡ o → is_lt (ordering_then o (slice_cmp nat_cmp bytes [])) ≡ false) [
      | Less ↦ λ clash. let under : byte < 33 = grind (arith, nat_tests) in absurd (omega (arith, low, under))
      | Equal ↦ λ _. nothing_before bytes
      | Greater ↦ λ _. refl
    ] refl
  where
    nothing_before : (bytes : List ℕ) → is_lt (slice_cmp nat_cmp bytes []) ≡ false
    nothing_before [] = refl
    nothing_before (b ∷ bs) = refl

-- a name that a table may have isn't before the least one
not_least : (node : ℕ) (key : Key) → IsKey key → is_name_in node key ≡ true → is_behind key (Name node least_name) ≡ false
not_least node (Name directory name) is same =
    let level : directory ≡ node = grind (arith, nat_tests) in
    let tie : nat_cmp directory node ≡ Equal = grind (arith, nat_tests) in
    ap (λ o. is_lt (ordering_then o (slice_cmp nat_cmp name least_name))) tie ∙ least_of name is.1.name
not_least node (Node number) is clash = cc
not_least node (Block number index) is clash = cc

-- nothing is given by keys other than a directory's names
not_child : (cells : Cells) (node : ℕ) (key : Key) (cell : Cell) → is_name_in node key ≡ false → child_in cells node (key, cell) ≡ None
not_child cells node (Name directory name) cell other =
    ap (λ b. if b then option_map (λ n. record { name = name; node = n; dir = is_directory_at cells n }) (named_node cell.payload) else None) other
not_child cells node (Node number) cell other = refl
not_child cells node (Block number index) cell other = refl

-- the child of a name that stands
child_of : (cells : Cells) (node : ℕ) (key : Key) → is_name_in node key ≡ true → (o : Option Cell) → map.get cells key ≡ o → option_and_then (λ cell. child_in cells node (key, cell)) o ≡ child_at cells key
child_of cells node (Name directory name) same None is =
    ap (λ o. option_map (λ n. record { name = name; node = n; dir = is_directory_at cells n }) (named_node (option_and_then (λ (c : Cell). c.payload) o))) (sym is)
child_of cells node (Name directory name) same (Some cell) is =
    ap (λ b. if b then option_map (λ n. record { name = name; node = n; dir = is_directory_at cells n }) (named_node cell.payload) else None) same
    ∙ ap (λ o. option_map (λ n. record { name = name; node = n; dir = is_directory_at cells n }) (named_node (option_and_then (λ (c : Cell). c.payload) o))) (sym is)
child_of cells node (Node number) clash o is = cc
child_of cells node (Block number index) clash o is = cc

module _ (t : Table) (fs : ℕ) (cells : Cells) (lawful : IsTable t) (stands : StandsFor t fs cells) (node : ℕ) where
  abbrev passes : Key → Bool
  passes q = is_name_in node q && is_some (value_at t fs q)

  valued : (key : Key) (cell : Cell) → find key_cmp key (map.entries cells) ≡ Some cell → is_some (value_at t fs key) ≡ true
  valued key cell found = sym (stands.present key) ∙ ap is_some (map.get-entries cells key ∙ found)

  skips : AllByRecursion (Skips (child_in cells node) passes) (map.entries cells)
  skips = all_found key_cmp_total key_cmp_exact (Skips (child_in cells node) passes) (map.entries cells) (entries_sorted cells) (λ key cell found none.
      not_child cells node key cell (first_false (is_name_in node key) (is_some (value_at t fs key)) (valued key cell found) none))
    where
      first_false : (a b : Bool) → b ≡ true → (a && b) ≡ false → a ≡ false
      first_false true b h g = cc
      first_false false b h g = refl

  -- all names of the directory are left at the least one
  pub children_first : filter_map (left (child_in cells node) (Some (Name node least_name))) (map.entries cells) ≡ children cells node
  children_first = none_before (child_in cells node) (Name node least_name) (map.entries cells)
      (all_found key_cmp_total key_cmp_exact (λ e. is_behind e.0 (Name node least_name) ≡ true → child_in cells node e ≡ None) (map.entries cells) (entries_sorted cells) (λ key cell found low.
      not_child cells node key cell (true_or_false (is_name_in node key) (λ inside. false≢true (sym (not_least node key (value_key t lawful fs key (valued key cell found)) inside) ∙ low)))))

  -- what was found at a name and what is left at the next are what was left
  pub children_next : (key : Key) (next : Option Key) → is_name_in node key ≡ true → IsNext t passes (Some key) next → (found : List Child)
      → found ++ filter_map (left (child_in cells node) (Some key)) (map.entries cells) ≡ children cells node
      → (found ++ option_to_list (child_at cells key)) ++ filter_map (left (child_in cells node) next) (map.entries cells) ≡ children cells node
  children_next key next inside is found so_far =
      let here : option_and_then (λ cell. child_in cells node (key, cell)) (find key_cmp key (map.entries cells)) ≡ child_at cells key =
      child_of cells node key inside (find key_cmp key (map.entries cells)) (map.get-entries cells key) in
      append_assoc found (option_to_list (child_at cells key)) (filter_map (left (child_in cells node) next) (map.entries cells))
      ∙ sym (ap (λ xs. found ++ xs) (left_next (child_in cells node) passes t key next is (map.entries cells) (entries_sorted cells) skips
      ∙ ap (λ o. option_to_list o ++ filter_map (left (child_in cells node) next) (map.entries cells)) here))
      ∙ so_far

  pub children_last : (found : List Child) → found ++ filter_map (left (child_in cells node) None) (map.entries cells) ≡ children cells node → found ≡ children cells node
  children_last found so_far = sym (append-nil found) ∙ ap (λ xs. found ++ xs) (sym (none_left (child_in cells node) (map.entries cells))) ∙ so_far

  -- ---- whether there are any

  -- no name of the directory that is before this key stands
  abbrev pub NoneBefore : Option Key → Type 0
  NoneBefore here = (q : Key) → is_name_in node q ≡ true → is_before here q ≡ true → map.contains_key cells q ≡ false

  pub none_first : NoneBefore (Some (Name node least_name))
  none_first q inside low = true_or_false (map.contains_key cells q) (λ there.
      false≢true (sym (not_least node q (value_key t lawful fs q (sym (stands.present q) ∙ there)) inside) ∙ low))

  pub none_next : (key : Key) (next : Option Key) → IsNext t passes (Some key) next → map.contains_key cells key ≡ false → NoneBefore (Some key) → NoneBefore next
  none_next key next is missing none q inside early =
      elim (is_behind key q) as (λ b. is_behind key q ≡ b → map.contains_key cells q ≡ false) [
        | true ↦ λ behind. stands.present q ∙ both_false (is_name_in node q) (is_some (value_at t fs q)) inside (is.between q behind early)
        | false ↦ λ level. elim (is_behind q key) as (λ b. is_behind q key ≡ b → map.contains_key cells q ≡ false) [
          | true ↦ λ low. none q inside low
          | false ↦ λ same. ap (map.contains_key cells) (sym (same_or_before key q level same)) ∙ missing
        ] refl
      ] refl
    where
      both_false : (a b : Bool) → a ≡ true → (a && b) ≡ false → b ≡ false
      both_false true b h g = g
      both_false false b h g = cc

  any_key : (es : List (Key × Cell)) → AllByRecursion (λ e. is_name_in node e.0 ≡ false) es → list_any (is_name_in node) (list_map (λ e. e.0) es) ≡ false
  any_key [] none = refl
  any_key (e ∷ es) none = ap (λ b. b || list_any (is_name_in node) (list_map (λ (x : Key × Cell). x.0) es)) none.0 ∙ any_key es none.1

  pub none_at_all : NoneBefore None → has_names cells node ≡ false
  none_at_all none = any_key (map.entries cells) (all_found key_cmp_total key_cmp_exact (λ e. is_name_in node e.0 ≡ false) (map.entries cells) (entries_sorted cells) (λ key cell found.
      true_or_false (is_name_in node key) (λ inside. false≢true (sym (none key inside refl) ∙ ap is_some (map.get-entries cells key ∙ found)))))

  some_key : (es : List (Key × Cell)) (key : Key) → is_name_in node key ≡ true → is_some (find key_cmp key es) ≡ true → list_any (is_name_in node) (list_map (λ e. e.0) es) ≡ true
  some_key [] key inside clash = absurd (false≢true clash)
  some_key (e ∷ es) key inside there =
      elim (eq_by_cmp key_cmp key e.0) as (λ b. eq_by_cmp key_cmp key e.0 ≡ b → is_some (cond b (Some e.1) (find key_cmp key es)) ≡ true → list_any (is_name_in node) (list_map (λ (x : Key × Cell). x.0) (e ∷ es)) ≡ true) [
        | true ↦ λ tied _. ap (λ b. b || list_any (is_name_in node) (list_map (λ (x : Key × Cell). x.0) es)) (ap (is_name_in node) (sym (tied-is key e.0 tied)) ∙ inside)
        | false ↦ λ _ rest. ap (λ b. is_name_in node e.0 || b) (some_key es key inside rest) ∙ last (is_name_in node e.0)
      ] refl there
    where
      last : (b : Bool) → (b || true) ≡ true
      last true = refl
      last false = refl

  pub some_name : (key : Key) → is_name_in node key ≡ true → map.contains_key cells key ≡ true → has_names cells node ≡ true
  some_name key inside there = some_key (map.entries cells) key inside (ap is_some (sym (map.get-entries cells key)) ∙ there)
