-- What stands where a path leads.
use Rattle.std.proofs.Common.{◌≡◌, ℕ, suc, ◌-◌, ◌<◌, true, false, Some, None, is_some, Result, Ok, Err, List, [], ◌∷◌, ◌++◌, length, length-drop, take, drop, drop-cons, if◌then◌else◌, refl, sym, ap, subst, ◌∙◌, arith}
use Rattle.std.specs.List.{slice_index_or}
use Rattle.std.specs.Option.{ok_or, option_and_then}
use Rattle.std.specs.FinMap as map
use Rattle.std.proofs.lemmas.List.{take-append-drop, nil_from_length}
use Rattle.ck_model.specs.declared.key.Key.{Key}
use Rattle.ck_model.specs.declared.key.Key.TheVariants.{Name, Node}
use Rattle.ck_model.specs.declared.cell.Cell.{Cell}
use Rattle.ck_model.specs.declared.path.WalkFault.TheVariants as fault
use Rattle.ck_model.specs.declared.reply.Reply.{Reply}
use Rattle.ck_model.specs.declared.reply.Reply.TheVariants.{IsDir, NotDir, Exists}
use Rattle.ck_model.specs.Cells.{Cells, content_at, named_node, is_directory_at}
use Rattle.ck_model.specs.Refusals.{and_then, refuse_if, or_refused}
use Rattle.ck_model.specs.Walk.{entered, walk_from, walk, node_at, file_at, directory_at, name_at, new_name_at}

-- a walk ends at a node with a cell
walked : (names : List (List ℕ)) (cells : Cells) (node end : ℕ) → walk_from names cells node ≡ Ok end → map.contains_key cells (Node end) ≡ true
walked [] cells node end h =
    elim (map.contains_key cells (Node node)) as (λ b. map.contains_key cells (Node node) ≡ b → (if b then Ok node else Err fault.NotFound) ≡ Ok end → map.contains_key cells (Node end) ≡ true) [
      | true ↦ λ stands same. let is : node ≡ end = cc in subst (λ n. map.contains_key cells (Node n) ≡ true) is stands
      | false ↦ λ _ clash. cc
    ] refl h
walked (name ∷ names) cells node end h =
    elim (entered cells node name) as (λ r. and_then r (λ child. walk_from names cells child) ≡ Ok end → map.contains_key cells (Node end) ≡ true) [
      | Ok child ↦ λ rest. walked names cells child end rest
      | Err e ↦ λ clash. cc
    ] h

walk_of : (cells : Cells) (path : List (List ℕ)) (node : ℕ) → node_at cells path ≡ Ok node → walk cells path ≡ Ok node
walk_of cells path node h =
    elim (walk cells path) as (λ r. or_refused r ≡ Ok node → r ≡ Ok node) [
      | Ok end ↦ λ same. let alike : end ≡ node = cc in ap (λ n. Ok n) alike
      | Err e ↦ λ clash. cc
    ] h

pub node_stands : (cells : Cells) (path : List (List ℕ)) (node : ℕ) → node_at cells path ≡ Ok node → map.contains_key cells (Node node) ≡ true
node_stands cells path node h = walked path cells 0 node (walk_of cells path node h)

-- a file or a directory that a path leads to is the node that it leads to
pub file_node : (cells : Cells) (path : List (List ℕ)) (node : ℕ) → file_at cells path ≡ Ok node → node_at cells path ≡ Ok node
file_node cells path node h =
    elim (node_at cells path) as (λ r. and_then r (λ n. refuse_if (is_directory_at cells n) IsDir (Ok n)) ≡ Ok node → r ≡ Ok node) [
      | Err e ↦ λ clash. cc
      | Ok n ↦ λ same. elim (is_directory_at cells n) as (λ b. refuse_if b IsDir (Ok n) ≡ Ok node → ◌≡◌ {A = Result ℕ Reply} (Ok n) (Ok node)) [ true ↦ λ clash. cc | false ↦ λ is. is ] same
    ] h

pub directory_node : (cells : Cells) (path : List (List ℕ)) (node : ℕ) → directory_at cells path ≡ Ok node → node_at cells path ≡ Ok node
directory_node cells path node h =
    elim (node_at cells path) as (λ r. and_then r (λ n. if is_directory_at cells n then Ok n else Err NotDir) ≡ Ok node → r ≡ Ok node) [
      | Err e ↦ λ clash. cc
      | Ok n ↦ λ same. elim (is_directory_at cells n) as (λ b. (if b then Ok n else Err NotDir) ≡ Ok node → ◌≡◌ {A = Result ℕ Reply} (Ok n) (Ok node)) [ true ↦ λ is. is | false ↦ λ clash. cc ] same
    ] h

-- the key of a last name: its directory stands
pub record IsNameIn (cells : Cells) (path : List (List ℕ)) (key : Key) : Type 0 where
  pub directory : ℕ
  pub is : key ≡ Name directory (slice_index_or path (length path - 1) [])
  pub some : 0 < length path
  pub leads : directory_at cells (take (length path - 1) path) ≡ Ok directory

pub name_in : (cells : Cells) (of_slash : Reply) (path : List (List ℕ)) (key : Key) → name_at cells of_slash path ≡ Ok key → IsNameIn cells path key
name_in cells of_slash [] key h = cc
name_in cells of_slash (name ∷ names) key h = on (directory_at cells (take (length (name ∷ names) - 1) (name ∷ names))) refl h
  where
    on : (r : Result ℕ Reply) → directory_at cells (take (length (name ∷ names) - 1) (name ∷ names)) ≡ r → and_then r (λ directory. Ok (Name directory (slice_index_or (name ∷ names) (length (name ∷ names) - 1) []))) ≡ Ok key → IsNameIn cells (name ∷ names) key
    on (Err e) is clash = cc
    on (Ok d) is same = record { directory = d; is = cc; some = omega arith; leads = is }

-- a new name is the key of a last name that doesn't stand
pub new_name_is : (cells : Cells) (path : List (List ℕ)) (key : Key) → new_name_at cells path ≡ Ok key → (name_at cells Exists path ≡ Ok key) × (map.contains_key cells key ≡ false)
new_name_is cells path key h =
    elim (name_at cells Exists path) as (λ r. and_then r (λ k. refuse_if (map.contains_key cells k) Exists (Ok k)) ≡ Ok key → (r ≡ Ok key) × (map.contains_key cells key ≡ false)) [
      | Err e ↦ λ clash. cc
      | Ok k ↦ λ same. elim (map.contains_key cells k) as (λ b. map.contains_key cells k ≡ b → refuse_if b Exists (Ok k) ≡ Ok key → (◌≡◌ {A = Result Key Reply} (Ok k) (Ok key)) × (map.contains_key cells key ≡ false)) [
        | true ↦ λ _ clash. cc
        | false ↦ λ none is. let alike : k ≡ key = cc in (is, subst (λ x. map.contains_key cells x ≡ false) alike none)
      ] refl same
    ] h

-- ---- the name that a path ends with stands

-- a name that is entered stands
entered_stands : (cells : Cells) (node child : ℕ) (name : List ℕ) → entered cells node name ≡ Ok child → map.contains_key cells (Name node name) ≡ true
entered_stands cells node child name h =
    elim (map.contains_key cells (Node node)) as (λ a. (if a then (if is_directory_at cells node then ok_or (named_node (content_at cells (Name node name))) fault.NotFound else Err fault.NotDir) else Err fault.NotFound) ≡ Ok child → map.contains_key cells (Name node name) ≡ true) [
      | false ↦ λ clash. cc
      | true ↦ λ then'. elim (is_directory_at cells node) as (λ b. (if b then ok_or (named_node (content_at cells (Name node name))) fault.NotFound else Err fault.NotDir) ≡ Ok child → map.contains_key cells (Name node name) ≡ true) [
        | false ↦ λ clash. cc
        | true ↦ λ names. elim (map.get cells (Name node name)) as (λ o. ok_or (named_node (option_and_then (λ (cell : Cell). cell.payload) o)) fault.NotFound ≡ Ok child → is_some o ≡ true) [
          | None ↦ λ clash. cc
          | Some cell ↦ λ _. refl
        ] names
      ] then'
    ] h

last_entered : (names : List (List ℕ)) (cells : Cells) (from node end : ℕ) (name : List ℕ) → walk_from names cells from ≡ Ok node → walk_from (names ++ name ∷ []) cells from ≡ Ok end → map.contains_key cells (Name node name) ≡ true
last_entered [] cells from node end name leads h =
    elim (map.contains_key cells (Node from)) as (λ b. (if b then Ok from else Err fault.NotFound) ≡ Ok node → map.contains_key cells (Name node name) ≡ true) [
      | false ↦ λ clash. cc
      | true ↦ λ same.
          let alike : from ≡ node = cc in
          subst (λ n. map.contains_key cells (Name n name) ≡ true) alike (elim (entered cells from name) as (λ r. entered cells from name ≡ r → and_then r (λ child. walk_from [] cells child) ≡ Ok end → map.contains_key cells (Name from name) ≡ true) [
            | Ok child ↦ λ is _. entered_stands cells from child name is
            | Err e ↦ λ _ clash. cc
          ] refl h)
    ] leads
last_entered (first ∷ names) cells from node end name leads h =
    elim (entered cells from first) as (λ r. and_then r (λ child. walk_from names cells child) ≡ Ok node → and_then r (λ child. walk_from (names ++ name ∷ []) cells child) ≡ Ok end → map.contains_key cells (Name node name) ≡ true) [
      | Ok child ↦ λ before all. last_entered names cells child node end name before all
      | Err e ↦ λ clash _. cc
    ] leads h

split_last : (path : List (List ℕ)) → 0 < length path → path ≡ take (length path - 1) path ++ slice_index_or path (length path - 1) [] ∷ []
split_last path some =
    let last = length path - 1 in
    let none : drop (suc last) path ≡ [] = nil_from_length (drop (suc last) path) (length-drop (suc last) path ∙ omega (arith, some)) in
    sym (take-append-drop last path) ∙ ap (λ xs. take last path ++ xs) (drop-cons path last [] (omega (arith, some)) ∙ ap (λ xs. slice_index_or path last [] ∷ xs) none)

-- where a path leads somewhere, its last name stands
pub name_stands : (cells : Cells) (of_slash : Reply) (path : List (List ℕ)) (node : ℕ) (key : Key) → node_at cells path ≡ Ok node → name_at cells of_slash path ≡ Ok key → map.contains_key cells key ≡ true
name_stands cells of_slash path node key leads named =
    let n = name_in cells of_slash path key named in
    let last = slice_index_or path (length path - 1) [] in
    let before = walk_of cells (take (length path - 1) path) n.directory (directory_node cells (take (length path - 1) path) n.directory n.leads) in
    let all : walk_from (take (length path - 1) path ++ last ∷ []) cells 0 ≡ Ok node = ap (λ names. walk_from names cells 0) (sym (split_last path n.some)) ∙ walk_of cells path node leads in
    subst (λ k. map.contains_key cells k ≡ true) (sym n.is) (last_entered (take (length path - 1) path) cells 0 n.directory node last before all)
