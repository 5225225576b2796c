-- Walks along the names of a path, step by step.
use Rattle.std.proofs.Common.{◌≡◌, ℕ, suc, ◌-◌, ◌<◌, true, false, Some, None, is_some, Result, Ok, Err, List, [], ◌∷◌, ◌++◌, length, length-drop, take, drop, drop-cons, if◌then◌else◌, refl, sym, ap, subst, ◌∙◌, arith}
use Rattle.std.specs.List.{slice_index_or}
use Rattle.std.specs.Option.{ok_or, option_and_then}
use Rattle.std.specs.FinMap as map
use Rattle.std.proofs.lemmas.List.{take-append-drop, nil_from_length}
use Rattle.ck_model.specs.declared.key.Key.{Key}
use Rattle.ck_model.specs.declared.key.Key.TheVariants.{Name, Node}
use Rattle.ck_model.specs.declared.cell.Cell.{Cell}
use Rattle.ck_model.specs.declared.path.WalkFault.TheVariants as fault
use Rattle.ck_model.specs.declared.reply.Reply.{Reply}
use Rattle.ck_model.specs.declared.reply.Reply.TheVariants.{IsDir, NotDir, Exists}
use Rattle.ck_model.specs.Cells.{Cells, named_node, is_directory, is_directory_at}
use Rattle.ck_model.specs.Refusals.{and_then, refuse_if, or_refused}
use Rattle.ck_model.specs.Walk.{entered, walk_from, walk, node_at, file_at, directory_at, name_at, new_name_at}
use Rattle.ck_laws.specs.Tree.{HasName, HasNode, child_at}

-- a directory is there
pub directory_stands : (cells : Cells) (node : ℕ) → is_directory_at cells node ≡ true → HasNode cells node
directory_stands cells node h =
    elim (map.get cells (Node node)) as (λ o. is_directory (option_and_then (λ (cell : Cell). cell.payload) o) ≡ true → is_some o ≡ true) [
      | None ↦ λ clash. cc
      | Some cell ↦ λ _. refl
    ] h

-- a name that names a node is there
pub child_stands : (cells : Cells) (directory : ℕ) (name : List ℕ) (node : ℕ) → child_at cells directory name ≡ Some node → HasName cells directory name
child_stands cells directory name node h =
    elim (map.get cells (Name directory name)) as (λ o. named_node (option_and_then (λ (cell : Cell). cell.payload) o) ≡ Some node → is_some o ≡ true) [
      | None ↦ λ clash. cc
      | Some cell ↦ λ _. refl
    ] h

-- a step from a node to one that a name in it names
pub record IsEntered (cells : Cells) (node : ℕ) (name : List ℕ) (child : ℕ) : Type 0 where
  pub stands : HasNode cells node
  pub directory : is_directory_at cells node ≡ true
  pub names : child_at cells node name ≡ Some child

pub entered_parts : (cells : Cells) (node : ℕ) (name : List ℕ) (child : ℕ) → entered cells node name ≡ Ok child → IsEntered cells node name child
entered_parts cells node name child h =
    elim (map.contains_key cells (Node node)) as (λ a. map.contains_key cells (Node node) ≡ a → (if a then (if is_directory_at cells node then ok_or (child_at cells node name) fault.NotFound else Err fault.NotDir) else Err fault.NotFound) ≡ Ok child → IsEntered cells node name child) [
      | false ↦ λ _ clash. cc
      | true ↦ λ stands rest. elim (is_directory_at cells node) as (λ b. is_directory_at cells node ≡ b → (if b then ok_or (child_at cells node name) fault.NotFound else Err fault.NotDir) ≡ Ok child → IsEntered cells node name child) [
        | false ↦ λ _ clash. cc
        | true ↦ λ directory found. elim (child_at cells node name) as (λ o. child_at cells node name ≡ o → ok_or o fault.NotFound ≡ Ok child → IsEntered cells node name child) [
          | None ↦ λ _ clash. cc
          | Some c ↦ λ names same. record { stands = stands; directory = directory; names = cc }
        ] refl found
      ] refl rest
    ] refl h

pub entered_from : (cells : Cells) (node : ℕ) (name : List ℕ) (child : ℕ) → IsEntered cells node name child → entered cells node name ≡ Ok child
entered_from cells node name child h =
    ap (λ a. if a then (if is_directory_at cells node then ok_or (child_at cells node name) fault.NotFound else Err fault.NotDir) else Err fault.NotFound) h.stands
    ∙ ap (λ b. if b then ok_or (child_at cells node name) fault.NotFound else Err fault.NotDir) h.directory
    ∙ ap (λ o. ok_or o fault.NotFound) h.names

-- a walk of no names
pub walk_here : (cells : Cells) (node : ℕ) → HasNode cells node → walk_from [] cells node ≡ Ok node
walk_here cells node h = ap (λ b. if b then Ok node else Err fault.NotFound) h

pub record IsHere (cells : Cells) (node : ℕ) (end : ℕ) : Type 0 where
  pub same : node ≡ end
  pub stands : HasNode cells node

pub here_parts : (cells : Cells) (node end : ℕ) → walk_from [] cells node ≡ Ok end → IsHere cells node end
here_parts cells node end h =
    elim (map.contains_key cells (Node node)) as (λ b. map.contains_key cells (Node node) ≡ b → (if b then Ok node else Err fault.NotFound) ≡ Ok end → IsHere cells node end) [
      | true ↦ λ stands same. record { same = cc; stands = stands }
      | false ↦ λ _ clash. cc
    ] refl h

-- a walk of one name and more
pub record IsStep (cells : Cells) (node : ℕ) (name : List ℕ) (names : List (List ℕ)) (end : ℕ) : Type 0 where
  pub child : ℕ
  pub enters : IsEntered cells node name child
  pub rest : walk_from names cells child ≡ Ok end

pub step_parts : (cells : Cells) (node : ℕ) (name : List ℕ) (names : List (List ℕ)) (end : ℕ) → walk_from (name ∷ names) cells node ≡ Ok end → IsStep cells node name names end
step_parts cells node name names end h =
    elim (entered cells node name) as (λ r. entered cells node name ≡ r → and_then r (λ child. walk_from names cells child) ≡ Ok end → IsStep cells node name names end) [
      | Ok child ↦ λ is rest. record { child = child; enters = entered_parts cells node name child is; rest = rest }
      | Err e ↦ λ _ clash. cc
    ] refl h

pub step_from : (cells : Cells) (node : ℕ) (name : List ℕ) (names : List (List ℕ)) (child end : ℕ) → IsEntered cells node name child → walk_from names cells child ≡ Ok end → walk_from (name ∷ names) cells node ≡ Ok end
step_from cells node name names child end enters rest =
    ap (λ r. and_then r (λ child. walk_from names cells child)) (entered_from cells node name child enters) ∙ rest

-- the node at the end is there
pub end_stands : (names : List (List ℕ)) (cells : Cells) (node end : ℕ) → walk_from names cells node ≡ Ok end → HasNode cells end
end_stands [] cells node end h = let here = here_parts cells node end h in subst (HasNode cells) here.same here.stands
end_stands (name ∷ names) cells node end h = let step = step_parts cells node name names end h in end_stands names cells step.child end step.rest

-- one name more
pub walk_further : (names : List (List ℕ)) (cells : Cells) (from node : ℕ) (name : List ℕ) (end : ℕ) → walk_from names cells from ≡ Ok node → IsEntered cells node name end → HasNode cells end → walk_from (names ++ name ∷ []) cells from ≡ Ok end
walk_further [] cells from node name end h enters stands =
    let here = here_parts cells from node h in
    step_from cells from name [] end end (subst (λ n. IsEntered cells n name end) (sym here.same) enters) (walk_here cells end stands)
walk_further (first ∷ names) cells from node name end h enters stands =
    let step = step_parts cells from first names node h in
    step_from cells from first (names ++ name ∷ []) step.child end step.enters (walk_further names cells step.child node name end step.rest enters stands)

-- and the last name of a walk is entered from where the names before it lead
pub last_name : (names : List (List ℕ)) (cells : Cells) (from node end : ℕ) (name : List ℕ) → walk_from names cells from ≡ Ok node → walk_from (names ++ name ∷ []) cells from ≡ Ok end → child_at cells node name ≡ Some end
last_name [] cells from node end name leads h =
    let here = here_parts cells from node leads in
    let step = step_parts cells from name [] end h in
    let there = here_parts cells step.child end step.rest in
    subst (λ n. child_at cells n name ≡ Some end) here.same (step.enters.names ∙ ap Some there.same)
last_name (first ∷ names) cells from node end name leads h =
    let before = step_parts cells from first names node leads in
    let all = step_parts cells from first (names ++ name ∷ []) end h in
    let same : all.child ≡ before.child = cc (all.enters.names, before.enters.names) in
    last_name names cells before.child node end name before.rest (subst (λ n. walk_from (names ++ name ∷ []) cells n ≡ Ok end) same all.rest)

-- ---- where paths lead

walk_of : (cells : Cells) (path : List (List ℕ)) (node : ℕ) → node_at cells path ≡ Ok node → walk cells path ≡ Ok node
walk_of cells path node h =
    elim (walk cells path) as (λ r. or_refused r ≡ Ok node → r ≡ Ok node) [
      | Ok end ↦ λ same. let alike : end ≡ node = cc in ap (λ n. Ok n) alike
      | Err e ↦ λ clash. cc
    ] h

pub record LeadsTo (cells : Cells) (path : List (List ℕ)) (node : ℕ) : Type 0 where
  pub leads : walk cells path ≡ Ok node
  pub stands : HasNode cells node

leads_to : (cells : Cells) (path : List (List ℕ)) (node : ℕ) → node_at cells path ≡ Ok node → LeadsTo cells path node
leads_to cells path node h = let leads = walk_of cells path node h in record { leads = leads; stands = end_stands path cells 0 node leads }

pub record LeadsToFile (cells : Cells) (path : List (List ℕ)) (node : ℕ) : Type 0 where
  pub leads : LeadsTo cells path node
  pub file : is_directory_at cells node ≡ false

pub file_parts : (cells : Cells) (path : List (List ℕ)) (node : ℕ) → file_at cells path ≡ Ok node → LeadsToFile cells path node
file_parts cells path node h =
    elim (node_at cells path) as (λ r. node_at cells path ≡ r → and_then r (λ n. refuse_if (is_directory_at cells n) IsDir (Ok n)) ≡ Ok node → LeadsToFile cells path node) [
      | Err e ↦ λ _ clash. cc
      | Ok n ↦ λ is same. elim (is_directory_at cells n) as (λ b. is_directory_at cells n ≡ b → refuse_if b IsDir (Ok n) ≡ Ok node → LeadsToFile cells path node) [
        | true ↦ λ _ clash. cc
        | false ↦ λ file end. let alike : n ≡ node = cc in subst (LeadsToFile cells path) alike (record { leads = leads_to cells path n is; file = file })
      ] refl same
    ] refl h

pub record LeadsToDirectory (cells : Cells) (path : List (List ℕ)) (node : ℕ) : Type 0 where
  pub leads : LeadsTo cells path node
  pub directory : is_directory_at cells node ≡ true

pub directory_parts : (cells : Cells) (path : List (List ℕ)) (node : ℕ) → directory_at cells path ≡ Ok node → LeadsToDirectory cells path node
directory_parts cells path node h =
    elim (node_at cells path) as (λ r. node_at cells path ≡ r → and_then r (λ n. if is_directory_at cells n then Ok n else Err NotDir) ≡ Ok node → LeadsToDirectory cells path node) [
      | Err e ↦ λ _ clash. cc
      | Ok n ↦ λ is same. elim (is_directory_at cells n) as (λ b. is_directory_at cells n ≡ b → (if b then Ok n else Err NotDir) ≡ Ok node → LeadsToDirectory cells path node) [
        | true ↦ λ directory end. let alike : n ≡ node = cc in subst (LeadsToDirectory cells path) alike (record { leads = leads_to cells path n is; directory = directory })
        | false ↦ λ _ clash. cc
      ] refl same
    ] refl h

-- the key of a last name, in a directory
pub record IsLastName (cells : Cells) (path : List (List ℕ)) (key : Key) : Type 0 where
  pub directory : ℕ
  pub name : List ℕ
  pub front : List (List ℕ)
  pub is : key ≡ Name directory name
  pub all : path ≡ front ++ name ∷ []
  pub before : LeadsToDirectory cells front directory

split_last : (path : List (List ℕ)) → 0 < length path → path ≡ take (length path - 1) path ++ slice_index_or path (length path - 1) [] ∷ []
split_last path some =
    let last = length path - 1 in
    let none : drop (suc last) path ≡ [] = nil_from_length (drop (suc last) path) (length-drop (suc last) path ∙ omega (arith, some)) in
    sym (take-append-drop last path) ∙ ap (λ xs. take last path ++ xs) (drop-cons path last [] (omega (arith, some)) ∙ ap (λ xs. slice_index_or path last [] ∷ xs) none)

pub name_parts : (cells : Cells) (of_slash : Reply) (path : List (List ℕ)) (key : Key) → name_at cells of_slash path ≡ Ok key → IsLastName cells path key
name_parts cells of_slash [] key h = cc
name_parts cells of_slash (name ∷ names) key h = on (directory_at cells (take (length (name ∷ names) - 1) (name ∷ names))) refl h
  where
    on : (r : Result ℕ Reply) → directory_at cells (take (length (name ∷ names) - 1) (name ∷ names)) ≡ r → and_then r (λ directory. Ok (Name directory (slice_index_or (name ∷ names) (length (name ∷ names) - 1) []))) ≡ Ok key → IsLastName cells (name ∷ names) key
    on (Err e) is clash = cc
    on (Ok d) is same = record {
      directory = d;
      name = slice_index_or (name ∷ names) (length (name ∷ names) - 1) [];
      front = take (length (name ∷ names) - 1) (name ∷ names);
      is = cc;
      all = split_last (name ∷ names) (omega arith);
      before = directory_parts cells (take (length (name ∷ names) - 1) (name ∷ names)) d is;
    }

-- the last name of a path names the node that the path leads to
pub last_names : (cells : Cells) (path : List (List ℕ)) (key : Key) (node : ℕ) (last : IsLastName cells path key) → walk cells path ≡ Ok node → child_at cells last.directory last.name ≡ Some node
last_names cells path key node last leads =
    last_name last.front cells 0 last.directory node last.name last.before.leads.leads (ap (λ names. walk_from names cells 0) (sym last.all) ∙ leads)

pub record IsNewName (cells : Cells) (path : List (List ℕ)) (key : Key) : Type 0 where
  pub last : IsLastName cells path key
  pub new : map.contains_key cells key ≡ false

-- a new name is the key of a last name that isn't there
pub new_name_parts : (cells : Cells) (path : List (List ℕ)) (key : Key) → new_name_at cells path ≡ Ok key → IsNewName cells path key
new_name_parts cells path key h =
    elim (name_at cells Exists path) as (λ r. name_at cells Exists path ≡ r → and_then r (λ k. refuse_if (map.contains_key cells k) Exists (Ok k)) ≡ Ok key → IsNewName cells path key) [
      | Err e ↦ λ _ clash. cc
      | Ok k ↦ λ is same. elim (map.contains_key cells k) as (λ b. map.contains_key cells k ≡ b → refuse_if b Exists (Ok k) ≡ Ok key → IsNewName cells path key) [
        | true ↦ λ _ clash. cc
        | false ↦ λ none end. let alike : k ≡ key = cc in subst (IsNewName cells path) alike (record { last = name_parts cells Exists path k is; new = none })
      ] refl same
    ] refl h
