-- A tree stays one where a node is made, removed or renamed.
use Rattle.std.proofs.Common.{◌≡◌, ◌≢◌, ◌⊎◌, inl, inr, ◌<◌, ℕ, ◌+◌, Bool, true, false, not, Option, Some, None, IsSomeAnd, is_some, List, nat_eq, if◌then◌else◌, refl, sym, ap, subst, ◌∙◌, arith, ne_eqb, eq-eqb}
use Rattle.std.specs.Option.{option_and_then}
use Rattle.std.proofs.lemmas.Bool.{cases_eq, false_from_ne_true}
use Rattle.std.specs.FinMap as map
use Rattle.ck_model.specs.declared.key.Key.{Key}
use Rattle.ck_model.specs.declared.key.Key.TheVariants.{Name, Node, Block}
use Rattle.ck_model.specs.declared.cell.Cell.{Cell}
use Rattle.ck_model.specs.declared.cell.Payload.{Payload}
use Rattle.ck_model.specs.declared.cell.Payload.TheVariants.{To}
use Rattle.ck_model.specs.Key.{is_of}
use Rattle.ck_model.specs.Cells.{Cells, named_node, size_in, is_directory_at, size_at}
use Rattle.ck_model.specs.Changes.{cell_of, with_node, without_file, without_directory, renamed}
use Rattle.ck_laws.specs.Tree.{HasNode, child_at, IsTree, NodesBelow, IsGrown}
use Rattle.ck_model.proofs.CellLaws.{get-retain_keys}
use Rattle.ck_laws.proofs.Lookups.{cases_key, get-insert_same, get-insert_other, get-remove_same, get-remove_other}
use Rattle.ck_laws.proofs.Walks.{directory_stands, child_stands}
use Rattle.ck_laws.proofs.Grafts.{NameAfter, stays, goes, comes, IsGraft, no_child}
use Rattle.ck_laws.proofs.FileBytes.{BlocksAfter, stay, none, grafted_with, grafted-below, same_size}

-- a name that names a node names it once
only_name : (cells : Cells) → IsTree cells → (d : ℕ) (n : List ℕ) (f : ℕ) → child_at cells d n ≡ Some f → (e : ℕ) (o : List ℕ) → Name e o ≢ Name d n → child_at cells e o ≢ Some f
only_name cells tree d n f named e o apart same =
    let one = tree.once f d e n o named same in
    apart (λ i. Name (sym one.0 i) (sym one.1 i))

-- a node without a name in it, as one that is no directory
no_names : (cells : Cells) → IsTree cells → (f : ℕ) → (is_directory_at cells f ≡ true → ⊥) → (n : List ℕ) → map.contains_key cells (Name f n) ≡ false
no_names cells tree f file n = false_from_ne_true (map.contains_key cells (Name f n)) (λ stands. file (tree.directories f n stands))

-- a named node isn't the root
not_root : (cells : Cells) → IsTree cells → (d : ℕ) (n : List ℕ) (f : ℕ) → child_at cells d n ≡ Some f → f ≢ 0
not_root cells tree d n f named = on (child_at cells d n) named (tree.children d n (child_stands cells d n f named))
  where
    on : (o : Option ℕ) → o ≡ Some f → IsSomeAnd o (λ m. (m ≢ 0) × HasNode cells m) → f ≢ 0
    on None clash h = cc
    on (Some m) same h = let is : m ≡ f = cc in subst (λ x. x ≢ 0) is h.0

node_apart : (m f : ℕ) → m ≢ f → Node m ≢ Node f
node_apart m f apart same = apart (cc)

-- a node that isn't there has no blocks
no_blocks : (cells : Cells) → IsTree cells → (f : ℕ) → size_at cells f ≡ 0 → (i : ℕ) → map.get cells (Block f i) ≡ None
no_blocks cells tree f size i =
    elim (map.get cells (Block f i)) as (λ o. map.get cells (Block f i) ≡ o → o ≡ None) [
      | None ↦ λ _. refl
      | Some cell ↦ λ is. let low = tree.blocks f i (ap is_some is) in absurd (omega (arith, low, size))
    ] refl

no_size : (cells : Cells) (f : ℕ) → map.contains_key cells (Node f) ≡ false → size_at cells f ≡ 0
no_size cells f h =
    elim (map.get cells (Node f)) as (λ o. is_some o ≡ false → size_in (option_and_then (λ (cell : Cell). cell.payload) o) ≡ 0) [
      | None ↦ λ _. refl
      | Some cell ↦ λ clash. cc
    ] h

-- ---- a new node

module _ (cells : Cells) (tree : IsTree cells) (stamp d : ℕ) (n : List ℕ) (f : ℕ) (payload : Payload)
    (directory : is_directory_at cells d ≡ true) (free : map.contains_key cells (Name d n) ≡ false) (fresh : map.contains_key cells (Node f) ≡ false)
    (empty : size_in (Some payload) ≡ 0) where
  abbrev made_cells : Cells
  made_cells = with_node cells stamp (Name d n) f payload

  abbrev with_its_node : Cells
  with_its_node = map.insert cells (Node f) (cell_of stamp payload)

  made-name : map.get made_cells (Name d n) ≡ Some (cell_of stamp (To f))
  made-name = get-insert_same with_its_node (Name d n) (cell_of stamp (To f))

  made-node : map.get made_cells (Node f) ≡ Some (cell_of stamp payload)
  made-node =
      get-insert_other with_its_node (Name d n) (cell_of stamp (To f)) (Node f) (λ clash. cc)
      ∙ get-insert_same cells (Node f) (cell_of stamp payload)

  made-other : (q : Key) → q ≢ Name d n → q ≢ Node f → map.get made_cells q ≡ map.get cells q
  made-other q not_name not_node =
      get-insert_other with_its_node (Name d n) (cell_of stamp (To f)) q not_name
      ∙ get-insert_other cells (Node f) (cell_of stamp payload) q not_node

  fresh_clash : HasNode cells f → ⊥
  fresh_clash stands = cc

  made-graft : IsGraft cells made_cells f (Some (d, n))
  made-graft = record {
    below_root = λ e. fresh_clash (subst (HasNode cells) (sym e) (directory_stands cells 0 tree.root));
    leaf = no_names cells tree f (λ is. fresh_clash (directory_stands cells f is));
    nodes = λ m other. made-other (Node m) (λ clash. cc) (node_apart m f other);
    names = names;
    placed = record {
      stands = ap is_some made-node;
      named = ap (λ o. named_node (option_and_then (λ (cell : Cell). cell.payload) o)) made-name;
      directory = directory;
      other = λ e. fresh_clash (subst (HasNode cells) e (directory_stands cells d directory));
    };
  }
    where
      not_named : (e : ℕ) (o : List ℕ) → child_at cells e o ≢ Some f
      not_named e o is = on (child_at cells e o) is (tree.children e o (child_stands cells e o f is))
        where
          on : (c : Option ℕ) → c ≡ Some f → IsSomeAnd c (λ m. (m ≢ 0) × HasNode cells m) → ⊥
          on None clash h = cc
          on (Some m) same h = let is : m ≡ f = cc in fresh_clash (subst (HasNode cells) is h.1)

      no_cell : (o : Option Cell) → is_some o ≡ false → o ≡ None
      no_cell None h = refl
      no_cell (Some c) h = cc

      names : (e : ℕ) (o : List ℕ) → NameAfter cells made_cells f (Some (d, n)) e o
      names e o = on (cases_key (Name e o) (Name d n))
        where
          on : (Name e o ≡ Name d n) ⊎ (Name e o ≢ Name d n) → NameAfter cells made_cells f (Some (d, n)) e o
          on (inl same) =
              let one : d ≡ e = cc in
              let other : n ≡ o = cc in
              comes (λ i. Some (one i, other i)) (ap (λ o. named_node (option_and_then (λ (cell : Cell). cell.payload) o)) (ap (map.get made_cells) same ∙ made-name))
              (no_child cells e o (ap (map.get cells) same ∙ no_cell (map.get cells (Name d n)) free))
          on (inr apart) = stays (made-other (Name e o) apart (λ clash. cc)) (not_named e o)

  made-blocks : (m : ℕ) → BlocksAfter cells made_cells m
  made-blocks m = on (cases_eq m f)
    where
      on : (m ≡ f) ⊎ (m ≢ f) → BlocksAfter cells made_cells m
      on (inl same) = none (λ i. made-other (Block m i) (λ clash. cc) (λ clash. cc) ∙ no_blocks cells tree m (subst (λ x. size_at cells x ≡ 0) (sym same) (no_size cells f fresh)) i)
      on (inr other) = stay (same_size cells made_cells m (made-other (Node m) (λ clash. cc) (node_apart m f other))) (λ i. made-other (Block m i) (λ clash. cc) (λ clash. cc))

  made-tree : IsTree made_cells
  made-tree = grafted_with cells made_cells tree f (Some (d, n)) made-graft made-blocks

  made-below : NodesBelow f cells → NodesBelow (f + 1) made_cells
  made-below below m stands = on (cases_eq m f)
    where
      on : (m ≡ f) ⊎ (m ≢ f) → m < f + 1
      on (inl same) = omega arith
      on (inr other) =
          let low = below m (sym (ap is_some (made-other (Node m) (λ clash. cc) (node_apart m f other))) ∙ stands) in
          omega (arith, low)

  pub with_node-grown : NodesBelow f cells → IsGrown (f + 1) (with_node cells stamp (Name d n) f payload)
  with_node-grown below = record { tree = made-tree; below = made-below below }

-- ---- a file that is removed

module _ (cells : Cells) (tree : IsTree cells) (d : ℕ) (n : List ℕ) (f : ℕ)
    (named : child_at cells d n ≡ Some f) (file : is_directory_at cells f ≡ false) where
  abbrev removed_cells : Cells
  removed_cells = without_file cells (Name d n) f

  removed-name : map.get removed_cells (Name d n) ≡ None
  removed-name = get-remove_same (map.retain_keys cells (λ key. not (is_of f key))) (Name d n)

  removed-other : (q : Key) → q ≢ Name d n → map.get removed_cells q ≡ (if not (is_of f q) then map.get cells q else None)
  removed-other q apart =
      get-remove_other (map.retain_keys cells (λ key. not (is_of f key))) (Name d n) q apart
      ∙ get-retain_keys cells (λ key. not (is_of f key)) q

  kept : (b : Bool) (o : Option Cell) → b ≡ false → (if not b then o else None) ≡ o
  kept b o h = ap (λ x. if not x then o else None) h

  gone : (b : Bool) (o : Option Cell) → b ≡ true → (if not b then o else None) ≡ None
  gone b o h = ap (λ x. if not x then o else None) h

  removed-nodes : (m : ℕ) → m ≢ f → map.get removed_cells (Node m) ≡ map.get cells (Node m)
  removed-nodes m other = removed-other (Node m) (λ clash. cc) ∙ kept (nat_eq m f) (map.get cells (Node m)) (ne_eqb m f other)

  removed-graft : IsGraft cells removed_cells f None
  removed-graft = record {
    below_root = not_root cells tree d n f named;
    leaf = no_names cells tree f (λ is. (cc));
    nodes = removed-nodes;
    names = names;
    placed = ap is_some (removed-other (Node f) (λ clash. cc) ∙ gone (nat_eq f f) (map.get cells (Node f)) (eq-eqb f f refl));
  }
    where
      names : (e : ℕ) (o : List ℕ) → NameAfter cells removed_cells f None e o
      names e o = on (cases_key (Name e o) (Name d n))
        where
          on : (Name e o ≡ Name d n) ⊎ (Name e o ≢ Name d n) → NameAfter cells removed_cells f None e o
          on (inl same) =
              let one : d ≡ e = cc in
              let other : n ≡ o = cc in
              goes (ap (map.get removed_cells) same ∙ removed-name) ((λ i. child_at cells (sym one i) (sym other i)) ∙ named)
          on (inr apart) = stays (removed-other (Name e o) apart) (only_name cells tree d n f named e o apart)

  removed-blocks : (m : ℕ) → BlocksAfter cells removed_cells m
  removed-blocks m = on (cases_eq m f)
    where
      on : (m ≡ f) ⊎ (m ≢ f) → BlocksAfter cells removed_cells m
      on (inl same) = none (λ i. removed-other (Block m i) (λ clash. cc) ∙ gone (nat_eq m f) (map.get cells (Block m i)) (eq-eqb m f same))
      on (inr other) = stay (same_size cells removed_cells m (removed-nodes m other)) (λ i. removed-other (Block m i) (λ clash. cc) ∙ kept (nat_eq m f) (map.get cells (Block m i)) (ne_eqb m f other))

  pub without_file-grown : (next : ℕ) → NodesBelow next cells → HasNode cells f → IsGrown next (without_file cells (Name d n) f)
  without_file-grown next below stands = record {
    tree = grafted_with cells removed_cells tree f None removed-graft removed-blocks;
    below = grafted-below cells removed_cells tree f None removed-graft next below (below f stands);
  }

-- ---- a directory that is removed

module _ (cells : Cells) (tree : IsTree cells) (d : ℕ) (n : List ℕ) (f : ℕ)
    (named : child_at cells d n ≡ Some f) (empty : (o : List ℕ) → map.contains_key cells (Name f o) ≡ false) (sizeless : size_at cells f ≡ 0) where
  abbrev pruned_cells : Cells
  pruned_cells = without_directory cells (Name d n) f

  pruned-other : (q : Key) → q ≢ Name d n → q ≢ Node f → map.get pruned_cells q ≡ map.get cells q
  pruned-other q not_name not_node =
      get-remove_other (map.remove cells (Node f)) (Name d n) q not_name
      ∙ get-remove_other cells (Node f) q not_node

  pruned-graft : IsGraft cells pruned_cells f None
  pruned-graft = record {
    below_root = not_root cells tree d n f named;
    leaf = empty;
    nodes = λ m other. pruned-other (Node m) (λ clash. cc) (node_apart m f other);
    names = names;
    placed = ap is_some (get-remove_other (map.remove cells (Node f)) (Name d n) (Node f) (λ clash. cc) ∙ get-remove_same cells (Node f));
  }
    where
      names : (e : ℕ) (o : List ℕ) → NameAfter cells pruned_cells f None e o
      names e o = on (cases_key (Name e o) (Name d n))
        where
          on : (Name e o ≡ Name d n) ⊎ (Name e o ≢ Name d n) → NameAfter cells pruned_cells f None e o
          on (inl same) =
              let one : d ≡ e = cc in
              let other : n ≡ o = cc in
              goes (ap (map.get pruned_cells) same ∙ get-remove_same (map.remove cells (Node f)) (Name d n)) ((λ i. child_at cells (sym one i) (sym other i)) ∙ named)
          on (inr apart) = stays (pruned-other (Name e o) apart (λ clash. cc)) (only_name cells tree d n f named e o apart)

  pruned-blocks : (m : ℕ) → BlocksAfter cells pruned_cells m
  pruned-blocks m = on (cases_eq m f)
    where
      on : (m ≡ f) ⊎ (m ≢ f) → BlocksAfter cells pruned_cells m
      on (inl same) = none (λ i. pruned-other (Block m i) (λ clash. cc) (λ clash. cc) ∙ no_blocks cells tree m (subst (λ x. size_at cells x ≡ 0) (sym same) sizeless) i)
      on (inr other) = stay (same_size cells pruned_cells m (pruned-other (Node m) (λ clash. cc) (node_apart m f other))) (λ i. pruned-other (Block m i) (λ clash. cc) (λ clash. cc))

  pub without_directory-grown : (next : ℕ) → NodesBelow next cells → HasNode cells f → IsGrown next (without_directory cells (Name d n) f)
  without_directory-grown next below stands = record {
    tree = grafted_with cells pruned_cells tree f None pruned-graft pruned-blocks;
    below = grafted-below cells pruned_cells tree f None pruned-graft next below (below f stands);
  }

-- ---- a file that gets another name

module _ (cells : Cells) (tree : IsTree cells) (stamp d : ℕ) (n : List ℕ) (e : ℕ) (o : List ℕ) (f : ℕ)
    (named : child_at cells d n ≡ Some f) (file : is_directory_at cells f ≡ false) (stands : HasNode cells f)
    (directory : is_directory_at cells e ≡ true) (free : map.contains_key cells (Name e o) ≡ false) where
  abbrev moved_cells : Cells
  moved_cells = renamed cells stamp (Name d n) (Name e o) f

  moved-name : map.get moved_cells (Name e o) ≡ Some (cell_of stamp (To f))
  moved-name = get-insert_same (map.remove cells (Name d n)) (Name e o) (cell_of stamp (To f))

  moved-other : (q : Key) → q ≢ Name d n → q ≢ Name e o → map.get moved_cells q ≡ map.get cells q
  moved-other q not_from not_to =
      get-insert_other (map.remove cells (Name d n)) (Name e o) (cell_of stamp (To f)) q not_to
      ∙ get-remove_other cells (Name d n) q not_from

  moved-from : Name d n ≢ Name e o → map.get moved_cells (Name d n) ≡ None
  moved-from apart =
      get-insert_other (map.remove cells (Name d n)) (Name e o) (cell_of stamp (To f)) (Name d n) apart
      ∙ get-remove_same cells (Name d n)

  moved-nodes : (m : ℕ) → map.get moved_cells (Node m) ≡ map.get cells (Node m)
  moved-nodes m = moved-other (Node m) (λ clash. cc) (λ clash. cc)

  moved-graft : IsGraft cells moved_cells f (Some (e, o))
  moved-graft = record {
    below_root = not_root cells tree d n f named;
    leaf = no_names cells tree f (λ is. (cc));
    nodes = λ m _. moved-nodes m;
    names = names;
    placed = record {
      stands = ap is_some (moved-nodes f) ∙ stands;
      named = ap (λ c. named_node (option_and_then (λ (cell : Cell). cell.payload) c)) moved-name;
      directory = directory;
      other = λ same. (let clash : is_directory_at cells f ≡ true = subst (λ x. is_directory_at cells x ≡ true) same directory in cc);
    };
  }
    where
      no_cell : (c : Option Cell) → is_some c ≡ false → c ≡ None
      no_cell None h = refl
      no_cell (Some c) h = cc

      names : (g : ℕ) (p : List ℕ) → NameAfter cells moved_cells f (Some (e, o)) g p
      names g p = on (cases_key (Name g p) (Name e o)) (cases_key (Name g p) (Name d n))
        where
          on : (Name g p ≡ Name e o) ⊎ (Name g p ≢ Name e o) → (Name g p ≡ Name d n) ⊎ (Name g p ≢ Name d n) → NameAfter cells moved_cells f (Some (e, o)) g p
          on (inl same) _ =
              let one : e ≡ g = cc in
              let other : o ≡ p = cc in
              comes (λ i. Some (one i, other i)) (ap (λ c. named_node (option_and_then (λ (cell : Cell). cell.payload) c)) (ap (map.get moved_cells) same ∙ moved-name))
              (no_child cells g p (ap (map.get cells) same ∙ no_cell (map.get cells (Name e o)) free))
          on (inr apart) (inl same) =
              let one : d ≡ g = cc in
              let other : n ≡ p = cc in
              goes (ap (map.get moved_cells) same ∙ moved-from (λ is. apart (same ∙ is))) ((λ i. child_at cells (sym one i) (sym other i)) ∙ named)
          on (inr apart) (inr also) = stays (moved-other (Name g p) also apart) (only_name cells tree d n f named g p also)

  moved-tree : IsTree moved_cells
  moved-tree = grafted_with cells moved_cells tree f (Some (e, o)) moved-graft (λ m. stay (same_size cells moved_cells m (moved-nodes m)) (λ i. moved-other (Block m i) (λ clash. cc) (λ clash. cc)))

  pub renamed-grown : (next : ℕ) → NodesBelow next cells → IsGrown next (renamed cells stamp (Name d n) (Name e o) f)
  renamed-grown next below = record { tree = moved-tree; below = λ m there. below m (sym (ap is_some (moved-nodes m)) ∙ there) }
