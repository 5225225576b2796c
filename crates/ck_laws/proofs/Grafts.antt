-- Trees in which one node comes, goes or gets another name.
use Rattle.std.proofs.Common.{◌≡◌, ◌≢◌, ◌⊎◌, inl, inr, ℕ, true, false, Option, Some, None, IsSomeAnd, MatchOption, is_some, Ok, List, [], ◌∷◌, ◌++◌, refl, sym, ap, subst, ◌∙◌, ◌<◌, ◌≤◌, ◌*◌}
use Rattle.std.specs.Option.{option_and_then}
use Rattle.std.proofs.lemmas.Bool.{cases_eq}
use Rattle.std.specs.FinMap as map
use Rattle.ck_model.specs.declared.key.Key.{Key}
use Rattle.ck_model.specs.declared.key.Key.TheVariants.{Name, Node, Block}
use Rattle.ck_model.specs.declared.cell.Cell.{Cell}
use Rattle.ck_model.specs.Cells.{Cells, named_node, is_directory, is_directory_at, size_at}
use Rattle.ck_model.specs.Walk.{walk_from}
use Rattle.ck_model.specs.Contents.{file_byte}
use Rattle.ck_laws.specs.Tree.{HasName, HasNode, child_at, IsReached, IsTree}
use Rattle.ck_laws.proofs.Walks.{directory_stands, child_stands, walk_here, here_parts, step_parts, step_from, walk_further}

pub some_and : {A : Type 0} (P Q : A → Type 0) (o : Option A) → ((x : A) → o ≡ Some x → P x → Q x) → IsSomeAnd o P → IsSomeAnd o Q
some_and P Q None step h = h
some_and P Q (Some x) step h = step x refl h

pub same_child : (cells after : Cells) (d : ℕ) (n : List ℕ) → map.get after (Name d n) ≡ map.get cells (Name d n) → child_at after d n ≡ child_at cells d n
same_child cells after d n h = ap (λ o. named_node (option_and_then (λ (cell : Cell). cell.payload) o)) h

pub no_child : (cells : Cells) (d : ℕ) (n : List ℕ) → map.get cells (Name d n) ≡ None → child_at cells d n ≡ None
no_child cells d n h = ap (λ o. named_node (option_and_then (λ (cell : Cell). cell.payload) o)) h

pub same_directory : (cells after : Cells) (m : ℕ) → map.get after (Node m) ≡ map.get cells (Node m) → is_directory_at after m ≡ is_directory_at cells m
same_directory cells after m h = ap (λ o. is_directory (option_and_then (λ (cell : Cell). cell.payload) o)) h

pub same_stands : (cells after : Cells) (q : Key) → map.get after q ≡ map.get cells q → map.contains_key after q ≡ map.contains_key cells q
same_stands cells after q h = ap is_some h

-- what becomes of a name where node f alone has another place
pub data NameAfter (cells after : Cells) (f : ℕ) (place : Option (ℕ × List ℕ)) (d : ℕ) (n : List ℕ) : Type 0 where
  stays : map.get after (Name d n) ≡ map.get cells (Name d n) → child_at cells d n ≢ Some f → NameAfter cells after f place d n
  goes : map.get after (Name d n) ≡ None → child_at cells d n ≡ Some f → NameAfter cells after f place d n
  comes : place ≡ Some (d, n) → child_at after d n ≡ Some f → child_at cells d n ≡ None → NameAfter cells after f place d n

-- node f has this place afterwards
pub record IsPlaced (cells after : Cells) (f : ℕ) (place : ℕ × List ℕ) : Type 0 where
  pub stands : HasNode after f
  pub named : child_at after place.0 place.1 ≡ Some f
  pub directory : is_directory_at cells place.0 ≡ true
  pub other : place.0 ≢ f

-- node f, without names in it, has another place or none afterwards, and nothing else changes
pub record IsGraft (cells after : Cells) (f : ℕ) (place : Option (ℕ × List ℕ)) : Type 0 where
  pub below_root : f ≢ 0
  pub leaf : (n : List ℕ) → map.contains_key cells (Name f n) ≡ false
  pub nodes : (m : ℕ) → m ≢ f → map.get after (Node m) ≡ map.get cells (Node m)
  pub names : (d : ℕ) (n : List ℕ) → NameAfter cells after f place d n
  pub placed : MatchOption place (map.contains_key after (Node f) ≡ false) (IsPlaced cells after f)

module _ (cells after : Cells) (f : ℕ) (place : Option (ℕ × List ℕ)) (tree : IsTree cells) (h : IsGraft cells after f place) where
  placed_at : (p : ℕ × List ℕ) → place ≡ Some p → IsPlaced cells after f p
  placed_at p at = subst (λ o. MatchOption o (map.contains_key after (Node f) ≡ false) (IsPlaced cells after f)) at h.placed

  holds_names : (d : ℕ) (n : List ℕ) → HasName cells d n → d ≢ f
  holds_names d n stands same = let none : map.contains_key cells (Name d n) ≡ false = subst (λ x. map.contains_key cells (Name x n) ≡ false) (sym same) (h.leaf n) in cc

  directories_after : (d : ℕ) (n : List ℕ) → HasName after d n → is_directory_at after d ≡ true
  directories_after d n stands = on (h.names d n)
    where
      on : NameAfter cells after f place d n → is_directory_at after d ≡ true
      on (stays same _) =
          let before : HasName cells d n = sym (same_stands cells after (Name d n) same) ∙ stands in
          same_directory cells after d (h.nodes d (holds_names d n before)) ∙ tree.directories d n before
      on (goes none _) = let clash : map.contains_key after (Name d n) ≡ false = ap is_some none in cc
      on (comes at _ _) = let p = placed_at (d, n) at in same_directory cells after d (h.nodes d p.other) ∙ p.directory

  children_after : (d : ℕ) (n : List ℕ) → HasName after d n → IsSomeAnd (child_at after d n) (λ m. (m ≢ 0) × HasNode after m)
  children_after d n stands = on (h.names d n)
    where
      on : NameAfter cells after f place d n → IsSomeAnd (child_at after d n) (λ m. (m ≢ 0) × HasNode after m)
      on (stays same other) =
          let before : HasName cells d n = sym (same_stands cells after (Name d n) same) ∙ stands in
          subst (λ o. IsSomeAnd o (λ m. (m ≢ 0) × HasNode after m)) (sym (same_child cells after d n same))
          (some_and (λ m. (m ≢ 0) × HasNode cells m) (λ m. (m ≢ 0) × HasNode after m) (child_at cells d n) (λ m is both.
          (both.0, same_stands cells after (Node m) (h.nodes m (λ e. other (is ∙ ap Some e))) ∙ both.1))
          (tree.children d n before))
      on (goes none _) = let clash : map.contains_key after (Name d n) ≡ false = ap is_some none in cc
      on (comes at named _) =
          subst (λ o. IsSomeAnd o (λ m. (m ≢ 0) × HasNode after m)) (sym named) (h.below_root, (placed_at (d, n) at).stands)

  once_after : (m d e : ℕ) (n o : List ℕ) → child_at after d n ≡ Some m → child_at after e o ≡ Some m → (d ≡ e) × (n ≡ o)
  once_after m d e n o first second = on (h.names d n) (h.names e o)
    where
      some_injective : (x y : ℕ × List ℕ) → ◌≡◌ {A = Option (ℕ × List ℕ)} (Some x) (Some y) → x ≡ y
      some_injective x y e = cc

      on : NameAfter cells after f place d n → NameAfter cells after f place e o → (d ≡ e) × (n ≡ o)
      on (goes none _) _ = let clash : child_at after d n ≡ None = no_child after d n none in cc
      on (stays _ _) (goes none _) = let clash : child_at after e o ≡ None = no_child after e o none in cc
      on (comes _ _ _) (goes none _) = let clash : child_at after e o ≡ None = no_child after e o none in cc
      on (stays same _) (stays again _) =
          tree.once m d e n o (sym (same_child cells after d n same) ∙ first) (sym (same_child cells after e o again) ∙ second)
      on (stays same other) (comes _ named _) =
          absurd (other (sym (same_child cells after d n same) ∙ first ∙ sym second ∙ named))
      on (comes _ named _) (stays same other) =
          absurd (other (sym (same_child cells after e o same) ∙ second ∙ sym first ∙ named))
      on (comes at _ _) (comes again _ _) =
          let both : (d, n) ≡ (e, o) = some_injective (d, n) (e, o) (sym at ∙ again) in
          (ap (λ x. x.0) both, ap (λ x. x.1) both)

  -- from a node without names in it no walk leads further
  ends_at_leaf : (names : List (List ℕ)) (m : ℕ) → walk_from names cells f ≡ Ok m → f ≡ m
  ends_at_leaf [] m leads = (here_parts cells f m leads).same
  ends_at_leaf (n ∷ names) m leads =
      let step = step_parts cells f n names m leads in
      let stands = child_stands cells f n step.child step.enters.names in
      absurd (holds_names f n stands refl)

  -- walks that don't lead to node f stay
  walk_stays : (names : List (List ℕ)) (from m : ℕ) → m ≢ f → walk_from names cells from ≡ Ok m → walk_from names after from ≡ Ok m
  walk_stays [] from m other leads =
      let here = here_parts cells from m leads in
      let apart : from ≢ f = λ e. other (sym here.same ∙ e) in
      subst (λ x. walk_from [] after from ≡ Ok x) here.same (walk_here after from (same_stands cells after (Node from) (h.nodes from apart) ∙ here.stands))
  walk_stays (n ∷ names) from m other leads =
      let step = step_parts cells from n names m leads in
      let apart : from ≢ f = holds_names from n (child_stands cells from n step.child step.enters.names) in
      let child_apart : step.child ≢ f = λ e. other (sym (ends_at_leaf names m (subst (λ c. walk_from names cells c ≡ Ok m) e step.rest))) in
      step_from after from n names step.child m
      (record {
        stands = same_stands cells after (Node from) (h.nodes from apart) ∙ step.enters.stands;
        directory = same_directory cells after from (h.nodes from apart) ∙ step.enters.directory;
        names = child_stays from n step.child child_apart step.enters.names;
      })
      (walk_stays names step.child m other step.rest)
    where
      child_stays : (d : ℕ) (n : List ℕ) (c : ℕ) → c ≢ f → child_at cells d n ≡ Some c → child_at after d n ≡ Some c
      child_stays d n c apart is = on (h.names d n)
        where
          on : NameAfter cells after f place d n → child_at after d n ≡ Some c
          on (stays same _) = same_child cells after d n same ∙ is
          on (goes _ clash) = let same : c ≡ f = cc in absurd (apart same)
          on (comes _ _ none) = cc

  reached_after : (m : ℕ) → HasNode after m → IsReached after m
  reached_after m stands = on (cases_eq m f)
    where
      placed_reached : (o : Option (ℕ × List ℕ)) → place ≡ o → m ≡ f → IsReached after m
      placed_reached None at same =
          let gone : map.contains_key after (Node f) ≡ false = subst (λ o. MatchOption o (map.contains_key after (Node f) ≡ false) (IsPlaced cells after f)) at h.placed in
          let there : map.contains_key after (Node f) ≡ true = subst (HasNode after) same stands in
          cc
      placed_reached (Some p) at same =
          let placed = placed_at p at in
          let to = tree.reached p.0 (directory_stands cells p.0 placed.directory) in
          let walks = walk_stays to.path 0 p.0 placed.other to.leads in
          let directory = same_directory cells after p.0 (h.nodes p.0 placed.other) ∙ placed.directory in
          subst (IsReached after) (sym same) (record {
            path = to.path ++ p.1 ∷ [];
            leads = walk_further to.path after 0 p.0 p.1 f walks
                (record { stands = directory_stands after p.0 directory; directory = directory; names = placed.named })
                placed.stands;
          })

      on : (m ≡ f) ⊎ (m ≢ f) → IsReached after m
      on (inl same) = placed_reached place refl same
      on (inr other) =
          let to = tree.reached m (sym (same_stands cells after (Node m) (h.nodes m other)) ∙ stands) in
          record { path = to.path; leads = walk_stays to.path 0 m other to.leads }

  pub root_after : is_directory_at after 0 ≡ true
  root_after = same_directory cells after 0 (h.nodes 0 (λ e. h.below_root (sym e))) ∙ tree.root

  -- what holds of blocks is to be shown beside this
  pub grafted : ((node index : ℕ) → map.contains_key after (Block node index) ≡ true → index * 4096 < size_at after node)
      → ((node at : ℕ) → size_at after node ≤ at → file_byte after node at ≡ 0) → IsTree after
  grafted blocks zeros = record {
    root = root_after;
    directories = directories_after;
    children = children_after;
    once = λ m d e n o first second. once_after m d e n o first second;
    reached = reached_after;
    blocks = blocks;
    zeros = zeros;
  }
