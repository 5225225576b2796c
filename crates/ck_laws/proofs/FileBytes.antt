-- Trees in which the size and the blocks of one file change, or its blocks go.
use Rattle.std.proofs.Common.{◌≡◌, ◌≢◌, ◌⊎◌, inl, inr, ◌<◌, ◌≤◌, ◌*◌, ◌/◌, ◌%◌, ℕ, true, false, Option, None, IsSomeAnd, is_some, Ok, List, [], ◌∷◌, get_or, sym, ap, subst, ◌∙◌, arith}
use Rattle.std.specs.Option.{option_and_then}
use Rattle.std.proofs.lemmas.Bool.{cases_eq}
use Rattle.std.specs.FinMap as map
use Rattle.ck_model.specs.declared.key.Key.TheVariants.{Name, Node, Block}
use Rattle.ck_model.specs.declared.cell.Cell.{Cell}
use Rattle.ck_model.specs.Cells.{Cells, bytes_in, is_directory_at, size_in, size_at}
use Rattle.ck_model.specs.Walk.{walk_from}
use Rattle.ck_model.specs.Contents.{block_byte, file_byte}
use Rattle.ck_laws.specs.Tree.{HasNode, child_at, IsTree, NodesBelow, IsGrown}
use Rattle.ck_laws.proofs.Walks.{walk_here, here_parts, step_parts, step_from}
use Rattle.ck_laws.proofs.Grafts.{IsGraft, grafted, some_and, same_child, same_directory, same_stands}

-- what a node has of blocks afterwards: the same, or none
pub data BlocksAfter (cells after : Cells) (m : ℕ) : Type 0 where
  stay : size_at after m ≡ size_at cells m → ((i : ℕ) → map.get after (Block m i) ≡ map.get cells (Block m i)) → BlocksAfter cells after m
  none : ((i : ℕ) → map.get after (Block m i) ≡ None) → BlocksAfter cells after m

pub same_byte : (cells after : Cells) (m i at : ℕ) → map.get after (Block m i) ≡ map.get cells (Block m i) → block_byte after m i at ≡ block_byte cells m i at
same_byte cells after m i at h = ap (λ o. get_or (bytes_in (option_and_then (λ (cell : Cell). cell.payload) o)) at 0) h

pub same_size : (cells after : Cells) (m : ℕ) → map.get after (Node m) ≡ map.get cells (Node m) → size_at after m ≡ size_at cells m
same_size cells after m h = ap (λ o. size_in (option_and_then (λ (cell : Cell). cell.payload) o)) h

pub no_byte : (cells : Cells) (m i at : ℕ) → map.get cells (Block m i) ≡ None → block_byte cells m i at ≡ 0
no_byte cells m i at h = ap (λ o. get_or (bytes_in (option_and_then (λ (cell : Cell). cell.payload) o)) at 0) h

module _ (cells after : Cells) (tree : IsTree cells) where
  blocks_stay : (m : ℕ) → BlocksAfter cells after m → (i : ℕ) → map.contains_key after (Block m i) ≡ true → i * 4096 < size_at after m
  blocks_stay m (stay size same) i stands = subst (λ n. i * 4096 < n) (sym size) (tree.blocks m i (sym (same_stands cells after (Block m i) (same i)) ∙ stands))
  blocks_stay m (none gone) i stands = let clash : map.contains_key after (Block m i) ≡ false = ap is_some (gone i) in cc

  zeros_stay : (m : ℕ) → BlocksAfter cells after m → (at : ℕ) → size_at after m ≤ at → file_byte after m at ≡ 0
  zeros_stay m (stay size same) at past = same_byte cells after m (at / 4096) (at % 4096) (same (at / 4096)) ∙ tree.zeros m at (subst (λ n. n ≤ at) size past)
  zeros_stay m (none gone) at past = no_byte after m (at / 4096) (at % 4096) (gone (at / 4096))

  -- where one node has another place or none
  pub grafted_with : (f : ℕ) (place : Option (ℕ × List ℕ)) → IsGraft cells after f place → ((m : ℕ) → BlocksAfter cells after m) → IsTree after
  grafted_with f place h blocks =
      grafted cells after f place tree h (λ m i stands. blocks_stay m (blocks m) i stands) (λ m at past. zeros_stay m (blocks m) at past)

  -- and its number was given already
  pub grafted-below : (f : ℕ) (place : Option (ℕ × List ℕ)) → IsGraft cells after f place → (next : ℕ) → NodesBelow next cells → f < next → NodesBelow next after
  grafted-below f place h next below low m stands = on (cases_eq m f)
    where
      on : (m ≡ f) ⊎ (m ≢ f) → m < next
      on (inl same) = omega (arith, same, low)
      on (inr other) = below m (sym (same_stands cells after (Node m) (h.nodes m other)) ∙ stands)

-- the names and the kinds of nodes stay
pub record KeepsNames (cells after : Cells) : Type 0 where
  pub names : (d : ℕ) (n : List ℕ) → map.get after (Name d n) ≡ map.get cells (Name d n)
  pub nodes : (m : ℕ) → map.contains_key after (Node m) ≡ map.contains_key cells (Node m)
  pub directories : (m : ℕ) → is_directory_at after m ≡ is_directory_at cells m

module _ (next : ℕ) (cells after : Cells) (before : IsGrown next cells) (h : KeepsNames cells after) where
  children_stay : (d : ℕ) (n : List ℕ) → child_at after d n ≡ child_at cells d n
  children_stay d n = same_child cells after d n (h.names d n)

  walks_stay : (names : List (List ℕ)) (from m : ℕ) → walk_from names cells from ≡ Ok m → walk_from names after from ≡ Ok m
  walks_stay [] from m leads =
      let here = here_parts cells from m leads in
      subst (λ x. walk_from [] after from ≡ Ok x) here.same (walk_here after from (h.nodes from ∙ here.stands))
  walks_stay (n ∷ names) from m leads =
      let step = step_parts cells from n names m leads in
      step_from after from n names step.child m
      (record {
        stands = h.nodes from ∙ step.enters.stands;
        directory = h.directories from ∙ step.enters.directory;
        names = children_stay from n ∙ step.enters.names;
      })
      (walks_stay names step.child m step.rest)

  -- what holds of blocks is to be shown beside this
  pub names_kept : ((node index : ℕ) → map.contains_key after (Block node index) ≡ true → index * 4096 < size_at after node)
      → ((node place : ℕ) → size_at after node ≤ place → file_byte after node place ≡ 0) → IsGrown next after
  names_kept blocks zeros = record {
    tree = record {
      root = h.directories 0 ∙ before.tree.root;
      directories = λ d n stands. h.directories d ∙ before.tree.directories d n (sym (same_stands cells after (Name d n) (h.names d n)) ∙ stands);
      children = λ d n stands.
          subst (λ o. IsSomeAnd o (λ m. (m ≢ 0) × HasNode after m)) (sym (children_stay d n))
          (some_and (λ m. (m ≢ 0) × HasNode cells m) (λ m. (m ≢ 0) × HasNode after m) (child_at cells d n) (λ m is both. (both.0, h.nodes m ∙ both.1))
          (before.tree.children d n (sym (same_stands cells after (Name d n) (h.names d n)) ∙ stands)));
      once = λ m d e n o first second. before.tree.once m d e n o (sym (children_stay d n) ∙ first) (sym (children_stay e o) ∙ second);
      reached = λ m stands. (let to = before.tree.reached m (sym (h.nodes m) ∙ stands) in record { path = to.path; leads = walks_stay to.path 0 m to.leads });
      blocks = blocks;
      zeros = zeros;
    };
    below = λ m stands. before.below m (sym (h.nodes m) ∙ stands);
  }

-- a file has another size or other blocks afterwards, and nothing else changes
pub record IsRewrite (cells after : Cells) (f : ℕ) : Type 0 where
  pub names : (d : ℕ) (n : List ℕ) → map.get after (Name d n) ≡ map.get cells (Name d n)
  pub nodes : (m : ℕ) → m ≢ f → map.get after (Node m) ≡ map.get cells (Node m)
  pub others : (m : ℕ) → m ≢ f → (i : ℕ) → map.get after (Block m i) ≡ map.get cells (Block m i)
  pub stood : HasNode cells f
  pub stands : HasNode after f
  pub was_file : is_directory_at cells f ≡ false
  pub file : is_directory_at after f ≡ false
  pub blocks : (i : ℕ) → map.contains_key after (Block f i) ≡ true → i * 4096 < size_at after f
  pub zeros : (at : ℕ) → size_at after f ≤ at → file_byte after f at ≡ 0

module _ (next : ℕ) (cells after : Cells) (f : ℕ) (before : IsGrown next cells) (h : IsRewrite cells after f) where
  nodes_stay : (m : ℕ) → map.contains_key after (Node m) ≡ map.contains_key cells (Node m)
  nodes_stay m = on (cases_eq m f)
    where
      on : (m ≡ f) ⊎ (m ≢ f) → map.contains_key after (Node m) ≡ map.contains_key cells (Node m)
      on (inl same) = subst (λ x. map.contains_key after (Node x) ≡ map.contains_key cells (Node x)) (sym same) (h.stands ∙ sym h.stood)
      on (inr other) = same_stands cells after (Node m) (h.nodes m other)

  directories_stay : (m : ℕ) → is_directory_at after m ≡ is_directory_at cells m
  directories_stay m = on (cases_eq m f)
    where
      on : (m ≡ f) ⊎ (m ≢ f) → is_directory_at after m ≡ is_directory_at cells m
      on (inl same) = subst (λ x. is_directory_at after x ≡ is_directory_at cells x) (sym same) (h.file ∙ sym h.was_file)
      on (inr other) = same_directory cells after m (h.nodes m other)

  others_stay : (m : ℕ) → m ≢ f → BlocksAfter cells after m
  others_stay m other = stay (same_size cells after m (h.nodes m other)) (h.others m other)

  blocks_of : (m i : ℕ) → map.contains_key after (Block m i) ≡ true → i * 4096 < size_at after m
  blocks_of m i stands = on (cases_eq m f)
    where
      on : (m ≡ f) ⊎ (m ≢ f) → i * 4096 < size_at after m
      on (inl same) = subst (λ x. i * 4096 < size_at after x) (sym same) (h.blocks i (subst (λ x. map.contains_key after (Block x i) ≡ true) same stands))
      on (inr other) = blocks_stay cells after before.tree m (others_stay m other) i stands

  zeros_of : (m at : ℕ) → size_at after m ≤ at → file_byte after m at ≡ 0
  zeros_of m at past = on (cases_eq m f)
    where
      on : (m ≡ f) ⊎ (m ≢ f) → file_byte after m at ≡ 0
      on (inl same) = subst (λ x. file_byte after x at ≡ 0) (sym same) (h.zeros at (subst (λ x. size_at after x ≤ at) same past))
      on (inr other) = zeros_stay cells after before.tree m (others_stay m other) at past

  pub rewritten : IsGrown next after
  rewritten = names_kept next cells after before (record { names = h.names; nodes = nodes_stay; directories = directories_stay }) blocks_of zeros_of
