-- Every call and every legal history keep the tree rule.
use Rattle.std.proofs.Common.{◌≡◌, ◌≢◌, ◌≤◌, ◌⊎◌, inl, inr, ℕ, ◌<◌, ◌*◌, ◌/◌, ◌%◌, true, false, not, Some, None, Option, is_some, List, [], ◌∷◌, get_or, Ok, refl, sym, ap, subst, ◌∙◌, arith, option_map}
use Rattle.std.specs.List.{AllByRecursion}
use Rattle.std.specs.Option.{option_and_then}
use Rattle.std.specs.FinMap as map
use Rattle.std.proofs.lemmas.Bool.{cases_eq}
use Rattle.ck_model.specs.declared.key.Key.{Key}
use Rattle.ck_model.specs.declared.key.Key.TheVariants.{Name, Node, Block}
use Rattle.ck_model.specs.declared.cell.Cell.{Cell}
use Rattle.ck_model.specs.declared.cell.Payload.TheVariants.{File, Dir}
use Rattle.ck_model.specs.declared.checkpoint.Kind.{Kind}
use Rattle.ck_model.specs.declared.checkpoint.Kind.TheVariants.{Keeping, Nodata}
use Rattle.ck_model.specs.declared.entry.Entry.{Entry}
use Rattle.ck_model.specs.declared.reply.Reply.TheVariants.{NoCkpt, NotData}
use Rattle.ck_model.specs.Key.{key_cmp}
use Rattle.ck_model.specs.Cells.{Cells, bytes_in, mark_of, marked, is_directory}
use Rattle.ck_model.specs.Walk.{walk_from}
use Rattle.ck_model.specs.Contents.{block_byte}
use Rattle.ck_model.specs.Changes.{cell_of}
use Rattle.ck_model.specs.World.{World, Checkpoint, root_cells, keeps_files, is_named, shown_by}
use Rattle.ck_model.specs.Streams.{Texts}
use Rattle.ck_model.specs.CheckpointCalls.{checkpoint_named, restored}
use Rattle.ck_model.specs.Step.{step}
use Rattle.ck_model.specs.History.{Past, CallsBy, begun, created_id, past_after, past_of, IsLegalFrom}
use Rattle.ck_laws.specs.Tree.{HasName, HasNode, IsGrown}
use Rattle.ck_laws.specs.Laws.{IsOrdered, HasTrees, TreesBegin, CallsKeepTrees, TreesStay}
use Rattle.ck_model.proofs.CellLaws.{get-marked}
use Rattle.ck_laws.proofs.Lookups.{get-insert_same, get-insert_other}
use Rattle.ck_laws.proofs.WorldLemmas.{IsLater, All-remain, All-append}
use Rattle.ck_laws.proofs.StepLemmas.{Adds, step-sound}
use Rattle.ck_laws.proofs.HistoryLemmas.{past_after-adds}
use Rattle.ck_laws.proofs.LawsLemmas.{IsOrdered-adds}
use Rattle.ck_laws.proofs.Grafts.{same_directory}
use Rattle.ck_laws.proofs.Walks.{child_stands, walk_here}
use Rattle.ck_laws.proofs.FileBytes.{no_byte, same_size, names_kept}
use Rattle.ck_laws.proofs.Primaries.{Leaves, LeavesPrimary, then-given, unless, found_of, Primaries, step-primary, past_after-primary}
use Rattle.ck_laws.proofs.TreeCalls.{GrowsFrom, made-grows, removed-grows, removed_directory-grows, moved-grows, overwritten-grows, truncated-grows}

-- ---- marks in place of blocks

unmarked_name : (cells : Cells) (d : ℕ) (n : List ℕ) → map.get (marked cells) (Name d n) ≡ map.get cells (Name d n)
unmarked_name cells d n =
    get-marked cells (Name d n)
    ∙ elim (map.get cells (Name d n)) as (λ o. option_map (mark_of (Name d n)) o ≡ o) [ None ↦ refl | Some cell ↦ refl ]

unmarked_node : (cells : Cells) (m : ℕ) → map.get (marked cells) (Node m) ≡ map.get cells (Node m)
unmarked_node cells m =
    get-marked cells (Node m)
    ∙ elim (map.get cells (Node m)) as (λ o. option_map (mark_of (Node m)) o ≡ o) [ None ↦ refl | Some cell ↦ refl ]

marked_stands : (cells : Cells) (m i : ℕ) → map.contains_key (marked cells) (Block m i) ≡ map.contains_key cells (Block m i)
marked_stands cells m i =
    ap is_some (get-marked cells (Block m i))
    ∙ elim (map.get cells (Block m i)) as (λ o. is_some (option_map (mark_of (Block m i)) o) ≡ is_some o) [ None ↦ refl | Some cell ↦ refl ]

marked_zero : (cells : Cells) (m i at : ℕ) → block_byte (marked cells) m i at ≡ 0
marked_zero cells m i at =
    ap (λ o. get_or (bytes_in (option_and_then (λ (cell : Cell). cell.payload) o)) at 0) (get-marked cells (Block m i))
    ∙ elim (map.get cells (Block m i)) as (λ o. get_or (bytes_in (option_and_then (λ (cell : Cell). cell.payload) (option_map (mark_of (Block m i)) o))) at 0 ≡ 0) [ None ↦ refl | Some cell ↦ refl ]

marked-grown : (next : ℕ) (cells : Cells) → IsGrown next cells → IsGrown next (marked cells)
marked-grown next cells before =
    names_kept next cells (marked cells) before
    (record {
      names = unmarked_name cells;
      nodes = λ m. ap is_some (unmarked_node cells m);
      directories = λ m. same_directory cells (marked cells) m (unmarked_node cells m);
    })
    (λ m i stands. subst (λ n. i * 4096 < n) (sym (same_size cells (marked cells) m (unmarked_node cells m))) (before.tree.blocks m i (sym (marked_stands cells m i) ∙ stands)))
    (λ m place past. marked_zero cells m (place / 4096) (place % 4096))

shown-grown : (next : ℕ) (kind : Kind) (cells : Cells) → IsGrown next cells → IsGrown next (shown_by kind cells)
shown-grown next Keeping cells before = before
shown-grown next Nodata cells before = marked-grown next cells before

grown-more : (next more : ℕ) (cells : Cells) → next ≤ more → IsGrown next cells → IsGrown more cells
grown-more next more cells le before = record { tree = before.tree; below = λ m stands. (let low = before.below m stands in omega (arith, le, low)) }

-- ---- the checkpoints' maps

-- a checkpoint's map that stands for what it shows, and is a tree
abbrev IsShownTree : ℕ → Checkpoint → Type 0
IsShownTree next c = (shown_by c.kind c.cells ≡ c.cells) × IsGrown next c.cells

tree_later : (next more : ℕ) → next ≤ more → (c d : Checkpoint) → IsLater c d → IsShownTree next c → IsGrown more d.cells
tree_later next more le c d later h =
    subst (IsGrown more) (later.shows c.cells h.0) (grown-more next more (shown_by d.kind c.cells) le (shown-grown next d.kind c.cells h.1))

both : (P Q : Checkpoint → Type 0) (cs : List Checkpoint) → AllByRecursion P cs → AllByRecursion Q cs → AllByRecursion (λ c. P c × Q c) cs
both P Q [] p q = tt
both P Q (c ∷ cs) p q = ((p.0, q.0), both P Q cs p.1 q.1)

HasTrees-adds : (w next : World) (new : Option ℕ) → Adds w new next → IsOrdered w → HasTrees w → GrowsFrom w next.primary next.next → HasTrees next
HasTrees-adds w next new adds world trees grows = record { primary = grows.grown; checkpoints = of new adds }
  where
    before : AllByRecursion (IsShownTree w.next.number) w.checkpoints
    before = both (λ c. shown_by c.kind c.cells ≡ c.cells) (λ c. IsGrown w.next.number c.cells) w.checkpoints world.marks trees.checkpoints

    of : (new : Option ℕ) → Adds w new next → AllByRecursion (λ c. IsGrown next.next.number c.cells) next.checkpoints
    of None h = All-remain (IsShownTree w.next.number) (λ c. IsGrown next.next.number c.cells) (tree_later w.next.number next.next.number grows.more) h.remain before
    of (Some id) h =
        let one = h.1 in
        subst (AllByRecursion (λ c. IsGrown next.next.number c.cells)) (sym one.checkpoints)
        (All-append (λ c. IsGrown next.next.number c.cells) one.left one.new
        (All-remain (IsShownTree w.next.number) (λ c. IsGrown next.next.number c.cells) (tree_later w.next.number next.next.number grows.more) one.remain before)
        (subst (IsGrown next.next.number) one.cells (grown-more w.next.number next.next.number (shown_by one.new.kind w.primary) grows.more (shown-grown w.next.number one.new.kind w.primary trees.primary))))

-- ---- the primary map

restored-grows : (w : World) → HasTrees w → (name : List ℕ) → LeavesPrimary (GrowsFrom w) (restored w name)
restored-grows w trees name =
    then-given (Leaves (GrowsFrom w)) (checkpoint_named w name) _ (λ c is.
    unless (Leaves (GrowsFrom w)) (not (keeps_files c.kind)) NotData _ (λ _.
    record { grown = found_of (λ d. IsGrown w.next.number d.cells) (is_named name) w.checkpoints NoCkpt c trees.checkpoints is; more = omega arith }))

primaries : (w : World) → HasTrees w → Primaries w (GrowsFrom w)
primaries w h = record {
  stays = record { grown = h.primary; more = omega arith };
  counted = record { grown = h.primary; more = omega arith };
  make = λ path. made-grows w path (File 0) refl h.primary;
  mkdir = λ path. made-grows w path Dir refl h.primary;
  rm = λ path. removed-grows w path h.primary;
  rmdir = λ path. removed_directory-grows w path h.primary;
  mv = λ path new_path. moved-grows w path new_path h.primary;
  write = λ path at bytes. overwritten-grows w path at bytes h.primary;
  trunc = λ path size. truncated-grows w path size h.primary;
  restore = restored-grows w h;
}

pub calls_keep_trees_lem : CallsKeepTrees
calls_keep_trees_lem texts w actor at call world trees =
    let outcome = step texts w actor at call in
    HasTrees-adds w outcome.next (created_id outcome.reply) (step-sound texts w actor at call).adds world trees (step-primary texts w actor at call (GrowsFrom w) (primaries w trees))

-- ---- histories

trees_stay_from : (texts : Texts) (calls : CallsBy) (past : Past) (history : List Entry) → IsOrdered past.world → HasTrees past.world → IsLegalFrom texts calls past history → HasTrees (past_of texts calls past history).world
trees_stay_from texts calls past [] world trees legal = trees
trees_stay_from texts calls past (entry ∷ entries) world trees legal =
    let after = past_after texts calls past entry in
    let adds = past_after-adds texts calls past entry legal.0 in
    trees_stay_from texts calls after entries
    (IsOrdered-adds past.world after.world (created_id entry.reply) adds world)
    (HasTrees-adds past.world after.world (created_id entry.reply) adds world trees (past_after-primary texts calls past entry (GrowsFrom past.world) (primaries past.world trees)))
    legal.1

pub trees_stay_lem : TreesStay
trees_stay_lem texts calls w history world trees legal = trees_stay_from texts calls (begun w) history world trees legal

-- ---- the root directory alone

root-node : map.get root_cells (Node 0) ≡ Some (cell_of 0 Dir)
root-node = get-insert_same map.empty (Node 0) (cell_of 0 Dir)

root-other : (q : Key) → q ≢ Node 0 → map.get root_cells q ≡ None
root-other q apart = get-insert_other map.empty (Node 0) (cell_of 0 Dir) q apart ∙ map.get-empty key_cmp q

root-name : (d : ℕ) (n : List ℕ) → HasName root_cells d n → ⊥
root-name d n stands = let none : map.contains_key root_cells (Name d n) ≡ false = ap is_some (root-other (Name d n) (λ clash. cc)) in cc

root-nodes : (m : ℕ) → HasNode root_cells m → m ≡ 0
root-nodes m stands = on (cases_eq m 0)
  where
    on : (m ≡ 0) ⊎ (m ≢ 0) → m ≡ 0
    on (inl same) = same
    on (inr apart) = let none : map.contains_key root_cells (Node m) ≡ false = ap is_some (root-other (Node m) (λ same. apart (cc))) in cc

root-block : (m i : ℕ) → map.contains_key root_cells (Block m i) ≡ true → ⊥
root-block m i stands = let none : map.contains_key root_cells (Block m i) ≡ false = ap is_some (root-other (Block m i) (λ clash. cc)) in cc

root-grown : IsGrown 1 root_cells
root-grown = record {
  tree = record {
    root = ap (λ o. is_directory (option_and_then (λ (cell : Cell). cell.payload) o)) root-node;
    directories = λ d n stands. absurd (root-name d n stands);
    children = λ d n stands. absurd (root-name d n stands);
    once = λ m d e n o first second. absurd (root-name d n (child_stands root_cells d n m first));
    reached = λ m stands. record {
      path = [];
      leads = subst (λ x. walk_from [] root_cells 0 ≡ Ok x) (sym (root-nodes m stands)) (walk_here root_cells 0 (ap is_some root-node));
    };
    blocks = λ m i stands. absurd (root-block m i stands);
    zeros = λ m place past. no_byte root_cells m (place / 4096) (place % 4096) (root-other (Block m (place / 4096)) (λ clash. cc));
  };
  below = λ m stands. omega (arith, root-nodes m stands);
}

pub trees_begin_lem : TreesBegin
trees_begin_lem limits = record { primary = root-grown; checkpoints = tt }
