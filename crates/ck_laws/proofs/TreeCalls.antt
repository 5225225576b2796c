-- The calls that change files leave the primary map a tree.
use Rattle.std.proofs.Common.{◌≡◌, ◌≤◌, ℕ, ◌+◌, ◌&&◌, ◌||◌, true, false, Some, None, Option, List, [], ◌∷◌, length, nat_eq, nat_lt, refl, sym, ap, subst, ◌∙◌, arith, eq-eqb}
use Rattle.std.specs.List.{list_any}
use Rattle.std.specs.Ordering.{eq_by_cmp}
use Rattle.std.specs.FinMap as map
use Rattle.std.proofs.lemmas.Bool.{false_from_ne_true, or_parts}
use Rattle.ck_model.specs.declared.key.Key.{Key}
use Rattle.ck_model.specs.declared.key.Key.TheVariants.{Name, Node}
use Rattle.ck_model.specs.declared.cell.Payload.{Payload}
use Rattle.ck_model.specs.declared.cell.Payload.TheVariants.{To, File, Dir, Bytes}
use Rattle.ck_model.specs.declared.checkpoint.Counters.{Counters}
use Rattle.ck_model.specs.declared.reply.Reply.TheVariants.{IsDir, NotEmpty, Root, Spent}
use Rattle.ck_model.specs.Key.{key_cmp, is_name_in}
use Rattle.ck_model.specs.Cells.{Cells, content_at, is_directory, size_in}
use Rattle.ck_model.specs.Walk.{file_at, directory_at, name_at, new_name_at}
use Rattle.ck_model.specs.Changes.{with_node, without_file, without_directory, renamed}
use Rattle.ck_model.specs.World.{World}
use Rattle.ck_model.specs.FileCalls.{is_spent, has_names, made, removed, removed_directory, moved, overwritten, truncated}
use Rattle.ck_model.specs.Limits.{file_limit}
use Rattle.ck_laws.specs.Tree.{IsGrown}
use Rattle.ck_model.proofs.CellLaws.{tied-is}
use Rattle.ck_laws.proofs.Primaries.{Leaves, LeavesPrimary, then-given, unless}
use Rattle.ck_laws.proofs.Walks.{file_parts, directory_parts, name_parts, new_name_parts, last_names}
use Rattle.ck_laws.proofs.Prunes.{with_node-grown, without_file-grown, without_directory-grown, renamed-grown}
use Rattle.ck_laws.proofs.FileEdits.{written-grown, resized-grown}

-- the primary map is a tree whose nodes have numbers that were given already
abbrev pub Grows : World → Type 0
Grows w = IsGrown w.next.number w.primary

-- a map of such a kind, with numbers to give that are no less
pub record GrowsFrom (w : World) (cells : Cells) (next : Counters) : Type 0 where
  pub grown : IsGrown next.number cells
  pub more : w.next.number ≤ next.number

pub made-grows : (w : World) (path : List (List ℕ)) (payload : Payload) → size_in (Some payload) ≡ 0 → Grows w → LeavesPrimary (GrowsFrom w) (made w path payload)
made-grows w path payload empty grown =
    then-given (Leaves (GrowsFrom w)) (new_name_at w.primary path) _ (λ key is.
    unless (Leaves (GrowsFrom w)) (is_spent w || nat_eq w.next.number 4294967295) Spent _ (λ _.
    let new = new_name_parts w.primary path key is in
    let last = new.last in
    record {
      grown = subst (λ k. IsGrown (w.next.number + 1) (with_node w.primary w.next.stamp k w.next.number payload)) (sym last.is)
          (with_node-grown w.primary grown.tree w.next.stamp last.directory last.name w.next.number payload last.before.directory
          (subst (λ k. map.contains_key w.primary k ≡ false) last.is new.new)
          (false_from_ne_true (map.contains_key w.primary (Node w.next.number)) (λ stands. (let low = grown.below w.next.number stands in omega (arith, low))))
          empty grown.below);
      more = omega arith;
    }))

pub removed-grows : (w : World) (path : List (List ℕ)) → Grows w → LeavesPrimary (GrowsFrom w) (removed w path)
removed-grows w path grown =
    then-given (Leaves (GrowsFrom w)) (file_at w.primary path) _ (λ node is_file.
    then-given (Leaves (GrowsFrom w)) (name_at w.primary IsDir path) _ (λ key is_name.
    unless (Leaves (GrowsFrom w)) (is_spent w) Spent _ (λ _.
    let file = file_parts w.primary path node is_file in
    let last = name_parts w.primary IsDir path key is_name in
    record {
      grown = subst (λ k. IsGrown w.next.number (without_file w.primary k node)) (sym last.is)
          (without_file-grown w.primary grown.tree last.directory last.name node
          (last_names w.primary path key node last file.leads.leads) file.file w.next.number grown.below file.leads.stands);
      more = omega arith;
    })))

size_of_directory : (content : Option Payload) → is_directory content ≡ true → size_in content ≡ 0
size_of_directory None h = refl
size_of_directory (Some (To node)) h = refl
size_of_directory (Some (File size)) h = cc
size_of_directory (Some Dir) h = refl
size_of_directory (Some (Bytes bytes)) h = refl

none_named : (d : ℕ) (n : List ℕ) (ks : List Key) → list_any (is_name_in d) ks ≡ false → list_any (eq_by_cmp key_cmp (Name d n)) ks ≡ false
none_named d n [] h = refl
none_named d n (k ∷ ks) h =
    let parts = or_parts (is_name_in d k) (list_any (is_name_in d) ks) h in
    elim (eq_by_cmp key_cmp (Name d n) k) as (λ b. eq_by_cmp key_cmp (Name d n) k ≡ b → (b || list_any (eq_by_cmp key_cmp (Name d n)) ks) ≡ false) [
      | true ↦ λ tied.
          let here : is_name_in d k ≡ true = ap (is_name_in d) (sym (tied-is (Name d n) k tied)) ∙ eq-eqb d d refl in
          let clash : true ≡ false = sym here ∙ parts.0 in
          cc
      | false ↦ λ _. none_named d n ks parts.1
    ] refl

pub removed_directory-grows : (w : World) (path : List (List ℕ)) → Grows w → LeavesPrimary (GrowsFrom w) (removed_directory w path)
removed_directory-grows w path grown =
    then-given (Leaves (GrowsFrom w)) (name_at w.primary Root path) _ (λ key is_name.
    then-given (Leaves (GrowsFrom w)) (directory_at w.primary path) _ (λ node is_directory_there.
    unless (Leaves (GrowsFrom w)) (has_names w.primary node) NotEmpty _ (λ bare.
    unless (Leaves (GrowsFrom w)) (is_spent w) Spent _ (λ _.
    let directory = directory_parts w.primary path node is_directory_there in
    let last = name_parts w.primary Root path key is_name in
    record {
      grown = subst (λ k. IsGrown w.next.number (without_directory w.primary k node)) (sym last.is)
          (without_directory-grown w.primary grown.tree last.directory last.name node
          (last_names w.primary path key node last directory.leads.leads)
          (λ n. map.contains_key-keys w.primary (Name node n) ∙ none_named node n (map.keys w.primary) bare)
          (size_of_directory (content_at w.primary (Node node)) directory.directory)
          w.next.number grown.below directory.leads.stands);
      more = omega arith;
    }))))

pub moved-grows : (w : World) (path new_path : List (List ℕ)) → Grows w → LeavesPrimary (GrowsFrom w) (moved w path new_path)
moved-grows w path new_path grown =
    then-given (Leaves (GrowsFrom w)) (file_at w.primary path) _ (λ node is_file.
    then-given (Leaves (GrowsFrom w)) (new_name_at w.primary new_path) _ (λ to is_new.
    unless (Leaves (GrowsFrom w)) (is_spent w) Spent _ (λ _.
    then-given (Leaves (GrowsFrom w)) (name_at w.primary IsDir path) _ (λ from is_name.
    let file = file_parts w.primary path node is_file in
    let new = new_name_parts w.primary new_path to is_new in
    let last = name_parts w.primary IsDir path from is_name in
    record {
      grown = subst (λ k. IsGrown w.next.number (renamed w.primary w.next.stamp k to node)) (sym last.is)
          (subst (λ k. IsGrown w.next.number (renamed w.primary w.next.stamp (Name last.directory last.name) k node)) (sym new.last.is)
          (renamed-grown w.primary grown.tree w.next.stamp last.directory last.name new.last.directory new.last.name node
          (last_names w.primary path from node last file.leads.leads) file.file file.leads.stands
          new.last.before.directory (subst (λ k. map.contains_key w.primary k ≡ false) new.last.is new.new)
          w.next.number grown.below));
      more = omega arith;
    }))))

pub overwritten-grows : (w : World) (path : List (List ℕ)) (at : ℕ) (bytes : List ℕ) → Grows w → LeavesPrimary (GrowsFrom w) (overwritten w path at bytes)
overwritten-grows w path at bytes grown =
    then-given (Leaves (GrowsFrom w)) (file_at w.primary path) _ (λ node is_file.
    unless (Leaves (GrowsFrom w)) (nat_lt 0 (length bytes) && nat_lt file_limit (at + length bytes)) _ _ (λ _.
    unless (Leaves (GrowsFrom w)) (is_spent w) Spent _ (λ _.
    let file = file_parts w.primary path node is_file in
    record {
      grown = written-grown w.next.number w.primary grown w.next.stamp node at bytes file.leads.stands file.file;
      more = omega arith;
    })))

pub truncated-grows : (w : World) (path : List (List ℕ)) (size : ℕ) → Grows w → LeavesPrimary (GrowsFrom w) (truncated w path size)
truncated-grows w path size grown =
    then-given (Leaves (GrowsFrom w)) (file_at w.primary path) _ (λ node is_file.
    unless (Leaves (GrowsFrom w)) (is_spent w) Spent _ (λ _.
    let file = file_parts w.primary path node is_file in
    record {
      grown = resized-grown w.next.number w.primary grown w.next.stamp node size file.leads.stands file.file;
      more = omega arith;
    }))
