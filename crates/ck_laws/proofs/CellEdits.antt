-- The cells that calls put: with the next stamp, and with numbers that were given already.
use Rattle.std.proofs.Common.{◌≡◌, ◌≤◌, ◌<◌, ℕ, ◌+◌, ◌/◌, ◌%◌, ◌&&◌, ◌||◌, Bool, true, false, not, cond, Option, Some, None, is_some, List, [], ◌∷◌, length, map as list_map, nat_eq, nat_lt, if◌then◌else◌, refl, sym, subst, ◌∙◌, arith}
use Rattle.std.specs.Ordering.{eq_by_cmp}
use Rattle.std.specs.List.{AllByRecursion}
use Rattle.std.specs.Option.{option_or}
use Rattle.std.specs.FinMap.{find}
use Rattle.std.proofs.lemmas.List.FromFn.{length-map-range_with_len}
use Rattle.std.specs.FinMap as map
use Rattle.ck_model.specs.declared.key.Key.{Key}
use Rattle.ck_model.specs.declared.key.Key.TheVariants.{Name, Node, Block}
use Rattle.ck_model.specs.declared.cell.Cell.{Cell}
use Rattle.ck_model.specs.declared.cell.Payload.{Payload}
use Rattle.ck_model.specs.declared.cell.Payload.TheVariants.{To, File, Bytes}
use Rattle.ck_model.specs.declared.checkpoint.Counters.{Counters}
use Rattle.ck_model.specs.declared.reply.Reply.TheVariants.{IsDir, NotEmpty, Root, Spent}
use Rattle.ck_model.specs.Key.{key_cmp, key_cmp_total, is_of, is_past}
use Rattle.ck_model.specs.Cells.{Cells, size_at, with_cells}
use Rattle.ck_model.specs.Rules.{KeyBelow}
use Rattle.ck_model.specs.Walk.{file_at, directory_at, name_at, new_name_at}
use Rattle.ck_model.specs.Changes.{cell_of, with_node, without_file, without_directory, renamed, touched, byte_after, block_after, grown_to, written, cut_block, cut_at, cut_to, resized}
use Rattle.ck_model.specs.World.{World}
use Rattle.ck_model.specs.FileCalls.{is_spent, has_names, made, removed, removed_directory, moved, overwritten, truncated}
use Rattle.ck_model.specs.Contents.{block_byte}
use Rattle.ck_model.specs.Limits.{file_limit}
use Rattle.ck_laws.specs.Tree.{HasNode}
use Rattle.ck_laws.specs.Laws.{ContentBelow, NumbersBelow, IsWhole}
use Rattle.ck_model.proofs.CellLaws.{tied-is, get-with_cells, get-retain_keys}
use Rattle.ck_laws.proofs.Walks.{file_parts, directory_parts, new_name_parts}
use Rattle.ck_laws.proofs.Primaries.{Leaves, LeavesPrimary, then-given, unless}

-- ---- what holds of each cell, with its key

abbrev Each : (Key → Cell → Type 0) → Cells → Type 0
Each P cells = (key : Key) (cell : Cell) → map.get cells key ≡ Some cell → P key cell

abbrev Listed : (Key → Cell → Type 0) → List (Key × Cell) → Type 0
Listed P es = AllByRecursion (λ e. P e.0 e.1) es

found_listed : (P : Key → Cell → Type 0) (q : Key) (es : List (Key × Cell)) (cell : Cell) → Listed P es → find key_cmp q es ≡ Some cell → P q cell
found_listed P q [] cell all h = cc
found_listed P q (e ∷ es) cell all h =
    elim (eq_by_cmp key_cmp q e.0) as (λ b. eq_by_cmp key_cmp q e.0 ≡ b → cond b (Some e.1) (find key_cmp q es) ≡ Some cell → P q cell) [
      | true ↦ λ tied same. let is : e.1 ≡ cell = cc in subst (λ k. P k cell) (sym (tied-is q e.0 tied)) (subst (P e.0) is all.0)
      | false ↦ λ _ rest. found_listed P q es cell all.1 rest
    ] refl h

put-each : (P : Key → Cell → Type 0) (cells : Cells) (es : List (Key × Cell)) → Each P cells → Listed P es → Each P (with_cells cells es)
put-each P cells es each listed key cell h = on (find key_cmp key es) refl (sym (get-with_cells cells es key) ∙ h)
  where
    on : (o : Option Cell) → find key_cmp key es ≡ o → option_or o (map.get cells key) ≡ Some cell → P key cell
    on None _ rest = each key cell rest
    on (Some c) is same = found_listed P key es cell listed (is ∙ same)

remove-each : (P : Key → Cell → Type 0) (cells : Cells) (k : Key) → Each P cells → Each P (map.remove cells k)
remove-each P cells k each key cell h = on (eq_by_cmp key_cmp key k) (sym (map.get-remove key_cmp_total cells k key) ∙ h)
  where
    on : (b : Bool) → cond b None (map.get cells key) ≡ Some cell → P key cell
    on true clash = cc
    on false same = each key cell same

retain-each : (P : Key → Cell → Type 0) (cells : Cells) (p : Key → Bool) → Each P cells → Each P (map.retain_keys cells p)
retain-each P cells p each key cell h = on (p key) (sym (get-retain_keys cells p key) ∙ h)
  where
    on : (b : Bool) → (if b then map.get cells key else None) ≡ Some cell → P key cell
    on true same = each key cell same
    on false clash = cc

mapped-each : (P : Key → Cell → Type 0) (f : ℕ → Key × Cell) → ((x : ℕ) → P (f x).0 (f x).1) → (xs : List ℕ) → Listed P (list_map f xs)
mapped-each P f each [] = tt
mapped-each P f each (x ∷ xs) = (each x, mapped-each P f each xs)

-- ---- the cells that a change puts

block_after-whole : (cells : Cells) (node at : ℕ) (bytes : List ℕ) (index : ℕ) → length (block_after cells node at bytes index) ≡ 4096
unfolding block_after
block_after-whole cells node at bytes index = length-map-range_with_len (byte_after cells node at bytes index) 0 4096

cut_block-whole : (cells : Cells) (node index kept : ℕ) → length (cut_block cells node index kept) ≡ 4096
unfolding cut_block
cut_block-whole cells node index kept = length-map-range_with_len (λ place. if nat_lt place kept then block_byte cells node index place else 0) 0 4096

pub record IsNew (limit given : ℕ) (key : Key) (cell : Cell) : Type 0 where
  pub stamp : cell.stamp ≡ given
  pub keyed : KeyBelow limit key
  pub content : ContentBelow limit cell.payload
  pub whole : IsWhole cell.payload

pub data IsOldOrNew (before : Cells) (limit stamp : ℕ) (key : Key) (cell : Cell) : Type 0 where
  old : map.get before key ≡ Some cell → IsOldOrNew before limit stamp key cell
  new : IsNew limit stamp key cell → IsOldOrNew before limit stamp key cell

-- each cell of a map stood in another one, or was put
abbrev pub IsEdit : Cells → ℕ → ℕ → Cells → Type 0
IsEdit before limit stamp after = (key : Key) (cell : Cell) → map.get after key ≡ Some cell → IsOldOrNew before limit stamp key cell

module _ (cells : Cells) (limit stamp node : ℕ) (below : node < limit) where
  abbrev P : Key → Cell → Type 0
  P = IsOldOrNew cells limit stamp

  same : Each P cells
  same key cell h = old h

  puts : (key : Key) (payload : Payload) → KeyBelow limit key → ContentBelow limit (Some payload) → IsWhole (Some payload) → P key (cell_of stamp payload)
  puts key payload k c whole = new (record { stamp = refl; keyed = k; content = c; whole = whole })

  with_node-edit : (d : ℕ) (n : List ℕ) (payload : Payload) → d < limit → ContentBelow limit (Some payload) → IsWhole (Some payload) → IsEdit cells limit stamp (with_node cells stamp (Name d n) node payload)
  with_node-edit d n payload directory content whole =
      put-each P cells ((Name d n, cell_of stamp (To node)) ∷ (Node node, cell_of stamp payload) ∷ []) same
      (puts (Name d n) (To node) directory below tt, (puts (Node node) payload below content whole, tt))

  without_file-edit : (name : Key) → IsEdit cells limit stamp (without_file cells name node)
  without_file-edit name = remove-each P (map.retain_keys cells (λ key. not (is_of node key))) name (retain-each P cells (λ key. not (is_of node key)) same)

  without_directory-edit : (name : Key) → IsEdit cells limit stamp (without_directory cells name node)
  without_directory-edit name = remove-each P (map.remove cells (Node node)) name (remove-each P cells (Node node) same)

  renamed-edit : (from : Key) (d : ℕ) (n : List ℕ) → d < limit → IsEdit cells limit stamp (renamed cells stamp from (Name d n) node)
  renamed-edit from d n directory =
      put-each P (map.remove cells from) ((Name d n, cell_of stamp (To node)) ∷ []) (remove-each P cells from same) (puts (Name d n) (To node) directory below tt, tt)

  grown-listed : (end : ℕ) → Listed P (grown_to cells stamp node end)
  grown-listed end =
      elim (nat_lt (size_at cells node) end) as (λ b. Listed P (if b then (Node node, cell_of stamp (File end)) ∷ [] else [])) [
        | true ↦ (puts (Node node) (File end) below tt tt, tt)
        | false ↦ tt
      ]

  written-edit : (at : ℕ) (bytes : List ℕ) → IsEdit cells limit stamp (written cells stamp node at bytes)
  written-edit at [] = same
  written-edit at (byte ∷ bytes) =
      let all = byte ∷ bytes in
      put-each P (with_cells cells (grown_to cells stamp node (at + length all)))
      (list_map (λ index. (Block node index, cell_of stamp (Bytes (block_after cells node at all index)))) (touched at (length all)))
      (put-each P cells (grown_to cells stamp node (at + length all)) same (grown-listed (at + length all)))
      (mapped-each P (λ index. (Block node index, cell_of stamp (Bytes (block_after cells node at all index)))) (λ index. puts (Block node index) (Bytes (block_after cells node at all index)) below tt (block_after-whole cells node at all index)) (touched at (length all)))

  cut-listed : (size : ℕ) → Listed P (cut_at cells stamp node size)
  cut-listed size =
      elim (not (nat_eq (size % 4096) 0) && map.contains_key cells (Block node (size / 4096))) as (λ b. Listed P (if b then (Block node (size / 4096), cell_of stamp (Bytes (cut_block cells node (size / 4096) (size % 4096)))) ∷ [] else [])) [
        | true ↦ (puts (Block node (size / 4096)) (Bytes (cut_block cells node (size / 4096) (size % 4096))) below tt (cut_block-whole cells node (size / 4096) (size % 4096)), tt)
        | false ↦ tt
      ]

  cut-edit : (size : ℕ) → IsEdit cells limit stamp (cut_to cells stamp node size)
  cut-edit size =
      put-each P (map.retain_keys cells (λ key. not (is_past node size key))) (cut_at cells stamp node size)
      (retain-each P cells (λ key. not (is_past node size key)) same) (cut-listed size)

  sized-edit : (base : Cells) (size : ℕ) → IsEdit cells limit stamp base → IsEdit cells limit stamp (with_cells base ((Node node, cell_of stamp (File size)) ∷ []))
  sized-edit base size h = put-each P base ((Node node, cell_of stamp (File size)) ∷ []) h (puts (Node node) (File size) below tt tt, tt)

  resized-edit : (size : ℕ) → IsEdit cells limit stamp (resized cells stamp node size)
  resized-edit size =
      elim (nat_eq size (size_at cells node)) as (λ b. IsEdit cells limit stamp (if b then cells else with_cells (if nat_lt size (size_at cells node) then cut_to cells stamp node size else cells) ((Node node, cell_of stamp (File size)) ∷ []))) [
        | true ↦ same
        | false ↦ elim (nat_lt size (size_at cells node)) as (λ b. IsEdit cells limit stamp (with_cells (if b then cut_to cells stamp node size else cells) ((Node node, cell_of stamp (File size)) ∷ []))) [
          | true ↦ sized-edit (cut_to cells stamp node size) size (cut-edit size)
          | false ↦ sized-edit cells size same
        ]
      ]

-- ---- the calls

-- a map and counters that a call leaves
pub record IsEdited (w : World) (cells : Cells) (next : Counters) : Type 0 where
  pub edit : IsEdit w.primary next.number w.next.stamp cells
  pub stamp : next.stamp ≡ w.next.stamp + 1
  pub number : w.next.number ≤ next.number

node_below : (next : ℕ) (cells : Cells) → NumbersBelow next cells → (node : ℕ) → HasNode cells node → node < next
node_below next cells numbers node stands =
    elim (map.get cells (Node node)) as (λ o. map.get cells (Node node) ≡ o → is_some o ≡ true → node < next) [
      | None ↦ λ _ clash. cc
      | Some cell ↦ λ is _. (numbers (Node node) cell is).0
    ] refl stands

module _ (w : World) (numbers : NumbersBelow w.next.number w.primary) where
  pub made-edited : (path : List (List ℕ)) (payload : Payload) → ContentBelow (w.next.number + 1) (Some payload) → IsWhole (Some payload) → LeavesPrimary (IsEdited w) (made w path payload)
  made-edited path payload content whole =
      then-given (Leaves (IsEdited w)) (new_name_at w.primary path) _ (λ key is.
      unless (Leaves (IsEdited w)) (is_spent w || nat_eq w.next.number 4294967295) Spent _ (λ _.
      let last = (new_name_parts w.primary path key is).last in
      let low = node_below w.next.number w.primary numbers last.directory last.before.leads.stands in
      record {
        edit = subst (λ k. IsEdit w.primary (w.next.number + 1) w.next.stamp (with_node w.primary w.next.stamp k w.next.number payload)) (sym last.is)
            (with_node-edit w.primary (w.next.number + 1) w.next.stamp w.next.number (omega arith) last.directory last.name payload (omega (arith, low)) content whole);
        stamp = refl;
        number = omega arith;
      }))

  pub removed-edited : (path : List (List ℕ)) → LeavesPrimary (IsEdited w) (removed w path)
  removed-edited path =
      then-given (Leaves (IsEdited w)) (file_at w.primary path) _ (λ node is_file.
      then-given (Leaves (IsEdited w)) (name_at w.primary IsDir path) _ (λ key is_name.
      unless (Leaves (IsEdited w)) (is_spent w) Spent _ (λ _.
      let low = node_below w.next.number w.primary numbers node (file_parts w.primary path node is_file).leads.stands in
      record { edit = without_file-edit w.primary w.next.number w.next.stamp node low key; stamp = refl; number = omega arith })))

  pub removed_directory-edited : (path : List (List ℕ)) → LeavesPrimary (IsEdited w) (removed_directory w path)
  removed_directory-edited path =
      then-given (Leaves (IsEdited w)) (name_at w.primary Root path) _ (λ key is_name.
      then-given (Leaves (IsEdited w)) (directory_at w.primary path) _ (λ node is_directory_there.
      unless (Leaves (IsEdited w)) (has_names w.primary node) NotEmpty _ (λ bare.
      unless (Leaves (IsEdited w)) (is_spent w) Spent _ (λ _.
      let low = node_below w.next.number w.primary numbers node (directory_parts w.primary path node is_directory_there).leads.stands in
      record { edit = without_directory-edit w.primary w.next.number w.next.stamp node low key; stamp = refl; number = omega arith }))))

  pub moved-edited : (path new_path : List (List ℕ)) → LeavesPrimary (IsEdited w) (moved w path new_path)
  moved-edited path new_path =
      then-given (Leaves (IsEdited w)) (file_at w.primary path) _ (λ node is_file.
      then-given (Leaves (IsEdited w)) (new_name_at w.primary new_path) _ (λ to is_new.
      unless (Leaves (IsEdited w)) (is_spent w) Spent _ (λ _.
      then-given (Leaves (IsEdited w)) (name_at w.primary IsDir path) _ (λ from is_name.
      let last = (new_name_parts w.primary new_path to is_new).last in
      let low = node_below w.next.number w.primary numbers node (file_parts w.primary path node is_file).leads.stands in
      let also = node_below w.next.number w.primary numbers last.directory last.before.leads.stands in
      record {
        edit = subst (λ k. IsEdit w.primary w.next.number w.next.stamp (renamed w.primary w.next.stamp from k node)) (sym last.is)
            (renamed-edit w.primary w.next.number w.next.stamp node low from last.directory last.name also);
        stamp = refl;
        number = omega arith;
      }))))

  pub overwritten-edited : (path : List (List ℕ)) (at : ℕ) (bytes : List ℕ) → LeavesPrimary (IsEdited w) (overwritten w path at bytes)
  overwritten-edited path at bytes =
      then-given (Leaves (IsEdited w)) (file_at w.primary path) _ (λ node is_file.
      unless (Leaves (IsEdited w)) (nat_lt 0 (length bytes) && nat_lt file_limit (at + length bytes)) _ _ (λ _.
      unless (Leaves (IsEdited w)) (is_spent w) Spent _ (λ _.
      let low = node_below w.next.number w.primary numbers node (file_parts w.primary path node is_file).leads.stands in
      record { edit = written-edit w.primary w.next.number w.next.stamp node low at bytes; stamp = refl; number = omega arith })))

  pub truncated-edited : (path : List (List ℕ)) (size : ℕ) → LeavesPrimary (IsEdited w) (truncated w path size)
  truncated-edited path size =
      then-given (Leaves (IsEdited w)) (file_at w.primary path) _ (λ node is_file.
      unless (Leaves (IsEdited w)) (is_spent w) Spent _ (λ _.
      let low = node_below w.next.number w.primary numbers node (file_parts w.primary path node is_file).leads.stands in
      record { edit = resized-edit w.primary w.next.number w.next.stamp node low size; stamp = refl; number = omega arith }))
