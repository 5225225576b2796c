-- How many cells a call that changes files puts at most, and the stamp after it.
use Rattle.std.proofs.Common.{◌≡◌, ℕ, ◌+◌, ◌-◌, ◌/◌, ◌%◌, ◌^◌, ◌≤◌, ◌&&◌, ◌||◌, Bool, true, false, not, List, [], ◌∷◌, length, Result, Ok, Err, IfOk, nat_eq, nat_lt, map as list_map, if◌then◌else◌, refl, arith, replicate}
use Rattle.std.specs.List.{range_with_len}
use Rattle.std.specs.FinMap as map
use Rattle.std.proofs.lemmas.List.{length-map}
use Rattle.std.proofs.lemmas.List.FromFn.{length-range_with_len}
use Rattle.std.proofs.lemmas.Bool.Decides.{nat_tests}
use Rattle.ck_model.specs.declared.key.Key.{Key}
use Rattle.ck_model.specs.declared.key.Key.TheVariants.{Node, Block}
use Rattle.ck_model.specs.declared.cell.Cell.{Cell}
use Rattle.ck_model.specs.declared.cell.Payload.{Payload}
use Rattle.ck_model.specs.declared.cell.Payload.TheVariants.{To, File, Dir, Bytes}
use Rattle.ck_model.specs.declared.call.Call.{Call}
use Rattle.ck_model.specs.declared.call.Call.TheVariants.{Make, Mkdir, Rm, Rmdir, Mv, Write, Fill, Trunc}
use Rattle.ck_model.specs.declared.reply.Reply.{Reply}
use Rattle.ck_model.specs.declared.reply.Reply.TheVariants.{IsDir, NotEmpty, Root, TooBig, Spent}
use Rattle.ck_model.specs.Key.{key_cmp_total, key_cmp_exact, is_of, is_past}
use Rattle.ck_model.specs.Refusals.{and_then, refuse_if}
use Rattle.ck_model.specs.Cells.{Cells, size_at, with_cells}
use Rattle.ck_model.specs.Walk.{file_at, directory_at, name_at, new_name_at}
use Rattle.ck_model.specs.Changes.{cell_of, with_node, without_file, without_directory, renamed, touched, block_after, grown_to, written, cut_at, cut_to, resized}
use Rattle.ck_model.specs.World.{World}
use Rattle.ck_model.specs.FileCalls.{is_spent, has_names, with_primary, made, removed, removed_directory, moved, overwritten, truncated, changed_by}
use Rattle.ck_model.specs.Limits.{file_limit}
use Rattle.ck_model.proofs.SizeLaws.{len-retain_keys-le, len-insert-le, len-remove-le}

len-with_cells-le : (cells : Cells) (es : List (Key × Cell)) → map.len (with_cells cells es) ≤ map.len cells + length es
len-with_cells-le cells [] = omega arith
len-with_cells-le cells (e ∷ es) = omega (arith, len-insert-le key_cmp_total key_cmp_exact (with_cells cells es) e.0 e.1, len-with_cells-le cells es)

-- no more cells than before and so many
abbrev Few : Cells → Cells → Type 0
Few cells new = map.len new ≤ map.len cells + 1048576

with_node-few : (cells : Cells) (stamp : ℕ) (name : Key) (node : ℕ) (payload : Payload) → Few cells (with_node cells stamp name node payload)
with_node-few cells stamp name node payload =
    omega (arith, len-with_cells-le cells ((name, cell_of stamp (To node)) ∷ (Node node, cell_of stamp payload) ∷ []))

without_file-few : (cells : Cells) (name : Key) (node : ℕ) → Few cells (without_file cells name node)
without_file-few cells name node =
    let others : Key → Bool = λ key. not (is_of node key) in
    omega (arith, len-remove-le key_cmp_total key_cmp_exact (map.retain_keys cells others) name, len-retain_keys-le key_cmp_total key_cmp_exact cells others)

without_directory-few : (cells : Cells) (name : Key) (node : ℕ) → Few cells (without_directory cells name node)
without_directory-few cells name node =
    omega (arith, len-remove-le key_cmp_total key_cmp_exact (map.remove cells (Node node)) name, len-remove-le key_cmp_total key_cmp_exact cells (Node node))

renamed-few : (cells : Cells) (stamp : ℕ) (from to : Key) (node : ℕ) → Few cells (renamed cells stamp from to node)
renamed-few cells stamp from to node =
    omega (arith, len-with_cells-le (map.remove cells from) ((to, cell_of stamp (To node)) ∷ []), len-remove-le key_cmp_total key_cmp_exact cells from)

one_at_most : {X : Type 0} (b : Bool) (x : X) → length (if b then x ∷ [] else []) ≤ 1
one_at_most true x = omega arith
one_at_most false x = omega arith

touched-few : (at len : ℕ) → at + len ≤ 1073741824 → length (touched at len) ≤ 262145
touched-few at len within =
    elim (nat_eq len 0) as (λ b. length (range_with_len (at / 4096) (if b then 0 else (at + len + 4095) / 4096 - at / 4096)) ≤ 262145) [
      | true ↦ omega (arith, length-range_with_len (at / 4096) 0)
      | false ↦ omega (arith, length-range_with_len (at / 4096) ((at + len + 4095) / 4096 - at / 4096))
    ]

written-few : (cells : Cells) (stamp node at : ℕ) (bytes : List ℕ) → (nat_lt 0 (length bytes) && nat_lt file_limit (at + length bytes)) ≡ false → Few cells (written cells stamp node at bytes)
written-few cells stamp node at [] within = omega arith
written-few cells stamp node at (byte ∷ bytes) within =
    let all : List ℕ = byte ∷ bytes in
    let end : at + length all ≤ 1073741824 = grind (arith, nat_tests) in
    let grown = with_cells cells (grown_to cells stamp node (at + length all)) in
    let sized : Key × Cell = (Node node, cell_of stamp (File (at + length all))) in
    let put : ℕ → Key × Cell = λ index. (Block node index, cell_of stamp (Bytes (block_after cells node at all index))) in
    omega (
      arith,
      len-with_cells-le grown (list_map put (touched at (length all))),
      length-map (touched at (length all)) put,
      touched-few at (length all) end,
      len-with_cells-le cells (grown_to cells stamp node (at + length all)),
      one_at_most (nat_lt (size_at cells node) (at + length all)) sized,
    )

cut_to-few : (cells : Cells) (stamp node size : ℕ) → map.len (cut_to cells stamp node size) ≤ map.len cells + 1
cut_to-few cells stamp node size =
    let kept : Key → Bool = λ key. not (is_past node size key) in
    omega (
      arith,
      len-with_cells-le (map.retain_keys cells kept) (cut_at cells stamp node size),
      len-retain_keys-le key_cmp_total key_cmp_exact cells kept,
      cut_at-one cells stamp node size,
    )
  where
    cut_at-one : (cells : Cells) (stamp node size : ℕ) → length (cut_at cells stamp node size) ≤ 1
    cut_at-one cells stamp node size = one_at_most (not (nat_eq (size % 4096) 0) && map.contains_key cells (Block node (size / 4096))) _

cut_or_not : (b : Bool) (cells cut : Cells) → map.len cut ≤ map.len cells + 1 → map.len (if b then cut else cells) ≤ map.len cells + 1
cut_or_not true cells cut h = h
cut_or_not false cells cut h = omega arith

resized-few : (cells : Cells) (stamp node size : ℕ) → Few cells (resized cells stamp node size)
resized-few cells stamp node size =
    let kept : Cells = if nat_lt size (size_at cells node) then cut_to cells stamp node size else cells in
    let few : map.len kept ≤ map.len cells + 1 = cut_or_not (nat_lt size (size_at cells node)) cells (cut_to cells stamp node size) (cut_to-few cells stamp node size) in
    let put : List (Key × Cell) = (Node node, cell_of stamp (File size)) ∷ [] in
    elim (nat_eq size (size_at cells node)) as (λ b. map.len (if b then cells else with_cells kept put) ≤ map.len cells + 1048576) [
      | true ↦ omega arith
      | false ↦ omega (arith, len-with_cells-le kept put, few)
    ]

-- the world after a call that changes files has few cells more, and no stamp above the last
pub record IsSmall (w next : World) : Type 0 where
  pub cells : map.len next.primary ≤ map.len w.primary + 1048576
  pub stamp : w.next.stamp ≤ 2 ^ 63 → next.next.stamp ≤ 2 ^ 63

if_ok-and_then : {A B : Type 0} (P : B → Type 0) (r : Result A Reply) (next : A → Result B Reply) → ((x : A) → IfOk (next x) P) → IfOk (and_then r next) P
if_ok-and_then P (Ok x) next h = h x
if_ok-and_then P (Err e) next h = tt

if_ok-refuse_if : {A : Type 0} (P : A → Type 0) (b : Bool) (reply : Reply) (rest : Result A Reply) → (b ≡ false → IfOk rest P) → IfOk (refuse_if b reply rest) P
if_ok-refuse_if P true reply rest h = tt
if_ok-refuse_if P false reply rest h = h refl

stamp_below : (w : World) → is_spent w ≡ false → w.next.stamp ≤ 2 ^ 63 → w.next.stamp + 1 ≤ 2 ^ 63
stamp_below w left stamp = grind (arith, nat_tests)

first_false : (a b : Bool) → (a || b) ≡ false → a ≡ false
first_false true b h = h
first_false false b h = refl

unless_spent : (w : World) (cells : Cells) → Few w.primary cells → IfOk (refuse_if (is_spent w) Spent (Ok (with_primary w cells))) (IsSmall w)
unless_spent w cells few =
    if_ok-refuse_if (IsSmall w) (is_spent w) Spent (Ok (with_primary w cells)) (λ left. record { cells = few; stamp = stamp_below w left })

made-small : (w : World) (path : List (List ℕ)) (payload : Payload) → IfOk (made w path payload) (IsSmall w)
made-small w path payload =
    if_ok-and_then (IsSmall w) (new_name_at w.primary path) _ (λ name.
    if_ok-refuse_if (IsSmall w) (is_spent w || nat_eq w.next.number 4294967295) Spent _ (λ left.
    record { cells = with_node-few w.primary w.next.stamp name w.next.number payload; stamp = stamp_below w (first_false (is_spent w) (nat_eq w.next.number 4294967295) left) }))

removed-small : (w : World) (path : List (List ℕ)) → IfOk (removed w path) (IsSmall w)
removed-small w path =
    if_ok-and_then (IsSmall w) (file_at w.primary path) _ (λ node.
    if_ok-and_then (IsSmall w) (name_at w.primary IsDir path) _ (λ name.
    unless_spent w (without_file w.primary name node) (without_file-few w.primary name node)))

removed_directory-small : (w : World) (path : List (List ℕ)) → IfOk (removed_directory w path) (IsSmall w)
removed_directory-small w path =
    if_ok-and_then (IsSmall w) (name_at w.primary Root path) _ (λ name.
    if_ok-and_then (IsSmall w) (directory_at w.primary path) _ (λ node.
    if_ok-refuse_if (IsSmall w) (has_names w.primary node) NotEmpty _ (λ _.
    unless_spent w (without_directory w.primary name node) (without_directory-few w.primary name node))))

moved-small : (w : World) (path new_path : List (List ℕ)) → IfOk (moved w path new_path) (IsSmall w)
moved-small w path new_path =
    if_ok-and_then (IsSmall w) (file_at w.primary path) _ (λ node.
    if_ok-and_then (IsSmall w) (new_name_at w.primary new_path) _ (λ to.
    if_ok-refuse_if (IsSmall w) (is_spent w) Spent _ (λ left.
    if_ok-and_then (IsSmall w) (name_at w.primary IsDir path) _ (λ from.
    record { cells = renamed-few w.primary w.next.stamp from to node; stamp = stamp_below w left }))))

overwritten-small : (w : World) (path : List (List ℕ)) (at : ℕ) (bytes : List ℕ) → IfOk (overwritten w path at bytes) (IsSmall w)
overwritten-small w path at bytes =
    if_ok-and_then (IsSmall w) (file_at w.primary path) _ (λ node.
    if_ok-refuse_if (IsSmall w) (nat_lt 0 (length bytes) && nat_lt file_limit (at + length bytes)) (TooBig (at + length bytes) file_limit) _ (λ within.
    unless_spent w (written w.primary w.next.stamp node at bytes) (written-few w.primary w.next.stamp node at bytes within)))

truncated-small : (w : World) (path : List (List ℕ)) (size : ℕ) → IfOk (truncated w path size) (IsSmall w)
truncated-small w path size =
    if_ok-and_then (IsSmall w) (file_at w.primary path) _ (λ node.
    unless_spent w (resized w.primary w.next.stamp node size) (resized-few w.primary w.next.stamp node size))

pub changed_by-small : (w : World) (call : Call) → IfOk (changed_by w call) (IsSmall w)
changed_by-small w (Make path) = made-small w path (File 0)
changed_by-small w (Mkdir path) = made-small w path Dir
changed_by-small w (Rm path) = removed-small w path
changed_by-small w (Rmdir path) = removed_directory-small w path
changed_by-small w (Mv path new_path) = moved-small w path new_path
changed_by-small w (Write path place bytes) = overwritten-small w path place bytes
changed_by-small w (Fill path place len byte) = overwritten-small w path place (replicate len byte)
changed_by-small w (Trunc path size) = truncated-small w path size
changed_by-small w _ = tt
