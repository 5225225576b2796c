-- The calls that change files: what they refuse, in order, and the world after them where there is room.
use Rattle.std.specs.Prelude.{⊤, ℕ, ◌+◌, ◌^◌, ◌≤◌, ◌&&◌, ◌||◌, Bool, List, length, Result, Ok, Err, nat_eq, nat_lt, replicate}
use Rattle.std.specs.List.{list_any}
use Rattle.std.specs.FinMap as map
use Rattle.ck_model.specs.declared.cell.Payload.{Payload}
use Rattle.ck_model.specs.declared.cell.Payload.TheVariants.{File, Dir}
use Rattle.ck_model.specs.declared.call.Call.{Call}
use Rattle.ck_model.specs.declared.call.Call.TheVariants.{Make, Mkdir, Rm, Rmdir, Mv, Write, Fill, Trunc}
use Rattle.ck_model.specs.declared.reply.Reply.{Reply}
use Rattle.ck_model.specs.declared.reply.Reply.TheVariants.{Done, IsDir, NotEmpty, Root, TooBig, Spent}
use Rattle.ck_model.specs.Key.{is_name_in}
use Rattle.ck_model.specs.Cells.{Cells}
use Rattle.ck_model.specs.Refusals.{and_then, refuse_if}
use Rattle.ck_model.specs.Walk.{file_at, directory_at, name_at, new_name_at}
use Rattle.ck_model.specs.Changes.{with_node, without_file, without_directory, renamed, written, resized}
use Rattle.ck_model.specs.World.{World}
use Rattle.ck_model.specs.Limits.{file_limit}

-- no stamp is left
abbrev pub is_spent : World → Bool
is_spent w = nat_eq w.next.stamp (2 ^ 63)

abbrev pub has_names : Cells → ℕ → Bool
has_names cells node = list_any (is_name_in node) (map.keys cells)

-- the world with these cells; the next call has another stamp
abbrev pub with_primary : World → Cells → World
with_primary w cells = record w { primary = cells; next = record (w.next) { stamp = w.next.stamp + 1 } }

-- `make` and `mkdir`: a new node with this payload
abbrev pub made : World → List (List ℕ) → Payload → Result World Reply
made w path payload =
    and_then (new_name_at w.primary path) (λ name.
    refuse_if (is_spent w || nat_eq w.next.number 4294967295) Spent
    (Ok (record w {
      primary = with_node w.primary w.next.stamp name w.next.number payload;
      next = record (w.next) { stamp = w.next.stamp + 1; number = w.next.number + 1 };
    })))

-- `rm`
abbrev pub removed : World → List (List ℕ) → Result World Reply
removed w path =
    and_then (file_at w.primary path) (λ node.
    and_then (name_at w.primary IsDir path) (λ name.
    refuse_if (is_spent w) Spent
    (Ok (with_primary w (without_file w.primary name node)))))

-- `rmdir`
abbrev pub removed_directory : World → List (List ℕ) → Result World Reply
removed_directory w path =
    and_then (name_at w.primary Root path) (λ name.
    and_then (directory_at w.primary path) (λ node.
    refuse_if (has_names w.primary node) NotEmpty
    (refuse_if (is_spent w) Spent
    (Ok (with_primary w (without_directory w.primary name node))))))

-- `mv`
abbrev pub moved : World → List (List ℕ) → List (List ℕ) → Result World Reply
moved w path new_path =
    and_then (file_at w.primary path) (λ node.
    and_then (new_name_at w.primary new_path) (λ to.
    refuse_if (is_spent w) Spent
    (and_then (name_at w.primary IsDir path) (λ from.
    Ok (with_primary w (renamed w.primary w.next.stamp from to node))))))

-- `write`, and `fill` with so many times one byte
abbrev pub overwritten : World → List (List ℕ) → ℕ → List ℕ → Result World Reply
overwritten w path at bytes =
    and_then (file_at w.primary path) (λ node.
    refuse_if (nat_lt 0 (length bytes) && nat_lt file_limit (at + length bytes)) (TooBig (at + length bytes) file_limit)
    (refuse_if (is_spent w) Spent
    (Ok (with_primary w (written w.primary w.next.stamp node at bytes)))))

-- `trunc`
abbrev pub truncated : World → List (List ℕ) → ℕ → Result World Reply
truncated w path size =
    and_then (file_at w.primary path) (λ node.
    refuse_if (is_spent w) Spent
    (Ok (with_primary w (resized w.primary w.next.stamp node size))))

-- a call that changes files, whose places and sizes are within the limit of a file's size
abbrev pub IsChanging : Call → Type 0
IsChanging (Make path) = ⊤
IsChanging (Mkdir path) = ⊤
IsChanging (Rm path) = ⊤
IsChanging (Rmdir path) = ⊤
IsChanging (Mv path new_path) = ⊤
IsChanging (Write path place bytes) = place ≤ file_limit
IsChanging (Fill path place len byte) = place ≤ file_limit
IsChanging (Trunc path size) = size ≤ file_limit
IsChanging _ = ⊥

-- the first refusal, or the world after the call where there is room; no other call is asked for
abbrev pub changed_by : World → Call → Result World Reply
changed_by w (Make path) = made w path (File 0)
changed_by w (Mkdir path) = made w path Dir
changed_by w (Rm path) = removed w path
changed_by w (Rmdir path) = removed_directory w path
changed_by w (Mv path new_path) = moved w path new_path
changed_by w (Write path place bytes) = overwritten w path place bytes
changed_by w (Fill path place len byte) = overwritten w path place (replicate len byte)
changed_by w (Trunc path size) = truncated w path size
changed_by w _ = Err Done
