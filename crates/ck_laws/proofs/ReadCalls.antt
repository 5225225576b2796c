-- What the calls that change nothing can answer: neither a fault nor a new checkpoint's id.
use Rattle.std.proofs.Common.{ℕ, true, false, List, length, nat_lt, refl, if◌then◌else◌}
use Rattle.ck_model.specs.declared.reply.Reply.TheVariants.{StatDir, StatFile}
use Rattle.ck_model.specs.Cells.{Cells, is_directory_at, size_at}
use Rattle.ck_model.specs.Contents.{children}
use Rattle.ck_model.specs.Walk.{node_at, file_at, directory_at}
use Rattle.ck_model.specs.World.{World}
use Rattle.ck_model.specs.Streams.{Texts}
use Rattle.ck_model.specs.CheckpointCalls.{mounted_id, mounted_checkpoint, standing, with_data}
use Rattle.ck_model.specs.ReadCalls.{range_read, names_listed, stat_reply, status_of, checkpoint_read, checkpoint_names, full_stream, changed_stream}
use Rattle.ck_laws.specs.Ordinary.{IsOrdinary, OrOrdinary}
use Rattle.ck_laws.proofs.RefusalsLemmas.{and_then-ordinary, refuse_if-ordinary}
use Rattle.ck_laws.proofs.RefusedWalks.{node_at-ordinary, file_at-ordinary, directory_at-ordinary}
use Rattle.ck_laws.proofs.CheckpointCalls.{mounted_id-ordinary, mounted_checkpoint-ordinary, standing-ordinary, with_data-ordinary}

pub range_read-ordinary : (cells : Cells) (path : List (List ℕ)) (at len : ℕ) → OrOrdinary IsOrdinary (range_read cells path at len)
range_read-ordinary cells path at len = and_then-ordinary IsOrdinary (file_at cells path) _ (file_at-ordinary cells path) (λ node. (refl, refl))

pub names_listed-ordinary : (cells : Cells) (path : List (List ℕ)) → OrOrdinary IsOrdinary (names_listed cells path)
names_listed-ordinary cells path = and_then-ordinary IsOrdinary (directory_at cells path) _ (directory_at-ordinary cells path) (λ node. (refl, refl))

stat_reply-ordinary : (cells : Cells) (node : ℕ) → IsOrdinary (stat_reply cells node)
stat_reply-ordinary cells node =
    elim (is_directory_at cells node) as (λ b. IsOrdinary (if b then StatDir node (length (children cells node)) else StatFile node (size_at cells node))) [ true ↦ (refl, refl) | false ↦ (refl, refl) ]

pub status_of-ordinary : (cells : Cells) (path : List (List ℕ)) → OrOrdinary IsOrdinary (status_of cells path)
status_of-ordinary cells path = and_then-ordinary IsOrdinary (node_at cells path) _ (node_at-ordinary cells path) (stat_reply-ordinary cells)

pub checkpoint_read-ordinary : (w : World) (actor letter : ℕ) (path : List (List ℕ)) (at len : ℕ) → OrOrdinary IsOrdinary (checkpoint_read w actor letter path at len)
checkpoint_read-ordinary w actor letter path at len =
    and_then-ordinary IsOrdinary (mounted_checkpoint w actor letter) _ (mounted_checkpoint-ordinary w actor letter) (λ mounted.
    and_then-ordinary IsOrdinary (with_data mounted) _ (with_data-ordinary mounted) (λ c. range_read-ordinary c.cells path at len))

pub checkpoint_names-ordinary : (w : World) (actor letter : ℕ) (path : List (List ℕ)) → OrOrdinary IsOrdinary (checkpoint_names w actor letter path)
checkpoint_names-ordinary w actor letter path =
    and_then-ordinary IsOrdinary (mounted_checkpoint w actor letter) _ (mounted_checkpoint-ordinary w actor letter) (λ c. names_listed-ordinary c.cells path)

pub full_stream-ordinary : (texts : Texts) (w : World) (actor letter : ℕ) → OrOrdinary IsOrdinary (full_stream texts w actor letter)
full_stream-ordinary texts w actor letter =
    and_then-ordinary IsOrdinary (mounted_checkpoint w actor letter) _ (mounted_checkpoint-ordinary w actor letter) (λ mounted.
    and_then-ordinary IsOrdinary (with_data mounted) _ (with_data-ordinary mounted) (λ c. (refl, refl)))

pub changed_stream-ordinary : (texts : Texts) (w : World) (actor letter later_letter : ℕ) → OrOrdinary IsOrdinary (changed_stream texts w actor letter later_letter)
changed_stream-ordinary texts w actor letter later_letter =
    and_then-ordinary IsOrdinary (mounted_id w actor letter) _ (mounted_id-ordinary w actor letter) (λ first.
    and_then-ordinary IsOrdinary (mounted_id w actor later_letter) _ (mounted_id-ordinary w actor later_letter) (λ second.
    and_then-ordinary IsOrdinary (standing w first) _ (standing-ordinary w first) (λ earlier.
    and_then-ordinary IsOrdinary (standing w second) _ (standing-ordinary w second) (λ mounted.
    refuse_if-ordinary IsOrdinary (nat_lt second first) _ _ (refl, refl)
    (and_then-ordinary IsOrdinary (with_data mounted) _ (with_data-ordinary mounted) (λ later. (refl, refl)))))))
