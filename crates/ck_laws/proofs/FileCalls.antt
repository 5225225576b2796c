-- What a call that changes files can be refused with, and what it leaves.
use Rattle.std.proofs.Common.{◌≡◌, ℕ, ◌+◌, ◌&&◌, ◌||◌, List, length, nat_eq, nat_lt, refl}
use Rattle.ck_model.specs.declared.cell.Payload.{Payload}
use Rattle.ck_model.specs.declared.reply.Reply.TheVariants.{IsDir, Root}
use Rattle.ck_model.specs.World.{World}
use Rattle.ck_model.specs.Walk.{file_at, directory_at, name_at, new_name_at}
use Rattle.ck_model.specs.FileCalls.{is_spent, has_names, made, removed, removed_directory, moved, overwritten, truncated}
use Rattle.ck_model.specs.Limits.{file_limit}
use Rattle.ck_laws.specs.Ordinary.{OrOrdinary}
use Rattle.ck_laws.proofs.RefusalsLemmas.{and_then-ordinary, refuse_if-ordinary}
use Rattle.ck_laws.proofs.RefusedWalks.{file_at-ordinary, directory_at-ordinary, name_at-ordinary, new_name_at-ordinary}

-- the next world differs in the primary map and in the next stamp and file number alone
pub record ChangesFiles (w : World) (next : World) : Type 0 where
  pub limits : next.limits ≡ w.limits
  pub checkpoints : next.checkpoints ≡ w.checkpoints
  pub id : next.next.id ≡ w.next.id
  pub mounts : next.mounts ≡ w.mounts

same : (w next : World) → next.limits ≡ w.limits → next.checkpoints ≡ w.checkpoints → next.next.id ≡ w.next.id → next.mounts ≡ w.mounts → ChangesFiles w next
same w next limits checkpoints id mounts = record { limits = limits; checkpoints = checkpoints; id = id; mounts = mounts }

pub made-changes : (w : World) (path : List (List ℕ)) (payload : Payload) → OrOrdinary (ChangesFiles w) (made w path payload)
made-changes w path payload =
    and_then-ordinary (ChangesFiles w) (new_name_at w.primary path) _ (new_name_at-ordinary w.primary path) (λ name.
    refuse_if-ordinary (ChangesFiles w) (is_spent w || nat_eq w.next.number 4294967295) _ _ (refl, refl) (same w _ refl refl refl refl))

pub removed-changes : (w : World) (path : List (List ℕ)) → OrOrdinary (ChangesFiles w) (removed w path)
removed-changes w path =
    and_then-ordinary (ChangesFiles w) (file_at w.primary path) _ (file_at-ordinary w.primary path) (λ node.
    and_then-ordinary (ChangesFiles w) (name_at w.primary IsDir path) _ (name_at-ordinary w.primary IsDir path (refl, refl)) (λ name.
    refuse_if-ordinary (ChangesFiles w) (is_spent w) _ _ (refl, refl) (same w _ refl refl refl refl)))

pub removed_directory-changes : (w : World) (path : List (List ℕ)) → OrOrdinary (ChangesFiles w) (removed_directory w path)
removed_directory-changes w path =
    and_then-ordinary (ChangesFiles w) (name_at w.primary Root path) _ (name_at-ordinary w.primary Root path (refl, refl)) (λ name.
    and_then-ordinary (ChangesFiles w) (directory_at w.primary path) _ (directory_at-ordinary w.primary path) (λ node.
    refuse_if-ordinary (ChangesFiles w) (has_names w.primary node) _ _ (refl, refl)
    (refuse_if-ordinary (ChangesFiles w) (is_spent w) _ _ (refl, refl) (same w _ refl refl refl refl))))

pub moved-changes : (w : World) (path new_path : List (List ℕ)) → OrOrdinary (ChangesFiles w) (moved w path new_path)
moved-changes w path new_path =
    and_then-ordinary (ChangesFiles w) (file_at w.primary path) _ (file_at-ordinary w.primary path) (λ node.
    and_then-ordinary (ChangesFiles w) (new_name_at w.primary new_path) _ (new_name_at-ordinary w.primary new_path) (λ to.
    refuse_if-ordinary (ChangesFiles w) (is_spent w) _ _ (refl, refl)
    (and_then-ordinary (ChangesFiles w) (name_at w.primary IsDir path) _ (name_at-ordinary w.primary IsDir path (refl, refl)) (λ from.
    same w _ refl refl refl refl))))

pub overwritten-changes : (w : World) (path : List (List ℕ)) (at : ℕ) (bytes : List ℕ) → OrOrdinary (ChangesFiles w) (overwritten w path at bytes)
overwritten-changes w path at bytes =
    and_then-ordinary (ChangesFiles w) (file_at w.primary path) _ (file_at-ordinary w.primary path) (λ node.
    refuse_if-ordinary (ChangesFiles w) (nat_lt 0 (length bytes) && nat_lt file_limit (at + length bytes)) _ _ (refl, refl)
    (refuse_if-ordinary (ChangesFiles w) (is_spent w) _ _ (refl, refl) (same w _ refl refl refl refl)))

pub truncated-changes : (w : World) (path : List (List ℕ)) (size : ℕ) → OrOrdinary (ChangesFiles w) (truncated w path size)
truncated-changes w path size =
    and_then-ordinary (ChangesFiles w) (file_at w.primary path) _ (file_at-ordinary w.primary path) (λ node.
    refuse_if-ordinary (ChangesFiles w) (is_spent w) _ _ (refl, refl) (same w _ refl refl refl refl))
