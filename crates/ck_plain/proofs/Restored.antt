-- A restore whose checkpoint is found and keeps data.
use Rattle.std.proofs.Common.{◌≡◌, ℕ, suc, ◌+◌, ◌<◌, ◌≤◌, Bool, true, not, List, [], ◌++◌, length, take, drop, Option, Some, Ok, sym, ap, ◌∙◌, arith, length-take-le}
use Rattle.std.specs.List.{find, remove}
use Rattle.std.specs.Option.{ok_or}
use Rattle.std.proofs.Math.Seq.{take-append_seam}
use Rattle.ck_model.specs.declared.reply.Reply.TheVariants.{Done, NoCkpt, NotData}
use Rattle.ck_model.specs.Refusals.{and_then, refuse_if}
use Rattle.ck_model.specs.World.{World, Checkpoint, keeps_files, is_named}
use Rattle.ck_model.specs.CheckpointCalls.{older_than, restored}
use Rattle.ck_model.specs.Step.{Outcome, told, done}

-- the world once this checkpoint is restored
abbrev restored_from : World → List Checkpoint → Checkpoint → World
restored_from w older checkpoint = record w { primary = checkpoint.cells; checkpoints = older }

pub restored-is : (w : World) (name : List ℕ) (found : Checkpoint) (older : List Checkpoint) → find (is_named name) w.checkpoints ≡ Some found → keeps_files found.kind ≡ true → older ≡ older_than w name
    → done w (restored w name) ≡ told (record w { primary = found.cells; checkpoints = older }) Done
restored-is w name found older is keeps left =
    ap (λ o. done w (and_then (ok_or o NoCkpt) (λ c. refuse_if (not (keeps_files c.kind)) NotData (Ok (restored_from w (older_than w name) c))))) is
    ∙ ap (λ b. done w (refuse_if (not b) NotData (Ok (restored_from w (older_than w name) found)))) keeps
    ∙ ap (λ cs. told (restored_from w cs found) Done) (sym left)

-- what is left before a place once the element there is removed
pub take-remove : {X : Type 0} (xs : List X) (i : ℕ) → i < length xs → take i (remove xs i) ≡ take i xs
take-remove xs i within =
    let front : length (take i xs) ≡ i = length-take-le i xs (omega arith) in
    ap (λ n. take n (take i xs ++ drop (suc i) xs)) (sym front) ∙ take-append_seam (take i xs) (drop (suc i) xs)
