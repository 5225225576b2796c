-- What the walks to paths can be refused with.
use Rattle.std.proofs.Common.{ℕ, ◌-◌, Bool, true, false, List, [], ◌∷◌, length, take, Result, Ok, Err, refl, if◌then◌else◌}
use Rattle.std.specs.FinMap as map
use Rattle.ck_model.specs.declared.path.WalkFault.{WalkFault}
use Rattle.ck_model.specs.declared.path.WalkFault.TheVariants as fault
use Rattle.ck_model.specs.declared.reply.Reply.{Reply}
use Rattle.ck_model.specs.declared.reply.Reply.TheVariants.{IsDir, NotDir, Exists}
use Rattle.ck_model.specs.Refusals.{or_refused}
use Rattle.ck_model.specs.Cells.{Cells, is_directory_at}
use Rattle.ck_model.specs.Walk.{walk, node_at, file_at, directory_at, name_at, new_name_at}
use Rattle.ck_laws.specs.Ordinary.{IsOrdinary, Refuses}
use Rattle.ck_laws.proofs.RefusalsLemmas.{and_then-ordinary, refuse_if-ordinary}

or_refused-ordinary : {A : Type 0} (r : Result A WalkFault) → Refuses (or_refused r)
or_refused-ordinary (Ok x) = tt
or_refused-ordinary (Err fault.NotFound) = (refl, refl)
or_refused-ordinary (Err fault.NotDir) = (refl, refl)

pub node_at-ordinary : (cells : Cells) (path : List (List ℕ)) → Refuses (node_at cells path)
node_at-ordinary cells path = or_refused-ordinary (walk cells path)

pub file_at-ordinary : (cells : Cells) (path : List (List ℕ)) → Refuses (file_at cells path)
file_at-ordinary cells path =
    and_then-ordinary _ (node_at cells path) _ (node_at-ordinary cells path) (λ node.
    refuse_if-ordinary _ (is_directory_at cells node) IsDir (Ok node) (refl, refl) tt)

or_not_dir : (b : Bool) (node : ℕ) → Refuses (if b then Ok node else Err NotDir)
or_not_dir true node = tt
or_not_dir false node = (refl, refl)

pub directory_at-ordinary : (cells : Cells) (path : List (List ℕ)) → Refuses (directory_at cells path)
directory_at-ordinary cells path =
    and_then-ordinary _ (node_at cells path) _ (node_at-ordinary cells path) (λ node. or_not_dir (is_directory_at cells node) node)

pub name_at-ordinary : (cells : Cells) (of_slash : Reply) (path : List (List ℕ)) → IsOrdinary of_slash → Refuses (name_at cells of_slash path)
name_at-ordinary cells of_slash [] h = h
name_at-ordinary cells of_slash (name ∷ names) h =
    and_then-ordinary _ (directory_at cells (take (length (name ∷ names) - 1) (name ∷ names))) _ (directory_at-ordinary cells _) (λ directory. tt)

pub new_name_at-ordinary : (cells : Cells) (path : List (List ℕ)) → Refuses (new_name_at cells path)
new_name_at-ordinary cells path =
    and_then-ordinary _ (name_at cells Exists path) _ (name_at-ordinary cells Exists path (refl, refl)) (λ key.
    refuse_if-ordinary _ (map.contains_key cells key) Exists (Ok key) (refl, refl) tt)
