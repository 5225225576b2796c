-- What the turns of a comparison come to: the changes between two frozen maps, one after the other.
use Rattle.std.proofs.Common.{◌≡◌, ℕ, true, T, Option, Some, None, List, [], ◌∷◌, ◌++◌, map as list_map, if◌then◌else◌, refl, sym, ap, subst, ◌∙◌}
use Rattle.std.specs.Option.{option_map}
use Rattle.std.specs.FinMap.Entries.{same_entries}
use Rattle.std.specs.FinMap as map
use Rattle.ck_model.specs.declared.checkpoint.Fileset.{Fileset}
use Rattle.ck_model.specs.declared.checkpoint.Kind.{Kind}
use Rattle.ck_model.specs.declared.checkpoint.Kind.TheVariants.{Keeping, Nodata}
use Rattle.ck_model.specs.declared.key.Key.{Key}
use Rattle.ck_model.specs.declared.cell.Cell.{Cell}
use Rattle.ck_model.specs.Key.{key_cmp, key_cmp_total, key_cmp_exact}
use Rattle.ck_model.specs.Cells.{Cells, Content, differs}
use Rattle.ck_model.specs.TableWorld.{checkpoint_on, values_of}
use Rattle.ck_model.specs.Streams.{changed, image}
use Rattle.ck_model.specs.Table.{Table}
use Rattle.ck_model.specs.Values.{Store, cells_on}
use Rattle.ck_model.specs.World.{shown_by, keeps_files}
use Rattle.ck_model.proofs.CellLaws.{find-values, is_sorted-values}
use Rattle.ck_model.proofs.StreamLaws.{changed-marked, find-changed, is_sorted-changed, find-image, is_sorted-image}
use Rattle.ck_changed.specs.Compare.{rest_after}

-- ---- the frozen maps

from_shown : (kind : Kind) (a b : Cells) → changed (shown_by kind a) b ≡ changed a b
from_shown Keeping a b = refl
from_shown Nodata a b = changed-marked a b

to_shown : (kind : Kind) (b : Cells) → keeps_files kind ≡ true → shown_by kind b ≡ b
to_shown Keeping b h = refl
to_shown Nodata b h = cc

-- What changed between two checkpoints of a world is what changed between their values, also where the first one keeps no files.
pub checkpoints_changed : (store : Store) (t : Table) (a b : ℕ) (f g : Fileset) → keeps_files g.kind ≡ true
    → changed (checkpoint_on store t a f).cells (checkpoint_on store t b g).cells ≡ changed (cells_on store (values_of t a)) (cells_on store (values_of t b))
checkpoints_changed store t a b f g keeps =
    from_shown f.kind (cells_on store (values_of t a)) (shown_by g.kind (cells_on store (values_of t b)))
    ∙ ap (changed (cells_on store (values_of t a))) (to_shown g.kind (cells_on store (values_of t b)) keeps)

from_nothing : (o : Option Cell) → (if differs None o then Some (option_map (λ (cell : Cell). cell.payload) o) else None) ≡ option_map (λ (content : Content). Some content) (option_map (λ (cell : Cell). cell.payload) o)
from_nothing None = refl
from_nothing (Some cell) = refl

-- What changed since the empty map is the whole image.
pub changed_from_nothing : (b : Cells) → changed map.empty b ≡ list_map (λ (e : Key × Content). (e.0, Some e.1)) (image b)
changed_from_nothing b =
    same_entries key_cmp key_cmp_total key_cmp_exact (changed map.empty b) (list_map (λ (e : Key × Content). (e.0, Some e.1)) (image b))
    (is_sorted-changed map.empty b)
    (subst T (sym (is_sorted-values (λ key (content : Content). Some content) (image b))) (is_sorted-image b))
    (λ q.
    find-changed map.empty b q
    ∙ ap (λ o. if differs o (map.get b q) then Some (option_map (λ (cell : Cell). cell.payload) (map.get b q)) else None) (map.get-empty key_cmp q)
    ∙ from_nothing (map.get b q)
    ∙ sym (find-values (λ key (content : Content). Some content) q (image b) ∙ ap (option_map (λ (content : Content). Some content)) (find-image b q)))

-- ---- one change after the other

-- these were given, and the rest is behind the key
pub record IsSplit {X : Type 0} (changes given : List (Key × X)) (after : Option Key) : Type 0 where
  pub whole : changes ≡ given ++ rest_after after changes

all_after : {X : Type 0} (es : List (Key × X)) → rest_after None es ≡ es
all_after [] = refl
all_after (e ∷ es) = ap (λ rest. e ∷ rest) (all_after es)

-- at the start nothing was given
pub split_first : {X : Type 0} (changes : List (Key × X)) → IsSplit changes [] None
split_first changes = record { whole = sym (all_after changes) }

append_one : {X : Type 0} (xs : List X) (x : X) (ys : List X) → xs ++ x ∷ ys ≡ (xs ++ x ∷ []) ++ ys
append_one [] x ys = refl
append_one (y ∷ xs) x ys = ap (λ zs. y ∷ zs) (append_one xs x ys)

-- then one more
pub split_next : {X : Type 0} (changes given : List (Key × X)) (after : Option Key) (k : Key) (x : X) → IsSplit changes given after → rest_after after changes ≡ (k, x) ∷ rest_after (Some k) changes
    → IsSplit changes (given ++ (k, x) ∷ []) (Some k)
split_next changes given after k x split next = record {
  whole = split.whole ∙ ap (λ rest. given ++ rest) next ∙ append_one given (k, x) (rest_after (Some k) changes);
}

append_none : {X : Type 0} (xs : List X) → xs ++ [] ≡ xs
append_none [] = refl
append_none (x ∷ xs) = ap (λ zs. x ∷ zs) (append_none xs)

-- and at the end all
pub split_last : {X : Type 0} (changes given : List (Key × X)) (after : Option Key) → IsSplit changes given after → rest_after after changes ≡ [] → given ≡ changes
split_last changes given after split none = sym (split.whole ∙ ap (λ rest. given ++ rest) none ∙ append_none given)
