-- Places between neighbours in a list of entries in order.
use Rattle.std.specs.Prelude.{ℕ, suc, Bool, not, List, [], ◌∷◌, Option, Some, None, nat_lt, if◌then◌else◌}
use Rattle.std.specs.Ordering.{is_lt, is_gt}
use Rattle.ck_model.specs.declared.key.Key.{Key}
use Rattle.ck_model.specs.Key.{entry_cmp}
use Rattle.ck_slots.specs.declared.search.Cut.{Cut}
use Rattle.ck_slots.specs.declared.search.Cut.TheVariants.{Fileset, Before, Behind}

-- how many entries stand at the front whose keys pass a test
abbrev pub front : {K X : Type 0} → (K → Bool) → List (K × X) → ℕ
front test [] = 0
front test (e ∷ es) = if test e.0 then suc (front test es) else 0

-- the entry of this fileset and key stands before the cut
abbrev pub stands_before : Cut → ℕ × Key → Bool
stands_before (Fileset fs) entry = nat_lt entry.0 fs
stands_before (Before fs key) entry = is_gt (entry_cmp (fs, key) entry)
stands_before (Behind fs key) entry = not (is_lt (entry_cmp (fs, key) entry))

-- before the keys of a fileset that come after this one
abbrev pub cut_behind : ℕ → Option Key → Cut
cut_behind fs None = Fileset fs
cut_behind fs (Some key) = Behind fs key
