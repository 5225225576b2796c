-- Several changes of different keys, the deletions first: where there is room for all together, each has room in its turn.
use Rattle.std.proofs.Common.{◌≡◌, ℕ, ◌+◌, ◌≤◌, Bool, true, false, ◌&&◌, ◌||◌, not, List, [], ◌∷◌, Option, Some, None, is_some, if◌then◌else◌, refl, sym, ap, ◌∙◌, arith}
use Rattle.std.specs.List.{list_any}
use Rattle.ck_model.specs.declared.key.Key.{Key}
use Rattle.ck_model.specs.declared.held.Held.{Held}
use Rattle.ck_model.specs.declared.change.Change.{Change}
use Rattle.ck_model.specs.Table.{Table, Filesets, newer, column}
use Rattle.ck_model.specs.Chain.{keeps_data, newest_live_of}
use Rattle.ck_chain.specs.Changes.{is_deletion, key_of}
use Rattle.ck_chain.specs.Kept.{pushed}
use Rattle.ck_chain.specs.Needless.{is_absent}
use Rattle.ck_push.specs.Changed.{push_into, push_of}
use Rattle.ck_push.specs.Growth.{absent_goes, gain, growth, loss, losses, one_if}

-- what is pushed, from a column
abbrev push_via : Table → (ℕ → Option Held) → Option ℕ → Option (ℕ × Held)
push_via t c None = None
push_via t c (Some fs) = if list_any (λ id. is_some (c id)) (fs ∷ newer t fs) then None else Some (fs, pushed (keeps_data t fs) (c 0))

push_from : (t : Table) (key : Key) (fs : Option ℕ) → push_into t key fs ≡ push_via t (column t key) fs
push_from t key None = refl
push_from t key (Some fs) = refl

abbrev goes_via : Table → (ℕ → Option Held) → Option ℕ → Bool
goes_via t c None = false
goes_via t c (Some fs) = is_absent (c fs) && not (list_any (λ id. is_some (c id)) (newer t fs))

goes_from : (t : Table) (key : Key) (fs : Option ℕ) → absent_goes t key fs ≡ goes_via t (column t key) fs
goes_from t key None = refl
goes_from t key (Some fs) = refl

-- two tables with the same filesets that hold the same at a key push the same
same_push : (t u : Table) (key : Key) → u.filesets ≡ t.filesets → column u key ≡ column t key → push_of u key ≡ push_of t key
same_push t u key filesets same =
    push_from u key (newest_live_of u)
    ∙ ap (λ (f : Filesets). push_via (record u { filesets = f }) (column u key) (newest_live_of (record u { filesets = f }))) filesets
    ∙ ap (λ (c : ℕ → Option Held). push_via (record u { filesets = t.filesets }) c (newest_live_of t)) same
    ∙ moved t u (column t key) (newest_live_of t)
    ∙ sym (push_from t key (newest_live_of t))
  where
    moved : (t u : Table) (c : ℕ → Option Held) (fs : Option ℕ) → push_via (record u { filesets = t.filesets }) c fs ≡ push_via t c fs
    moved t u c None = refl
    moved t u c (Some fs) = refl

same_goes : (t u : Table) (key : Key) → u.filesets ≡ t.filesets → column u key ≡ column t key → absent_goes u key (newest_live_of u) ≡ absent_goes t key (newest_live_of t)
same_goes t u key filesets same =
    goes_from u key (newest_live_of u)
    ∙ ap (λ (f : Filesets). goes_via (record u { filesets = f }) (column u key) (newest_live_of (record u { filesets = f }))) filesets
    ∙ ap (λ (c : ℕ → Option Held). goes_via (record u { filesets = t.filesets }) c (newest_live_of t)) same
    ∙ moved t u (column t key) (newest_live_of t)
    ∙ sym (goes_from t key (newest_live_of t))
  where
    moved : (t u : Table) (c : ℕ → Option Held) (fs : Option ℕ) → goes_via (record u { filesets = t.filesets }) c fs ≡ goes_via t c fs
    moved t u c None = refl
    moved t u c (Some fs) = refl

-- what a change adds doesn't depend on other keys
pub gain_stays : (t u : Table) (change : Change) → u.filesets ≡ t.filesets → column u (key_of change) ≡ column t (key_of change) → gain u change ≡ gain t change
gain_stays t u change filesets same = λ i.
    one_if (is_some (same_push t u (key_of change) filesets same i)) + one_if (not (is_deletion change) && not (is_some (same i 0)))

-- nor does what it takes away
pub loss_stays : (t u : Table) (change : Change) → u.filesets ≡ t.filesets → column u (key_of change) ≡ column t (key_of change) → loss u change ≡ loss t change
loss_stays t u change filesets same = λ i.
    one_if (is_deletion change) + one_if (is_deletion change && same_goes t u (key_of change) filesets same i)

pub no_losses : (t : Table) (changes : List Change) → list_any is_deletion changes ≡ false → losses t changes ≡ 0
no_losses t [] h = refl
no_losses t (change ∷ changes) h =
    elim (is_deletion change) as (λ b. (b || list_any is_deletion changes) ≡ false → one_if b + one_if (b && absent_goes t (key_of change) (newest_live_of t)) + losses t changes ≡ 0) [
      | true ↦ λ h. cc
      | false ↦ λ h. let rest = no_losses t changes h in omega arith
    ] h

one_at_most : (b : Bool) → one_if b ≤ 1
one_at_most true = omega arith
one_at_most false = omega arith

-- a deletion takes no room
pub deletion_grows : (t : Table) (change : Change) → is_deletion change ≡ true → growth t change ≡ 0
deletion_grows t change deletes =
    let adds : gain t change ≡ one_if (is_some (push_of t (key_of change))) + 0 = ap (λ b. one_if (is_some (push_of t (key_of change))) + one_if (not b && not (is_some (column t (key_of change) 0)))) deletes in
    let takes : loss t change ≡ 1 + one_if (absent_goes t (key_of change) (newest_live_of t)) = ap (λ b. one_if b + one_if (b && absent_goes t (key_of change) (newest_live_of t))) deletes in
    let most = one_at_most (is_some (push_of t (key_of change))) in
    omega arith
