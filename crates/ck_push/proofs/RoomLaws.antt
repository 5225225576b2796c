-- Several changes, the deletions first: once there is room for all, each has room in its turn.
use Rattle.std.proofs.Common.{◌≡◌, ◌+◌, ◌-◌, ◌≤◌, true, false, not, ◌&&◌, ◌||◌, List, ◌∷◌, refl, sym, ap, ◌∙◌, arith}
use Rattle.std.specs.List.{list_any}
use Rattle.ck_model.specs.declared.change.Change.{Change}
use Rattle.ck_model.specs.Table.{Table, record_count, spare_count}
use Rattle.ck_model.specs.Chain.{newest_live_of}
use Rattle.ck_model.proofs.CaseLaws.{and_left, not_true}
use Rattle.ck_chain.specs.Changes.{deletions_first, is_deletion, key_of}
use Rattle.ck_push.specs.Growth.{gain, loss, gains, losses, growth, one_if, absent_goes}
use Rattle.ck_push.proofs.RoomLemmas.{deletion_grows, no_losses}

-- a change that is no deletion takes none away
no_loss : (t : Table) (item : Change) → is_deletion item ≡ false → loss t item ≡ 0
no_loss t item h = ap (λ b. one_if b + one_if (b && absent_goes t (key_of item) (newest_live_of t))) h

-- the first one has room
pub room_first : (t : Table) (item : Change) (items : List Change) → deletions_first (item ∷ items) ≡ true → gains t (item ∷ items) - losses t (item ∷ items) ≤ spare_count t → growth t item ≤ spare_count t
room_first t item items first room =
    elim (is_deletion item) as (λ b. is_deletion item ≡ b → growth t item ≤ spare_count t) [
      | true ↦ λ is. let none = deletion_grows t item is in omega (arith, none)
      | false ↦ λ is.
          let left : not (list_any is_deletion items) ≡ true = sym (ap (λ b. b || not (list_any is_deletion items)) is) ∙ and_left (is_deletion item || not (list_any is_deletion items)) (deletions_first items) first in
          let none = no_losses t items (not_true (list_any is_deletion items) left) in
          let here = no_loss t item is in
          omega (arith, room, none, here)
    ] refl

-- and the others have room then
pub room_after : (t u : Table) (item : Change) (items : List Change) → deletions_first (item ∷ items) ≡ true → gains t (item ∷ items) - losses t (item ∷ items) ≤ spare_count t
    → record_count t ≤ t.records → record_count u ≤ u.records → u.records ≡ t.records → record_count u + loss t item ≡ record_count t + gain t item
    → gains u items ≡ gains t items → losses u items ≡ losses t items → gains u items - losses u items ≤ spare_count u
room_after t u item items first room fits fits_after limit counted same_gains same_losses =
    elim (is_deletion item) as (λ b. is_deletion item ≡ b → gains u items - losses u items ≤ spare_count u) [
      | true ↦ λ is. let less : gain t item - loss t item ≡ 0 = deletion_grows t item is in omega (arith, room, fits, fits_after, limit, counted, same_gains, same_losses, less)
      | false ↦ λ is.
          let left : not (list_any is_deletion items) ≡ true = sym (ap (λ b. b || not (list_any is_deletion items)) is) ∙ and_left (is_deletion item || not (list_any is_deletion items)) (deletions_first items) first in
          let none = no_losses t items (not_true (list_any is_deletion items) left) in
          let here = no_loss t item is in
          omega (arith, room, fits, fits_after, limit, counted, same_gains, same_losses, none, here)
    ] refl
