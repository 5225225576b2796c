-- What one test of a phase says of another.
use Rattle.std.proofs.Common.{◌≡◌, true, refl}
use Rattle.ck_turn.specs.declared.view.Phase.{Phase}
use Rattle.ck_turn.specs.declared.view.Phase.TheVariants.{Out, Waiting, Called, Fresh, Inside, Wrote, Gave, Spent}
use Rattle.ck_turn.specs.Phase.{has_ticket, has_turn, is_away, has_all, is_live}

pub turn_has_ticket : (p : Phase) → has_turn p ≡ true → has_ticket p ≡ true
turn_has_ticket Out e = e
turn_has_ticket Spent e = e
turn_has_ticket _ e = refl

pub away_has_turn : (p : Phase) → is_away p ≡ true → has_turn p ≡ true
away_has_turn Out e = e
away_has_turn Waiting e = e
away_has_turn Spent e = e
away_has_turn _ e = refl

pub all_has_turn : (p : Phase) → has_all p ≡ true → has_turn p ≡ true
all_has_turn Out e = e
all_has_turn Waiting e = e
all_has_turn Spent e = e
all_has_turn _ e = refl

pub away_is_live : (p : Phase) → is_away p ≡ true → is_live p ≡ true
away_is_live Spent e = e
away_is_live _ e = refl
