-- Histories behind one another, and the world after a fault.
use Rattle.std.proofs.Common.{◌≡◌, true, List, [], ◌∷◌, ◌++◌, refl, ap, if◌then◌else◌}
use Rattle.ck_model.specs.declared.call.Call.{Call}
use Rattle.ck_model.specs.declared.entry.Entry.{Entry}
use Rattle.ck_model.specs.World.{World}
use Rattle.ck_model.specs.Space.{without_picks}
use Rattle.ck_model.specs.Streams.{Texts}
use Rattle.ck_model.specs.Step.{step}
use Rattle.ck_model.specs.History.{Past, CallsBy, is_fault, world_after, past_after, past_of, IsLegalFrom}

pub world_after-fault : (texts : Texts) (w : World) (call : Call) (entry : Entry) → is_fault entry.reply ≡ true → world_after texts w call entry ≡ without_picks entry.given w
world_after-fault texts w call entry fault =
    ap (λ b. if b then without_picks entry.given w else (step texts w entry.actor entry.at call).next) fault

pub past_of-append : (texts : Texts) (calls : CallsBy) (past : Past) (first more : List Entry) → past_of texts calls past (first ++ more) ≡ past_of texts calls (past_of texts calls past first) more
past_of-append texts calls past [] more = refl
past_of-append texts calls past (entry ∷ first) more = past_of-append texts calls (past_after texts calls past entry) first more

pub IsLegalFrom-append : (texts : Texts) (calls : CallsBy) (past : Past) (first more : List Entry) → IsLegalFrom texts calls past first → IsLegalFrom texts calls (past_of texts calls past first) more → IsLegalFrom texts calls past (first ++ more)
IsLegalFrom-append texts calls past [] more h rest = rest
IsLegalFrom-append texts calls past (entry ∷ first) more h rest = (h.0, IsLegalFrom-append texts calls (past_after texts calls past entry) first more h.1 rest)
