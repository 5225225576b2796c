-- What a legal entry makes of the checkpoints, and histories behind one another.
use Rattle.std.proofs.Common.{◌≡◌, ◌≤◌, ℕ, true, false, None, Some, IsSomeAnd, MatchOption, MatchBool, refl, sym, ap, ◌∙◌, subst, if◌then◌else◌}
use Rattle.std.specs.Option.{option_map_or}
use Rattle.ck_model.specs.declared.call.Call.{Call}
use Rattle.ck_model.specs.declared.entry.Entry.{Entry}
use Rattle.ck_model.specs.declared.reply.Reply.{Reply}
use Rattle.ck_model.specs.declared.reply.Reply.TheVariants.{Created}
use Rattle.ck_model.specs.World.{World}
use Rattle.ck_model.specs.Space.{without_picks}
use Rattle.ck_model.specs.Streams.{Texts}
use Rattle.ck_model.specs.Step.{step}
use Rattle.ck_model.specs.History.{Past, CallsBy, IsStepOf, IsLegalAt, IsLegalWhole, IsRefusal, IsLegalNext, is_fault, created_id, world_after, past_after}
use Rattle.ck_laws.proofs.SpaceLemmas.{without_picks-adds}
use Rattle.ck_laws.proofs.StepLemmas.{Adds, step-sound}

pub created_id-fault : (reply : Reply) → is_fault reply ≡ true → created_id reply ≡ None
created_id-fault (Created id) h = cc
created_id-fault _ h = refl

step-no_fault : (texts : Texts) (w : World) (call : Call) (entry : Entry) → IsStepOf (step texts w entry.actor entry.at call) entry → is_fault entry.reply ≡ false
step-no_fault texts w call entry h = ap is_fault h.reply ∙ (step-sound texts w entry.actor entry.at call).no_fault

-- the new checkpoint whose id the entry has comes, if there is one
pub legal-adds : (texts : Texts) (w : World) (call : Call) (entry : Entry) → IsLegalAt texts w call entry → Adds w (created_id entry.reply) (world_after texts w call entry)
legal-adds texts w call entry legal =
    let outcome = step texts w entry.actor entry.at call in
    elim (is_fault entry.reply) as (λ b. is_fault entry.reply ≡ b → MatchBool b (entry.given ≤ outcome.given) (IsStepOf outcome entry) → Adds w (created_id entry.reply) (if b then without_picks entry.given w else outcome.next)) [
      | true ↦ λ fault _. subst (λ o. Adds w o (without_picks entry.given w)) (sym (created_id-fault entry.reply fault)) (without_picks-adds entry.given w)
      | false ↦ λ _ same. subst (λ reply. Adds w (created_id reply) outcome.next) (sym same.reply) (step-sound texts w entry.actor entry.at call).adds
    ] refl legal

refusal-adds : (texts : Texts) (w : World) (call : Call) (entry : Entry) (broken : ℕ) → IsRefusal broken entry → Adds w (created_id entry.reply) (world_after texts w call entry)
refusal-adds texts w call entry broken h =
    subst (λ reply. Adds w (created_id reply) (if is_fault reply then without_picks entry.given w else (step texts w entry.actor entry.at call).next)) (sym h.reply) (without_picks-adds entry.given w)

pub past_after-adds : (texts : Texts) (calls : CallsBy) (past : Past) (entry : Entry) → IsLegalNext texts calls past entry → Adds past.world (created_id entry.reply) (past_after texts calls past entry).world
past_after-adds texts calls past entry =
    let w = past.world in
    elim (calls entry.actor entry.seq) as (λ o. IsSomeAnd o (λ call. MatchOption past.broken (IsLegalWhole texts w call entry) (λ broken. IsRefusal broken entry)) → Adds w (created_id entry.reply) (option_map_or (λ call. world_after texts w call entry) o w)) [
      | None ↦ λ h. absurd h
      | Some call ↦ elim past.broken as (λ o. MatchOption o (IsLegalWhole texts w call entry) (λ broken. IsRefusal broken entry) → Adds w (created_id entry.reply) (world_after texts w call entry)) [
        | None ↦ λ h. legal-adds texts w call entry h.legal
        | Some broken ↦ λ h. refusal-adds texts w call entry broken h
      ]
    ]
