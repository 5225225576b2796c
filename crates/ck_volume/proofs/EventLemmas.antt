-- Where a history stands once a call was answered.
use Rattle.std.proofs.Common.{◌≡◌, ℕ, ◌+◌, ◌-◌, ◌<◌, ◌≤◌, slice_get, true, false, Option, Some, None, IsSomeAnd, MatchBool, if◌then◌else◌, List, [], ◌∷◌, ◌++◌, length, refl, sym, ap, subst, ◌∙◌, arith, length-append}
use Rattle.std.specs.Option.{option_map_or}
use mathlib.Core.Bool.{false≢true}
use Rattle.ck_disk.specs.Disk.{Meaning}
use Rattle.ck_model.specs.declared.call.Call.{Call}
use Rattle.ck_model.specs.declared.entry.Entry.{Entry}
use Rattle.ck_model.specs.declared.reply.Reply.{Reply}
use Rattle.ck_model.specs.declared.reply.Reply.TheVariants.{Done, Broken}
use Rattle.ck_model.specs.World.{World}
use Rattle.ck_model.specs.Streams.{Texts}
use Rattle.ck_model.specs.Step.{Outcome, step}
use Rattle.ck_model.specs.Space.{without_picks}
use Rattle.ck_model.specs.History.{CallsBy, IsLegalAt, IsLegalWhole, IsRefusal, IsStepOf, world_after, is_fault, is_write_fault, is_broken}
use Rattle.ck_files.specs.Room.{answered_after}
use Rattle.ck_volume.specs.Event.{Answers, Follows, HasCause, IsEntryOf, newest, newest_from}

-- the entry that answers a call, for which so many checkpoints were given up
abbrev pub entry_of : ℕ → ℕ → ℕ → ℕ → Reply → Entry
entry_of actor seq at given reply = record { actor = actor; seq = seq; at = at; given = given; reply = reply }

-- ---- the entry that was put last

newest_from-put : (before entry : Entry) (history : List Entry) → newest_from before (history ++ entry ∷ []) ≡ entry
newest_from-put before entry [] = refl
newest_from-put before entry (first ∷ history) = newest_from-put first entry history

module _ (history now : List Entry) (entry : Entry) (is : now ≡ history ++ entry ∷ []) where
  pub newest-put : newest now ≡ entry
  newest-put = ap newest is ∙ newest_from-put (entry_of 0 0 0 0 Done) entry history

  pub added-put : now ≡ history ++ newest now ∷ []
  added-put = is ∙ ap (λ (e : Entry). history ++ e ∷ []) (sym newest-put)

  pub longer-put : length now ≡ length history + 1
  longer-put = ap (λ (es : List Entry). length es) is ∙ one
    where
      one : length (history ++ entry ∷ []) ≡ length history + 1
      one = simp length-append (omega arith)

newest_from-last : (first : Entry) (history : List Entry) (entry : Entry) → slice_get (first ∷ history) (length history) ≡ Some entry → newest_from first history ≡ entry
newest_from-last first [] entry h = cc
newest_from-last first (next ∷ history) entry h = newest_from-last next history entry h

-- the entry at the last place is the newest
pub newest-last : (history : List Entry) (entry : Entry) (many : ℕ) → 0 < length history → many ≡ length history → slice_get history (many - 1) ≡ Some entry → newest history ≡ entry
newest-last [] entry many some is h = absurd (omega (arith, some))
newest-last (first ∷ history) entry many some is h =
    let place : many - 1 ≡ length history = omega (arith, is) in
    newest_from-last first history entry (subst (λ (k : ℕ). slice_get (first ∷ history) k ≡ Some entry) place h)

pub is-entry : (actor seq at given : ℕ) (reply : Reply) (entry : Entry) → entry ≡ entry_of actor seq at given reply → IsEntryOf actor seq at entry
is-entry actor seq at given reply entry same = record {
  actor_is = ap (λ (e : Entry). e.actor) same;
  seq_is = ap (λ (e : Entry). e.seq) same;
  at_is = ap (λ (e : Entry). e.at) same;
}

-- a broken volume is asked for nothing, so no fault needs a cause
pub broken-cause : (m : Meaning) (number : ℕ) (reply : Reply) → reply ≡ Broken number → HasCause m m reply
broken-cause m number reply is = subst (HasCause m m) (sym is) (record { read = λ h. absurd (false≢true h); write = λ h. absurd (false≢true h) })

-- ---- where the history stands

module _ (texts : Texts) (calls : CallsBy) (w : World) (length actor seq at : ℕ) (call : Call) (is_call : calls actor seq ≡ Some call) where
  pub broken-follows : (broken : ℕ) → Follows texts calls (record { world = w; length = length; broken = Some broken }) (entry_of actor seq at 0 (Broken broken)) (record { world = w; length = length + 1; broken = Some broken })
  broken-follows broken = record {
    legal = subst (λ o. IsSomeAnd o (λ call. IsRefusal broken (entry_of actor seq at 0 (Broken broken)))) (sym is_call) (record { reply = refl; given = refl });
    leads = ap (λ o. record { world = option_map_or (λ call. w) o w; length = length + 1; broken = Some broken }) is_call;
  }

  -- the same of an entry that is equal to it
  pub broken-put : (broken : Option ℕ) (number later : ℕ) (entry : Entry) → broken ≡ Some number → later ≡ length + 1 → entry ≡ entry_of actor seq at 0 (Broken number)
      → Follows texts calls (record { world = w; length = length; broken = broken }) entry (record { world = w; length = later; broken = broken })
  broken-put broken number later entry is more same =
      subst (λ (o : Option ℕ). Follows texts calls (record { world = w; length = length; broken = o }) entry (record { world = w; length = later; broken = o })) (sym is)
      (subst (λ (n : ℕ). Follows texts calls (record { world = w; length = length; broken = Some number }) entry (record { world = w; length = n; broken = Some number })) (sym more)
      (subst (λ (e : Entry). Follows texts calls (record { world = w; length = length; broken = Some number }) e (record { world = w; length = length + 1; broken = Some number })) (sym same) (broken-follows number)))

  module _ (given : ℕ) (reply : Reply) (next : World) (answers : Answers texts w actor at call given reply next) where
    abbrev answer : Entry
    answer = entry_of actor seq at given reply

    legal-answer : IsLegalAt texts w call answer
    legal-answer =
        elim (is_fault reply) as (λ b. MatchBool b ((next ≡ without_picks given w) × (given ≤ (step texts w actor at call).given)) (step texts w actor at call ≡ answered_after given reply next)
        → MatchBool b (given ≤ (step texts w actor at call).given) (IsStepOf (step texts w actor at call) answer)) [
          | true ↦ λ fault. fault.1
          | false ↦ λ is. record { reply = sym (ap (λ (o : Outcome). o.reply) is); given = sym (ap (λ (o : Outcome). o.given) is) }
        ] answers

    world-answer : world_after texts w call answer ≡ next
    world-answer =
        elim (is_fault reply) as (λ b. MatchBool b ((next ≡ without_picks given w) × (given ≤ (step texts w actor at call).given)) (step texts w actor at call ≡ answered_after given reply next)
        → (if b then without_picks given w else (step texts w actor at call).next) ≡ next) [
          | true ↦ λ fault. sym fault.0
          | false ↦ λ is. ap (λ (o : Outcome). o.next) is
        ] answers

    pub answered-follows : is_broken reply ≡ false
        → Follows texts calls (record { world = w; length = length; broken = None }) answer (record { world = next; length = length + 1; broken = if is_write_fault reply then Some length else None })
    answered-follows whole = record {
      legal = subst (λ o. IsSomeAnd o (λ call. IsLegalWhole texts w call answer)) (sym is_call) (record { legal = legal-answer; whole = whole });
      leads = λ i. record {
        world = (ap (λ o. option_map_or (λ call. world_after texts w call answer) o w) is_call ∙ world-answer) i;
        length = length + 1;
        broken = if is_write_fault reply then Some length else None;
      };
    }

    pub answered-put : (broken after : Option ℕ) (later : ℕ) (entry : Entry) → broken ≡ None → after ≡ (if is_write_fault reply then Some length else None) → later ≡ length + 1 → entry ≡ answer → is_broken reply ≡ false
        → Follows texts calls (record { world = w; length = length; broken = broken }) entry (record { world = next; length = later; broken = after })
    answered-put broken after later entry is breaks more same whole =
        subst (λ (o : Option ℕ). Follows texts calls (record { world = w; length = length; broken = o }) entry (record { world = next; length = later; broken = after })) (sym is)
        (subst (λ (o : Option ℕ). Follows texts calls (record { world = w; length = length; broken = None }) entry (record { world = next; length = later; broken = o })) (sym breaks)
        (subst (λ (n : ℕ). Follows texts calls (record { world = w; length = length; broken = None }) entry (record { world = next; length = n; broken = if is_write_fault reply then Some length else None })) (sym more)
        (subst (λ (e : Entry). Follows texts calls (record { world = w; length = length; broken = None }) e (record { world = next; length = length + 1; broken = if is_write_fault reply then Some length else None })) (sym same)
        (answered-follows whole))))
