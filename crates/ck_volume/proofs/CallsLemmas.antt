-- The calls of a history that has one more entry.
use Rattle.std.proofs.Common.{◌≡◌, ◌≤◌, ℕ, ◌+◌, true, false, ◌&&◌, Some, None, List, [], ◌∷◌, ◌++◌, length, nat_eq, if◌then◌else◌, IsTrue, refl, sym, ap, subst, ◌∙◌, arith}
use Rattle.std.specs.List.{AllByRecursion, cons_option}
use Rattle.ck_disk.specs.Disk.{Meaning}
use Rattle.ck_model.specs.declared.call.Call.{Call}
use Rattle.ck_model.specs.declared.entry.Entry.{Entry}
use Rattle.ck_model.specs.History.{CallsBy, numbers_of}
use Rattle.ck_model.specs.World.{World}
use Rattle.ck_engine.specs.Recovery.{Recovers}
use Rattle.ck_volume.specs.Event.{IsEntryOf}
use Rattle.ck_volume.specs.Kept.{HasCalls}
use Rattle.ck_volume.specs.Told.{AreAnswered}
use Rattle.ck_volume.proofs.ToldLaws.{answered-more}

pub calls-none : (m : Meaning) (w : World) → (IsTrue m.tells → Recovers m.shows w) → HasCalls m [] []
calls-none m w recovers = record { first = λ told. (w, recovers told); calls = λ actor seq. None; answered = tt; counted = tt }

-- it has one more of that entry's actor
pub numbers-more : (history : List Entry) (entry : Entry) (actor : ℕ) → length (numbers_of (history ++ entry ∷ []) actor) ≡ length (numbers_of history actor) + (if nat_eq entry.actor actor then 1 else 0)
numbers-more [] entry actor =
    elim (nat_eq entry.actor actor) as (λ b. length (cons_option (if b then Some entry.seq else None) []) ≡ 0 + (if b then 1 else 0)) [
      | true ↦ refl
      | false ↦ refl
    ]
numbers-more (first ∷ history) entry actor =
    let rest = numbers-more history entry actor in
    elim (nat_eq first.actor actor) as (λ b.
    length (cons_option (if b then Some first.seq else None) (numbers_of (history ++ entry ∷ []) actor)) ≡ length (cons_option (if b then Some first.seq else None) (numbers_of history actor)) + (if nat_eq entry.actor actor then 1 else 0)) [
      | true ↦ omega (arith, rest)
      | false ↦ rest
    ]

nat_eq-itself : (n : ℕ) → nat_eq n n ≡ true
nat_eq-itself n = grind arith

with_call : CallsBy → ℕ → ℕ → Call → CallsBy
with_call calls actor seq call a s = if nat_eq a actor && nat_eq s seq then Some call else calls a s

called : (calls : CallsBy) (actor seq : ℕ) (call : Call) → with_call calls actor seq call actor seq ≡ Some call
unfolding with_call
called calls actor seq call = ap (λ b. if b && nat_eq seq seq then Some call else calls actor seq) (nat_eq-itself actor) ∙ ap (λ b. if b then Some call else calls actor seq) (nat_eq-itself seq)

module _ (all : List Entry) (calls : CallsBy) (actor seq : ℕ) (call : Call) (number : seq ≡ length (numbers_of all actor) + 1) where
  -- an entry before it is another
  other : (entry : Entry) → entry.seq ≤ length (numbers_of all entry.actor) → (nat_eq entry.actor actor && nat_eq entry.seq seq) ≡ false
  other entry low =
      elim (nat_eq entry.actor actor) as (λ b. nat_eq entry.actor actor ≡ b → (b && nat_eq entry.seq seq) ≡ false) [
        | true ↦ λ own.
            let same : entry.actor ≡ actor = grind (arith, own) in
            let below : entry.seq ≤ length (numbers_of all actor) = subst (λ a. entry.seq ≤ length (numbers_of all a)) same low in
            grind (arith, below, number)
        | false ↦ λ _. refl
      ] refl

  still : (told : List Call) (history : List Entry) → AllByRecursion (λ entry. entry.seq ≤ length (numbers_of all entry.actor)) history → AreAnswered calls told history → AreAnswered (with_call calls actor seq call) told history
  unfolding with_call
  still [] [] low answered = tt
  still [] (entry ∷ history) low answered = absurd answered
  still (one ∷ told) [] low answered = absurd answered
  still (one ∷ told) (entry ∷ history) low answered =
      (ap (λ b. if b then Some call else calls entry.actor entry.seq) (other entry low.0) ∙ answered.0, still told history low.1 answered.1)

counted-more : (all : List Entry) (entry : Entry) (history : List Entry) → entry.seq ≡ length (numbers_of all entry.actor) + 1 → AllByRecursion (λ e. e.seq ≤ length (numbers_of all e.actor)) history
    → AllByRecursion (λ e. e.seq ≤ length (numbers_of (all ++ entry ∷ []) e.actor)) (history ++ entry ∷ [])
counted-more all entry [] number low =
    let more = numbers-more all entry entry.actor in
    let own = ap (λ b. length (numbers_of all entry.actor) + (if b then 1 else 0)) (nat_eq-itself entry.actor) in
    (omega (arith, number, more, own), tt)
counted-more all entry (first ∷ history) number low =
    let more = numbers-more all entry first.actor in
    (omega (arith, more, low.0), counted-more all entry history number low.1)

pub calls-more : (origin : Meaning) (told : List Call) (call : Call) (history : List Entry) (entry : Entry) → entry.seq ≡ length (numbers_of history entry.actor) + 1 → HasCalls origin told history
    → HasCalls origin (told ++ call ∷ []) (history ++ entry ∷ [])
calls-more origin told call history entry number has = record {
  first = has.first;
  calls = with_call has.calls entry.actor entry.seq call;
  answered = answered-more (with_call has.calls entry.actor entry.seq call) told call history entry (still history has.calls entry.actor entry.seq call number told history has.counted has.answered) (called has.calls entry.actor entry.seq call);
  counted = counted-more history entry history number has.counted;
}

-- the entry is the next one of its actor
pub calls-told : (origin : Meaning) (told more : List Call) (call : Call) (history after : List Entry) (entry : Entry) (actor seq at : ℕ) → more ≡ told ++ call ∷ [] → after ≡ history ++ entry ∷ []
    → IsEntryOf actor seq at entry → seq ≡ length (numbers_of history actor) + 1 → HasCalls origin told history → HasCalls origin more after
calls-told origin told more call history after entry actor seq at is added is_entry number has =
    let next : entry.seq ≡ length (numbers_of history entry.actor) + 1 = is_entry.seq_is ∙ number ∙ ap (λ a. length (numbers_of history a) + 1) (sym is_entry.actor_is) in
    subst (λ calls. HasCalls origin calls after) (sym is) (subst (λ es. HasCalls origin (told ++ call ∷ []) es) (sym added) (calls-more origin told call history entry next has))
