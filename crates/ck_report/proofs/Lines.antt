-- The text of a legal history tells it.
use Rattle.std.proofs.Common.{◌≡◌, ◌≤◌, ℕ, true, false, Option, Some, None, IfSome, MatchOption, MatchBool, IsSomeAnd, List, [], ◌∷◌, ◌++◌, drop, refl, sym, ap, subst, ◌∙◌, append_assoc}
use Rattle.std.specs.Option.{option_map_or}
use Rattle.std.specs.Fmt.{decimal}
use Rattle.std.proofs.lemmas.List.{append_cancel_left}
use Rattle.ck_model.specs.declared.call.Call.{Call}
use Rattle.ck_model.specs.declared.entry.Entry.{Entry}
use Rattle.ck_model.specs.declared.reply.Reply.{Reply}
use Rattle.ck_model.specs.declared.reply.Reply.TheVariants.{Names, Listing}
use Rattle.ck_model.specs.World.{World}
use Rattle.ck_model.specs.Streams.{Texts}
use Rattle.ck_model.specs.Step.{step}
use Rattle.ck_model.specs.History.{Past, CallsBy, begun, past_after, is_fault, IsStepOf, IsLegalAt, IsLegalWhole, IsRefusal, IsLegalNext, IsLegalFrom}
use Rattle.ck_report.specs.Words.{call_words, reply_words}
use Rattle.ck_report.specs.Transcript.{entry_head, answer_text, entry_line, entry_text, transcript_text}
use Rattle.ck_report.specs.Printed.{IsProperEntry, IsProperIn, AreProper, TextsTell, printed, printed_entry}
use Rattle.ck_report.proofs.Splits.{Ends, IsDigit, number_first}
use Rattle.ck_report.proofs.Forms.{lists, asks_checkpoints, Answers, plain-answers, step-answers}
use Rattle.ck_report.proofs.ReplyLemmas.{no_digit_32, no_digit_46, number_before, replies_tell}

-- a legal entry answers a call, and lists nothing that the call doesn't ask for

fault-plain : (reply : Reply) → is_fault reply ≡ true → lists reply ≡ None
fault-plain (Names children) fault = cc
fault-plain (Listing lines) fault = cc
fault-plain _ fault = refl

legal-answers : (texts : Texts) (w : World) (call : Call) (entry : Entry) → IsLegalAt texts w call entry → Answers (asks_checkpoints call) entry.reply
legal-answers texts w call entry legal =
    let outcome = step texts w entry.actor entry.at call in
    elim (is_fault entry.reply) as (λ b. is_fault entry.reply ≡ b → MatchBool b (entry.given ≤ outcome.given) (IsStepOf outcome entry) → Answers (asks_checkpoints call) entry.reply) [
      | true ↦ λ fault _. plain-answers (asks_checkpoints call) entry.reply (fault-plain entry.reply fault)
      | false ↦ λ _ same. subst (Answers (asks_checkpoints call)) (sym same.reply) (step-answers texts w entry.actor entry.at call)
    ] refl legal

either-answers : (texts : Texts) (w : World) (broken : Option ℕ) (call : Call) (entry : Entry) → MatchOption broken (IsLegalWhole texts w call entry) (λ broken. IsRefusal broken entry)
    → Answers (asks_checkpoints call) entry.reply
either-answers texts w None call entry legal = legal-answers texts w call entry legal.legal
either-answers texts w (Some broken) call entry refusal = subst (Answers (asks_checkpoints call)) (sym refusal.reply) tt

-- the call that an entry answers
record IsAnswered (calls : CallsBy) (entry : Entry) : Type 0 where
  call : Call
  is : calls entry.actor entry.seq ≡ Some call
  answers : Answers (asks_checkpoints call) entry.reply

next-answered : (texts : Texts) (calls : CallsBy) (past : Past) (entry : Entry) → IsLegalNext texts calls past entry → IsAnswered calls entry
next-answered texts calls past entry legal = from (calls entry.actor entry.seq) refl legal
  where
    from : (found : Option Call) → calls entry.actor entry.seq ≡ found → IsSomeAnd found (λ call. MatchOption past.broken (IsLegalWhole texts past.world call entry) (λ broken. IsRefusal broken entry)) → IsAnswered calls entry
    from None is legal = absurd legal
    from (Some call) is legal = record { call = call; is = is; answers = either-answers texts past.world past.broken call entry legal }

-- the line of an entry

-- two entries with the same actor, number, moment and given count
record SameHead (e f : Entry) : Type 0 where
  actor : e.actor ≡ f.actor
  seq : e.seq ≡ f.seq
  at : e.at ≡ f.at
  given : e.given ≡ f.given

head_is : (entry : Entry) (r : List ℕ) → entry_head entry ++ r ≡ decimal entry.actor ++ 46 ∷ (decimal entry.seq ++ 32 ∷ (decimal entry.at ++ 32 ∷ (decimal entry.given ++ r)))
unfolding entry_head
head_is entry r = simp append_assoc refl

head_tells : (e f : Entry) (r s : List ℕ) → IsProperEntry e → IsProperEntry f → Ends IsDigit r → Ends IsDigit s → entry_head e ++ r ≡ entry_head f ++ s → SameHead e f × (r ≡ s)
head_tells e f r s is are over end h =
    let actor = number_before e.actor f.actor 46 _ _ is.actor are.actor no_digit_46 (sym (head_is e r) ∙ h ∙ head_is f s) in
    let seq = number_before e.seq f.seq 32 _ _ is.seq are.seq no_digit_32 actor.1 in
    let at = number_before e.at f.at 32 _ _ is.at are.at no_digit_32 seq.1 in
    let given = number_first e.given f.given r s is.given are.given over end at.1 in
    (record { actor = actor.0; seq = seq.0; at = at.0; given = given.0 }, given.1)

answer_is : (call : Call) (reply : Reply) (r : List ℕ) → answer_text call reply ++ r ≡ 32 ∷ (call_words call ++ 32 ∷ 61 ∷ 32 ∷ (reply_words reply ++ 10 ∷ r))
unfolding answer_text
answer_is call reply r = simp append_assoc refl

-- a call's words, then the reply's
answer_tells : (call : Call) (given other : Reply) (r s : List ℕ) → answer_text call given ++ r ≡ answer_text call other ++ s → reply_words given ++ 10 ∷ r ≡ reply_words other ++ 10 ∷ s
answer_tells call given other r s h =
    let whole = ap (drop 1) (sym (answer_is call given r) ∙ h ∙ answer_is call other s) in
    ap (drop 3) (append_cancel_left (call_words call) (32 ∷ 61 ∷ 32 ∷ (reply_words given ++ 10 ∷ r)) (32 ∷ 61 ∷ 32 ∷ (reply_words other ++ 10 ∷ s)) whole)

answer_end : (call : Call) (reply : Reply) (r : List ℕ) → Ends IsDigit (answer_text call reply ++ r)
answer_end call reply r = subst (Ends IsDigit) (sym (answer_is call reply r)) no_digit_32

same_call : (calls : CallsBy) (e f : Entry) (a : IsAnswered calls e) (b : IsAnswered calls f) → SameHead e f → a.call ≡ b.call
same_call calls e f a b same =
    let found : Some a.call ≡ Some b.call = sym a.is ∙ (λ i. calls (same.actor i) (same.seq i)) ∙ b.is in
    cc

-- two lines of entries, and what follows them
line_tells : (calls : CallsBy) (e f : Entry) (a : IsAnswered calls e) (b : IsAnswered calls f) (r s : List ℕ) → IsProperEntry e → IsProperEntry f
    → entry_line e a.call ++ r ≡ entry_line f b.call ++ s → (printed_entry e ≡ printed_entry f) × (r ≡ s)
line_tells calls e f a b r s is are h =
    let head = head_tells e f (answer_text a.call e.reply ++ r) (answer_text b.call f.reply ++ s) is are (answer_end a.call e.reply r) (answer_end b.call f.reply s)
    (sym (append_assoc (entry_head e) (answer_text a.call e.reply) r) ∙ h ∙ append_assoc (entry_head f) (answer_text b.call f.reply) s) in
    let call = same_call calls e f a b head.0 in
    let answer = answer_tells a.call e.reply f.reply r s (head.1 ∙ ap (λ c. answer_text c f.reply ++ s) (sym call)) in
    let again = subst (λ c. Answers (asks_checkpoints c) f.reply) (sym call) b.answers in
    let reply = replies_tell e.reply f.reply r s (asks_checkpoints a.call) is.reply are.reply a.answers again answer in
    (λ i. record { actor = head.0.actor i; seq = head.0.seq i; at = head.0.at i; given = head.0.given i; reply = reply.0 i }, reply.1)

-- an entry that answers a call is proper
proper : (calls : CallsBy) (entry : Entry) (a : IsAnswered calls entry) → IsProperIn calls entry → IsProperEntry entry
proper calls entry a is = subst (λ found. IfSome found (λ call. IsProperEntry entry)) a.is is

text_is : (calls : CallsBy) (entry : Entry) (a : IsAnswered calls entry) → entry_text calls entry ≡ entry_line entry a.call
text_is calls entry a = ap (λ found. option_map_or (entry_line entry) found []) a.is

-- a line isn't empty
not_empty : (xs : List ℕ) (byte : ℕ) (ys : List ℕ) → [] ≡ xs ++ byte ∷ ys → ⊥
not_empty [] byte ys h = cc
not_empty (x ∷ xs) byte ys h = cc

no_line : (calls : CallsBy) (entry : Entry) (a : IsAnswered calls entry) (r : List ℕ) → [] ≡ entry_text calls entry ++ r → ⊥
no_line calls entry a r h =
    not_empty (entry_head entry) 32 _
    (h ∙ ap (λ line. line ++ r) (text_is calls entry a) ∙ append_assoc (entry_head entry) (answer_text a.call entry.reply) r ∙ ap (λ text. entry_head entry ++ text) (answer_is a.call entry.reply r))

histories_tell : (calls : CallsBy) (texts other_texts : Texts) (past other : Past) (history again : List Entry) → IsLegalFrom texts calls past history → IsLegalFrom other_texts calls other again
    → AreProper calls history → AreProper calls again → transcript_text calls history ≡ transcript_text calls again → printed history ≡ printed again
histories_tell calls texts other_texts past other [] [] legal legal_again is are h = refl
histories_tell calls texts other_texts past other [] (f ∷ again) legal legal_again is are h =
    absurd (no_line calls f (next-answered other_texts calls other f legal_again.0) (transcript_text calls again) h)
histories_tell calls texts other_texts past other (e ∷ history) [] legal legal_again is are h =
    absurd (no_line calls e (next-answered texts calls past e legal.0) (transcript_text calls history) (sym h))
histories_tell calls texts other_texts past other (e ∷ history) (f ∷ again) legal legal_again is are h =
    let a = next-answered texts calls past e legal.0 in
    let b = next-answered other_texts calls other f legal_again.0 in
    let rest : List Entry → List ℕ = λ entries. transcript_text calls entries in
    let first = line_tells calls e f a b (rest history) (rest again) (proper calls e a is.0) (proper calls f b are.0)
    (ap (λ line. line ++ rest history) (sym (text_is calls e a)) ∙ h ∙ ap (λ line. line ++ rest again) (text_is calls f b)) in
    let below = histories_tell calls texts other_texts (past_after texts calls past e) (past_after other_texts calls other f) history again legal.1 legal_again.1 is.1 are.1 first.1 in
    (λ i. first.0 i ∷ below i)

-- two legal histories of one script that have the same text are the same, but for what the text leaves out
pub texts_tell : TextsTell
texts_tell calls texts other_texts w other history again legal legal_again is are h =
    histories_tell calls texts other_texts (begun w) (begun other) history again legal legal_again is are h
