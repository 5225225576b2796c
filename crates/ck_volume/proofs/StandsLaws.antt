-- A history that stands, from the beginning on.
use Rattle.std.proofs.Common.{◌≡◌, ℕ, ◌+◌, ◌≤◌, Bool, true, false, Option, Some, None, IsTrue, List, [], ◌∷◌, ◌++◌, length, if◌then◌else◌, refl, sym, ap, subst, ◌∙◌, arith}
use Rattle.std.specs.Prelude.{MatchOption}
use Rattle.std.specs.Option.{option_or}
use Rattle.ck_disk.specs.Disk.{Meaning}
use Rattle.ck_model.specs.declared.call.Call.{Call}
use Rattle.ck_model.specs.declared.entry.Entry.{Entry}
use Rattle.ck_model.specs.declared.reply.Reply.TheVariants.{Broken}
use Rattle.ck_model.specs.Streams.{Texts}
use Rattle.ck_model.specs.World.{World}
use Rattle.ck_model.specs.History.{CallsBy, IsLegal, begun, past_of, is_write_fault, is_broken}
use Rattle.ck_volume.specs.declared.commit.CommitAnswer.{CommitAnswer}
use Rattle.ck_volume.specs.declared.commit.CommitAnswer.TheVariants as answer
use Rattle.ck_volume.specs.Present.{Present, history_of, broken_of, world_of, past_on}
use Rattle.ck_volume.specs.CommitAnswer.{broken_after, committed_after, spoilt_after}
use Rattle.ck_volume.specs.Event.{Follows, IsEntryOf}
use Rattle.ck_volume.specs.Kept.{broken_by, BreaksFrom, Stands}
use Rattle.ck_engine.specs.Recovery.{Recovers}
use Rattle.ck_volume.specs.Told.{AreAnswered}
use Rattle.ck_engine.proofs.KeptLaws.{recovers-one}
use Rattle.ck_volume.proofs.ToldLaws.{answered-before, legal-more}

-- ---- which entry broke it

pub or_none : (o : Option ℕ) → option_or o None ≡ o
or_none None = refl
or_none (Some n) = refl

broken-more : (number : ℕ) (broken : Option ℕ) (history : List Entry) (entry : Entry)
    → broken_by number broken (history ++ entry ∷ []) ≡ option_or (broken_by number broken history) (if is_write_fault entry.reply then Some (number + length history) else None)
broken-more number broken [] entry =
    let same : number ≡ number + 0 = omega arith in
    ap (λ (n : ℕ). option_or broken (if is_write_fault entry.reply then Some n else None)) same
broken-more number broken (first ∷ history) entry =
    let next = option_or broken (if is_write_fault first.reply then Some number else None) in
    let same : (number + 1) + length history ≡ number + length (first ∷ history) = omega arith in
    broken-more (number + 1) next history entry
    ∙ ap (λ (n : ℕ). option_or (broken_by (number + 1) next history) (if is_write_fault entry.reply then Some n else None)) same

breaks-more : (number : ℕ) (broken : Option ℕ) (history : List Entry) (entry : Entry) → BreaksFrom number broken history
    → MatchOption (broken_by number broken history) (is_broken entry.reply ≡ false) (λ by. entry.reply ≡ Broken by) → BreaksFrom number broken (history ++ entry ∷ [])
breaks-more number broken [] entry h next = (next, tt)
breaks-more number broken (first ∷ history) entry h next =
    (h.0, breaks-more (number + 1) (option_or broken (if is_write_fault first.reply then Some number else None)) history entry h.1 next)

-- a volume that no commit broke answers Broken exactly where an entry broke it
pub replies-more : (history after : List Entry) (entry : Entry) (old : Option ℕ) → old ≡ broken_by 0 None history → after ≡ history ++ entry ∷ []
    → MatchOption old (is_broken entry.reply ≡ false) (λ by. entry.reply ≡ Broken by) → BreaksFrom 0 None history → BreaksFrom 0 None after
replies-more history after entry old was added refused breaks =
    subst (λ (es : List Entry). BreaksFrom 0 None es) (sym added)
    (breaks-more 0 None history entry breaks (subst (λ (o : Option ℕ). MatchOption o (is_broken entry.reply ≡ false) (λ by. entry.reply ≡ Broken by)) was refused))

pub broken-goes : (history after : List Entry) (entry : Entry) (old new : Option ℕ) → old ≡ broken_by 0 None history → after ≡ history ++ entry ∷ []
    → new ≡ option_or old (if is_write_fault entry.reply then Some (length history) else None) → new ≡ broken_by 0 None after
broken-goes history after entry old new was added now =
    let zero_plus : length history ≡ 0 + length history = omega arith in
    now
    ∙ ap (λ (o : Option ℕ). option_or o (if is_write_fault entry.reply then Some (length history) else None)) was
    ∙ ap (λ (n : ℕ). option_or (broken_by 0 None history) (if is_write_fault entry.reply then Some n else None)) zero_plus
    ∙ sym (broken-more 0 None history entry)
    ∙ ap (λ (es : List Entry). broken_by 0 None es) (sym added)

-- where no commit broke it
pub by-entry : (b s old : Option ℕ) → old ≡ option_or b s → s ≡ None → old ≡ b
by-entry b s old is none = is ∙ ap (λ (o : Option ℕ). option_or b o) none ∙ or_none b

pub or-entry : (b s now : Option ℕ) → now ≡ b → s ≡ None → now ≡ option_or b s
or-entry b s now is none = is ∙ sym (or_none b) ∙ ap (λ (o : Option ℕ). option_or b o) (sym none)

-- a commit breaks only what no entry broke
by-none : (b s old : Option ℕ) → old ≡ option_or b s → ((n : ℕ) → old ≡ Some n → ⊥) → b ≡ None
by-none None s old is whole = refl
by-none (Some n) s old is whole = absurd (whole n is)

faulty : (n : ℕ) → answer.WriteFault ≡ answer.Broken n → ⊥
faulty n h = cc

pub breaks-commit : (b s old : Option ℕ) (length : ℕ) (committed : CommitAnswer) → old ≡ option_or b s → ((n : ℕ) → old ≡ Some n → committed ≡ answer.Broken n)
    → broken_after length old committed ≡ option_or b (spoilt_after length s committed)
breaks-commit b s old length answer.Done is refused = is
breaks-commit b s old length answer.WriteFault is refused =
    sym (ap (λ (o : Option ℕ). option_or o (Some length)) (by-none b s old is (λ n broken. faulty n (refused n broken))))
breaks-commit b s old length (answer.Broken number) is refused = is
breaks-commit b s old length answer.NoMemory is refused = is

pub within-commit : (committed length : ℕ) (how : CommitAnswer) → committed ≤ length → committed_after length committed how ≤ length
within-commit committed length answer.Done within = omega arith
within-commit committed length answer.WriteFault within = within
within-commit committed length (answer.Broken number) within = within
within-commit committed length answer.NoMemory within = within

pub within-event : (committed now before after : ℕ) (synced : Bool) → committed ≤ before → after ≡ before + 1 → now ≡ (if synced then after else committed) → now ≤ after
within-event committed now before after true within longer is = omega (arith, is)
within-event committed now before after false within longer is = omega (arith, is, longer, within)

-- ---- where it stands

abbrev StandsAt : {D : Type 0} → Meaning → Present D → Texts → CallsBy → World → List Entry → Type 0
StandsAt now volume texts calls w history =
    IsLegal texts calls w history
    × (past_of texts calls (begun w) history ≡ record { world = world_of now.shows volume; length = length history; broken = broken_by 0 None history })

pub stands-begins : {D : Type 0} (m : Meaning) (volume : Present D) → history_of volume ≡ [] → (IsTrue m.tells → Recovers m.shows (world_of m.shows volume)) → Stands m m [] volume
stands-begins m volume none recovers told w found texts calls answered =
    subst (λ (es : List Entry). StandsAt m volume texts calls w es) (sym none)
    (tt, ap (λ (v : World). begun v) (recovers-one m.shows w (world_of m.shows volume) found (recovers told)))

pub stands-more : {D : Type 0} (origin mid new : Meaning) (told : List Call) (before after : Present D) (call : Call) (entry : Entry) (actor seq at : ℕ)
    → Stands origin mid told before → mid.tells ≡ origin.tells → history_of after ≡ history_of before ++ entry ∷ [] → IsEntryOf actor seq at entry
    → (IsTrue mid.tells → (texts : Texts) (calls : CallsBy) → calls actor seq ≡ Some call → Follows texts calls (past_on mid.shows before) entry (past_on new.shows after))
    → broken_of before ≡ broken_by 0 None (history_of before) → broken_of after ≡ broken_by 0 None (history_of after)
    → Stands origin new (told ++ call ∷ []) after
stands-more origin mid new told before after call entry actor seq at stands tells added is_entry follows was now is_told w found texts calls answered =
    let history = history_of before in
    let split = answered-before calls told call history entry (subst (λ (es : List Entry). AreAnswered calls (told ++ call ∷ []) es) added answered) in
    let stood = stands is_told w found texts calls split.0 in
    let here : calls entry.actor entry.seq ≡ calls actor seq = λ i. calls (is_entry.actor_is i) (is_entry.seq_is i) in
    let is_call : calls actor seq ≡ Some call = sym here ∙ split.1 in
    let step = follows (subst IsTrue (sym tells) is_told) texts calls is_call in
    let leads : past_of texts calls (begun w) history ≡ past_on mid.shows before = stood.1 ∙ ap (λ (o : Option ℕ). record { world = world_of mid.shows before; length = length history; broken = o }) (sym was) in
    let more = legal-more texts calls w history entry (past_on mid.shows before) (past_on new.shows after) stood.0 leads step.legal step.leads in
    let past : past_on new.shows after ≡ record { world = world_of new.shows after; length = length (history_of after); broken = broken_by 0 None (history_of after) } = ap (λ (o : Option ℕ). record { world = world_of new.shows after; length = length (history_of after); broken = o }) now in
    let all : IsLegal texts calls w (history_of after) × (past_of texts calls (begun w) (history_of after) ≡ past_on new.shows after) =
    subst (λ (es : List Entry). IsLegal texts calls w es × (past_of texts calls (begun w) es ≡ past_on new.shows after)) (sym added) more in
    (all.0, all.1 ∙ past)

-- where the calls that were told are these
pub stands-told : {D : Type 0} (origin mid new : Meaning) (told more : List Call) (before after : Present D) (call : Call) (entry : Entry) (actor seq at : ℕ)
    → Stands origin mid told before → more ≡ told ++ call ∷ [] → mid.tells ≡ origin.tells → history_of after ≡ history_of before ++ entry ∷ [] → IsEntryOf actor seq at entry
    → (IsTrue mid.tells → (texts : Texts) (calls : CallsBy) → calls actor seq ≡ Some call → Follows texts calls (past_on mid.shows before) entry (past_on new.shows after))
    → broken_of before ≡ broken_by 0 None (history_of before) → broken_of after ≡ broken_by 0 None (history_of after)
    → Stands origin new more after
stands-told origin mid new told more before after call entry actor seq at stands is tells added is_entry follows was now =
    subst (λ (calls : List Call). Stands origin new calls after) (sym is) (stands-more origin mid new told before after call entry actor seq at stands tells added is_entry follows was now)

pub stands-still : {D : Type 0} (origin mid new : Meaning) (told : List Call) (before after : Present D)
    → Stands origin mid told before → mid.tells ≡ origin.tells → history_of after ≡ history_of before → (IsTrue mid.tells → world_of new.shows after ≡ world_of mid.shows before)
    → Stands origin new told after
stands-still origin mid new told before after stands tells same world is_told w found texts calls answered =
    let stood = stands is_told w found texts calls (subst (λ (es : List Entry). AreAnswered calls told es) same answered) in
    let history = history_of before in
    subst (λ (es : List Entry). StandsAt new after texts calls w es) (sym same)
    (stood.0, stood.1 ∙ ap (λ (v : World). record { world = v; length = length history; broken = broken_by 0 None history }) (sym (world (subst IsTrue (sym tells) is_told))))
