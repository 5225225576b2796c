-- Where it is known that a history stands, but not in which way, it stands: it does in one way at most.
use Rattle.std.proofs.Common.{◌≡◌, ℕ, ◌+◌, Bool, false, Option, Some, None, MatchOption, List, [], ◌∷◌, if◌then◌else◌, refl}
use Rattle.std.specs.Option.{option_or}
use Rattle.std.specs.Coded.{×_prop, Coded, Coded-set, code_by, coded×, coded_ℕ, coded_bool, coded_list, coded_option}
use Rattle.std.specs.FinMap as map
use Rattle.std.proofs.Props.{props}
use mathlib.Core.Logic.{∥∥₁_elim, ∥∥₁_map}
use Rattle.ck_disk.specs.Disk.{Meaning}
use Rattle.ck_model.specs.contracts.cell.Cell as cell_row
use Rattle.ck_model.specs.contracts.checkpoint.Counters as counters_row
use Rattle.ck_model.specs.contracts.checkpoint.Kind as kind_row
use Rattle.ck_model.specs.contracts.checkpoint.Limits as limits_row
use Rattle.ck_model.specs.contracts.key.Key as key_row
use Rattle.ck_model.specs.contracts.reply.Reply as reply_row
use Rattle.ck_model.specs.declared.call.Call.{Call}
use Rattle.ck_model.specs.declared.checkpoint.Counters.{Counters}
use Rattle.ck_model.specs.declared.checkpoint.Kind.{Kind}
use Rattle.ck_model.specs.declared.checkpoint.Limits.{Limits}
use Rattle.ck_model.specs.declared.entry.Entry.{Entry}
use Rattle.ck_model.specs.declared.reply.Reply.{Reply}
use Rattle.ck_model.specs.declared.reply.Reply.TheVariants.{Broken}
use Rattle.ck_model.specs.Cells.{Cells}
use Rattle.ck_model.specs.Step.{Outcome}
use Rattle.ck_model.specs.Streams.{Texts}
use Rattle.ck_model.specs.World.{World, Checkpoint, Mounts}
use Rattle.ck_model.specs.History.{Past, CallsBy, IsStepOf, IsRefusal, IsLegalAt, IsLegalWhole, IsLegalNext, IsLegalFrom, past_after, is_write_fault, is_broken}
use Rattle.ck_volume.specs.Present.{Present, IsReady}
use Rattle.ck_volume.specs.Kept.{BreaksFrom, Stands}
use Rattle.ck_engine.proofs.WholeLaws.{whole-known}

-- ---- a past is one of a set

cells_code : Coded Cells
cells_code = map.code key_row.the_row.coded cell_row.the_row.coded

mounts_code : Coded Mounts
mounts_code = map.code (coded× coded_ℕ coded_ℕ) coded_ℕ

checkpoint_code : Coded Checkpoint
checkpoint_code =
    code_by (ℕ × (List ℕ × (Kind × (Bool × (ℕ × Cells)))))
    (coded× coded_ℕ (coded× (coded_list coded_ℕ) (coded× kind_row.the_row.coded (coded× coded_bool (coded× coded_ℕ cells_code)))))
    (λ c. (c.id, (c.name, (c.kind, (c.removable, (c.ctime, c.cells))))))
    (λ p. record { id = p.0; name = p.1.0; kind = p.1.1.0; removable = p.1.1.1.0; ctime = p.1.1.1.1.0; cells = p.1.1.1.1.1 })
    (λ _. refl)

world_code : Coded World
world_code =
    code_by (Limits × (Cells × (List Checkpoint × (Counters × Mounts))))
    (coded× limits_row.the_row.coded (coded× cells_code (coded× (coded_list checkpoint_code) (coded× counters_row.the_row.coded mounts_code))))
    (λ w. (w.limits, (w.primary, (w.checkpoints, (w.next, w.mounts)))))
    (λ p. record { limits = p.0; primary = p.1.0; checkpoints = p.1.1.0; next = p.1.1.1.0; mounts = p.1.1.1.1 })
    (λ _. refl)

pub world-set : IsSet World
world-set = Coded-set world_code

past_code : Coded Past
past_code =
    code_by (World × (ℕ × Option ℕ)) (coded× world_code (coded× coded_ℕ (coded_option coded_ℕ)))
    (λ past. (past.world, (past.length, past.broken)))
    (λ p. record { world = p.0; length = p.1.0; broken = p.1.1 })
    (λ _. refl)

past-set : IsSet Past
past-set = Coded-set past_code

reply-set : IsSet Reply
reply-set = Coded-set reply_row.the_row.coded

-- ---- each fact of a history holds in one way

step-prop : (outcome : Outcome) (entry : Entry) → IsProp (IsStepOf outcome entry)
step-prop outcome entry = hlevel (reply-set, props)

refusal-prop : (broken : ℕ) (entry : Entry) → IsProp (IsRefusal broken entry)
refusal-prop broken entry = hlevel (reply-set, props)

legal_at-prop : (texts : Texts) (w : World) (call : Call) (entry : Entry) → IsProp (IsLegalAt texts w call entry)
legal_at-prop texts w call entry = hlevel (step-prop, props)

legal_whole-prop : (texts : Texts) (w : World) (call : Call) (entry : Entry) → IsProp (IsLegalWhole texts w call entry)
legal_whole-prop texts w call entry = hlevel (legal_at-prop, props)

legal_next-prop : (texts : Texts) (calls : CallsBy) (past : Past) (entry : Entry) → IsProp (IsLegalNext texts calls past entry)
legal_next-prop texts calls past entry = hlevel (legal_whole-prop, refusal-prop, props)

legal_from-prop : (texts : Texts) (calls : CallsBy) (past : Past) (history : List Entry) → IsProp (IsLegalFrom texts calls past history)
legal_from-prop texts calls past [] = hlevel props
legal_from-prop texts calls past (entry ∷ history) =
    let first : IsProp (IsLegalNext texts calls past entry) = legal_next-prop texts calls past entry in
    let rest : IsProp (IsLegalFrom texts calls (past_after texts calls past entry) history) = legal_from-prop texts calls (past_after texts calls past entry) history in
    ×_prop first rest

breaks_from-prop : (number : ℕ) (broken : Option ℕ) (history : List Entry) → IsProp (BreaksFrom number broken history)
breaks_from-prop number broken [] = hlevel props
breaks_from-prop number broken (entry ∷ history) =
    let first : IsProp (MatchOption broken (is_broken entry.reply ≡ false) (λ by. entry.reply ≡ Broken by)) = hlevel (reply-set, props) in
    ×_prop first (breaks_from-prop (number + 1) (option_or broken (if is_write_fault entry.reply then Some number else None)) history)

pub breaks-known : (history : List Entry) → ∥ BreaksFrom 0 None history ∥₁ → BreaksFrom 0 None history
breaks-known history known = ∥∥₁_elim known (breaks_from-prop 0 None history) (λ breaks. breaks)

same-prop : (a b : Past) → IsProp (a ≡ b)
same-prop a b = past-set a b

stands-prop : {D : Type 0} (origin now : Meaning) (told : List Call) (volume : Present D) → IsProp (Stands origin now told volume)
stands-prop origin now told volume = hlevel (legal_from-prop, same-prop, props)

pub stood : {D : Type 0} (origin now : Meaning) (told : List Call) (volume : Present D) → ∥ Stands origin now told volume ∥₁ → Stands origin now told volume
stood origin now told volume known = ∥∥₁_elim known (stands-prop origin now told volume) (λ stands. stands)

-- ---- a volume that isn't broken

pub ready-known : {D : Type 0} (m : Meaning) (volume : Present D) → ∥ IsReady m volume ∥₁ → IsReady m volume
ready-known m volume known unbroken = whole-known m volume.engine (∥∥₁_map known (λ ready. ready unbroken))
