-- Histories: which entries are legal after one another, the world after them, and whose calls they answer.
use Rattle.std.specs.Prelude.{◌≡◌, ◌≤◌, ⊤, ℕ, zero, suc, ◌+◌, Bool, false, List, [], ◌∷◌, length, Option, Some, None, MatchBool, MatchOption, IsSomeAnd, nat_eq, nat_le, if◌then◌else◌, slice_get}
use Rattle.std.specs.List.{filter_map, range_with_len}
use Rattle.std.specs.Option.{option_or, option_map_or}
use Rattle.ck_model.specs.declared.call.Call.{Call}
use Rattle.ck_model.specs.declared.entry.Entry.{Entry}
use Rattle.ck_model.specs.declared.reply.Reply.{Reply}
use Rattle.ck_model.specs.declared.reply.Reply.TheVariants.{Done, Delayed, Bytes, Names, StatFile, StatDir, Created, Listing, Info, Streamed, NotFound, NotDir, IsDir, Exists, NotEmpty, Root, TooBig, NoCkpt, TooMany, Spent, InUse, NotMounted, Gone, NoData, NotNewer, NotData, NoSpace, ReadFault, WriteFault, Broken, NoMemory}
use Rattle.ck_model.specs.World.{World}
use Rattle.ck_model.specs.Space.{without_picks}
use Rattle.ck_model.specs.Streams.{Texts}
use Rattle.ck_model.specs.Step.{Outcome, step}

-- the number of a reply: 0 where the call was done, 1 to 17 a refusal, 18 to 20 a fault of the device, 21 want of memory
abbrev pub reply_number : Reply → ℕ
reply_number Done = 0
reply_number Delayed = 0
reply_number (Bytes bytes) = 0
reply_number (Names children) = 0
reply_number (StatFile node size) = 0
reply_number (StatDir node count) = 0
reply_number (Created id) = 0
reply_number (Listing lines) = 0
reply_number (Info held blocks records limit checkpoints) = 0
reply_number (Streamed records bytes) = 0
reply_number NotFound = 1
reply_number NotDir = 2
reply_number IsDir = 3
reply_number Exists = 4
reply_number NotEmpty = 5
reply_number Root = 6
reply_number (TooBig size limit) = 7
reply_number NoCkpt = 8
reply_number (TooMany limit) = 9
reply_number Spent = 10
reply_number InUse = 11
reply_number NotMounted = 12
reply_number (Gone id) = 13
reply_number (NoData id) = 14
reply_number (NotNewer first second) = 15
reply_number NotData = 16
reply_number (NoSpace what held need limit) = 17
reply_number ReadFault = 18
reply_number WriteFault = 19
reply_number (Broken entries) = 20
reply_number NoMemory = 21

-- a fault of the device, a broken volume or want of memory: the call had no effect
abbrev pub is_fault : Reply → Bool
is_fault reply = nat_le 18 (reply_number reply)

abbrev pub is_write_fault : Reply → Bool
is_write_fault reply = nat_eq (reply_number reply) 19

abbrev pub is_broken : Reply → Bool
is_broken reply = nat_eq (reply_number reply) 20

-- the id of the checkpoint that was created
abbrev pub created_id : Reply → Option ℕ
created_id (Created id) = Some id
created_id _ = None

-- where a history stands: its world, its length, and the number of the entry that broke the volume
pub record Past : Type 0 where
  pub world : World
  pub length : ℕ
  pub broken : Option ℕ

abbrev pub begun : World → Past
begun w = record { world = w; length = 0; broken = None }

-- the world after an entry: the step's, or, after a fault, the one without what was given up
abbrev pub world_after : Texts → World → Call → Entry → World
world_after texts w call entry =
    if is_fault entry.reply then without_picks entry.given w else (step texts w entry.actor entry.at call).next

-- the call of an actor with this number
abbrev pub CallsBy : Type 0
CallsBy = ℕ → ℕ → Option Call

abbrev pub past_after : Texts → CallsBy → Past → Entry → Past
past_after texts calls past entry = record {
  world = option_map_or (λ call. world_after texts past.world call entry) (calls entry.actor entry.seq) past.world;
  length = past.length + 1;
  broken = option_or past.broken (if is_write_fault entry.reply then Some past.length else None);
}

abbrev pub past_of : Texts → CallsBy → Past → List Entry → Past
past_of texts calls past [] = past
past_of texts calls past (entry ∷ entries) = past_of texts calls (past_after texts calls past entry) entries

-- the world after a history that begins at this world
abbrev pub state : Texts → CallsBy → World → List Entry → World
state texts calls w history = (past_of texts calls (begun w) history).world

-- the entry has the step's reply, and gave up as many checkpoints
pub record IsStepOf (outcome : Outcome) (entry : Entry) : Type 0 where
  pub reply : entry.reply ≡ outcome.reply
  pub given : entry.given ≡ outcome.given

-- an entry is the step's, or a fault that gave up no more checkpoints than the step
abbrev pub IsLegalAt : Texts → World → Call → Entry → Type 0
IsLegalAt texts w call entry =
    let outcome = step texts w entry.actor entry.at call in
    MatchBool (is_fault entry.reply) (entry.given ≤ outcome.given) (IsStepOf outcome entry)

-- on a volume that isn't broken: legal at its world, and not Broken
pub record IsLegalWhole (texts : Texts) (w : World) (call : Call) (entry : Entry) : Type 0 where
  pub legal : IsLegalAt texts w call entry
  pub whole : is_broken entry.reply ≡ false

-- on a volume that the entry with this number broke
pub record IsRefusal (broken : ℕ) (entry : Entry) : Type 0 where
  pub reply : entry.reply ≡ Broken broken
  pub given : entry.given ≡ 0

-- the entry answers a call, and may stand here
abbrev pub IsLegalNext : Texts → CallsBy → Past → Entry → Type 0
IsLegalNext texts calls past entry =
    IsSomeAnd (calls entry.actor entry.seq) (λ call.
    MatchOption past.broken (IsLegalWhole texts past.world call entry) (λ broken. IsRefusal broken entry))

abbrev pub IsLegalFrom : Texts → CallsBy → Past → List Entry → Type 0
IsLegalFrom texts calls past [] = ⊤
IsLegalFrom texts calls past (entry ∷ entries) =
    IsLegalNext texts calls past entry × IsLegalFrom texts calls (past_after texts calls past entry) entries

-- each entry is legal after those before it
abbrev pub IsLegal : Texts → CallsBy → World → List Entry → Type 0
IsLegal texts calls w history = IsLegalFrom texts calls (begun w) history

-- the calls of an actor, of the calls of all actors in the order of their lines
abbrev pub calls_of : List (ℕ × Call) → ℕ → List Call
calls_of script actor = filter_map (λ line. if nat_eq line.0 actor then Some line.1 else None) script

-- an actor's call with this number, from 1 on
abbrev pub call_at : List (ℕ × Call) → CallsBy
call_at script actor zero = None
call_at script actor (suc before) = slice_get (calls_of script actor) before

-- the numbers of an actor's entries, in their order
abbrev pub numbers_of : List Entry → ℕ → List ℕ
numbers_of history actor = filter_map (λ entry. if nat_eq entry.actor actor then Some entry.seq else None) history

-- the history has each actor's calls once and in their order, and no other entries
abbrev pub IsOfScript : List (ℕ × Call) → List Entry → Type 0
IsOfScript script history = (actor : ℕ) → numbers_of history actor ≡ range_with_len 1 (length (calls_of script actor))
