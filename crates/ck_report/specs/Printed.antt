-- What the text of a history says of it, and that it says no less.
use Rattle.std.specs.Prelude.{◌≡◌, ◌<◌, ◌^◌, ⊤, ℕ, List, IfSome, length, map as list_map}
use Rattle.std.specs.List.{AllByRecursion}
use Rattle.hex.specs.Hex.{IsBytes}
use Rattle.ck_model.specs.declared.checkpoint.CkptLine.{CkptLine}
use Rattle.ck_model.specs.declared.child.Child.{Child}
use Rattle.ck_model.specs.declared.entry.Entry.{Entry}
use Rattle.ck_model.specs.declared.reply.Reply.{Reply}
use Rattle.ck_model.specs.declared.reply.Reply.TheVariants.{Bytes, Names, StatFile, StatDir, Created, Listing, Info, Streamed, TooBig, TooMany, Gone, NoData, NotNewer, NoSpace, Broken}
use Rattle.ck_model.specs.Name.{IsName}
use Rattle.ck_model.specs.World.{World}
use Rattle.ck_model.specs.Streams.{Texts}
use Rattle.ck_model.specs.History.{CallsBy, IsLegal}
use Rattle.ck_report.specs.Words.{digest_in}
use Rattle.ck_report.specs.Transcript.{transcript_text}

-- of a name in a directory, the text leaves out which node it names
abbrev pub printed_child : Child → Child
printed_child child = record child { node = 0 }

-- and of a stream all but its digest
abbrev pub printed_reply : Reply → Reply
printed_reply (Names children) = Names (list_map printed_child children)
printed_reply (Streamed records stream) = Streamed records (digest_in stream)
printed_reply reply = reply

-- what the text says of an entry
abbrev pub printed_entry : Entry → Entry
printed_entry entry = record entry { reply = printed_reply entry.reply }

-- what a history's text says of it
abbrev pub printed : List Entry → List Entry
printed history = list_map printed_entry history

abbrev pub IsNumber : ℕ → Type 0
IsNumber number = number < 2 ^ 64

pub record IsProperLine (line : CkptLine) : Type 0 where
  pub id : IsNumber line.id
  pub ctime : IsNumber line.ctime
  pub name : IsName line.name

pub record IsProperListing (lines : List CkptLine) : Type 0 where
  pub count : IsNumber (length lines)
  pub each : AllByRecursion IsProperLine lines

pub record IsProperDirectory (children : List Child) : Type 0 where
  pub count : IsNumber (length children)
  pub each : AllByRecursion (λ child. IsName child.name) children

-- numbers of 64 bits, bytes and names, as a program's replies have them
abbrev pub IsProper : Reply → Type 0
IsProper (Bytes bytes) = IsBytes bytes
IsProper (Names children) = IsProperDirectory children
IsProper (StatFile node size) = IsNumber node × IsNumber size
IsProper (StatDir node count) = IsNumber node × IsNumber count
IsProper (Created id) = IsNumber id
IsProper (Listing lines) = IsProperListing lines
IsProper (Info held blocks records limit checkpoints) = IsNumber held × IsNumber blocks × IsNumber records × IsNumber limit × IsNumber checkpoints
IsProper (Streamed records stream) = IsNumber records × IsBytes stream
IsProper (TooBig size limit) = IsNumber size × IsNumber limit
IsProper (TooMany limit) = IsNumber limit
IsProper (Gone id) = IsNumber id
IsProper (NoData id) = IsNumber id
IsProper (NotNewer first second) = IsNumber first × IsNumber second
IsProper (NoSpace what held need limit) = IsNumber held × IsNumber need × IsNumber limit
IsProper (Broken entries) = IsNumber entries
IsProper _ = ⊤

pub record IsProperEntry (entry : Entry) : Type 0 where
  pub actor : IsNumber entry.actor
  pub seq : IsNumber entry.seq
  pub at : IsNumber entry.at
  pub given : IsNumber entry.given
  pub reply : IsProper entry.reply

-- such an entry where it answers a call, so that the text has it
abbrev pub IsProperIn : CallsBy → Entry → Type 0
IsProperIn calls entry = IfSome (calls entry.actor entry.seq) (λ call. IsProperEntry entry)

abbrev pub AreProper : CallsBy → List Entry → Type 0
AreProper calls history = AllByRecursion (IsProperIn calls) history

-- Two legal histories of one script that have the same text are the same, but for what the text leaves out. Their worlds
-- may be two, and the texts of their streams as well.
abbrev pub TextsTell : Type 0
TextsTell =
    (calls : CallsBy) (texts other_texts : Texts) (w other : World) (history again : List Entry) →
    IsLegal texts calls w history → IsLegal other_texts calls other again →
    AreProper calls history → AreProper calls again →
    transcript_text calls history ≡ transcript_text calls again →
    printed history ≡ printed again
