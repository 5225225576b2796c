-- What an event of a read of a checkpoint answers.
use Rattle.std.specs.Prelude.{⊤, ℕ, List, Option, Some, None, Result, Ok, Err}
use Rattle.ck_data.specs.declared.fault.Fault.{Fault}
use Rattle.ck_model.specs.declared.reply.Reply.{Reply}
use Rattle.ck_model.specs.declared.reply.Reply.TheVariants.{Bytes}
use Rattle.ck_read.specs.declared.progress.ReadProgress.{ReadProgress}
use Rattle.ck_engine.specs.declared.reads.ReadAnswer.{ReadAnswer}
use Rattle.ck_engine.specs.declared.reads.ReadAnswer.TheVariants.{More, Replied}

abbrev pub IfMore : Result ReadAnswer Fault → (ReadProgress → Type 0) → Type 0
IfMore (Ok (More read)) P = P read
IfMore (Ok (Replied reply)) P = ⊤
IfMore (Err why) P = ⊤

abbrev pub IfReplied : Result ReadAnswer Fault → (Reply → Type 0) → Type 0
IfReplied (Ok (More read)) P = ⊤
IfReplied (Ok (Replied reply)) P = P reply
IfReplied (Err why) P = ⊤

-- a read that begins
abbrev pub IfBegun : Result (Result ReadProgress Reply) Fault → (ReadProgress → Type 0) → Type 0
IfBegun (Ok (Ok read)) P = P read
IfBegun (Ok (Err reply)) P = ⊤
IfBegun (Err why) P = ⊤

-- the reply that refuses it
abbrev pub IfRefused : Result (Result ReadProgress Reply) Fault → (Reply → Type 0) → Type 0
IfRefused (Ok (Ok read)) P = ⊤
IfRefused (Ok (Err reply)) P = P reply
IfRefused (Err why) P = ⊤

-- the bytes that a reply gives
abbrev pub bytes_in : Reply → Option (List ℕ)
bytes_in (Bytes bytes) = Some bytes
bytes_in _ = None
