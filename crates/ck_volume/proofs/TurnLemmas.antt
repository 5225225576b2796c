-- What one event of a read of a checkpoint answers.
use Rattle.std.proofs.Common.{◌≡◌, ◌≤◌, ℕ, false, IfSome, List, length, Ok, MatchBool, refl, sym, ap, subst, ◌∙◌, arith}
use mathlib.Core.Bool.{false≢true}
use Rattle.std.proofs.lemmas.Bool.Decides.{nat_tests}
use Rattle.ck_disk.specs.Disk.{Meaning}
use Rattle.ck_model.specs.declared.call.Call.TheVariants.{Cread}
use Rattle.ck_model.specs.declared.reply.Reply.{Reply}
use Rattle.ck_model.specs.declared.reply.Reply.TheVariants.{Bytes}
use Rattle.ck_model.specs.History.{is_fault, is_write_fault, is_broken}
use Rattle.ck_model.specs.ReadCalls.{checkpoint_read}
use Rattle.ck_model.specs.Step.{answered, step}
use Rattle.ck_model.specs.Streams.{Texts}
use Rattle.ck_model.specs.World.{World}
use Rattle.ck_files.specs.Room.{answered_with}
use Rattle.ck_read.specs.declared.progress.ReadProgress.{ReadProgress}
use Rattle.ck_read.specs.Mounted.{IsReadIn}
use Rattle.ck_read.specs.Progress.{had_by, turns_of, IsOnWay}
use Rattle.ck_engine.specs.declared.reads.ReadAnswer.{ReadAnswer}
use Rattle.ck_engine.specs.declared.reads.ReadAnswer.TheVariants as turn
use Rattle.ck_engine.specs.ReadAnswer.{bytes_in, IfMore, IfReplied}
use Rattle.ck_volume.specs.declared.event.Progress.{Progress}
use Rattle.ck_volume.specs.declared.event.Progress.TheVariants as progress
use Rattle.ck_volume.specs.Event.{is_read_fault, Answers, HasCause}
use Rattle.ck_volume.specs.Progress.{had_of, read_of, FitsWorld, IsBegunFor, IsLastOf}
use Rattle.ck_volume.specs.Turn.{OnRead, OnReply}

-- ---- an answer that isn't a fault

pub on_reply : (t : ReadAnswer) (P Q : Reply → Type 0) → ((reply : Reply) → P reply → Q reply) → IfReplied (Ok t) P → OnReply t Q
on_reply (turn.More read) P Q then h = tt
on_reply (turn.Replied reply) P Q then h = then reply h

pub on_both : (t : ReadAnswer) (P O Q : Reply → Type 0) → ((reply : Reply) → P reply → O reply → Q reply) → IfReplied (Ok t) P → IfReplied (Ok t) O → OnReply t Q
on_both (turn.More read) P O Q then h o = tt
on_both (turn.Replied reply) P O Q then h o = then reply h o

pub on_read : (t : ReadAnswer) (P Q : ReadProgress → Type 0) → ((read : ReadProgress) → P read → Q read) → IfMore (Ok t) P → OnRead t Q
on_read (turn.More read) P Q then h = then read h
on_read (turn.Replied reply) P Q then h = tt

pub on_same : (t : ReadAnswer) (P Q : Reply → Type 0) → ((reply : Reply) → P reply → Q reply) → OnReply t P → OnReply t Q
on_same (turn.More read) P Q then h = tt
on_same (turn.Replied reply) P Q then h = then reply h

pub on_more : (t : ReadAnswer) (P Q : ReadProgress → Type 0) → ((read : ReadProgress) → P read → Q read) → OnRead t P → OnRead t Q
on_more (turn.More read) P Q then h = then read h
on_more (turn.Replied reply) P Q then h = tt

pub of_reply : (t : ReadAnswer) (reply : Reply) (P : Reply → Type 0) → t ≡ turn.Replied reply → OnReply t P → P reply
of_reply t reply P is h = subst (λ t. OnReply t P) is h

pub each_reply : (t : ReadAnswer) (Q : Reply → Type 0) → ((reply : Reply) → Q reply) → OnReply t Q
each_reply (turn.More read) Q h = tt
each_reply (turn.Replied reply) Q h = h reply

pub each_read : (t : ReadAnswer) (Q : ReadProgress → Type 0) → ((read : ReadProgress) → Q read) → OnRead t Q
each_read (turn.More read) Q h = h read
each_read (turn.Replied reply) Q h = tt

-- ---- replies that are no faults

pub no_read : (reply : Reply) → is_fault reply ≡ false → is_read_fault reply ≡ false
no_read reply ordinary = grind (arith, nat_tests, ordinary)

pub no_write : (reply : Reply) → is_fault reply ≡ false → is_write_fault reply ≡ false
no_write reply ordinary = grind (arith, nat_tests, ordinary)

pub no_refusal : (reply : Reply) → is_fault reply ≡ false → is_broken reply ≡ false
no_refusal reply ordinary = grind (arith, nat_tests, ordinary)

pub no_cause : (old new : Meaning) (reply : Reply) → is_fault reply ≡ false → HasCause old new reply
no_cause old new reply ordinary = record {
  read = λ is. absurd (false≢true (sym (no_read reply ordinary) ∙ is));
  write = λ is. absurd (false≢true (sym (no_write reply ordinary) ∙ is));
}

pub answers-read : (w next : World) (actor letter : ℕ) (path : List (List ℕ)) (at len : ℕ) (reply : Reply) → answered w (checkpoint_read w actor letter path at len) ≡ answered_with reply w → is_fault reply ≡ false → next ≡ w
    → (texts : Texts) (moment : ℕ) → Answers texts w actor moment (Cread letter path at len) 0 reply next
answers-read w next actor letter path at len reply is ordinary same texts moment =
    let outcome = step texts w actor moment (Cread letter path at len) in
    subst (λ b. MatchBool b ((next ≡ w) × (0 ≤ outcome.given)) (outcome ≡ answered_with reply next)) (sym ordinary) (is ∙ ap (answered_with reply) (sym same))

-- ---- what was read before

pub had_is : (p : Progress) → had_by (read_of p) ≡ had_of p
had_is progress.Fresh = refl
had_is (progress.Read read) = refl
had_is (progress.Strip id) = refl

pub begun_is : (letter : ℕ) (path : List (List ℕ)) (at len : ℕ) (p : Progress) → IsBegunFor (Cread letter path at len) p → IfSome (read_of p) (IsOnWay at)
begun_is letter path at len progress.Fresh begun = tt
begun_is letter path at len (progress.Read read) begun = begun
begun_is letter path at len (progress.Strip id) begun = tt

pub fits_is : (w : World) (actor letter : ℕ) (path : List (List ℕ)) (at len : ℕ) (p : Progress) → FitsWorld w actor (Cread letter path at len) p → IfSome (read_of p) (IsReadIn w actor letter path at len)
fits_is w actor letter path at len progress.Fresh fits = tt
fits_is w actor letter path at len (progress.Read read) fits = fits
fits_is w actor letter path at len (progress.Strip id) fits = tt

pub last_is : (letter : ℕ) (path : List (List ℕ)) (at len count : ℕ) (reply : Reply) → IfSome (bytes_in reply) (λ bytes. count ≡ turns_of at (length bytes)) → IsLastOf (Cread letter path at len) reply count
last_is letter path at len count (Bytes bytes) h = h
last_is letter path at len count _ h = tt
