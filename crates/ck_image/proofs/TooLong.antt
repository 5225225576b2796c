-- An input that is too long is refused.
use Rattle.std.proofs.Common.{◌≡◌, ℕ, ◌+◌, true, List, ◌++◌, length, length-append, Err, refl, ap, arith}
use Rattle.std.specs.Prelude.{IsTrue, nat_lt}
use Rattle.std.proofs.lemmas.Bool.Decides.{Decides-ltb}
use Rattle.ck_model.specs.Limits.{input_limit}
use Rattle.ck_io.specs.Source.{SourceMeaning}
use Rattle.ck_report.specs.declared.status.Status.{Status}
use Rattle.ck_report.specs.declared.status.Status.TheVariants.{Done, Refused, Usage, BadScript, NotOpened, DeviceFault, SourceFault, SinkFault, NoMemory}
use Rattle.ck_image.specs.declared.refusal.Refusal.TheVariants as refusal
use Rattle.ck_image.specs.declared.command.Command.{Command}
use Rattle.ck_image.specs.Texts.{printed}
use Rattle.ck_image.specs.Top.{IsRefused, IsReadFault}

refuses : (command : Command) (bytes rest left : List ℕ) → left ≡ bytes ++ rest → length bytes ≡ input_limit + 1 → printed command left ≡ Err refusal.TooLong
unfolding printed
refuses command bytes rest left parts len =
    let long : nat_lt input_limit (length left) ≡ true = (Decides-ltb input_limit (length left)).1 (omega (arith, ap length parts, length-append bytes rest, len)) in
    rw long refl

pub is_too_long : (command : Command) (old new : SourceMeaning) (bytes : List ℕ) (status : Status) → IsRefused refusal.TooLong status → (IsTrue old.tells → old.left ≡ bytes ++ new.left) → length bytes ≡ input_limit + 1 → IsReadFault command old new status
is_too_long command old new bytes Done given parts len = absurd given
is_too_long command old new bytes (Refused words) given parts len =
    record { why = refusal.TooLong; refused = λ tells. refuses command bytes new.left old.left (parts tells) len; words_are = given.0 }
is_too_long command old new bytes Usage given parts len = absurd given
is_too_long command old new bytes (BadScript line) given parts len = absurd given
is_too_long command old new bytes (NotOpened words) given parts len = absurd given
is_too_long command old new bytes DeviceFault given parts len = absurd given
is_too_long command old new bytes SourceFault given parts len = absurd given
is_too_long command old new bytes SinkFault given parts len = absurd given
is_too_long command old new bytes NoMemory given parts len = tt
