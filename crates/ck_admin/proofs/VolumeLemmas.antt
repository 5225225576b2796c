-- The status of a device that isn't opened or formatted.
use Rattle.std.proofs.Common.{◌≡◌, ◌<◌, ℕ, List, Some, Result, Ok, Err, IfOk, sym, ap, ◌∙◌}
use Rattle.ck_disk.specs.Disk.{Meaning}
use Rattle.ck_log.specs.Layout.{size_of}
use Rattle.ck_engine.specs.Opened.{IsFound}
use Rattle.ck_engine.specs.Recovery.{Recovery}
use Rattle.ck_admin.specs.Refusals.{bad_size_words}
use Rattle.ck_admin.specs.Statuses.{IsOpenStatus, refusal_words, not_opened_status}
use Rattle.ck_admin.specs.Top.{EndsMkfs}

-- a refusal in these words
pub refused_status : {E : Type 0} (before after : Meaning) (found : Recovery) (words : List ℕ) (told : Result (List ℕ) E) → IfOk told (λ w. w ≡ words) → refusal_words found ≡ Some words → IsFound before after found
    → IsOpenStatus before after (not_opened_status told)
refused_status before after found words (Ok w) is words_are refused = record { found = found; finds = refused.0; words_are = words_are ∙ ap (λ w. Some w) (sym is); left = refused.1 }
refused_status before after found words (Err e) is words_are refused = refused.1

-- a device that is too short
pub short_status : {E : Type 0} (blocks records : ℕ) (before after : Meaning) (told : Result (List ℕ) E) → IfOk told (λ w. w ≡ bad_size_words (size_of blocks records) before.size) → before.size < size_of blocks records
    → EndsMkfs blocks records before after (not_opened_status told)
short_status blocks records before after (Ok w) is short = (is, short)
short_status blocks records before after (Err e) is short = tt
