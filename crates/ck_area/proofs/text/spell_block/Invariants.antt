use Rattle.std.proofs.Common.{◌≡◌, ℕ, ◌<◌, ◌*◌, take, drop, get_or}
use Rattle.ck_record.specs.declared.records.Record.TheVariants.{Free}
use Rattle.ck_record.specs.Record.{spelling}
use Rattle.ck_area.proofs.text.spell_block.Given as goal

abbrev pub invariant-loop-place : goal.invariant-loop-place
invariant-loop-place l = (k : ℕ) → k < l.place → take 128 (drop (128 * k) l.into) ≡ spelling (get_or l.records k Free)
