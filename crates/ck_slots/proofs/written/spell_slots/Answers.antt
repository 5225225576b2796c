use Rattle.std.proofs.Common.{refl, arith}
use Rattle.ck_slots.proofs.WrittenTexts.{all_free}
use Rattle.ck_slots.proofs.written.spell_slots.Goals as goal

pub loop-place-init : goal.loop-place-init
loop-place-init c = record {
  long = refl;
  spelled = λ k below. absurd (omega (arith, below));
  within = all_free 32;
}
