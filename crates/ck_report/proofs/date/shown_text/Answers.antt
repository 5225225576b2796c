use Rattle.std.proofs.Common.{◌∙◌, ap, ℕ, Vec, Global}
use Rattle.ck_report.proofs.date.shown_text.Goals as goal

pub returns : goal.returns
returns c = record {
  shown = c.shown_at-shown.result;
  moment_is = c.shown_at-shown.ensures;
  text_is = ap (λ (bytes : Vec ℕ Global). bytes.items) c.into_bytes.ensures.value ∙ c.in_ok-format.ensures.ok;
}
