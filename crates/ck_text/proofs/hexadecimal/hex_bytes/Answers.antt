use Rattle.std.proofs.Common.{◌≡◌, ap, ◌∙◌, sym, None, is_some, refl, inl, inr}
use Rattle.std.specs.Result.{result_ok}
use Rattle.std.proofs.lemmas.Bool.{false≢true}
use Rattle.ck_text.specs.Hexadecimal.{hex_value}
use Rattle.ck_text.proofs.HexadecimalLemmas.{IsSome-hex_value}
use Rattle.ck_text.proofs.hexadecimal.hex_bytes.Goals as goal

pub returns-in-Ok-clause-some : goal.returns-in-Ok-clause-some
returns-in-Ok-clause-some c =
    let is_hex = (IsSome-hex_value c.args.word.now).0 (ap (λ r. is_some (result_ok r)) c.in-Ok.ensures.ok) in
    (λ _. is_hex, λ _. refl)

pub returns-in_default : goal.returns-in_default
returns-in_default c =
    let word = c.args.word.now in
    let none : hex_value word ≡ None = elim c.in-Err.ensures.err [
      | inl memory ↦ absurd (c.in_default.not-OutOfMemory memory)
      | inr refused ↦ ap result_ok refused
    ] in
    record {
      some = (λ h. absurd (false≢true h), λ is_hex. sym (ap is_some none) ∙ (IsSome-hex_value word).1 is_hex);
      value = sym none;
    }
