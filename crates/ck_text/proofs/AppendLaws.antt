-- Pieces appended one after another.
use Rattle.std.proofs.Common.{◌≡◌, ℕ, List, ◌++◌, append_assoc, ap, ◌∙◌}

pub appended_two : (o a b p q : List ℕ) → p ≡ o ++ a → q ≡ p ++ b → q ≡ o ++ (a ++ b)
appended_two o a b p q first second = second ∙ ap (λ x. x ++ b) first ∙ append_assoc o a b

pub appended_three : (o a b c p q r : List ℕ) → p ≡ o ++ a → q ≡ p ++ b → r ≡ q ++ c → r ≡ o ++ (a ++ b ++ c)
appended_three o a b c p q r first second third =
    third ∙ ap (λ x. x ++ c) (second ∙ ap (λ x. x ++ b) first ∙ append_assoc o a b) ∙ append_assoc o (a ++ b) c

pub appended_four : (o a b c d p q r s : List ℕ) → p ≡ o ++ a → q ≡ p ++ b → r ≡ q ++ c → s ≡ r ++ d → s ≡ o ++ (a ++ b ++ c ++ d)
appended_four o a b c d p q r s first second third fourth =
    fourth ∙ ap (λ x. x ++ d) (appended_three o a b c p q r first second third) ∙ append_assoc o (a ++ b ++ c) d

pub appended_five : (o a b c d e p q r s t : List ℕ) → p ≡ o ++ a → q ≡ p ++ b → r ≡ q ++ c → s ≡ r ++ d → t ≡ s ++ e → t ≡ o ++ (a ++ b ++ c ++ d ++ e)
appended_five o a b c d e p q r s t first second third fourth fifth =
    fifth ∙ ap (λ x. x ++ e) (appended_four o a b c d p q r s first second third fourth) ∙ append_assoc o (a ++ b ++ c ++ d) e
