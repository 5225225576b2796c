-- Texts with draws, one after another.
use Rattle.std.proofs.Common.{◌≡◌, ℕ, zero, suc, ◌+◌, ◌-◌, ◌*◌, ◌<◌, ◌≤◌, List, ◌++◌, sym, ap, ◌∙◌, append_assoc, Result, Ok, Err, OnOk, arith}
use Rattle.std.proofs.Math.Nat.{mul-suc, mul-zero}
use Rattle.std.proofs.lemmas.List.{append-nil}
use Rattle.ck_generate.specs.Generator.{drawn, after, texts}

-- draws one after another
pub after-add : (a b state : ℕ) → after b (after a state) ≡ after (a + b) state
after-add zero b state = let same : b ≡ 0 + b = omega arith in ap (λ n. after n state) same
after-add (suc a) b state = after-add a b (drawn state) ∙ ap (λ n. after n state) (next a b)
  where
    next : (a b : ℕ) → suc (a + b) ≡ suc a + b
    next a b = omega arith

-- the texts that are left after one more
pub texts_next : (text : ℕ → ℕ → List ℕ) (draws left number state : ℕ) → 0 < left → texts text draws left number state ≡ text number state ++ texts text draws (left - 1) (number + 1) (after draws state)
texts_next text draws zero number state some = absurd (omega (arith, some))
texts_next text draws (suc left) number state some = ap (λ n. text number state ++ texts text draws n (number + 1) (after draws state)) (back left)
  where
    back : (n : ℕ) → n ≡ suc n - 1
    back n = omega arith

-- one text more of so many
pub texts_more : (text : ℕ → ℕ → List ℕ) (draws count done first number state next : ℕ) (whole begun out : List ℕ) → done < count → number ≡ first + done → next ≡ after draws state →
    begun ++ texts text draws (count - done) (first + done) state ≡ whole → out ≡ begun ++ text number state → out ++ texts text draws (count - (done + 1)) (first + (done + 1)) next ≡ whole
texts_more text draws count done first number state next whole begun out some number_is next_is so_far more =
    let left : count - (done + 1) ≡ (count - done) - 1 = omega (arith, some) in
    let then : first + (done + 1) ≡ (first + done) + 1 = omega arith in
    (λ i. (more ∙ ap (λ n. begun ++ text n state) number_is) i ++ texts text draws (left i) (then i) (next_is i))
    ∙ append_assoc begun (text (first + done) state) (texts text draws ((count - done) - 1) ((first + done) + 1) (after draws state))
    ∙ ap (λ rest. begun ++ rest) (sym (texts_next text draws (count - done) (first + done) state (omega (arith, some))))
    ∙ so_far

-- the draws that are left after one text more
pub draws_more : (draws count done state next end : ℕ) → done < count → next ≡ after draws state → after (draws * (count - done)) state ≡ end → after (draws * (count - (done + 1))) next ≡ end
draws_more draws count done state next end some next_is so_far =
    ap (after (draws * (count - (done + 1)))) next_is
    ∙ after-add draws (draws * (count - (done + 1))) state
    ∙ ap (λ n. after n state) (times draws (count - done) (count - (done + 1)) (omega (arith, some)))
    ∙ so_far
  where
    times : (draws n m : ℕ) → n ≡ suc m → draws + draws * m ≡ draws * n
    times draws n m e = let next : draws * n ≡ draws * m + draws = ap (λ k. draws * k) e ∙ mul-suc draws m in omega (arith, next)

-- no text is left
pub texts_done : (text : ℕ → ℕ → List ℕ) (draws count done number state : ℕ) (whole out : List ℕ) → count ≤ done → out ++ texts text draws (count - done) number state ≡ whole → out ≡ whole
texts_done text draws count done number state whole out end so_far =
    let none : count - done ≡ 0 = omega (arith, end) in
    sym (append-nil out) ∙ sym (ap (λ n. out ++ texts text draws n number state) none) ∙ so_far

pub draws_done : (draws count done state end : ℕ) → count ≤ done → after (draws * (count - done)) state ≡ end → state ≡ end
draws_done draws count done state end ended so_far =
    let left : count - done ≡ 0 = omega (arith, ended) in
    let none : draws * (count - done) ≡ 0 = ap (λ n. draws * n) left ∙ mul-zero draws in
    sym (ap (λ n. after n state) none) ∙ so_far

-- what holds in any case
pub always_ok : {A E P : Type 0} (result : Result A E) → P → OnOk result P
always_ok (Ok done) p = p
always_ok (Err error) p = tt
