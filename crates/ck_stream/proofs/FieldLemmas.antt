-- A field that is read is the field that was written, and what was written is read again.
use Rattle.std.proofs.Common.{◌≡◌, ℕ, suc, ◌+◌, ◌^◌, ◌<◌, ◌≤◌, Bool, true, false, cond, ltb, List, ◌∷◌, ◌++◌, length, get_or, take, drop, Result, Ok, Err, refl, sym, ap, subst, ◌∙◌, append_assoc, arith, inl, inr}
use Rattle.std.specs.Int.{Width, w32, w64, byte_len, from_be_bytes, to_be_bytes}
use Rattle.std.proofs.lemmas.Bool.{cases_lt, ltb-false, le-ltb}
use Rattle.std.proofs.lemmas.List.{take_at, drop_at, take-append-drop, length-append, length-take, get_or-drop, get_or-take, get_or_past}
use Rattle.std.proofs.lemmas.Nat.{be_bytes_4, be_bytes_8, from_be_bytes-to_be_bytes_4, from_be_bytes-to_be_bytes_8}
use Rattle.ck_stream.specs.declared.fault.Flaw.{Flaw}
use Rattle.ck_stream.specs.declared.fault.Flaw.TheVariants as flaw
use Rattle.ck_stream.specs.Parsed.{◌>>=◌, number_at, run_at}

abbrev pub IsBytes : List ℕ → Type 0
IsBytes bytes = (i : ℕ) → get_or bytes i 0 < 256

pub IsBytes-drop : (n : ℕ) (bytes : List ℕ) → IsBytes bytes → IsBytes (drop n bytes)
IsBytes-drop n bytes h i = rw get_or-drop (h (n + i))

IsBytes-take : (n : ℕ) (bytes : List ℕ) → IsBytes bytes → IsBytes (take n bytes)
IsBytes-take n bytes h i =
    elim (cases_lt i n) [
      | inl lt ↦ rw (get_or-take n bytes i 0 lt) (h i)
      | inr le ↦ rw (get_or_past (take n bytes) i 0 (omega (arith, length-take n bytes))) (omega arith)
    ]

pub IsBytes-rest : (byte : ℕ) (bytes : List ℕ) → IsBytes (byte ∷ bytes) → IsBytes bytes
IsBytes-rest byte bytes h i = h (suc i)

-- the value of a step that did not fail
pub bind_ok : {A B E : Type 0} (r : Result A E) (f : A → Result B E) (y : B) → (r >>= f) ≡ Ok y → (x : A) × (r ≡ Ok x) × (f x ≡ Ok y)
bind_ok (Ok x) f y e = (x, refl, e)
bind_ok (Err d) f y e = absurd cc

-- a test that did not fail
pub passed : {A E : Type 0} (b : Bool) (d : E) (r : Result A E) (y : A) → cond b (Err d) r ≡ Ok y → (b ≡ false) × (r ≡ Ok y)
passed true d r y e = absurd cc
passed false d r y e = (refl, e)

pub met : {A E : Type 0} (b : Bool) (d : E) (r : Result A E) (y : A) → cond b r (Err d) ≡ Ok y → (b ≡ true) × (r ≡ Ok y)
met true d r y e = (refl, e)
met false d r y e = absurd cc

abbrev pub done : {A : Type 0} → A → Result A Flaw
done x = Ok x

pub ok_is : {A : Type 0} (x y : A) → done x ≡ done y → x ≡ y
ok_is x y e = cc

-- what a reader took from the front
pub record Takes (bytes text rest : List ℕ) : Type 0 where
  pub parts : bytes ≡ text ++ rest
  pub rest_fits : IsBytes rest

pub Takes-then : (a x b y c : List ℕ) → Takes a x b → Takes b y c → Takes a (x ++ y) c
Takes-then a x b y c p q = record { parts = p.parts ∙ ap (λ (t : List ℕ). x ++ t) q.parts ∙ sym (append_assoc x y c); rest_fits = q.rest_fits }

-- ---- numbers

pub record IsWide (w : Width) (limit : ℕ) : Type 0 where
  pub len : (n : ℕ) → length (to_be_bytes w n) ≡ byte_len w
  pub back : (bytes : List ℕ) → length bytes ≡ byte_len w → IsBytes bytes → to_be_bytes w (from_be_bytes w bytes) ≡ bytes
  pub again : (n : ℕ) → n < limit → from_be_bytes w (to_be_bytes w n) ≡ n
  pub below : (bytes : List ℕ) → IsBytes bytes → from_be_bytes w bytes < limit

wide32 : IsWide w32 (2 ^ 32)
wide32 = record {
  len = λ n. refl;
  back = λ bytes len fits. be_bytes_4 bytes _ len fits refl;
  again = λ n lt. from_be_bytes-to_be_bytes_4 n lt;
  below = λ bytes fits. omega (arith, fits 0, fits 1, fits 2, fits 3);
}

wide64 : IsWide w64 (2 ^ 64)
wide64 = record {
  len = λ n. refl;
  back = λ bytes len fits. be_bytes_8 bytes _ len fits refl;
  again = λ n lt. from_be_bytes-to_be_bytes_8 n lt;
  below = λ bytes fits. omega (arith, fits 0, fits 1, fits 2, fits 3, fits 4, fits 5, fits 6, fits 7);
}

pub record NumberTaken (w : Width) (limit : ℕ) (bytes : List ℕ) (read : ℕ × List ℕ) : Type 0 where
  pub takes : Takes bytes (to_be_bytes w read.0) read.1
  pub below : read.0 < limit

number_takes : (w : Width) (limit : ℕ) (wide : IsWide w limit) (bytes : List ℕ) (read : ℕ × List ℕ) → IsBytes bytes → number_at w bytes ≡ Ok read → NumberTaken w limit bytes read
number_takes w limit wide bytes read fits e =
    let front = take (byte_len w) bytes in
    let made : ℕ × List ℕ = (from_be_bytes w front, drop (byte_len w) bytes) in
    let g = passed (ltb (length bytes) (byte_len w)) flaw.Short (done made) read e in
    let long : byte_len w ≤ length bytes = ltb-false _ _ g.0 in
    let fits' : IsBytes front = IsBytes-take (byte_len w) bytes fits in
    let spelled : to_be_bytes w (from_be_bytes w front) ≡ front = wide.back front (omega (arith, length-take (byte_len w) bytes)) fits' in
    subst (λ (x : ℕ × List ℕ). NumberTaken w limit bytes x) (ok_is made read g.1) (record {
      takes = record { parts = rw spelled (sym (take-append-drop (byte_len w) bytes)); rest_fits = IsBytes-drop (byte_len w) bytes fits };
      below = wide.below front fits';
    })

number_again : (w : Width) (limit : ℕ) (wide : IsWide w limit) (n : ℕ) (rest : List ℕ) → n < limit → number_at w (to_be_bytes w n ++ rest) ≡ Ok (n, rest)
number_again w limit wide n rest lt =
    let len = wide.len n in
    let long : ltb (length (to_be_bytes w n ++ rest)) (byte_len w) ≡ false = le-ltb _ _ (omega (arith, length-append (to_be_bytes w n) rest)) in
    rw (long, take_at (to_be_bytes w n) rest (byte_len w) len, drop_at (to_be_bytes w n) rest (byte_len w) len, wide.again n lt) refl

pub word_takes : (bytes : List ℕ) (read : ℕ × List ℕ) → IsBytes bytes → number_at w32 bytes ≡ Ok read → NumberTaken w32 (2 ^ 32) bytes read
word_takes bytes read fits e = number_takes w32 (2 ^ 32) wide32 bytes read fits e

pub word_again : (n : ℕ) (rest : List ℕ) → n < 2 ^ 32 → number_at w32 (to_be_bytes w32 n ++ rest) ≡ Ok (n, rest)
word_again n rest lt = number_again w32 (2 ^ 32) wide32 n rest lt

pub long_takes : (bytes : List ℕ) (read : ℕ × List ℕ) → IsBytes bytes → number_at w64 bytes ≡ Ok read → NumberTaken w64 (2 ^ 64) bytes read
long_takes bytes read fits e = number_takes w64 (2 ^ 64) wide64 bytes read fits e

pub long_again : (n : ℕ) (rest : List ℕ) → n < 2 ^ 64 → number_at w64 (to_be_bytes w64 n ++ rest) ≡ Ok (n, rest)
long_again n rest lt = number_again w64 (2 ^ 64) wide64 n rest lt

-- ---- runs of bytes

pub record RunTaken (count : ℕ) (bytes : List ℕ) (read : List ℕ × List ℕ) : Type 0 where
  pub takes : Takes bytes read.0 read.1
  pub len : length read.0 ≡ count

pub run_takes : (count : ℕ) (bytes : List ℕ) (read : List ℕ × List ℕ) → IsBytes bytes → run_at count bytes ≡ Ok read → RunTaken count bytes read
run_takes count bytes read fits e =
    let made : List ℕ × List ℕ = (take count bytes, drop count bytes) in
    let g = passed (ltb (length bytes) count) flaw.Short (done made) read e in
    let long : count ≤ length bytes = ltb-false _ _ g.0 in
    subst (λ (x : List ℕ × List ℕ). RunTaken count bytes x) (ok_is made read g.1) (record {
      takes = record { parts = sym (take-append-drop count bytes); rest_fits = IsBytes-drop count bytes fits };
      len = omega (arith, length-take count bytes);
    })

pub run_again : (count : ℕ) (run rest : List ℕ) → length run ≡ count → run_at count (run ++ rest) ≡ Ok (run, rest)
run_again count run rest len =
    let long : ltb (length (run ++ rest)) count ≡ false = le-ltb _ _ (omega (arith, length-append run rest)) in
    rw (long, take_at run rest count len, drop_at run rest count len) refl
