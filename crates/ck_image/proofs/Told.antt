-- What is told of a stream that isn't kept.
use Rattle.std.proofs.Common.{◌≡◌, ◌≢◌, ℕ, Bool, true, false, cond, List, length, Result, Ok, Err, refl, sym, ap, subst, ◌∙◌, arith}
use Rattle.std.specs.Prelude.{nat_eq}
use Rattle.std.proofs.lemmas.Bool.Decides.{nat_tests}
use Rattle.ck_stream.specs.declared.fault.StreamFault.{StreamFault}
use Rattle.ck_stream.specs.declared.stream.Stream.{Stream}
use Rattle.ck_stream.specs.declared.stream.Stream.TheVariants as stream
use Rattle.ck_stream.specs.declared.stream.Summary.{Summary}
use Rattle.ck_stream.specs.Parsed.{◌>>=◌, stream_at}
use Rattle.ck_stream.specs.Seen.{summary_of, seen}
use Rattle.ck_image.specs.declared.refusal.Refusal.{Refusal}
use Rattle.ck_image.specs.declared.refusal.Refusal.TheVariants as refusal
use Rattle.ck_image.specs.Images.{HasRefusal, refused_stream, found_at, stream_in, all_of, whole_in, wrong_at, told}
use Rattle.ck_image.specs.Texts.{stream_line, summary_line}

-- ---- the stream at the beginning

found_seen : (bytes : List ℕ) (at : ℕ) (read : Result (Stream × ℕ) StreamFault) (x : Summary × ℕ) → seen read ≡ Ok x → seen (found_at bytes at read) ≡ Ok x
found_seen bytes at (Ok y) x h = cc
found_seen bytes at (Err f) x h = absurd cc

found_fault : (bytes : List ℕ) (at : ℕ) (read : Result (Stream × ℕ) StreamFault) (f : StreamFault) → seen read ≡ Err f → seen (found_at bytes at read) ≡ Err (refused_stream f)
found_fault bytes at (Ok y) f h = absurd cc
found_fault bytes at (Err g) f h = let same : g ≡ f = cc in ap (λ (f : StreamFault). Err (refused_stream f)) same

pub is_seen : (bytes : List ℕ) (x : Summary × ℕ) → seen (stream_at bytes 0) ≡ Ok x → seen (stream_in bytes 0) ≡ Ok x
unfolding stream_in
is_seen bytes x h = found_seen bytes 0 (stream_at bytes 0) x h

pub has_fault : (bytes : List ℕ) (f : StreamFault) → seen (stream_at bytes 0) ≡ Err f → seen (stream_in bytes 0) ≡ Err (refused_stream f)
unfolding stream_in
has_fault bytes f h = found_fault bytes 0 (stream_at bytes 0) f h

-- ---- the whole of it

all_told : (bytes : List ℕ) (read : Result (Stream × ℕ) Refusal) (x : Summary × ℕ) → seen read ≡ Ok x → told (read >>= λ y. all_of bytes y) ≡ cond (nat_eq x.1 (length bytes)) (Ok x.0) (Err (wrong_at x.1))
all_told bytes (Ok y) x h =
    let same : (summary_of y.0, y.1) ≡ x = cc in
    subst (λ (x : Summary × ℕ). told (all_of bytes y) ≡ cond (nat_eq x.1 (length bytes)) (Ok x.0) (Err (wrong_at x.1))) same (
    elim (nat_eq y.1 (length bytes)) as (λ b. told (cond b (Ok y.0) (Err (wrong_at y.1))) ≡ cond b (Ok (summary_of y.0)) (Err (wrong_at y.1))) [
      | true ↦ refl
      | false ↦ refl
    ])
all_told bytes (Err f) x h = absurd cc

whole_told : (bytes : List ℕ) (x : Summary × ℕ) → seen (stream_in bytes 0) ≡ Ok x → told (whole_in bytes) ≡ cond (nat_eq x.1 (length bytes)) (Ok x.0) (Err (wrong_at x.1))
unfolding whole_in
whole_told bytes x h = all_told bytes (stream_in bytes 0) x h

pub not_all : (bytes : List ℕ) (x : Summary × ℕ) → seen (stream_in bytes 0) ≡ Ok x → x.1 ≢ length bytes → told (whole_in bytes) ≡ Err (wrong_at x.1)
not_all bytes x h apart =
    let test : nat_eq x.1 (length bytes) ≡ false = grind (arith, nat_tests) in
    whole_told bytes x h ∙ ap (λ (b : Bool). cond b (Ok x.0) (Err (wrong_at x.1))) test

pub all : (bytes : List ℕ) (x : Summary × ℕ) → seen (stream_in bytes 0) ≡ Ok x → x.1 ≡ length bytes → told (whole_in bytes) ≡ Ok x.0
all bytes x h same =
    let test : nat_eq x.1 (length bytes) ≡ true = grind (arith, nat_tests) in
    whole_told bytes x h ∙ ap (λ (b : Bool). cond b (Ok x.0) (Err (wrong_at x.1))) test

refused_all : (bytes : List ℕ) (why : Refusal) (read : Result (Stream × ℕ) Refusal) → seen read ≡ Err why → told (read >>= λ y. all_of bytes y) ≡ Err why
refused_all bytes why (Ok y) h = absurd cc
refused_all bytes why (Err g) h = cc

pub whole_refused : (bytes : List ℕ) (why : Refusal) → seen (stream_in bytes 0) ≡ Err why → told (whole_in bytes) ≡ Err why
unfolding whole_in
whole_refused bytes why h = refused_all bytes why (stream_in bytes 0) h

-- ---- its line

same_line : (s : Stream) → stream_line s ≡ summary_line (summary_of s)
same_line (stream.Full full) = refl
same_line (stream.Changed changed) = refl

pub line_told : (read : Result Stream Refusal) (x : Summary) (line : List ℕ) → told read ≡ Ok x → line ≡ summary_line x → (read >>= λ s. Ok (stream_line s)) ≡ Ok line
line_told (Ok s) x line h is =
    let same : summary_of s ≡ x = cc in
    ap (λ (l : List ℕ). Ok l) (same_line s ∙ ap summary_line same ∙ sym is)
line_told (Err why) x line h is = absurd cc

pub line_refused : (why : Refusal) (read : Result Stream Refusal) → told read ≡ Err why → HasRefusal why (read >>= λ s. Ok (stream_line s))
line_refused why (Ok s) h = absurd cc
line_refused (refusal.Stream f) (Err g) h = cc
line_refused (refusal.WrongBase has wants) (Err g) h = cc
line_refused (refusal.NotAdjacent ends begins) (Err g) h = cc
line_refused refusal.TooLong (Err g) h = cc
line_refused refusal.NoMemory (Err g) h = tt
