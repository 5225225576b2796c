-- How bytes that are taken and bytes that are added go on.
use Rattle.std.proofs.Common.{◌≡◌, ◌≤◌, ◌-◌, length, length-drop, arith, ℕ, List, ◌++◌, ◌+◌, take, drop, sym, ◌∙◌, ap, append_assoc}
use Rattle.std.proofs.lemmas.List.{take-append-drop, take_all, take_at, drop-drop, length-take-le}
use Rattle.std.proofs.Math.Seq.{take-add}
use Rattle.ck_io.specs.Bytes.{EndsWith, GainsPrefix}

-- a rest of a rest is a rest
pub ends_on : (bytes mid rest : List ℕ) → EndsWith bytes mid → EndsWith mid rest → EndsWith bytes rest
ends_on bytes mid rest a b = record {
  taken = a.taken ++ b.taken;
  parts = a.parts ∙ ap (λ (l : List ℕ). a.taken ++ l) b.parts ∙ sym (append_assoc a.taken b.taken rest);
}

pub gains_taken : (count : ℕ) (old new bytes : List ℕ) → new ≡ old ++ take count bytes → GainsPrefix old new bytes
gains_taken count old new bytes is = record {
  gained = take count bytes;
  missing = drop count bytes;
  parts = sym (take-append-drop count bytes);
  appended = is;
}

-- the bytes from a place on, as a slice to their end
pub slice_rest : (written : ℕ) (bytes : List ℕ) → take (length bytes - written) (drop written bytes) ≡ drop written bytes
slice_rest written bytes = take_all (length bytes - written) (drop written bytes) (omega (arith, length-drop written bytes))

-- one piece more of the bytes
pub appends_more : (old mid new bytes : List ℕ) (written count : ℕ) → mid ≡ old ++ take written bytes
    → new ≡ mid ++ take count (take (length bytes - written) (drop written bytes)) → new ≡ old ++ take (written + count) bytes
appends_more old mid new bytes written count before now =
    now ∙ ap (λ (l : List ℕ). mid ++ take count l) (slice_rest written bytes)
    ∙ ap (λ (l : List ℕ). l ++ take count (drop written bytes)) before
    ∙ append_assoc old (take written bytes) (take count (drop written bytes))
    ∙ ap (λ (l : List ℕ). old ++ l) (sym (take-add written count bytes))

-- a piece of what is left, put at a buffer's beginning, and what is left behind it
pub gives_front : (count given : ℕ) (left piece more slice bytes : List ℕ) → slice ≡ bytes → drop given bytes ≡ left
    → count ≤ length (take (length slice - given) (drop given slice)) → piece ≡ take count (take (length slice - given) (drop given slice))
    → left ≡ take count (piece ++ more) ++ drop (given + count) bytes
gives_front count given left piece more slice bytes same is_left within is_piece =
    sym is_left
    ∙ sym (take-append-drop count (drop given bytes))
    ∙ ap (λ (l : List ℕ). l ++ drop count (drop given bytes)) (sym front)
    ∙ ap (λ (l : List ℕ). take count (piece ++ more) ++ l) (drop-drop count given bytes)
  where
    full : length piece ≡ count
    full = ap length is_piece ∙ length-take-le count (take (length slice - given) (drop given slice)) within

    front : take count (piece ++ more) ≡ take count (drop given bytes)
    front = take_at piece more count full ∙ is_piece ∙ ap (λ (l : List ℕ). take count l) (slice_rest given slice) ∙ ap (λ (l : List ℕ). take count (drop given l)) same
