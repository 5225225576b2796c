-- The header's fields, as they are written and read.
use Rattle.std.proofs.Common.{◌≡◌, ℕ, ◌+◌, List, ◌++◌, length, drop, replicate, refl, sym, ap, ◌∙◌, arith}
use Rattle.std.specs.Int.{w32, to_be_bytes}
use Rattle.std.proofs.lemmas.List.{take_at, drop_at, drop-drop, drop-replicate}
use Rattle.ck_num.specs.Field.{with_field}
use Rattle.ck_log.specs.Header.{magic, header_of}

-- what is written at the end of what stands there takes the place of as many zeros
put_next : (front text : List ℕ) (at left rest : ℕ) → length front ≡ at → left ≡ length text + rest → with_field (front ++ replicate left 0) at text ≡ front ++ text ++ replicate rest 0
put_next front text at left rest begins long =
    let bytes = front ++ replicate left 0 in
    let behind : drop (at + length text) bytes ≡ replicate rest 0 =
    sym (drop-drop (length text) at bytes) ∙ ap (drop (length text)) (drop_at front (replicate left 0) at begins)
    ∙ drop-replicate (length text) left 0 ∙ ap (λ (n : ℕ). replicate n 0) (omega (arith, long)) in
    ap (λ (t : List ℕ). t ++ text ++ drop (at + length text) bytes) (take_at front (replicate left 0) at begins)
    ∙ ap (λ (t : List ℕ). front ++ text ++ t) behind

-- one field after the other
pub written : (blocks records : ℕ) (first format sized header : List ℕ)
    → first ≡ magic ++ replicate 4088 0
    → format ≡ with_field first 8 (to_be_bytes w32 0)
    → sized ≡ with_field format 12 (to_be_bytes w32 blocks)
    → header ≡ with_field sized 16 (to_be_bytes w32 records)
    → header ≡ header_of blocks records
unfolding header_of
written blocks records first format sized header at_0 at_8 at_12 at_16 =
    let front = magic ++ to_be_bytes w32 0 in
    let to_8 : format ≡ front ++ replicate 4084 0 = at_8 ∙ ap (λ (t : List ℕ). with_field t 8 (to_be_bytes w32 0)) at_0 ∙ put_next magic (to_be_bytes w32 0) 8 4088 4084 refl refl in
    let to_12 : sized ≡ front ++ to_be_bytes w32 blocks ++ replicate 4080 0 = at_12 ∙ ap (λ (t : List ℕ). with_field t 12 (to_be_bytes w32 blocks)) to_8 ∙ put_next front (to_be_bytes w32 blocks) 12 4084 4080 refl refl in
    at_16 ∙ ap (λ (t : List ℕ). with_field t 16 (to_be_bytes w32 records)) to_12 ∙ put_next (front ++ to_be_bytes w32 blocks) (to_be_bytes w32 records) 16 4080 4076 refl refl
