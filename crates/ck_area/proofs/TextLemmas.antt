-- The bytes of a slot after a write to a slot of the same block.
use Rattle.std.proofs.Common.{◌≡◌, ℕ, ◌+◌, ◌-◌, ◌≤◌, List, length, take, drop, sym, ap, ◌∙◌, arith}
use Rattle.std.specs.List.{between}
use borrow.Rule.Slice.PartMut.{put_mid}
use Rattle.std.proofs.lemmas.Slice.{between_is, between-put_mid, take-put_mid_below}

as_between : (bytes : List ℕ) (start : ℕ) → take 128 (drop start bytes) ≡ between start (start + 128) bytes
as_between bytes start = let width : 128 ≡ start + 128 - start = omega arith in ap (λ (n : ℕ). take n (drop start bytes)) width

pub slot_written : (start : ℕ) (bytes text : List ℕ) → start ≤ length bytes → length text ≡ 128
    → take 128 (drop start (put_mid start (start + 128 - start) bytes text)) ≡ text
slot_written start bytes text within full =
    as_between (put_mid start (start + 128 - start) bytes text) start
    ∙ between-put_mid start (start + 128 - start) bytes text (start + 128) within (omega arith)

pub slot_kept : (start other : ℕ) (bytes text : List ℕ) → start ≤ length bytes → other + 128 ≤ start
    → take 128 (drop other (put_mid start (start + 128 - start) bytes text)) ≡ take 128 (drop other bytes)
slot_kept start other bytes text within below =
    as_between (put_mid start (start + 128 - start) bytes text) other
    ∙ between_is (put_mid start (start + 128 - start) bytes text) other (other + 128)
    ∙ ap (drop other) (take-put_mid_below start (start + 128 - start) bytes text (other + 128) below within)
    ∙ sym (as_between bytes other ∙ between_is bytes other (other + 128))
