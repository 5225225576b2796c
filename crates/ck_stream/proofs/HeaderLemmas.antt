-- The header and the end that are read are those that were written, and what was written is read again.
use Rattle.std.proofs.Common.{◌≡◌, ℕ, ◌^◌, ◌<◌, ◌≤◌, Bool, true, false, cond, List, ◌++◌, length, Result, Ok, refl, sym, ap, subst, ◌∙◌, append_assoc, arith}
use Rattle.std.specs.Prelude.{nat_eq, nat_lt}
use Rattle.std.specs.Cmp.Lexicographic.{pointwise, bytes_decides}
use Rattle.std.specs.Int.{w32, w64, to_be_bytes}
use Rattle.std.proofs.lemmas.Bool.{eqb-true, ltb-false, le-ltb}
use Rattle.std.proofs.lemmas.Bool.Decides.{nat_tests}
use Rattle.ck_model.specs.Held.{IsWord}
use Rattle.ck_stream.specs.declared.item.Item.{Item}
use Rattle.ck_stream.specs.declared.fault.Flaw.{Flaw}
use Rattle.ck_stream.specs.declared.fault.Flaw.TheVariants as flaw
use Rattle.ck_stream.specs.declared.tag.Header.{Header}
use Rattle.ck_stream.specs.declared.tag.Header.TheVariants as header
use Rattle.ck_stream.specs.Written.{full_magic, changed_magic, header_text}
use Rattle.ck_stream.specs.Parsed.{◌>>=◌, number_at, run_at, id_in, id_at, full_header_at, later_in, changed_header_at, magic_in, header_at, made, count_in, end_at}
use Rattle.ck_stream.proofs.FieldLemmas.{IsBytes, bind_ok, passed, met, done, ok_is, Takes, Takes-then, word_takes, word_again, long_takes, long_again, run_takes, run_again}

abbrev pub IsHeader : Header → Type 0
IsHeader (header.Full id) = (1 ≤ id) × IsWord id
IsHeader (header.Changed earlier later) = (1 ≤ earlier) × (earlier ≤ later) × IsWord later

-- the ids without the magic
abbrev ids_text : Header → List ℕ
ids_text (header.Full id) = to_be_bytes w32 id
ids_text (header.Changed earlier later) = to_be_bytes w32 earlier ++ to_be_bytes w32 later

record IdTaken (bytes : List ℕ) (read : ℕ × List ℕ) : Type 0 where
  takes : Takes bytes (to_be_bytes w32 read.0) read.1
  some : 1 ≤ read.0
  word : read.0 < 2 ^ 32

id_takes : (bytes : List ℕ) (read : ℕ × List ℕ) → IsBytes bytes → id_at bytes ≡ Ok read → IdTaken bytes read
unfolding id_at
id_takes bytes read fits e =
    let a = bind_ok (number_at w32 bytes) (λ id. id_in id) read e in
    let g = passed (nat_eq a.0.0 0) flaw.Wrong (Ok a.0) read a.2 in
    let first = word_takes bytes a.0 fits a.1 in
    let some : 1 ≤ a.0.0 = let h = g.0 in grind (arith, nat_tests) in
    subst (λ (x : ℕ × List ℕ). IdTaken bytes x) (ok_is a.0 read g.1) (record { takes = first.takes; some = some; word = first.below })

id_again : (id : ℕ) (rest : List ℕ) → 1 ≤ id → id < 2 ^ 32 → id_at (to_be_bytes w32 id ++ rest) ≡ Ok (id, rest)
unfolding id_at
id_again id rest some word =
    let other : nat_eq id 0 ≡ false = grind (arith, nat_tests) in
    rw (word_again id rest word, other) refl

record IdsTaken (bytes : List ℕ) (read : Header × List ℕ) : Type 0 where
  takes : Takes bytes (ids_text read.0) read.1
  right : IsHeader read.0

full_takes : (bytes : List ℕ) (read : Header × List ℕ) → IsBytes bytes → full_header_at bytes ≡ Ok read → IdsTaken bytes read × ((items : List Item) → header_text (made read.0 items) ≡ full_magic ++ ids_text read.0)
unfolding full_header_at
full_takes bytes read fits e =
    let a = bind_ok (id_at bytes) (λ id. Ok (header.Full id.0, id.1)) read e in
    let first = id_takes bytes a.0 fits a.1 in
    let found : Header × List ℕ = (header.Full a.0.0, a.0.1) in
    subst (λ (x : Header × List ℕ). IdsTaken bytes x × ((items : List Item) → header_text (made x.0 items) ≡ full_magic ++ ids_text x.0)) (ok_is found read a.2)
    (record { takes = first.takes; right = (first.some, first.word) }, λ items. refl)

changed_takes : (bytes : List ℕ) (read : Header × List ℕ) → IsBytes bytes → changed_header_at bytes ≡ Ok read → IdsTaken bytes read × ((items : List Item) → header_text (made read.0 items) ≡ changed_magic ++ ids_text read.0)
unfolding changed_header_at
changed_takes bytes read fits e =
    let a = bind_ok (id_at bytes) (λ earlier. number_at w32 earlier.1 >>= λ later. later_in earlier.0 later) read e in
    let b = bind_ok (number_at w32 a.0.1) (λ later. later_in a.0.0 later) read a.2 in
    let found : Header × List ℕ = (header.Changed a.0.0 b.0.0, b.0.1) in
    let g = passed (nat_lt b.0.0 a.0.0) flaw.Wrong (done found) read b.2 in
    let order : a.0.0 ≤ b.0.0 = ltb-false _ _ g.0 in
    let first = id_takes bytes a.0 fits a.1 in
    let second = word_takes a.0.1 b.0 first.takes.rest_fits b.1 in
    subst (λ (x : Header × List ℕ). IdsTaken bytes x × ((items : List Item) → header_text (made x.0 items) ≡ changed_magic ++ ids_text x.0)) (ok_is found read g.1) (
      record {
        takes = Takes-then bytes (to_be_bytes w32 a.0.0) a.0.1 (to_be_bytes w32 b.0.0) b.0.1 first.takes second.takes;
        right = (first.some, order, second.below);
      },
      λ items. refl,
    )

pub record HeaderTaken (bytes : List ℕ) (read : Header × List ℕ) : Type 0 where
  pub takes : (items : List Item) → Takes bytes (header_text (made read.0 items)) read.1
  pub right : IsHeader read.0

behind_magic : (bytes magic run rest : List ℕ) (read : Header × List ℕ) → Takes bytes run rest → pointwise nat_eq run magic ≡ true → IdsTaken rest read × ((items : List Item) → header_text (made read.0 items) ≡ magic ++ ids_text read.0) → HeaderTaken bytes read
behind_magic bytes magic run rest read takes test ids =
    let same : run ≡ magic = (bytes_decides run magic).0 test in
    let first : Takes bytes magic rest = subst (λ (x : List ℕ). Takes bytes x rest) same takes in
    record {
      takes = λ items. subst (λ (x : List ℕ). Takes bytes x read.1) (sym (ids.1 items)) (Takes-then bytes magic rest (ids_text read.0) read.1 first ids.0.takes);
      right = ids.0.right;
    }

choose : {A : Type 0} (b : Bool) (x y : Result A Flaw) (z : A) (P : Type 0) → cond b x y ≡ Ok z → (b ≡ true → x ≡ Ok z → P) → (b ≡ false → y ≡ Ok z → P) → P
choose true x y z P e so other = so refl e
choose false x y z P e so other = other refl e

pub header_takes : (bytes : List ℕ) (read : Header × List ℕ) → IsBytes bytes → header_at bytes ≡ Ok read → HeaderTaken bytes read
unfolding header_at
header_takes bytes read fits e =
    let a = bind_ok (run_at 8 bytes) (λ magic. magic_in magic) read e in
    let run = run_takes 8 bytes a.0 fits a.1 in
    choose (pointwise nat_eq a.0.0 full_magic) _ _ read (HeaderTaken bytes read) a.2
    (λ test f. behind_magic bytes full_magic a.0.0 a.0.1 read run.takes test (full_takes a.0.1 read run.takes.rest_fits f)) (λ _ e.
    choose (pointwise nat_eq a.0.0 changed_magic) _ _ read (HeaderTaken bytes read) e
    (λ test f. behind_magic bytes changed_magic a.0.0 a.0.1 read run.takes test (changed_takes a.0.1 read run.takes.rest_fits f)) (λ _ f. absurd cc))

full_again : (id : ℕ) (rest : List ℕ) → IsHeader (header.Full id) → full_header_at (ids_text (header.Full id) ++ rest) ≡ Ok (header.Full id, rest)
unfolding full_header_at
full_again id rest right = rw (id_again id rest right.0 right.1) refl

changed_again : (earlier later : ℕ) (rest : List ℕ) → IsHeader (header.Changed earlier later) → changed_header_at (ids_text (header.Changed earlier later) ++ rest) ≡ Ok (header.Changed earlier later, rest)
unfolding changed_header_at
changed_again earlier later rest right =
    let regrouped : ids_text (header.Changed earlier later) ++ rest ≡ to_be_bytes w32 earlier ++ (to_be_bytes w32 later ++ rest) = append_assoc (to_be_bytes w32 earlier) (to_be_bytes w32 later) rest in
    let word : earlier < 2 ^ 32 = let h = right.1 in let k = right.2 in omega arith in
    let order : nat_lt later earlier ≡ false = le-ltb _ _ right.1 in
    ap changed_header_at regrouped ∙ rw (id_again earlier (to_be_bytes w32 later ++ rest) right.0 word, word_again later rest right.2, order) refl

pub header_again : (h : Header) (items : List Item) (rest : List ℕ) → IsHeader h → header_at (header_text (made h items) ++ rest) ≡ Ok (h, rest)
unfolding header_at
header_again (header.Full id) items rest right =
    let behind = ids_text (header.Full id) ++ rest in
    let regrouped : header_text (made (header.Full id) items) ++ rest ≡ full_magic ++ behind = append_assoc full_magic (ids_text (header.Full id)) rest in
    ap header_at regrouped ∙ rw (run_again 8 full_magic behind refl, full_again id rest right) refl
header_again (header.Changed earlier later) items rest right =
    let behind = ids_text (header.Changed earlier later) ++ rest in
    let regrouped : header_text (made (header.Changed earlier later) items) ++ rest ≡ changed_magic ++ behind = append_assoc changed_magic (ids_text (header.Changed earlier later)) rest in
    ap header_at regrouped ∙ rw (run_again 8 changed_magic behind refl, changed_again earlier later rest right) refl

-- ---- the end

pub record EndTaken (count : ℕ) (bytes : List ℕ) (read : List ℕ × List ℕ) : Type 0 where
  pub takes : Takes bytes (to_be_bytes w64 count ++ read.0) read.1
  pub len : length read.0 ≡ 32
  pub few : count < 2 ^ 64

pub end_takes : (count : ℕ) (bytes : List ℕ) (read : List ℕ × List ℕ) → IsBytes bytes → end_at count bytes ≡ Ok read → EndTaken count bytes read
unfolding end_at
end_takes count bytes read fits e =
    let a = bind_ok (number_at w64 bytes) (λ number. count_in count number >>= λ rest. run_at 32 rest) read e in
    let b = bind_ok (count_in count a.0) (λ rest. run_at 32 rest) read a.2 in
    let m = met (nat_eq a.0.0 count) flaw.Wrong (done a.0.1) b.0 b.1 in
    let rest-is : a.0.1 ≡ b.0 = ok_is a.0.1 b.0 m.1 in
    let first = long_takes bytes a.0 fits a.1 in
    let counted : a.0.0 ≡ count = eqb-true a.0.0 count m.0 in
    let number : Takes bytes (to_be_bytes w64 count) b.0 = subst (λ (x : List ℕ). Takes bytes (to_be_bytes w64 count) x) rest-is (subst (λ (n : ℕ). Takes bytes (to_be_bytes w64 n) a.0.1) counted first.takes) in
    let run = run_takes 32 b.0 read number.rest_fits b.2 in
    record {
      takes = Takes-then bytes (to_be_bytes w64 count) b.0 read.0 read.1 number run.takes;
      len = run.len;
      few = subst (λ (n : ℕ). n < 2 ^ 64) counted first.below;
    }

pub end_again : (count : ℕ) (digest rest : List ℕ) → count < 2 ^ 64 → length digest ≡ 32 → end_at count (to_be_bytes w64 count ++ (digest ++ rest)) ≡ Ok (digest, rest)
unfolding end_at
end_again count digest rest few len =
    let same : nat_eq count count ≡ true = grind (arith, nat_tests) in
    rw (long_again count (digest ++ rest) few, same, run_again 32 digest rest len) refl
