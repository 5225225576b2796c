-- A read of a checkpoint's file from its first turn to its last one.
use Rattle.std.proofs.Common.{◌≡◌, ℕ, zero, suc, ◌+◌, ◌-◌, ◌/◌, ◌%◌, ◌<◌, ◌≤◌, ◌++◌, true, false, cond, List, [], ◌∷◌, length, min, nat_eq, map as list_map, ◌⊎◌, inl, inr, refl, sym, ap, subst, ◌∙◌, arith}
use Rattle.std.specs.List.{range_with_len}
use Rattle.std.proofs.lemmas.Bool.Decides.{nat_tests}
use Rattle.std.proofs.lemmas.Bool.{cases_lt}
use Rattle.ck_model.specs.Cells.{Cells, size_at}
use Rattle.ck_model.specs.Changes.{touched}
use Rattle.ck_model.specs.Contents.{file_byte, file_range}
use Rattle.ck_read.specs.declared.progress.ReadProgress.{ReadProgress}
use Rattle.ck_read.specs.declared.turns.ReadTurn.TheVariants.{More, Finished}
use Rattle.ck_read.specs.ReadTurn.{turn_at}
use Rattle.ck_read.specs.Progress.{is_through, next_part, next_place, part_len, left_len, turns_left, turns_of, all_turns, turns_had, IsUnderWay, ReadFits}

-- ---- a turn took a part of the range

-- the progress with these bytes
abbrev with_bytes : ReadProgress → List ℕ → ReadProgress
with_bytes p ys = record p { bytes = ys }

pub under_way_more : (p : ReadProgress) (ys : List ℕ) → length ys ≡ length p.bytes + part_len p → IsUnderWay p → IsUnderWay (with_bytes p ys)
under_way_more p ys count way = record {
  within = omega (arith, way.within, count);
  limit = way.limit;
  edge = elim (cases_lt (next_place p) p.to) [
    | inl left ↦ elim (cases_lt (left_len p) (4096 - next_place p % 4096)) [
      | inl last ↦ inr (inr (omega (arith, count, left, last)))
      | inr whole ↦ inr (inl (omega (arith, count, left, whole)))
    ]
    | inr none ↦
        let same : next_place (with_bytes p ys) ≡ next_place p = omega (arith, count, none) in
        subst (λ place. (place ≡ p.from) ⊎ ((place % 4096 ≡ 0) ⊎ (place ≡ p.to))) (sym same) way.edge
  ];
}

map_ranges : (f : ℕ → ℕ) (a n m : ℕ) → list_map f (range_with_len a n) ++ list_map f (range_with_len (a + n) m) ≡ list_map f (range_with_len a (n + m))
map_ranges f a zero m =
    let start : a + 0 ≡ a = omega arith in
    let count : 0 + m ≡ m = omega arith in
    ap (λ k. list_map f (range_with_len k m)) start ∙ sym (ap (λ k. list_map f (range_with_len a k)) count)
map_ranges f a (suc n) m =
    let start : a + suc n ≡ a + 1 + n = omega arith in
    let count : suc (n + m) ≡ suc n + m = omega arith in
    ap (λ k. f a ∷ (list_map f (range_with_len (a + 1) n) ++ list_map f (range_with_len k m))) start
    ∙ ap (λ xs. f a ∷ xs) (map_ranges f (a + 1) n m)
    ∙ ap (λ k. list_map f (range_with_len a k)) count

fits_with : (cells : Cells) (p : ReadProgress) (ys : List ℕ) → length ys ≡ length p.bytes + part_len p → ys ≡ p.bytes ++ next_part cells p → ReadFits cells p → ReadFits cells (with_bytes p ys)
fits_with cells p ys count is fits =
    let byte = file_byte cells p.node in
    let size = size_at cells p.node in
    let within = fits.under_way.within in
    let end = fits.end in
    let before : min (length p.bytes) (size - p.from) ≡ length p.bytes = omega (arith, within, end) in
    let after : length p.bytes + part_len p ≡ min (length ys) (size - p.from) = omega (arith, within, end, count) in
    record {
      under_way = under_way_more p ys count fits.under_way;
      end = end;
      bytes = is
          ∙ ap (λ xs. xs ++ next_part cells p) (fits.bytes ∙ ap (λ n. list_map byte (range_with_len p.from n)) before)
          ∙ map_ranges byte p.from (length p.bytes) (part_len p)
          ∙ ap (λ n. list_map byte (range_with_len p.from n)) after;
    }

-- what fitted the map fits it still
pub fits_more : (cells : Cells) (p q : ReadProgress) → q ≡ record p { bytes = q.bytes } → length q.bytes ≡ length p.bytes + part_len p → q.bytes ≡ p.bytes ++ next_part cells p → ReadFits cells p → ReadFits cells q
fits_more cells p q others count is fits = subst (ReadFits cells) (sym others) (fits_with cells p q.bytes count is fits)

-- ---- how many turns are left

length-range : (a n : ℕ) → length (range_with_len a n) ≡ n
length-range a zero = refl
length-range a (suc n) = ap suc (length-range (a + 1) n)

length-touched : (place count : ℕ) → 0 < count → length (touched place count) ≡ (place + count + 4095) / 4096 - place / 4096
length-touched place count some =
    let test : nat_eq count 0 ≡ false = grind (arith, nat_tests) in
    length-range (place / 4096) _ ∙ ap (λ b. cond b 0 ((place + count + 4095) / 4096 - place / 4096)) test

turns_with : (p : ReadProgress) (ys : List ℕ) → length ys ≡ length p.bytes + part_len p → is_through (with_bytes p ys) ≡ false → turns_left p ≡ 1 + turns_left (with_bytes p ys)
turns_with p ys count more =
    let q = with_bytes p ys in
    let ahead : next_place q < p.to = grind (arith, nat_tests, more) in
    let some : 0 < left_len p = omega (arith, ahead, count) in
    let rest : 0 < left_len q = omega (arith, ahead) in
    let now = length-touched (next_place p) (left_len p) some in
    let then_ = length-touched (next_place q) (left_len q) rest in
    omega (arith, ahead, count, some, rest, now, then_)

-- each turn that leaves bytes is one of them
pub turns_more : (p q : ReadProgress) → q ≡ record p { bytes = q.bytes } → length q.bytes ≡ length p.bytes + part_len p → is_through q ≡ false → turns_left p ≡ 1 + turns_left q
turns_more p q others count more = turns_with p q.bytes count (ap is_through (sym others) ∙ more) ∙ ap (λ r. 1 + turns_left r) (sym others)

-- ---- how many turns it has had

-- none of what has no bytes yet
pub none_had : (p : ReadProgress) → p.bytes ≡ [] → turns_had p ≡ 0
none_had p none =
    let no : length p.bytes ≡ 0 = ap length none in
    let place : next_place p ≡ p.from = omega (arith, no) in
    let all : turns_left p ≡ all_turns p = (λ i. turns_of (place i) (p.to - place i)) in
    omega (arith, all)

-- as many blocks as bytes up to the same end touch, or more
touched_more : (from place to : ℕ) → from ≤ place → turns_of place (to - place) ≤ turns_of from (to - from)
touched_more from place to before = elim (cases_lt place to) [
  | inl ahead ↦
      let some : 0 < to - place = omega (arith, ahead) in
      let more : 0 < to - from = omega (arith, ahead, before) in
      omega (arith, before, ahead, length-touched place (to - place) some, length-touched from (to - from) more)
  | inr none ↦
      let left : to - place ≡ 0 = omega (arith, none) in
      let one : turns_of place (to - place) ≡ 1 = ap (turns_of place) left in
      omega (arith, one)
]

left_of_all : (p : ReadProgress) → turns_left p ≤ all_turns p
left_of_all p = touched_more p.from (next_place p) p.to (omega arith)

same_range : (p q : ReadProgress) → q ≡ record p { bytes = q.bytes } → all_turns q ≡ all_turns p
same_range p q others = ap all_turns others

-- a turn that leaves bytes is one of the range's
pub one_more_had : (p q : ReadProgress) → q ≡ record p { bytes = q.bytes } → turns_left p ≡ 1 + turns_left q → turns_had q ≡ turns_had p + 1
one_more_had p q others more = omega (arith, left_of_all p, same_range p q others, more)

-- at the end all were had, and all bytes of the range are there
pub all_had : (p q : ReadProgress) → q ≡ record p { bytes = q.bytes } → IsUnderWay q → is_through q ≡ true → turns_left p ≡ 1 → turns_had p + 1 ≡ turns_of p.from (length q.bytes)
all_had p q others way through last =
    let end : q.to ≤ next_place q = grind (arith, nat_tests, through) in
    let from : q.from ≡ p.from = ap (λ (r : ReadProgress). r.from) others in
    let to : q.to ≡ p.to = ap (λ (r : ReadProgress). r.to) others in
    let bytes : length q.bytes ≡ p.to - p.from = omega (arith, way.within, end, from, to) in
    omega (arith, left_of_all p, last, ap (turns_of p.from) bytes)

-- a turn that finishes is one at the end
pub finished_through : (q : ReadProgress) → Finished ≡ turn_at q → is_through q ≡ true
finished_through q is = elim (is_through q) as (λ b. Finished ≡ cond b Finished More → b ≡ true) [ true ↦ λ _. refl | false ↦ λ h. cc ] is

-- ---- from the first turn to the last

length-map : (f : ℕ → ℕ) (xs : List ℕ) → length (list_map f xs) ≡ length xs
length-map f [] = refl
length-map f (x ∷ xs) = ap suc (length-map f xs)

pub length-file_range : (cells : Cells) (node at len : ℕ) → length (file_range cells node at len) ≡ min len (size_at cells node - at)
length-file_range cells node at len = length-map (file_byte cells node) (range_with_len at (min len (size_at cells node - at))) ∙ length-range at (min len (size_at cells node - at))

-- a read that begins takes as many turns as its bytes touch blocks, and at least one
pub turns_begun : (cells : Cells) (p : ReadProgress) (len : ℕ) → p.bytes ≡ [] → p.to ≡ min (p.from + len) (size_at cells p.node) → turns_left p ≡ turns_of p.from (length (file_range cells p.node p.from len))
turns_begun cells p len none to =
    let no : length p.bytes ≡ 0 = ap length none in
    let place : next_place p ≡ p.from = omega (arith, no) in
    let left : left_len p ≡ length (file_range cells p.node p.from len) = omega (arith, place, to, length-file_range cells p.node p.from len) in
    ap (λ n. turns_of n (left_len p)) place ∙ ap (turns_of p.from) left

-- a read that is through has all the bytes that were asked for
pub all_read : (cells : Cells) (p : ReadProgress) (len : ℕ) → ReadFits cells p → p.to ≡ min (p.from + len) (size_at cells p.node) → is_through p ≡ true → p.bytes ≡ file_range cells p.node p.from len
all_read cells p len fits to through =
    let size = size_at cells p.node in
    let end : p.to ≤ next_place p = grind (arith, nat_tests, through) in
    let count : min (length p.bytes) (size - p.from) ≡ min len (size - p.from) = omega (arith, fits.under_way.within, to, end) in
    fits.bytes ∙ ap (λ n. list_map (file_byte cells p.node) (range_with_len p.from n)) count
