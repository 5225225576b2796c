-- A set of numbers in words stays one: after one more member or one fewer, when it takes over another's, and when it is emptied.
use Rattle.std.proofs.Common.{◌≡◌, ℕ, ◌+◌, ◌-◌, ◌/◌, ◌^◌, ◌<◌, ◌≤◌, ◌==◌, ◌||◌, ◌&&◌, ◌≢◌, Bool, true, false, not, inl, inr, List, length, get_or, replicate, bit_or, refl, sym, ap, subst, ◌∙◌, arith}
use Rattle.std.proofs.lemmas.Bool.{cases_eq, eq-eqb, ne_eqb, or_cases, and_parts, false≢true}
use Rattle.std.proofs.lemmas.List.{length-replicate}
use Rattle.ck_alloc.specs.Bits.{has, IsIndexed}
use Rattle.ck_alloc.proofs.Counts.{count_below-one_more, count_below-one_less, count_below-or, count_below-none, count_below-le, count_below-some}
use Rattle.ck_alloc.proofs.MarkLemmas.{member_word, has-zeros, Marks-zeros, has-merged, Marks-merged, Marks-set_bit, Marks-emptied, Marks-kept}

-- what setting one bit of some words leaves
pub record SetsBit (old new : List ℕ) (at : ℕ) : Type 0 where
  pub len : length new ≡ length old
  pub members : (k : ℕ) → has new k ≡ ((k == at) || has old k)
  pub others : (word : ℕ) → word ≢ at / 64 → get_or new word 0 ≡ get_or old word 0

-- what clearing one bit of some words leaves
pub record ClearsBit (old new : List ℕ) (at : ℕ) : Type 0 where
  pub len : length new ≡ length old
  pub members : (k : ℕ) → has new k ≡ (not (k == at) && has old k)
  pub others : (word : ℕ) → word ≢ at / 64 → get_or new word 0 ≡ get_or old word 0

-- the same, where the words were seen as a slice
pub SetsBit-seen : (old seen new : List ℕ) (at : ℕ) → seen ≡ old → SetsBit seen new at → SetsBit old new at
SetsBit-seen old seen new at same bit = subst (λ (w : List ℕ). SetsBit w new at) same bit

pub ClearsBit-seen : (old seen new : List ℕ) (at : ℕ) → seen ≡ old → ClearsBit seen new at → ClearsBit old new at
ClearsBit-seen old seen new at same bit = subst (λ (w : List ℕ). ClearsBit w new at) same bit

-- what merging some words into others leaves
pub record Merges (old more new : List ℕ) : Type 0 where
  pub len : length new ≡ length old
  pub each : (word : ℕ) → get_or new word 0 ≡ bit_or (get_or old word 0) (get_or more word 0)

pub IsIndexed-inserted : (limit count : ℕ) (words groups more marks : List ℕ) (at : ℕ) → IsIndexed limit count words groups → at < limit → has words at ≡ false
    → SetsBit words more at → SetsBit groups marks (at / 64) → IsIndexed limit (count + 1) more marks
IsIndexed-inserted limit count words groups more marks at was within absent bits mark =
    let present : has more at ≡ true = bits.members at ∙ ap (λ b. b || has words at) (eq-eqb at at refl) in
    record {
      small = was.small;
      room = bits.len ∙ was.room;
      group_room = mark.len ∙ was.group_room ∙ ap (λ n. n / 64 + 1) (sym bits.len);
      marked = Marks-set_bit marks groups words more (at / 64) was.marked mark.members bits.others (member_word more at present);
      within = λ k h. elim (cases_eq k at) [
        | inl here ↦ omega arith
        | inr other ↦ was.within k (sym (ap (λ b. b || has words k) (ne_eqb k at other)) ∙ sym (bits.members k) ∙ h)
      ];
      counted = ap (λ n. n + 1) was.counted ∙ sym (count_below-one_more (has words) (has more) at limit within absent bits.members);
    }

-- a member less, and its word's mark where the word is empty now
pub IsIndexed-emptied : (limit count : ℕ) (words groups fewer marks : List ℕ) (at : ℕ) → IsIndexed limit count words groups → has words at ≡ true
    → ClearsBit words fewer at → ClearsBit groups marks (at / 64) → get_or fewer (at / 64) 0 ≡ 0 → IsIndexed limit (count - 1) fewer marks
IsIndexed-emptied limit count words groups fewer marks at was present bits mark empty =
    record {
      small = was.small;
      room = bits.len ∙ was.room;
      group_room = mark.len ∙ was.group_room ∙ ap (λ n. n / 64 + 1) (sym bits.len);
      marked = Marks-emptied marks groups words fewer (at / 64) was.marked mark.members bits.others empty;
      within = λ k h. was.within k (and_parts _ _ (sym (bits.members k) ∙ h)).1;
      counted = omega (arith, was.counted, count_below-one_less (has words) (has fewer) at limit (was.within at present) present bits.members);
    }

pub IsIndexed-kept : (limit count : ℕ) (words groups fewer : List ℕ) (at : ℕ) → IsIndexed limit count words groups → has words at ≡ true
    → ClearsBit words fewer at → 0 < get_or fewer (at / 64) 0 → IsIndexed limit (count - 1) fewer groups
IsIndexed-kept limit count words groups fewer at was present bits full =
    record {
      small = was.small;
      room = bits.len ∙ was.room;
      group_room = was.group_room ∙ ap (λ n. n / 64 + 1) (sym bits.len);
      marked = Marks-kept groups words fewer (at / 64) was.marked bits.others (member_word words at present) full;
      within = λ k h. was.within k (and_parts _ _ (sym (bits.members k) ∙ h)).1;
      counted = omega (arith, was.counted, count_below-one_less (has words) (has fewer) at limit (was.within at present) present bits.members);
    }

-- all members of another set more
pub IsIndexed-merged : (limit count others : ℕ) (words groups more marks merged both : List ℕ) → IsIndexed limit count words groups → IsIndexed limit others more marks
    → ((k : ℕ) → has words k ≡ true → has more k ≡ false) → Merges words more merged → Merges groups marks both → IsIndexed limit (count + others) merged both
IsIndexed-merged limit count others words groups more marks merged both first second apart bits mark =
    let members = has-merged merged words more bits.each in
    record {
      small = first.small;
      room = bits.len ∙ first.room;
      group_room = mark.len ∙ first.group_room ∙ ap (λ n. n / 64 + 1) (sym bits.len);
      marked = Marks-merged both groups marks words more merged first.marked second.marked (has-merged both groups marks mark.each) bits.each;
      within = λ k h. elim (or_cases _ _ (sym (members k) ∙ h)) [ inl here ↦ first.within k here | inr there ↦ second.within k there ];
      counted = omega (arith, first.counted, second.counted, count_below-or (has words) (has more) (has merged) limit apart members);
    }

-- there is room for one member more, and for all members of another set
pub count_inserted : (limit count : ℕ) (words groups : List ℕ) (at : ℕ) → IsIndexed limit count words groups → at < limit → has words at ≡ false → count + 1 ≤ limit
count_inserted limit count words groups at was within absent =
    let more : ℕ → Bool = λ k. (k == at) || has words k in
    omega (arith, was.counted, count_below-one_more (has words) more at limit within absent (λ k. refl), count_below-le more limit)

pub count_merged : (limit count others : ℕ) (words groups more marks : List ℕ) → IsIndexed limit count words groups → IsIndexed limit others more marks
    → ((k : ℕ) → has words k ≡ true → has more k ≡ false) → count + others ≤ limit
count_merged limit count others words groups more marks first second apart =
    let both : ℕ → Bool = λ k. has words k || has more k in
    omega (arith, first.counted, second.counted, count_below-or (has words) (has more) both limit apart (λ k. refl), count_below-le both limit)

-- a member is counted
pub count_member : (limit count : ℕ) (words groups : List ℕ) (at : ℕ) → IsIndexed limit count words groups → has words at ≡ true → 0 < count
count_member limit count words groups at was present =
    omega (arith, was.counted, count_below-some (has words) at limit (was.within at present) present)

-- no members
pub IsIndexed-zeros : (limit m n : ℕ) → limit < 2 ^ 32 → m ≡ limit / 64 + 1 → n ≡ m / 64 + 1 → IsIndexed limit 0 (replicate m 0) (replicate n 0)
IsIndexed-zeros limit m n small room group_room =
    record {
      small = small;
      room = length-replicate m 0 ∙ room;
      group_room = length-replicate n 0 ∙ group_room ∙ ap (λ k. k / 64 + 1) (sym (length-replicate m 0));
      marked = Marks-zeros n m;
      within = λ k h. absurd (false≢true (sym (has-zeros m k) ∙ h));
      counted = sym (count_below-none (has (replicate m 0)) limit (λ k _. has-zeros m k));
    }

-- the same, where the words were seen as a slice
pub Merges-seen : (old seen more others new : List ℕ) → seen ≡ old → others ≡ more → Merges seen others new → Merges old more new
Merges-seen old seen more others new same other merge =
    subst (λ (w : List ℕ). Merges w more new) same (subst (λ (w : List ℕ). Merges seen w new) other merge)
