-- Reading records one after the other, as a loop does.
use Rattle.std.proofs.Common.{◌≡◌, ℕ, zero, suc, ◌-◌, ◌+◌, ◌≤◌, ◌<◌, ◌≢◌, Bool, List, [], ◌∷◌, ◌++◌, length, Option, Some, Result, Ok, Err, refl, sym, ap, subst, ◌∙◌, append_assoc, arith}
use Rattle.std.proofs.lemmas.List.{append-nil}
use Rattle.ck_model.specs.declared.key.Key.{Key}
use Rattle.ck_stream.specs.declared.item.Item.{Item}
use Rattle.ck_stream.specs.declared.fault.Flaw.{Flaw}
use Rattle.ck_stream.specs.declared.fault.Flaw.TheVariants as flaw
use Rattle.ck_stream.specs.declared.fault.StreamFault.{StreamFault}
use Rattle.ck_stream.specs.declared.fault.StreamFault.TheVariants as fault
use Rattle.ck_stream.specs.Right.{key_of}
use Rattle.ck_stream.specs.Parsed.{◌>>=◌, HasFlaw, HasFault, fault_at, located, record_at, items_at}

abbrev pub Items : Type 0
Items = Result (List Item × List ℕ) StreamFault

-- what was read before, and what is still read
abbrev pub with_front : List Item → Items → Items
with_front front read = read >>= λ x. Ok (front ++ x.0, x.1)

regroup : (front : List Item) (item : Item) (read : Items) → with_front front (read >>= λ x. Ok (item ∷ x.0, x.1)) ≡ with_front (front ++ item ∷ []) read
regroup front item (Ok x) = ap (λ (items : List Item). Ok (items, x.1)) (simp append_assoc)
regroup front item (Err f) = refl

pub at_empty : (front : List Item) (count i total : ℕ) (full : Bool) (last : Option Key) (rest : List ℕ) (whole : Items) → i < count → rest ≡ [] → with_front front (items_at (count - i) total full last rest) ≡ whole → whole ≡ Err (fault.Truncated total)
unfolding items_at
at_empty front count i total full last rest whole lt empty so_far =
    let k : count - i ≡ suc (count - (i + 1)) = omega arith in
    let one : with_front front (items_at (count - i) total full last rest) ≡ Err (fault.Truncated total) = rw (k, empty) refl in
    sym so_far ∙ one

pub at_end : (front : List Item) (count i total : ℕ) (full : Bool) (last : Option Key) (rest after : List ℕ) (whole : Items) → i < count → rest ≡ 0 ∷ after → with_front front (items_at (count - i) total full last rest) ≡ whole → whole ≡ Ok (front, after)
unfolding items_at
at_end front count i total full last rest after whole lt ended so_far =
    let k : count - i ≡ suc (count - (i + 1)) = omega arith in
    let one : with_front front (items_at (count - i) total full last rest) ≡ Ok (front, after) = rw (k, ended) (ap (λ (items : List Item). Ok (items, after)) (append-nil front)) in
    sym so_far ∙ one

-- one step of the reading
pub one_more : (n total : ℕ) (full : Bool) (last : Option Key) (number : ℕ) (after : List ℕ) → number ≢ 0 → items_at (suc n) total full last (number ∷ after) ≡ (located total (total - suc (length after)) (record_at full last number after) >>= λ first. items_at n total full (Some (key_of first.0)) first.1 >>= λ others. Ok (first.0 ∷ others.0, others.1))
unfolding items_at
one_more n total full last zero after some = absurd (some refl)
one_more n total full last (suc number) after some = refl

pub goes_on : (front : List Item) (count i total : ℕ) (full : Bool) (last : Option Key) (rest : List ℕ) (number : ℕ) (after : List ℕ) (item : Item) (behind : List ℕ) (whole : Items) → i < count → rest ≡ number ∷ after → number ≢ 0 → record_at full last number after ≡ Ok (item, behind)
    → with_front front (items_at (count - i) total full last rest) ≡ whole → with_front (front ++ item ∷ []) (items_at (count - (i + 1)) total full (Some (key_of item)) behind) ≡ whole
goes_on front count i total full last rest number after item behind whole lt begins some read so_far =
    let k : count - i ≡ suc (count - (i + 1)) = omega arith in
    let one : with_front front (items_at (count - i) total full last rest) ≡ with_front (front ++ item ∷ []) (items_at (count - (i + 1)) total full (Some (key_of item)) behind) =
    rw (k, begins, one_more (count - (i + 1)) total full last number after some, read) (regroup front item (items_at (count - (i + 1)) total full (Some (key_of item)) behind)) in
    sym one ∙ so_far

stopped : (why : Flaw) (front : List Item) (count i total : ℕ) (full : Bool) (last : Option Key) (rest : List ℕ) (number : ℕ) (after : List ℕ) (whole : Items) → i < count → rest ≡ number ∷ after → number ≢ 0 → record_at full last number after ≡ Err why
    → with_front front (items_at (count - i) total full last rest) ≡ whole → whole ≡ Err (fault_at total (total - length rest) why)
stopped why front count i total full last rest number after whole lt begins some given so_far =
    let k : count - i ≡ suc (count - (i + 1)) = omega arith in
    let one : with_front front (items_at (count - i) total full last rest) ≡ Err (fault_at total (total - length rest) why) =
    rw (k, begins, one_more (count - (i + 1)) total full last number after some, given) refl in
    sym so_far ∙ one

-- the same, of a fault and a place that are equal to these
pub stops_at : (why : Flaw) (answer : StreamFault) (place : ℕ) (front : List Item) (count i total : ℕ) (full : Bool) (last : Option Key) (rest : List ℕ) (number : ℕ) (after : List ℕ) (whole : Items) → answer ≡ fault_at total place why → place ≡ total - length rest → i < count → rest ≡ number ∷ after → number ≢ 0 → record_at full last number after ≡ Err why
    → with_front front (items_at (count - i) total full last rest) ≡ whole → whole ≡ Err answer
stops_at why answer place front count i total full last rest number after whole is stands lt begins some given so_far =
    stopped why front count i total full last rest number after whole lt begins some given so_far
    ∙ ap (λ (f : StreamFault). Err f) (sym (is ∙ ap (λ (at : ℕ). fault_at total at why) stands))

has_fault : (f : StreamFault) (read : Items) → read ≡ Err f → HasFault f read
has_fault (fault.NotStream place) read e = e
has_fault (fault.Truncated total) read e = e
has_fault (fault.Digest kept found) read e = e
has_fault fault.NoMemory read e = tt

-- the same where memory may run out
pub stops_as : (why : Flaw) (answer : StreamFault) (place : ℕ) (front : List Item) (count i total : ℕ) (full : Bool) (last : Option Key) (rest : List ℕ) (number : ℕ) (after : List ℕ) (whole : Items) → answer ≡ fault_at total place why → place ≡ total - length rest → i < count → rest ≡ number ∷ after → number ≢ 0 → HasFlaw why (record_at full last number after)
    → with_front front (items_at (count - i) total full last rest) ≡ whole → HasFault answer whole
stops_as flaw.Short answer place front count i total full last rest number after whole is stands lt begins some given so_far =
    has_fault answer whole (stops_at flaw.Short answer place front count i total full last rest number after whole is stands lt begins some given so_far)
stops_as flaw.Wrong answer place front count i total full last rest number after whole is stands lt begins some given so_far =
    has_fault answer whole (stops_at flaw.Wrong answer place front count i total full last rest number after whole is stands lt begins some given so_far)
stops_as flaw.NoMemory answer place front count i total full last rest number after whole is stands lt begins some given so_far =
    subst (λ (f : StreamFault). HasFault f whole) (sym is) tt

pub is_out : (front : List Item) (count i total : ℕ) (full : Bool) (last : Option Key) (rest : List ℕ) (whole : Items) → count ≤ i → with_front front (items_at (count - i) total full last rest) ≡ whole → whole ≡ Err (fault.Truncated total)
unfolding items_at
is_out front count i total full last rest whole le so_far =
    let k : count - i ≡ 0 = omega arith in
    let one : with_front front (items_at (count - i) total full last rest) ≡ Err (fault.Truncated total) = rw k refl in
    sym so_far ∙ one
