-- Data blocks that a call takes for what it stores, one after the other.
use Rattle.std.proofs.Common.{◌≡◌, ◌≢◌, ℕ, ◌+◌, ◌-◌, ◌<◌, ◌≤◌, ◌&&◌, ◌||◌, not, Bool, true, false, List, [], ◌∷◌, ◌++◌, suc, length, length-append, append_assoc, get_or, set as set_at, take, if◌then◌else◌, nat_eq, refl, sym, ap, subst, ◌∙◌, arith}
use Rattle.std.specs.List.{AllByRecursion, list_any}
use Rattle.std.specs.Ordering.{nat_cmp, eq_by_cmp}
use Rattle.std.specs.Cmp.{unsigned_tied}
use Rattle.std.specs.FinSet as set
use Rattle.std.proofs.lemmas.Bool.Decides.{nat_tests}
use Rattle.std.proofs.lemmas.Cmp.{nat_cmp_total}
use Rattle.std.proofs.lemmas.List.{append-nil, take_at, get_or_at, set-append_right}
use Rattle.std.proofs.lemmas.List.Folds.{list_any-append}
use mathlib.Core.Bool.{false≢true}
use Rattle.ck_alloc.specs.Blocks.{Allocation, IsFree, IsPartition, free_count}
use Rattle.ck_model.specs.declared.change.Change.{Change}
use Rattle.ck_model.specs.declared.change.Change.TheVariants.{Put, Write, Del}
use Rattle.ck_model.specs.Table.{Table}
use Rattle.ck_model.specs.Values.{Store}
use Rattle.ck_chain.specs.Changes.{is_write}
use Rattle.ck_push.specs.Growth.{one_if, write_count}
use Rattle.ck_files.specs.Allocated.{is_named, is_taken, is_busy, IsAllocated, IsAllocatedBut, KeepsBusy}
use Rattle.ck_files.specs.Places.{with_places, places_of, AreDistinct, ArePlaced, AreHeld}
use Rattle.ck_data.specs.Writes.{AgreeBut}

-- ---- tests

either_left : (a b : Bool) → (a || b) ≡ false → a ≡ false
either_left false b h = refl
either_left true b h = absurd (false≢true (sym h))

either_right : (a b : Bool) → (a || b) ≡ false → b ≡ false
either_right false b h = h
either_right true b h = absurd (false≢true (sym h))

neither : (a b : Bool) → a ≡ false → b ≡ false → (a || b) ≡ false
neither false b h k = k
neither true b h k = absurd (false≢true (sym h))

or_true : (b : Bool) → (b || true) ≡ true
or_true true = refl
or_true false = refl

other_way : (a b : ℕ) → nat_eq a b ≡ false → nat_eq b a ≡ false
other_way a b unlike = grind (arith, nat_tests, unlike)

-- ---- one block

-- a block that is taken is busy, and the others stay as they are
pub busy_taken : (blocks left : Allocation) (block : ℕ) → left ≡ record blocks { used = set.insert blocks.used block } → KeepsBusy blocks left
busy_taken blocks left block after b h =
    ap (λ a. is_busy a b) after
    ∙ ap (λ x. x || set.contains blocks.pending b) (set.contains-insert nat_cmp_total blocks.used block b)
    ∙ more (eq_by_cmp nat_cmp b block) (set.contains blocks.used b) (set.contains blocks.pending b) h
  where
    more : (e u p : Bool) → (u || p) ≡ true → ((e || u) || p) ≡ true
    more true u p h = refl
    more false u p h = h

-- one free block less
pub free_taken : (blocks left : Allocation) (block : ℕ) → IsFree blocks block → left ≡ record blocks { used = set.insert blocks.used block } → free_count blocks ≤ free_count left + 1
free_taken blocks left block free after =
    let count : set.len (set.insert blocks.used block) ≡ set.len blocks.used + 1 =
    set.len-insert nat_cmp_total blocks.used block ∙ ap (λ b. if b then set.len blocks.used else set.len blocks.used + 1) free.unused in
    subst (λ (a : Allocation). free_count blocks ≤ free_count a + 1) (sym after) (omega (arith, count))

-- what a table names is in use, so it isn't free
pub free_unnamed : (t : Table) (places : List ℕ) (blocks : Allocation) (block : ℕ) → IsAllocatedBut places t blocks → IsFree blocks block → (is_named t block ≡ false) × (is_taken places block ≡ false)
free_unnamed t places blocks block allocated free =
    let none = sym (allocated.used block) ∙ free.unused in
    (either_left (is_named t block) (is_taken places block) none, either_right (is_named t block) (is_taken places block) none)

-- one place more at the end
pub taken_more : (places : List ℕ) (place block : ℕ) → is_taken (places ++ place ∷ []) block ≡ (is_taken places block || nat_eq block place)
taken_more places place block = list_any-append (nat_eq block) places (place ∷ []) ∙ ap (λ b. is_taken places block || b) (or_false (nat_eq block place))
  where
    or_false : (b : Bool) → (b || false) ≡ b
    or_false true = refl
    or_false false = refl

pub allocated_more : (t : Table) (places : List ℕ) (blocks left : Allocation) (block : ℕ) → IsAllocatedBut places t blocks → left ≡ record blocks { used = set.insert blocks.used block } → IsPartition left
    → IsAllocatedBut (places ++ block ∷ []) t left
allocated_more t places blocks left block allocated after partition = record {
  total = ap (λ a. a.total) after ∙ allocated.total;
  used = λ b. ap (λ a. set.contains a.used b) after ∙ set.contains-insert nat_cmp_total blocks.used block b
      ∙ (λ i. unsigned_tied b block i || allocated.used b i)
      ∙ swap (nat_eq b block) (is_named t b) (is_taken places b)
      ∙ ap (λ x. is_named t b || x) (sym (taken_more places block b));
  partition = partition;
}
  where
    swap : (e n p : Bool) → (e || (n || p)) ≡ (n || (p || e))
    swap true true p = refl
    swap true false true = refl
    swap true false false = refl
    swap false true p = refl
    swap false false true = refl
    swap false false false = refl

-- ---- one change at the end of others

all_more : (P : ℕ → Type 0) (xs : List ℕ) (x : ℕ) → AllByRecursion P xs → P x → AllByRecursion P (xs ++ x ∷ [])
all_more P [] x all one = (one, tt)
all_more P (y ∷ ys) x all one = (all.0, all_more P ys x all.1 one)

distinct_more : (xs : List ℕ) (x : ℕ) → AreDistinct xs → is_taken xs x ≡ false → AreDistinct (xs ++ x ∷ [])
distinct_more [] x distinct apart = (refl, tt)
distinct_more (y ∷ ys) x distinct apart = (
  taken_more ys x y ∙ neither (list_any (nat_eq y) ys) (nat_eq y x) distinct.0 (other_way x y (either_left (nat_eq x y) (is_taken ys x) apart)),
  distinct_more ys x distinct.1 (either_right (nat_eq x y) (is_taken ys x) apart),
)

count_more : (done : List Change) (x : Change) → write_count (done ++ x ∷ []) ≡ write_count done + one_if (is_write x)
count_more [] x = omega arith
count_more (y ∷ ys) x = let more = count_more ys x in omega (arith, more)

with_more-write : (done : List Change) (places : List ℕ) (node index old place : ℕ) → length places ≡ write_count done
    → with_places (done ++ Write node index old ∷ []) (places ++ place ∷ []) ≡ with_places done places ++ Write node index place ∷ []
with_more-write [] [] node index old place many = refl
with_more-write [] (p ∷ places) node index old place many = absurd (omega (arith, many))
with_more-write (Put key small ∷ done) places node index old place many = ap (λ xs. Put key small ∷ xs) (with_more-write done places node index old place (omega (arith, many)))
with_more-write (Del key ∷ done) places node index old place many = ap (λ xs. Del key ∷ xs) (with_more-write done places node index old place (omega (arith, many)))
with_more-write (Write n i o ∷ done) [] node index old place many = absurd (omega (arith, many))
with_more-write (Write n i o ∷ done) (p ∷ places) node index old place many = ap (λ xs. Write n i p ∷ xs) (with_more-write done places node index old place (omega (arith, many)))

with_more-other : (done : List Change) (places : List ℕ) (x : Change) → is_write x ≡ false → with_places (done ++ x ∷ []) places ≡ with_places done places ++ x ∷ []
with_more-other [] places (Put key small) is = refl
with_more-other [] places (Del key) is = refl
with_more-other [] places (Write n i o) is = absurd (false≢true (sym is))
with_more-other (Put key small ∷ done) places x is = ap (λ xs. Put key small ∷ xs) (with_more-other done places x is)
with_more-other (Del key ∷ done) places x is = ap (λ xs. Del key ∷ xs) (with_more-other done places x is)
with_more-other (Write n i o ∷ done) [] x is = ap (λ xs. Write n i o ∷ xs) (with_more-other done [] x is)
with_more-other (Write n i o ∷ done) (p ∷ places) x is = ap (λ xs. Write n i p ∷ xs) (with_more-other done places x is)

pub held_more : (bytes : ℕ → ℕ → List ℕ) (store : Store) (xs : List Change) (x : Change) → AreHeld bytes store xs → AreHeld bytes store (x ∷ []) → AreHeld bytes store (xs ++ x ∷ [])
held_more bytes store [] x all one = one
held_more bytes store (Put key small ∷ xs) x all one = held_more bytes store xs x all one
held_more bytes store (Del key ∷ xs) x all one = held_more bytes store xs x all one
held_more bytes store (Write n i p ∷ xs) x all one = (all.0, held_more bytes store xs x all.1 one)

pub held_other : (bytes : ℕ → ℕ → List ℕ) (store : Store) (x : Change) → is_write x ≡ false → AreHeld bytes store (x ∷ [])
held_other bytes store (Put key small) is = tt
held_other bytes store (Del key) is = tt
held_other bytes store (Write n i p) is = absurd (false≢true (sym is))

pub not_write : (x : Change) → ((node index place : ℕ) → x ≡ Write node index place → ⊥) → is_write x ≡ false
not_write (Put key small) other = refl
not_write (Del key) other = refl
not_write (Write n i p) other = absurd (other n i p refl)

-- a store elsewhere leaves what the changes wrote
pub held_kept : (bytes : ℕ → ℕ → List ℕ) (store other : Store) (place : ℕ) → AgreeBut place store other → (done : List Change) (places : List ℕ) → length places ≡ write_count done → is_taken places place ≡ false
    → AreHeld bytes store (with_places done places) → AreHeld bytes other (with_places done places)
held_kept bytes store other place agree [] places many apart held = tt
held_kept bytes store other place agree (Put key small ∷ done) places many apart held = held_kept bytes store other place agree done places (omega (arith, many)) apart held
held_kept bytes store other place agree (Del key ∷ done) places many apart held = held_kept bytes store other place agree done places (omega (arith, many)) apart held
held_kept bytes store other place agree (Write n i o ∷ done) [] many apart held = absurd (omega (arith, many))
held_kept bytes store other place agree (Write n i o ∷ done) (p ∷ places) many apart held = (
  agree p (unlike (either_left (nat_eq place p) (is_taken places place) apart)) ∙ held.0,
  held_kept bytes store other place agree done places (omega (arith, many)) (either_right (nat_eq place p) (is_taken places place) apart) held.1,
)
  where
    unlike : nat_eq place p ≡ false → p ≢ place
    unlike apart same = let tied : nat_eq place p ≡ true = grind (arith, nat_tests, same) in false≢true (sym apart ∙ tied)

-- ---- the data blocks that changes write

length-with_places : (done : List Change) (places : List ℕ) → length (with_places done places) ≡ length done
length-with_places [] places = refl
length-with_places (Put key small ∷ done) places = ap (λ n. suc n) (length-with_places done places)
length-with_places (Del key ∷ done) places = ap (λ n. suc n) (length-with_places done places)
length-with_places (Write n i o ∷ done) [] = ap (λ n. suc n) (length-with_places done [])
length-with_places (Write n i o ∷ done) (p ∷ places) = ap (λ n. suc n) (length-with_places done places)

pub places-with_places : (done : List Change) (places : List ℕ) → length places ≡ write_count done → places_of (with_places done places) ≡ places
places-with_places [] [] many = refl
places-with_places [] (p ∷ places) many = absurd (omega (arith, many))
places-with_places (Put key small ∷ done) places many = places-with_places done places (omega (arith, many))
places-with_places (Del key ∷ done) places many = places-with_places done places (omega (arith, many))
places-with_places (Write n i o ∷ done) [] many = absurd (omega (arith, many))
places-with_places (Write n i o ∷ done) (p ∷ places) many = ap (λ xs. p ∷ xs) (places-with_places done places (omega (arith, many)))

-- ---- so many of the changes have their places

pub record IsPlacing (Held : List Change → Type 0) (t : Table) (old now : List Change) (at : ℕ) (blocks : Allocation) : Type 0 where
  pub done : List Change
  pub rest : List Change
  pub places : List ℕ
  pub was : old ≡ done ++ rest
  pub is : now ≡ with_places done places ++ rest
  pub long : length done ≡ at
  pub many : length places ≡ write_count done
  pub distinct : AreDistinct places
  pub within : AllByRecursion (λ place. place < t.blocks) places
  pub unnamed : AllByRecursion (λ place. is_named t place ≡ false) places
  pub allocated : IsAllocatedBut places t blocks
  pub room : write_count rest ≤ free_count blocks
  pub held : Held (with_places done places)

pub placing-start : (Held : List Change → Type 0) (t : Table) (old : List Change) (blocks : Allocation) → IsAllocated t blocks → write_count old ≤ free_count blocks → Held [] → IsPlacing Held t old old 0 blocks
placing-start Held t old blocks allocated room held = record {
  done = [];
  rest = old;
  places = [];
  was = refl;
  is = refl;
  long = refl;
  many = refl;
  distinct = tt;
  within = tt;
  unnamed = tt;
  allocated = allocated;
  room = room;
  held = held;
}

module _ (Held : List Change → Type 0) (t : Table) (old now : List Change) (at : ℕ) (blocks : Allocation) (placing : IsPlacing Held t old now at blocks) where
  abbrev done : List Change
  done = placing.done

  abbrev places : List ℕ
  places = placing.places

  long : length (with_places done places) ≡ at
  long = length-with_places done places ∙ placing.long

  -- the next change
  pub record Next (x : Change) : Type 0 where
    pub more : List Change
    pub is : placing.rest ≡ x ∷ more

  pub next : (x other : Change) → at < length now → get_or now at other ≡ x → Next x
  next x other low got = from placing.rest refl
    where
      from : (rest : List Change) → placing.rest ≡ rest → Next x
      from [] none =
          let all : length now ≡ at = ap length placing.is ∙ ap (λ xs. length (with_places done places ++ xs)) none ∙ ap length (append-nil (with_places done places)) ∙ long in
          absurd (omega (arith, all, low))
      from (y ∷ more) is =
          let same : y ≡ x = sym (get_or_at (with_places done places) y more other at long) ∙ ap (λ xs. get_or (with_places done places ++ xs) at other) (sym is) ∙ ap (λ xs. get_or xs at other) (sym placing.is) ∙ got in
          record { more = more; is = is ∙ ap (λ z. z ∷ more) same }

  pub front : take at now ≡ with_places done places
  front = ap (take at) placing.is ∙ take_at (with_places done places) placing.rest at long

  -- a change that writes no data block
  pub placing-other : (x : Change) → Next x → is_write x ≡ false → (Held (with_places done places) → Held (with_places done places ++ x ∷ [])) → IsPlacing Held t old now (at + 1) blocks
  placing-other x next is held =
      let with_x : with_places (done ++ x ∷ []) places ≡ with_places done places ++ x ∷ [] = with_more-other done places x is in
      let none : one_if (is_write x) ≡ 0 = ap one_if is in
      let count : write_count placing.rest ≡ one_if (is_write x) + write_count next.more = ap write_count next.is in
      record {
        done = done ++ x ∷ [];
        rest = next.more;
        places = places;
        was = placing.was ∙ ap (λ xs. done ++ xs) next.is ∙ sym (append_assoc done (x ∷ []) next.more);
        is = placing.is ∙ ap (λ xs. with_places done places ++ xs) next.is ∙ sym (append_assoc (with_places done places) (x ∷ []) next.more) ∙ ap (λ xs. xs ++ next.more) (sym with_x);
        long = length-append done (x ∷ []) ∙ ap (λ n. n + 1) placing.long;
        many = placing.many ∙ omega (arith, count_more done x, none);
        distinct = placing.distinct;
        within = placing.within;
        unnamed = placing.unnamed;
        allocated = placing.allocated;
        room = omega (arith, placing.room, count);
        held = subst Held (sym with_x) (held placing.held);
      }

  -- a change whose data block is stored in a place that was free
  pub placing-write : (After : List Change → Type 0) (node index was place : ℕ) (left : Allocation) → Next (Write node index was) → IsFree blocks place → left ≡ record blocks { used = set.insert blocks.used place } → IsPartition left
      → (is_taken places place ≡ false → Held (with_places done places) → After (with_places done places ++ Write node index place ∷ []))
      → IsPlacing After t old (set_at now at (Write node index place)) (at + 1) left
  placing-write After node index was place left next free taken partition held =
      let x = Write node index was in
      let new = Write node index place in
      let apart = free_unnamed t places blocks place placing.allocated free in
      let with_x : with_places (done ++ x ∷ []) (places ++ place ∷ []) ≡ with_places done places ++ new ∷ [] = with_more-write done places node index was place placing.many in
      let count : write_count placing.rest ≡ 1 + write_count next.more = ap write_count next.is in
      let fewer = free_taken blocks left place free taken in
      let here : at - at ≡ 0 = omega arith in
      record {
        done = done ++ x ∷ [];
        rest = next.more;
        places = places ++ place ∷ [];
        was = placing.was ∙ ap (λ xs. done ++ xs) next.is ∙ sym (append_assoc done (x ∷ []) next.more);
        is = ap (λ xs. set_at xs at new) (placing.is ∙ ap (λ xs. with_places done places ++ xs) next.is)
            ∙ set-append_right (with_places done places) (x ∷ next.more) at at new long (omega arith)
            ∙ ap (λ k. with_places done places ++ set_at (x ∷ next.more) k new) here
            ∙ sym (append_assoc (with_places done places) (new ∷ []) next.more) ∙ ap (λ xs. xs ++ next.more) (sym with_x);
        long = length-append done (x ∷ []) ∙ ap (λ n. n + 1) placing.long;
        many = length-append places (place ∷ []) ∙ ap (λ n. n + 1) placing.many ∙ sym (count_more done x);
        distinct = distinct_more places place placing.distinct apart.1;
        within = all_more (λ p. p < t.blocks) places place placing.within (subst (λ n. place < n) placing.allocated.total free.within);
        unnamed = all_more (λ p. is_named t p ≡ false) places place placing.unnamed apart.0;
        allocated = allocated_more t places blocks left place placing.allocated taken partition;
        room = omega (arith, placing.room, count, fewer);
        held = subst After (sym with_x) (held apart.1 placing.held);
      }

  -- all of them
  pub none_left : length now ≤ at → placing.rest ≡ []
  none_left all = from placing.rest refl
    where
      from : (rest : List Change) → placing.rest ≡ rest → placing.rest ≡ []
      from [] is = is
      from (y ∷ more) is =
          let count : length now ≡ at + length (y ∷ more) = ap length placing.is ∙ length-append (with_places done places) placing.rest ∙ (λ i. long i + length (is i)) in
          absurd (omega (arith, count, all))

  pub all_done : length now ≤ at → now ≡ with_places done places
  all_done all = placing.is ∙ ap (λ xs. with_places done places ++ xs) (none_left all) ∙ append-nil (with_places done places)

  pub placed : length now ≤ at → ArePlaced t blocks old now
  placed all =
      let same : done ≡ old = sym (placing.was ∙ ap (λ xs. done ++ xs) (none_left all) ∙ append-nil done) in
      record {
        places = places;
        are = all_done all ∙ ap (λ xs. with_places xs places) same;
        many = placing.many ∙ ap write_count same;
        distinct = placing.distinct;
        within = placing.within;
        unnamed = placing.unnamed;
        allocated = placing.allocated;
      }

-- ---- places that are given back

-- of these changes the rest is still to be given back
pub record IsGivingBack (first : Allocation) (all rest : List Change) (blocks : Allocation) : Type 0 where
  pub distinct : AreDistinct (places_of rest)
  pub held : AllByRecursion (λ place. set.contains blocks.used place ≡ true) (places_of rest)
  pub used : (block : ℕ) → (set.contains blocks.used block && not (is_taken (places_of rest) block)) ≡ (set.contains first.used block && not (is_taken (places_of all) block))
  pub pending : blocks.pending ≡ first.pending
  pub total : blocks.total ≡ first.total
  pub partition : IsPartition blocks

pub giving-other : (first : Allocation) (all : List Change) (x : Change) (rest : List Change) (blocks : Allocation) → is_write x ≡ false → IsGivingBack first all (x ∷ rest) blocks → IsGivingBack first all rest blocks
giving-other first all (Put key small) rest blocks is giving = record { distinct = giving.distinct; held = giving.held; used = giving.used; pending = giving.pending; total = giving.total; partition = giving.partition }
giving-other first all (Del key) rest blocks is giving = record { distinct = giving.distinct; held = giving.held; used = giving.used; pending = giving.pending; total = giving.total; partition = giving.partition }
giving-other first all (Write n i p) rest blocks is giving = absurd (false≢true (sym is))

pub giving-write : (first : Allocation) (all : List Change) (node index place : ℕ) (rest : List Change) (blocks left : Allocation) → left ≡ record blocks { used = set.remove blocks.used place } → IsPartition left
    → IsGivingBack first all (Write node index place ∷ rest) blocks → IsGivingBack first all rest left
giving-write first all node index place rest blocks left after partition giving = record {
  distinct = giving.distinct.1;
  held = still (places_of rest) giving.distinct.0 giving.held.1;
  used = λ b.
      ap (λ x. x && not (is_taken (places_of rest) b)) (contains b)
      ∙ move (nat_eq b place) (set.contains blocks.used b) (is_taken (places_of rest) b)
      ∙ giving.used b;
  pending = ap (λ (a : Allocation). a.pending) after ∙ giving.pending;
  total = ap (λ (a : Allocation). a.total) after ∙ giving.total;
  partition = partition;
}
  where
    contains : (b : ℕ) → set.contains left.used b ≡ (not (nat_eq b place) && set.contains blocks.used b)
    contains b =
        ap (λ (a : Allocation). set.contains a.used b) after
        ∙ set.contains-remove nat_cmp_total blocks.used place b
        ∙ ap (λ e. not e && set.contains blocks.used b) (unsigned_tied b place)

    move : (e u r : Bool) → ((not e && u) && not r) ≡ (u && not (e || r))
    move true true r = refl
    move true false r = refl
    move false u r = refl

    still : (places : List ℕ) → list_any (nat_eq place) places ≡ false → AllByRecursion (λ p. set.contains blocks.used p ≡ true) places → AllByRecursion (λ p. set.contains left.used p ≡ true) places
    still [] apart held = tt
    still (p ∷ places) apart held =
        let unlike : nat_eq p place ≡ false = other_way place p (either_left (nat_eq place p) (list_any (nat_eq place) places) apart) in (
          contains p ∙ (λ i. not (unlike i) && held.0 i),
          still places (either_right (nat_eq place p) (list_any (nat_eq place) places) apart) held.1,
        )

-- once all are given back, what the table names is in use, and nothing else
pub given-back : (t : Table) (places : List ℕ) (blocks left : Allocation) → IsAllocatedBut places t blocks → AllByRecursion (λ place. is_named t place ≡ false) places
    → ((block : ℕ) → set.contains left.used block ≡ (set.contains blocks.used block && not (is_taken places block))) → left.total ≡ blocks.total → IsPartition left → IsAllocated t left
given-back t places blocks left allocated unnamed used total partition = record {
  total = total ∙ allocated.total;
  used = λ b. used b ∙ ap (λ u. u && not (is_taken places b)) (allocated.used b) ∙ only (is_named t b) (is_taken places b) (λ named. apart places b unnamed named);
  partition = partition;
}
  where
    only : (n p : Bool) → (n ≡ true → p ≡ false) → ((n || p) && not p) ≡ (n || false)
    only true true h = absurd (false≢true (sym (h refl)))
    only true false h = refl
    only false true h = refl
    only false false h = refl

    apart : (places : List ℕ) (b : ℕ) → AllByRecursion (λ place. is_named t place ≡ false) places → is_named t b ≡ true → is_taken places b ≡ false
    apart [] b all named = refl
    apart (p ∷ places) b all named = neither (nat_eq b p) (is_taken places b) (unlike (nat_eq b p) refl) (apart places b all.1 named)
      where
        unlike : (e : Bool) → nat_eq b p ≡ e → nat_eq b p ≡ false
        unlike false is = is
        unlike true is = let same : b ≡ p = grind (arith, nat_tests, is) in absurd (false≢true (sym all.0 ∙ ap (is_named t) (sym same) ∙ named))

-- what is named is used, and what was taken is too, so that what was busy is so
pub busy_placing : (t : Table) (places : List ℕ) (blocks later : Allocation) → IsAllocated t blocks → IsAllocatedBut places t later → later.pending ≡ blocks.pending → KeepsBusy blocks later
busy_placing t places blocks later allocated placed pending b busy =
    (λ i. placed.used b i || set.contains (pending i) b)
    ∙ more (is_named t b) (is_taken places b) (set.contains blocks.pending b) (ap (λ u. u || set.contains blocks.pending b) (sym (allocated.used b)) ∙ busy)
  where
    more : (n p q : Bool) → ((n || false) || q) ≡ true → ((n || p) || q) ≡ true
    more true p q h = refl
    more false true q h = refl
    more false false q h = h

-- and what is free now was free before
pub free_before : (t : Table) (places : List ℕ) (blocks later : Allocation) → IsAllocated t blocks → IsAllocatedBut places t later → later.pending ≡ blocks.pending → (block : ℕ) → IsFree later block → IsFree blocks block
free_before t places blocks later allocated placed pending block free =
    let unnamed = free_unnamed t places later block placed free in
    record {
      within = subst (λ n. block < n) (placed.total ∙ sym allocated.total) free.within;
      unused = allocated.used block ∙ ap (λ n. n || false) unnamed.0;
      settled = ap (λ p. set.contains p block) (sym pending) ∙ free.settled;
    }

-- each place that was taken is in use
pub all_used : (t : Table) (places : List ℕ) (blocks : Allocation) → IsAllocatedBut places t blocks → AllByRecursion (λ place. set.contains blocks.used place ≡ true) places
all_used t places blocks allocated = below [] places refl
  where
    below : (before after : List ℕ) → before ++ after ≡ places → AllByRecursion (λ place. set.contains blocks.used place ≡ true) after
    below before [] split = tt
    below before (p ∷ after) split = (allocated.used p ∙ ap (λ b. is_named t p || b) (among before after p split) ∙ or_true (is_named t p), below (before ++ p ∷ []) after (append_assoc before (p ∷ []) after ∙ split))
      where
        among : (before after : List ℕ) (p : ℕ) → before ++ (p ∷ after) ≡ places → is_taken places p ≡ true
        among before after p split =
            let here : nat_eq p p ≡ true = grind (arith, nat_tests) in
            ap (λ xs. is_taken xs p) (sym split) ∙ list_any-append (nat_eq p) before (p ∷ after) ∙ ap (λ b. list_any (nat_eq p) before || (b || list_any (nat_eq p) after)) here ∙ or_true (list_any (nat_eq p) before)
