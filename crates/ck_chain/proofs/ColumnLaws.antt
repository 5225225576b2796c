-- What a written entry changes: the column of its key at its fileset, and nothing else.
use Rattle.std.proofs.Common.{◌≡◌, ℕ, ◌≢◌, Bool, true, false, cond, Option, Some, None, nat_eq, refl, sym, ap, ◌∙◌, ◌⊎◌, inl, inr}
use Rattle.std.specs.declared.cmp.Ordering.{Ordering}
use Rattle.std.specs.declared.cmp.Ordering.TheVariants.{Less, Equal, Greater}
use Rattle.std.specs.Ordering.{nat_cmp, is_eq, ordering_then, eq_by_cmp}
use Rattle.std.specs.Cmp.{unsigned_tied}
use Rattle.std.proofs.lemmas.Cmp.{tied_itself}
use Rattle.std.specs.FinMap.{get-insert, get-remove, same_map}
use Rattle.std.specs.FinMap as map
use Rattle.ck_model.specs.declared.key.Key.{Key}
use Rattle.ck_model.specs.declared.held.Held.{Held}
use Rattle.ck_model.specs.Key.{key_cmp, entry_cmp, key_cmp_total, key_cmp_exact, entry_cmp_total, entry_cmp_exact}
use Rattle.ck_model.specs.Table.{Table, Entries, column, with_entry}

-- the test of two entries' keys, by their filesets and by their keys
then_is_eq : (o p : Ordering) → p ≡ Equal → is_eq (ordering_then o p) ≡ is_eq o
then_is_eq Less p h = refl
then_is_eq Equal p h = ap is_eq h
then_is_eq Greater p h = refl

then_not_eq : (o p : Ordering) → is_eq p ≡ false → is_eq (ordering_then o p) ≡ false
then_not_eq Less p h = refl
then_not_eq Equal p h = h
then_not_eq Greater p h = refl

same_key : (g f : ℕ) (key : Key) → eq_by_cmp entry_cmp (g, key) (f, key) ≡ nat_eq g f
same_key g f key = then_is_eq (nat_cmp g f) _ (tied_itself key_cmp_total key) ∙ unsigned_tied g f

other_key : (g f : ℕ) (q key : Key) → eq_by_cmp key_cmp q key ≡ false → eq_by_cmp entry_cmp (g, q) (f, key) ≡ false
other_key g f q key h = then_not_eq (nat_cmp g f) _ h

is_equal : (o : Ordering) → is_eq o ≡ true → o ≡ Equal
is_equal Less h = cc
is_equal Equal h = refl
is_equal Greater h = cc

-- two keys are one, or the order tells them apart
pub same_or_other : (q key : Key) → (q ≡ key) ⊎ (eq_by_cmp key_cmp q key ≡ false)
same_or_other q key =
    elim (eq_by_cmp key_cmp q key) as (λ b. eq_by_cmp key_cmp q key ≡ b → (q ≡ key) ⊎ (b ≡ false)) [
      | true ↦ λ h. inl (key_cmp_exact q key (is_equal _ h))
      | false ↦ λ h. inr refl
    ] refl

-- the column of the written key
pub column-with_entry : (t : Table) (fs : ℕ) (key : Key) (w : Option Held) (g : ℕ) → column (with_entry t fs key w) key g ≡ cond (nat_eq g fs) w (column t key g)
column-with_entry t fs key None g = get-remove entry_cmp_total t.entries (fs, key) (g, key) ∙ ap (λ b. cond b None (column t key g)) (same_key g fs key)
column-with_entry t fs key (Some h) g = get-insert entry_cmp_total t.entries (fs, key) h (g, key) ∙ ap (λ b. cond b (Some h) (column t key g)) (same_key g fs key)

-- the column of any other key
pub column-with_entry_other : (t : Table) (fs : ℕ) (key : Key) (w : Option Held) (q : Key) → eq_by_cmp key_cmp q key ≡ false → column (with_entry t fs key w) q ≡ column t q
column-with_entry_other t fs key None q h = λ i g. (get-remove entry_cmp_total t.entries (fs, key) (g, q) ∙ ap (λ b. cond b None (column t q g)) (other_key g fs q key h)) i
column-with_entry_other t fs key (Some held) q h = λ i g. (get-insert entry_cmp_total t.entries (fs, key) held (g, q) ∙ ap (λ b. cond b (Some held) (column t q g)) (other_key g fs q key h)) i

-- two tables that differ in their entries alone are one where they hold the same everywhere
pub same_table : (t : Table) (a b : Entries) → ((q : ℕ × Key) → map.get a q ≡ map.get b q) → ◌≡◌ {A = Table} (record t { entries = a }) (record t { entries = b })
same_table t a b same = ap (λ (entries : Entries). record t { entries = entries }) (same_map entry_cmp_total entry_cmp_exact a b same)

-- what is held anywhere after an entry is written
pub get-with_entry : (t : Table) (fs : ℕ) (key : Key) (w : Option Held) (q : ℕ × Key) → map.get (with_entry t fs key w).entries q ≡ cond (eq_by_cmp entry_cmp q (fs, key)) w (map.get t.entries q)
get-with_entry t fs key None q = get-remove entry_cmp_total t.entries (fs, key) q
get-with_entry t fs key (Some held) q = get-insert entry_cmp_total t.entries (fs, key) held q

last_write : {X : Type 0} (b : Bool) (v w x : X) → cond b w (cond b v x) ≡ cond b w x
last_write true v w x = refl
last_write false v w x = refl

-- of two entries written at one place, the last one stands
pub write_twice : (t : Table) (fs : ℕ) (key : Key) (v w : Option Held) → with_entry (with_entry t fs key v) fs key w ≡ with_entry t fs key w
write_twice t fs key v w = same_table t (with_entry (with_entry t fs key v) fs key w).entries (with_entry t fs key w).entries (λ q.
    get-with_entry (with_entry t fs key v) fs key w q
    ∙ ap (cond (eq_by_cmp entry_cmp q (fs, key)) w) (get-with_entry t fs key v q)
    ∙ last_write (eq_by_cmp entry_cmp q (fs, key)) v w (map.get t.entries q)
    ∙ sym (get-with_entry t fs key w q))

either_order : {X : Type 0} (a b : Bool) (v w x : X) → (a ≡ true → b ≡ true → ⊥) → cond b w (cond a v x) ≡ cond a v (cond b w x)
either_order true true v w x apart = absurd (apart refl refl)
either_order true false v w x apart = refl
either_order false true v w x apart = refl
either_order false false v w x apart = refl

-- two entries of different filesets are written in either order
pub write_swap : (t : Table) (f g : ℕ) (key : Key) (v w : Option Held) → f ≢ g → with_entry (with_entry t f key v) g key w ≡ with_entry (with_entry t g key w) f key v
write_swap t f g key v w apart = same_table t (with_entry (with_entry t f key v) g key w).entries (with_entry (with_entry t g key w) f key v).entries (λ q.
    get-with_entry (with_entry t f key v) g key w q
    ∙ ap (cond (eq_by_cmp entry_cmp q (g, key)) w) (get-with_entry t f key v q)
    ∙ either_order (eq_by_cmp entry_cmp q (f, key)) (eq_by_cmp entry_cmp q (g, key)) v w (map.get t.entries q)
    (λ here there. apart (ap (λ (e : ℕ × Key). e.0) (sym (entry_cmp_exact q (f, key) (is_equal _ here)) ∙ entry_cmp_exact q (g, key) (is_equal _ there))))
    ∙ sym (get-with_entry (with_entry t g key w) f key v q ∙ ap (cond (eq_by_cmp entry_cmp q (f, key)) v) (get-with_entry t g key w q)))
