-- How many blocks of the call's own stamp its changes put.
use Rattle.std.proofs.Common.{◌≡◌, ◌≢◌, ℕ, ◌+◌, ◌<◌, Bool, true, false, cond, ◌&&◌, Option, Some, None, is_some, IfSome, List, [], ◌∷◌, nat_eq, refl, sym, ap, ◌∙◌, inl, inr, arith}
use Rattle.std.specs.Ordering.{eq_by_cmp, is_eq}
use Rattle.std.specs.Bool.{⊤}
use Rattle.std.specs.Option.{option_map}
use Rattle.std.specs.FinMap as map
use Rattle.std.proofs.lemmas.Bool.Decides.{nat_tests}
use Rattle.std.proofs.lemmas.Cmp.{tied_itself}
use mathlib.Core.Bool.{false≢true}
use Rattle.ck_model.specs.declared.key.Key.{Key}
use Rattle.ck_model.specs.declared.key.Key.TheVariants.{Name, Node, Block}
use Rattle.ck_model.specs.declared.cell.Cell.{Cell}
use Rattle.ck_model.specs.declared.held.Held.{Held}
use Rattle.ck_model.specs.declared.held.Held.TheVariants.{Absent, Plain, Extent, Mark}
use Rattle.ck_model.specs.declared.held.Small.{Small}
use Rattle.ck_model.specs.declared.held.Small.TheVariants.{To, File, Dir}
use Rattle.ck_model.specs.declared.change.Change.{Change}
use Rattle.ck_model.specs.declared.change.Change.TheVariants.{Put, Write, Del}
use Rattle.ck_model.specs.Key.{key_cmp, key_cmp_total, key_cmp_exact, is_block}
use Rattle.ck_model.specs.Held.{BelongsTo}
use Rattle.ck_model.specs.Cells.{Cells, set_cell}
use Rattle.ck_model.specs.Space.{new_block_count, is_new_block}
use Rattle.ck_model.specs.Table.{Table, column}
use Rattle.ck_model.specs.Chain.{present}
use Rattle.ck_model.specs.Rules.{IsSound, stamp_in}
use Rattle.ck_model.specs.Values.{Store, cell_on, cells_on}
use Rattle.ck_model.specs.TableWorld.{values_of}
use Rattle.ck_model.proofs.SizeLaws.{len_same_keys, contains_key-retain_keys}
use Rattle.ck_chain.specs.Changes.{key_of, is_write, value_after}
use Rattle.ck_chain.proofs.ColumnLaws.{same_or_other}
use Rattle.ck_push.specs.Growth.{one_if, write_count}
use Rattle.ck_files.specs.Changes.{with_change, with_changes}
use Rattle.ck_push.specs.Changes.{MayChangeAll, AllApart, MayChange}
use Rattle.ck_files.proofs.WorldAfter.{get-set_cell, get-primary}

-- the blocks of a map with this stamp
abbrev news : ℕ → Cells → map.FinMap key_cmp Cell
news stamp cells = map.retain_keys cells (λ key. is_new_block stamp key (map.get cells key))

and_some : (b : Bool) (key : Key) (stamp : ℕ) (o : Option Cell) → is_new_block stamp key o ≡ b → (b && is_some o) ≡ b
and_some true key stamp None h = absurd (false≢true h)
and_some true key stamp (Some cell) h = refl
and_some false key stamp o h = refl

contains-news : (stamp : ℕ) (cells : Cells) (q : Key) → map.contains_key (news stamp cells) q ≡ is_new_block stamp q (map.get cells q)
contains-news stamp cells q =
    contains_key-retain_keys key_cmp_total key_cmp_exact cells (λ key. is_new_block stamp key (map.get cells key)) q
    ∙ and_some (is_new_block stamp q (map.get cells q)) q stamp (map.get cells q) refl

or_itself : (e a b : Bool) → (e ≡ true → a ≡ b) → (e ≡ false → a ≡ b) → a ≡ b
or_itself true a b same other = same refl
or_itself false a b same other = other refl

-- a cell set that is no new block, where none was
news_same : (stamp : ℕ) (cells : Cells) (key : Key) (o : Option Cell) → is_new_block stamp key (map.get cells key) ≡ false → is_new_block stamp key o ≡ false → new_block_count stamp (set_cell cells key o) ≡ new_block_count stamp cells
news_same stamp cells key o was is = len_same_keys key_cmp_total key_cmp_exact (news stamp (set_cell cells key o)) (news stamp cells) (λ q.
    contains-news stamp (set_cell cells key o) q
    ∙ ap (is_new_block stamp q) (get-set_cell cells key o q)
    ∙ elim (same_or_other q key) [
      | inl same ↦
          ap (λ k. is_new_block stamp k (cond (eq_by_cmp key_cmp k key) o (map.get cells k))) same
          ∙ ap (λ r. is_new_block stamp key (cond (is_eq r) o (map.get cells key))) (tied_itself key_cmp_total key)
          ∙ is ∙ sym was ∙ sym (ap (λ k. is_new_block stamp k (map.get cells k)) same)
      | inr other ↦ ap (λ b. is_new_block stamp q (cond b o (map.get cells q))) other
    ]
    ∙ sym (contains-news stamp cells q))

-- a new block set where none was
news_more : (stamp : ℕ) (cells : Cells) (key : Key) (cell : Cell) → is_new_block stamp key (map.get cells key) ≡ false → is_new_block stamp key (Some cell) ≡ true → new_block_count stamp (set_cell cells key (Some cell)) ≡ new_block_count stamp cells + 1
news_more stamp cells key cell was is =
    len_same_keys key_cmp_total key_cmp_exact (news stamp (set_cell cells key (Some cell))) (map.insert (news stamp cells) key cell) (λ q.
    contains-news stamp (set_cell cells key (Some cell)) q
    ∙ ap (is_new_block stamp q) (get-set_cell cells key (Some cell) q)
    ∙ elim (same_or_other q key) [
      | inl same ↦
          ap (λ k. is_new_block stamp k (cond (eq_by_cmp key_cmp k key) (Some cell) (map.get cells k))) same
          ∙ ap (λ r. is_new_block stamp key (cond (is_eq r) (Some cell) (map.get cells key))) (tied_itself key_cmp_total key)
          ∙ is
          ∙ sym (ap is_some (map.get-insert key_cmp_total (news stamp cells) key cell q)
          ∙ ap (λ k. is_some (cond (eq_by_cmp key_cmp k key) (Some cell) (map.get (news stamp cells) q))) same
          ∙ ap (λ r. is_some (cond (is_eq r) (Some cell) (map.get (news stamp cells) q))) (tied_itself key_cmp_total key))
      | inr other ↦
          ap (λ b. is_new_block stamp q (cond b (Some cell) (map.get cells q))) other
          ∙ sym (contains-news stamp cells q)
          ∙ sym (ap is_some (map.get-insert key_cmp_total (news stamp cells) key cell q) ∙ ap (λ b. is_some (cond b (Some cell) (map.get (news stamp cells) q))) other)
    ])
    ∙ map.len-insert key_cmp_total (news stamp cells) key cell
    ∙ ap (λ b. cond b (map.len (news stamp cells)) (map.len (news stamp cells) + 1)) (contains-news stamp cells key ∙ was)

block_no_plain : (key : Key) (stamp : ℕ) (store : Store) (small : Small) → BelongsTo key (Plain stamp small) → is_new_block stamp key (Some (cell_on store (Plain stamp small))) ≡ false
block_no_plain (Name d n) stamp store small belongs = refl
block_no_plain (Node n) stamp store small belongs = refl
block_no_plain (Block n i) stamp store (To node) belongs = absurd belongs
block_no_plain (Block n i) stamp store (File size) belongs = absurd belongs
block_no_plain (Block n i) stamp store Dir belongs = absurd belongs

-- one change
new_one : (store : Store) (t : Table) (cells : Cells) (item : Change) (stamp : ℕ) → MayChange t item stamp → is_new_block stamp (key_of item) (map.get cells (key_of item)) ≡ false
    → new_block_count stamp (with_change store cells item stamp) ≡ new_block_count stamp cells + one_if (is_write item)
new_one store t cells (Put key small) stamp may was = news_same stamp cells key (Some (cell_on store (Plain stamp small))) was (block_no_plain key stamp store small may.entry.value) ∙ omega arith
new_one store t cells (Write number index block) stamp may was = news_more stamp cells (Block number index) (cell_on store (Extent stamp block)) was (grind (arith, nat_tests))
new_one store t cells (Del key) stamp may was = news_same stamp cells key None was refl ∙ omega arith

-- none of these keys has a block of the stamp
abbrev NoneNew : ℕ → Cells → List Change → Type 0
NoneNew stamp cells [] = ⊤
NoneNew stamp cells (item ∷ items) = (is_new_block stamp (key_of item) (map.get cells (key_of item)) ≡ false) × NoneNew stamp cells items

differ : (q k : Key) → q ≢ k → eq_by_cmp key_cmp q k ≡ false
differ q k apart = elim (same_or_other q k) [ inl same ↦ absurd (apart same) | inr other ↦ other ]

none_after : (store : Store) (cells : Cells) (item : Change) (stamp : ℕ) (items : List Change) → AllApart stamp item items → NoneNew stamp cells items → NoneNew stamp (with_change store cells item stamp) items
none_after store cells item stamp [] apart none = tt
none_after store cells item stamp (other ∷ items) apart none = (
  ap (is_new_block stamp (key_of other)) (get-set_cell cells (key_of item) (option_map (cell_on store) (value_after item stamp)) (key_of other)
      ∙ ap (λ b. cond b (option_map (cell_on store) (value_after item stamp)) (map.get cells (key_of other))) (differ (key_of other) (key_of item) apart.0.key)) ∙ none.0,
  none_after store cells item stamp items apart.1 none.1,
)

new_all : (store : Store) (t : Table) (cells : Cells) (items : List Change) (stamp : ℕ) → MayChangeAll t items stamp → NoneNew stamp cells items
    → new_block_count stamp (with_changes store cells items stamp) ≡ new_block_count stamp cells + write_count items
new_all store t cells [] stamp may none = omega arith
new_all store t cells (item ∷ items) stamp may none =
    let here = new_one store t cells item stamp may.0 none.0 in
    let rest = new_all store t (with_change store cells item stamp) items stamp may.2 (none_after store cells item stamp items may.1 none.1) in
    omega (arith, here, rest)

-- ---- a table has none of the next stamp

old_stamp : (store : Store) (q : Key) (stamp : ℕ) (o : Option Held) → IfSome o (λ h. IfSome (stamp_in h) (λ s. s < stamp)) → is_new_block stamp q (option_map (cell_on store) (present o)) ≡ false
old_stamp store q stamp None h = refl
old_stamp store q stamp (Some Absent) h = refl
old_stamp store q stamp (Some (Plain s small)) h = less q s h
  where
    less : (q : Key) (s : ℕ) → s < stamp → (is_block q && nat_eq s stamp) ≡ false
    less (Name d n) s h = refl
    less (Node n) s h = refl
    less (Block n i) s h = grind (arith, nat_tests)
old_stamp store q stamp (Some (Extent s b)) h = less q s h
  where
    less : (q : Key) (s : ℕ) → s < stamp → (is_block q && nat_eq s stamp) ≡ false
    less (Name d n) s h = refl
    less (Node n) s h = refl
    less (Block n i) s h = grind (arith, nat_tests)
old_stamp store q stamp (Some (Mark s)) h = less q s h
  where
    less : (q : Key) (s : ℕ) → s < stamp → (is_block q && nat_eq s stamp) ≡ false
    less (Name d n) s h = refl
    less (Node n) s h = refl
    less (Block n i) s h = grind (arith, nat_tests)

module _ (store : Store) (t : Table) (sound : IsSound t) where
  none_at : (q : Key) → is_new_block t.counters.stamp q (map.get (cells_on store (values_of t 0)) q) ≡ false
  none_at q = ap (is_new_block t.counters.stamp q) (get-primary store t q) ∙ old_stamp store q t.counters.stamp (column t q 0) (older (column t q 0) refl)
    where
      older : (o : Option Held) → column t q 0 ≡ o → IfSome o (λ h. IfSome (stamp_in h) (λ s. s < t.counters.stamp))
      older None is = tt
      older (Some h) is = sound.orderly.stamps 0 q h is

  none_new : new_block_count t.counters.stamp (cells_on store (values_of t 0)) ≡ 0
  none_new =
      len_same_keys key_cmp_total key_cmp_exact (news t.counters.stamp (cells_on store (values_of t 0))) (map.empty {X = Cell}) (λ q.
      contains-news t.counters.stamp (cells_on store (values_of t 0)) q ∙ none_at q ∙ sym (ap is_some (map.get-empty key_cmp q)))
      ∙ map.len-empty key_cmp Cell

  none_of : (items : List Change) → NoneNew t.counters.stamp (cells_on store (values_of t 0)) items
  none_of [] = tt
  none_of (item ∷ items) = (none_at (key_of item), none_of items)

  -- so that the blocks of its stamp are those that a call's changes write
  pub new-is : (other : Store) (u : Table) (items : List Change) → MayChangeAll u items t.counters.stamp → new_block_count t.counters.stamp (with_changes other (cells_on store (values_of t 0)) items t.counters.stamp) ≡ write_count items
  new-is other u items may = new_all other u (cells_on store (values_of t 0)) items t.counters.stamp may (none_of items) ∙ ap (λ n. n + write_count items) none_new ∙ omega arith
