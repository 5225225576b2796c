-- Tables that stand for the same world.
use Rattle.std.proofs.Common.{◌≡◌, ℕ, true, false, cond, ◌||◌, is_some, List, [], ◌∷◌, ◌++◌, map as list_map, Option, Some, None, nat_eq, refl, sym, ap, subst, ◌∙◌, arith}
use Rattle.std.specs.Ordering.{eq_by_cmp}
use Rattle.std.specs.Option.{option_or, option_map}
use Rattle.std.specs.List.{list_any}
use Rattle.std.specs.FinMap as map
use Rattle.std.proofs.lemmas.Bool.Decides.{nat_tests}
use mathlib.Core.Bool.{false≢true}
use Rattle.ck_model.specs.declared.key.Key.{Key}
use Rattle.ck_model.specs.declared.cell.Payload.TheVariants.{Bytes}
use Rattle.ck_model.specs.declared.held.Held.{Held}
use Rattle.ck_model.specs.declared.held.Held.TheVariants.{Absent, Plain, Extent, Mark}
use Rattle.ck_model.specs.declared.checkpoint.Fileset.{Fileset}
use Rattle.ck_model.specs.Key.{key_cmp_total, key_cmp_exact, entry_cmp}
use Rattle.ck_model.specs.World.{Mounts, shown_by}
use Rattle.ck_model.specs.Table.{Table, column, newer}
use Rattle.ck_model.specs.Chain.{first_entry, present, value_of, value_at}
use Rattle.ck_model.specs.Values.{Store, Values, cell_on, cells_on}
use Rattle.ck_model.specs.TableWorld.{values_of, checkpoint_on, live_filesets, world_on, blocks_in, blocks_of}
use Rattle.ck_model.proofs.ValueLaws.{get-values_of, get-cells_on}
use Rattle.ck_files.specs.Allocated.{is_named, SameNamed}

-- what two maps of values stand for is the same where each key's cell is
cells_same : (old new : Store) (a b : Values) → ((q : Key) → option_map (cell_on old) (map.get a q) ≡ option_map (cell_on new) (map.get b q)) → cells_on old a ≡ cells_on new b
cells_same old new a b same = map.same_map key_cmp_total key_cmp_exact (cells_on old a) (cells_on new b) (λ q. get-cells_on old a q ∙ same q ∙ sym (get-cells_on new b q))

-- ---- a value is an entry of some fileset

named_in : (block : ℕ) (h : Held) (rest : List ℕ) → list_any (nat_eq block) rest ≡ true → list_any (nat_eq block) (blocks_in h ++ rest) ≡ true
named_in block Absent rest h = h
named_in block (Plain s small) rest h = h
named_in block (Extent s b) rest h = elim (nat_eq block b) as (λ t. (t || list_any (nat_eq block) rest) ≡ true) [ true ↦ refl | false ↦ h ]
named_in block (Mark s) rest h = h

named_here : (s block : ℕ) (rest : List ℕ) → list_any (nat_eq block) (blocks_in (Extent s block) ++ rest) ≡ true
named_here s block rest = let same : nat_eq block block ≡ true = grind (arith, nat_tests) in ap (λ t. t || list_any (nat_eq block) rest) same

-- an entry's data block is named
named_by : (e : ℕ × Key) (es : List ((ℕ × Key) × Held)) (s block : ℕ) → map.find entry_cmp e es ≡ Some (Extent s block) → list_any (nat_eq block) (blocks_of es) ≡ true
named_by e [] s block h = absurd (false≢true (ap is_some h))
named_by e (x ∷ es) s block h =
    elim (eq_by_cmp entry_cmp e x.0) as (λ b. cond b (Some x.1) (map.find entry_cmp e es) ≡ Some (Extent s block) → list_any (nat_eq block) (blocks_in x.1 ++ blocks_of es) ≡ true) [
      | true ↦ λ is. subst (λ y. list_any (nat_eq block) (blocks_in y ++ blocks_of es) ≡ true) (sym (unsome is)) (named_here s block (blocks_of es))
      | false ↦ λ is. named_in block x.1 (blocks_of es) (named_by e es s block is)
    ] h
  where
    unsome : {y z : Held} → ◌≡◌ {A = Option Held} (Some y) (Some z) → y ≡ z
    unsome h = cc

pub column_named : (t : Table) (fs : ℕ) (key : Key) (s block : ℕ) → column t key fs ≡ Some (Extent s block) → is_named t block ≡ true
column_named t fs key s block h = named_by (fs, key) (map.entries t.entries) s block (sym (map.get-entries t.entries (fs, key)) ∙ h)

-- the first entry is one of a fileset
first_is : (col : ℕ → Option Held) (ids : List ℕ) (h : Held) → first_entry col ids ≡ Some h → (fs : ℕ) × (col fs ≡ Some h)
first_is col [] h is = (0, is)
first_is col (id ∷ ids) h is =
    elim (col id) as (λ o. col id ≡ o → option_or o (first_entry col ids) ≡ Some h → (fs : ℕ) × (col fs ≡ Some h)) [
      | None ↦ λ _ rest. first_is col ids h rest
      | Some x ↦ λ here same. (id, here ∙ same)
    ] refl is

present_extent : (o : Option Held) (s block : ℕ) → present o ≡ Some (Extent s block) → o ≡ Some (Extent s block)
present_extent None s block h = h
present_extent (Some Absent) s block h = absurd (false≢true (ap is_some h))
present_extent (Some (Plain x small)) s block h = h
present_extent (Some (Extent x b)) s block h = h
present_extent (Some (Mark x)) s block h = h

-- a data block that is a value is an entry of some fileset
pub value_column : (t : Table) (fs : ℕ) (key : Key) (s block : ℕ) → value_at t fs key ≡ Some (Extent s block) → (g : ℕ) × (column t key g ≡ Some (Extent s block))
value_column t fs key s block h =
    elim (nat_eq fs 0) as (λ b. cond b (present (column t key 0)) (value_of t fs key) ≡ Some (Extent s block) → (g : ℕ) × (column t key g ≡ Some (Extent s block))) [
      | true ↦ λ is. (0, present_extent (column t key 0) s block is)
      | false ↦ λ is. first_is (column t key) (fs ∷ newer t fs) (Extent s block) (present_extent (first_entry (column t key) (fs ∷ newer t fs)) s block is)
    ] h

-- so it is named
pub value_named : (t : Table) (fs : ℕ) (key : Key) (s block : ℕ) → value_at t fs key ≡ Some (Extent s block) → is_named t block ≡ true
value_named t fs key s block h = let at = value_column t fs key s block h in column_named t at.0 key s block at.1

-- ---- other data blocks may hold anything

cell_same : (t : Table) (old new : Store) → SameNamed t old new → (fs : ℕ) (q : Key) (o : Option Held) → value_at t fs q ≡ o → option_map (cell_on old) o ≡ option_map (cell_on new) o
cell_same t old new same fs q None is = refl
cell_same t old new same fs q (Some Absent) is = refl
cell_same t old new same fs q (Some (Plain s small)) is = refl
cell_same t old new same fs q (Some (Extent s block)) is = ap (λ bytes. Some (record { stamp = s; payload = Some (Bytes bytes) })) (sym (same block (value_named t fs q s block is)))
cell_same t old new same fs q (Some (Mark s)) is = refl

pub values_same : (t : Table) (old new : Store) → SameNamed t old new → (fs : ℕ) → cells_on old (values_of t fs) ≡ cells_on new (values_of t fs)
values_same t old new same fs = cells_same old new (values_of t fs) (values_of t fs) (λ q. cell_same t old new same fs q (map.get (values_of t fs) q) (sym (get-values_of t fs q)))

checkpoints_same : (t : Table) (old new : Store) → SameNamed t old new → (es : List (ℕ × Fileset)) → list_map (λ e. checkpoint_on old t e.0 e.1) es ≡ list_map (λ (e : ℕ × Fileset). checkpoint_on new t e.0 e.1) es
checkpoints_same t old new same [] = refl
checkpoints_same t old new same (e ∷ es) = λ i. record {
  id = e.0;
  name = e.1.name;
  kind = e.1.kind;
  removable = e.1.removable;
  ctime = e.1.ctime;
  cells = shown_by e.1.kind (values_same t old new same e.0 i);
} ∷ checkpoints_same t old new same es i

-- a table stands for the same world over data blocks of which those that it names hold the same
pub world_same : (t : Table) (mounts : Mounts) (old new : Store) → SameNamed t old new → world_on old mounts t ≡ world_on new mounts t
world_same t mounts old new same = λ i. record {
  limits = (world_on old mounts t).limits;
  primary = values_same t old new same 0 i;
  checkpoints = checkpoints_same t old new same (live_filesets t) i;
  next = t.counters;
  mounts = mounts;
}
