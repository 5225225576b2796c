-- The checkpoint that is given up first is the one of the world that a table stands for.
use Rattle.std.proofs.Common.{◌≡◌, ℕ, ◌+◌, Bool, true, false, cond, not, ◌&&◌, List, [], ◌∷◌, ◌++◌, map as list_map, filter, find, Option, Some, None, is_some, IfSome, IfNone, nat_lt, nat_le, if◌then◌else◌, refl, sym, ap, ◌∙◌, arith}
use Rattle.std.specs.List.{AllByRecursion}
use Rattle.std.specs.Option.{option_or, option_map, option_map_or}
use Rattle.std.specs.FinMap.{nat_cmp-IsAntisymmetric, entries_sorted}
use Rattle.std.specs.FinMap as map
use Rattle.std.proofs.lemmas.Bool.Decides.{nat_tests}
use Rattle.std.proofs.lemmas.Cmp.{nat_cmp_total}
use Rattle.ck_model.specs.declared.change.Cost.{Cost}
use Rattle.ck_model.specs.declared.checkpoint.Fileset.{Fileset}
use Rattle.ck_model.specs.World.{Checkpoint, Mounts, keeps_files}
use Rattle.ck_model.specs.Space.{oldest_removable, pick}
use Rattle.ck_model.specs.Table.{Table, IsTable, newer}
use Rattle.ck_model.specs.Values.{Store}
use Rattle.ck_model.specs.TableWorld.{checkpoint_on, world_on}
use Rattle.ck_model.proofs.FilesetLaws.{all_found}
use Rattle.ck_model.proofs.CaseLaws.{and_left, none_some}
use Rattle.ck_chain.specs.Needless.{in_between}
use Rattle.ck_chain.proofs.NewerLaws.{newer_split}
use Rattle.ck_reclaim.specs.Removable.{is_choice, is_removable, may_leave, oldest_of, pick_of}
use Rattle.ck_reclaim.specs.Room.{fits_in}

-- a checkpoint as the table has it
record Stands (t : Table) (e : ℕ × Fileset) : Type 0 where
  above : nat_lt 0 e.0 ≡ true
  here : map.get t.filesets e.0 ≡ Some e.1

stands_all : (t : Table) → IsTable t → AllByRecursion (Stands t) (map.entries t.filesets)
stands_all t lawful =
    all_found nat_cmp_total nat_cmp-IsAntisymmetric (Stands t) (map.entries t.filesets) (entries_sorted t.filesets) (λ id f found.
    let is : map.get t.filesets id ≡ Some f = map.get-entries t.filesets id ∙ found in
    let least = (lawful.filesets id f is).some in
    record { above = grind (arith, nat_tests); here = is })

abbrev fits_kind : Bool → Checkpoint → Bool
fits_kind keeps checkpoint = checkpoint.removable && (if keeps then keeps_files checkpoint.kind else not (keeps_files checkpoint.kind))

abbrev id_of : Checkpoint → ℕ
id_of checkpoint = checkpoint.id

-- one after the other, those that may leave are those of the world
same_oldest : (store : Store) (t : Table) (keeps : Bool) (es : List (ℕ × Fileset)) → AllByRecursion (Stands t) es
    → find (may_leave t keeps) (filter (λ id. nat_lt 0 id) (list_map (λ e. e.0) es))
    ≡ option_map id_of (find (fits_kind keeps) (list_map (λ e. checkpoint_on store t e.0 e.1) (filter (λ e. not e.1.gone) es)))
same_oldest store t keeps [] all = refl
same_oldest store t keeps (e ∷ es) all =
    let rest = same_oldest store t keeps es all.1 in
    let ids = filter (λ id. nat_lt 0 id) (list_map (λ (e : ℕ × Fileset). e.0) es) in
    let others = filter (λ (e : ℕ × Fileset). not e.1.gone) es in
    let shown = list_map (λ (e : ℕ × Fileset). checkpoint_on store t e.0 e.1) in
    let kind = if keeps then keeps_files e.1.kind else not (keeps_files e.1.kind) in
    ap (λ b. find (may_leave t keeps) (cond b (e.0 ∷ ids) ids)) all.0.above
    ∙ ap (λ o. cond (option_map_or (is_choice keeps) o false) (Some e.0) (find (may_leave t keeps) ids)) all.0.here
    ∙ elim e.1.gone as (λ gone. cond (not gone && e.1.removable && kind) (Some e.0) (find (may_leave t keeps) ids) ≡ option_map id_of (find (fits_kind keeps) (shown (cond (not gone) (e ∷ others) others)))) [
      | true ↦ rest
      | false ↦ elim (e.1.removable && kind) as (λ b. cond b (Some e.0) (find (may_leave t keeps) ids) ≡ option_map id_of (cond b (Some (checkpoint_on store t e.0 e.1)) (find (fits_kind keeps) (shown others)))) [
        | true ↦ refl
        | false ↦ rest
      ]
    ]

pub oldest-is : (store : Store) (mounts : Mounts) (t : Table) → IsTable t → (keeps : Bool) → oldest_of t keeps ≡ oldest_removable keeps (world_on store mounts t).checkpoints
oldest-is store mounts t lawful keeps = same_oldest store t keeps (map.entries t.filesets) (stands_all t lawful)

-- what is given up first in the table is what is given up first in its world
pub pick-is : (store : Store) (mounts : Mounts) (t : Table) → IsTable t → pick_of t ≡ pick (world_on store mounts t)
pick-is store mounts t lawful i = option_or (oldest-is store mounts t lawful true i) (oldest-is store mounts t lawful false i)

-- ---- room

-- with what is in use and what is free known, changes fit where the sums do
pub fits-is : (cost : Cost) (used free blocks count spare records : ℕ) → used + free ≡ blocks → count + spare ≡ records
    → fits_in cost free spare ≡ (nat_le (used + cost.blocks) blocks && nat_le (count + cost.records) records)
fits-is cost used free blocks count spare records all every =
    let one : nat_le cost.blocks free ≡ nat_le (used + cost.blocks) blocks = grind (arith, nat_tests) in
    let two : nat_le cost.records spare ≡ nat_le (count + cost.records) records = grind (arith, nat_tests) in
    λ i. one i && two i

-- ---- what is picked, and when there is none

found_passes : (p : ℕ → Bool) (xs : List ℕ) → IfSome (find p xs) (λ x. p x ≡ true)
found_passes p [] = tt
found_passes p (x ∷ xs) =
    let rest = found_passes p xs in
    elim (p x) as (λ b. p x ≡ b → IfSome (cond b (Some x) (find p xs)) (λ x. p x ≡ true)) [ true ↦ λ h. h | false ↦ λ _. rest ] refl

none_passes : (p : ℕ → Bool) (xs : List ℕ) (x : ℕ) (ys : List ℕ) → find p (xs ++ x ∷ ys) ≡ None → p x ≡ false
none_passes p [] x ys none =
    elim (p x) as (λ b. cond b (Some x) (find p ys) ≡ None → b ≡ false) [ true ↦ λ some. absurd (none_some x (sym some)) | false ↦ λ _. refl ] none
none_passes p (z ∷ zs) x ys none =
    elim (p z) as (λ b. cond b (Some z) (find p (zs ++ x ∷ ys)) ≡ None → p x ≡ false) [ true ↦ λ some. absurd (none_some z (sym some)) | false ↦ λ further. none_passes p zs x ys further ] none

-- a choice of either kind is removable
choice_is : (t : Table) (keeps : Bool) (id : ℕ) → may_leave t keeps id ≡ true → is_removable t id ≡ true
choice_is t keeps id h = elim (map.get t.filesets id) as (λ o. option_map_or (is_choice keeps) o false ≡ true → option_map_or (λ (f : Fileset). not f.gone && f.removable) o false ≡ true) [
  | None ↦ λ no. no
  | Some f ↦ λ is. and_left (not f.gone && f.removable) _ is
] h

either_kind : (b kind : Bool) → (b && kind) ≡ false → (b && not kind) ≡ false → b ≡ false
either_kind true true one two = one
either_kind true false one two = two
either_kind false kind one two = refl

not_choice : (t : Table) (id : ℕ) → may_leave t true id ≡ false → may_leave t false id ≡ false → is_removable t id ≡ false
not_choice t id one two = elim (map.get t.filesets id) as (λ o. option_map_or (is_choice true) o false ≡ false → option_map_or (is_choice false) o false ≡ false → option_map_or (λ (f : Fileset). not f.gone && f.removable) o false ≡ false) [
  | None ↦ λ no _. no
  | Some f ↦ λ one two. either_kind (not f.gone && f.removable) (keeps_files f.kind) one two
] one two

either_oldest : (t : Table) → IfSome (pick_of t) (λ id. is_removable t id ≡ true)
either_oldest t = go (oldest_of t true) (oldest_of t false) (found_passes (may_leave t true) (newer t 0)) (found_passes (may_leave t false) (newer t 0))
  where
    go : (a b : Option ℕ) → IfSome a (λ id. may_leave t true id ≡ true) → IfSome b (λ id. may_leave t false id ≡ true) → IfSome (option_or a b) (λ id. is_removable t id ≡ true)
    go (Some id) b h _ = choice_is t true id h
    go None (Some id) _ h = choice_is t false id h
    go None None _ _ = tt

pub pick_removable : (t : Table) → IfSome (pick_of t) (λ id. is_removable t id ≡ true)
pick_removable t = either_oldest t

neither : (a b : Option ℕ) → option_or a b ≡ None → (a ≡ None) × (b ≡ None)
neither None b h = (refl, h)
neither (Some id) b h = absurd (none_some id (sym h))

-- none is picked where none may be given up
pub none_removable : (t : Table) → IsTable t → pick_of t ≡ None → (id : ℕ) → is_removable t id ≡ false
none_removable t lawful none id =
    let both = neither (oldest_of t true) (oldest_of t false) none in
    elim (map.get t.filesets id) as (λ o. map.get t.filesets id ≡ o → is_removable t id ≡ false) [
      | None ↦ λ away. ap (λ o. option_map_or (λ (f : Fileset). not f.gone && f.removable) o false) away
      | Some f ↦ λ is.
          let least = (lawful.filesets id f is).some in
          let split = newer_split t 0 id (omega arith) (ap is_some is) in
          let at : (p : ℕ → Bool) → find p (newer t 0) ≡ None → p id ≡ false = λ p empty. none_passes p (filter (in_between 0 id) (map.keys t.filesets)) id (newer t id) (sym (ap (find p) split) ∙ empty) in
          not_choice t id (at (may_leave t true) both.0) (at (may_leave t false) both.1)
    ] refl

pub none_if : {P : Type 0} (o : Option ℕ) → (o ≡ None → P) → IfNone o P
none_if None h = h refl
none_if (Some id) h = tt
