-- The checkpoints of a table as its world has them: by name, by id, how many, and their lines.
use Rattle.std.proofs.Common.{◌≡◌, ℕ, ◌≤◌, Bool, true, false, not, cond, ◌&&◌, ◌||◌, IsSome, is_some, if◌then◌else◌, List, [], ◌∷◌, length, map as list_map, filter, find, Option, Some, None, nat_eq, nat_lt, refl, sym, ap, subst, ◌∙◌, arith}
use Rattle.std.specs.Ordering.{nat_cmp, eq_by_cmp}
use Rattle.std.specs.Cmp.Lexicographic.{pointwise}
use Rattle.std.specs.Option.{option_and_then, option_map_or}
use Rattle.std.specs.List.{list_any}
use Rattle.std.specs.FinMap as map
use Rattle.std.proofs.lemmas.Bool.Decides.{nat_tests}
use mathlib.Core.Bool.{false≢true}
use Rattle.ck_model.specs.declared.checkpoint.Fileset.{Fileset}
use Rattle.ck_model.specs.World.{Checkpoint, keeps_files, is_named, has_id}
use Rattle.ck_model.specs.Table.{Table, IsTable, newer}
use Rattle.ck_model.specs.Chain.{is_live, live_ids}
use Rattle.ck_model.specs.Values.{Store}
use Rattle.ck_model.specs.ReadCalls.{lines_of}
use Rattle.ck_model.specs.TableWorld.{checkpoint_on, checkpoints_on}
use Rattle.ck_model.proofs.CountLaws.{all_placed}
use Rattle.ck_model.specs.Placed.{IsPlaced, ArePlaced}
use Rattle.ck_table.specs.Names as names
use Rattle.ck_files.specs.Reports.{line_on, standing_at, listed}

-- those of these that aren't gone, as they stand in the world
abbrev pub checkpoints_in : Store → Table → List (ℕ × Fileset) → List Checkpoint
checkpoints_in store t es = list_map (λ e. checkpoint_on store t e.0 e.1) (filter (λ e. not e.1.gone) es)

abbrev ids_of : List (ℕ × Fileset) → List ℕ
ids_of es = filter (λ id. nat_lt 0 id) (list_map (λ e. e.0) es)

some_lt : (id : ℕ) → 1 ≤ id → nat_lt 0 id ≡ true
some_lt id some = grind (arith, nat_tests)

-- the first one's id is among them
ids_are : (t : Table) (e : ℕ × Fileset) (es : List (ℕ × Fileset)) → IsPlaced t e es → ids_of (e ∷ es) ≡ e.0 ∷ ids_of es
ids_are t e es placed = ap (λ b. cond b (e.0 ∷ ids_of es) (ids_of es)) (some_lt e.0 placed.some)

-- ---- by name

named_here : (t : Table) (name : List ℕ) (e : ℕ × Fileset) (es : List (ℕ × Fileset)) → IsPlaced t e es → names.is_named t name e.0 ≡ (not e.1.gone && pointwise nat_eq e.1.name name)
named_here t name e es placed = ap (λ o. option_map_or (λ (f : Fileset). not f.gone && pointwise nat_eq f.name name) o false) placed.stands

any-named : (store : Store) (t : Table) (name : List ℕ) (es : List (ℕ × Fileset)) → ArePlaced t es
    → list_any (is_named name) (checkpoints_in store t es) ≡ is_some (find (names.is_named t name) (ids_of es))
any-named store t name [] placed = refl
any-named store t name (e ∷ es) placed =
    let rest = any-named store t name es placed.1 in
    let left : List (ℕ × Fileset) = filter (λ x. not x.1.gone) es in
    elim (not e.1.gone) as (λ b. list_any (is_named name) (list_map (λ (x : ℕ × Fileset). checkpoint_on store t x.0 x.1) (cond b (e ∷ left) left)) ≡ is_some (cond (b && pointwise nat_eq e.1.name name) (Some e.0) (find (names.is_named t name) (ids_of es)))) [
      | true ↦ elim (pointwise nat_eq e.1.name name) as (λ v. (v || list_any (is_named name) (checkpoints_in store t es)) ≡ is_some (cond v (Some e.0) (find (names.is_named t name) (ids_of es)))) [
        | true ↦ refl
        | false ↦ rest
      ]
      | false ↦ rest
    ]
    ∙ sym (ap (λ b. is_some (cond b (Some e.0) (find (names.is_named t name) (ids_of es)))) (named_here t name e es placed.0))
    ∙ sym (ap (λ ids. is_some (find (names.is_named t name) ids)) (ids_are t e es placed.0))

pub any_named-is : (store : Store) (t : Table) (name : List ℕ) → IsTable t → list_any (is_named name) (checkpoints_on store t) ≡ is_some (names.id_named t name)
any_named-is store t name lawful = any-named store t name (map.entries t.filesets) (all_placed t lawful)

-- ---- how many

live_here : (t : Table) (e : ℕ × Fileset) (es : List (ℕ × Fileset)) → IsPlaced t e es → is_live t e.0 ≡ not e.1.gone
live_here t e es placed = ap (λ o. option_map_or (λ (f : Fileset). not f.gone) o false) placed.stands

length-live : (store : Store) (t : Table) (es : List (ℕ × Fileset)) → ArePlaced t es → length (checkpoints_in store t es) ≡ length (filter (is_live t) (ids_of es))
length-live store t [] placed = refl
length-live store t (e ∷ es) placed =
    let rest = length-live store t es placed.1 in
    let left : List (ℕ × Fileset) = filter (λ x. not x.1.gone) es in
    elim (not e.1.gone) as (λ b. length (list_map (λ (x : ℕ × Fileset). checkpoint_on store t x.0 x.1) (cond b (e ∷ left) left)) ≡ length (cond b (e.0 ∷ filter (is_live t) (ids_of es)) (filter (is_live t) (ids_of es)))) [
      | true ↦ omega (arith, rest)
      | false ↦ rest
    ]
    ∙ sym (ap (λ b. length (cond b (e.0 ∷ filter (is_live t) (ids_of es)) (filter (is_live t) (ids_of es)))) (live_here t e es placed.0))
    ∙ sym (ap (λ ids. length (filter (is_live t) ids)) (ids_are t e es placed.0))

-- as many stand in the world as in the table
pub length-is : (store : Store) (t : Table) → IsTable t → length (checkpoints_on store t) ≡ length (live_ids t)
length-is store t lawful = length-live store t (map.entries t.filesets) (all_placed t lawful)

-- ---- their lines

standing_here : (t : Table) (e : ℕ × Fileset) (es : List (ℕ × Fileset)) → IsPlaced t e es → standing_at t e.0 ≡ (if e.1.gone then None else Some e.1)
standing_here t e es placed = ap (option_and_then (λ (f : Fileset). if f.gone then None else Some f)) placed.stands

lines-listed : (store : Store) (t : Table) (older : Bool) (es : List (ℕ × Fileset)) → ArePlaced t es → lines_of older (checkpoints_in store t es) ≡ listed t older (ids_of es)
lines-listed store t older [] placed = refl
lines-listed store t older (e ∷ es) placed =
    let left : List (ℕ × Fileset) = filter (λ x. not x.1.gone) es in
    elim e.1.gone as (λ b. lines_of older (list_map (λ (x : ℕ × Fileset). checkpoint_on store t x.0 x.1) (cond (not b) (e ∷ left) left))
    ≡ option_map_or (λ (f : Fileset). line_on older e.0 f ∷ listed t (older || keeps_files f.kind) (ids_of es)) (if b then None else Some e.1) (listed t older (ids_of es))) [
      | true ↦ lines-listed store t older es placed.1
      | false ↦ ap (λ lines. line_on older e.0 e.1 ∷ lines) (lines-listed store t (older || keeps_files e.1.kind) es placed.1)
    ]
    ∙ sym (ap (λ o. option_map_or (λ (f : Fileset). line_on older e.0 f ∷ listed t (older || keeps_files f.kind) (ids_of es)) o (listed t older (ids_of es))) (standing_here t e es placed.0))
    ∙ sym (ap (listed t older) (ids_are t e es placed.0))

-- the lines of the world's checkpoints
pub lines-is : (store : Store) (t : Table) → IsTable t → lines_of false (checkpoints_on store t) ≡ listed t false (newer t 0)
lines-is store t lawful = lines-listed store t false (map.entries t.filesets) (all_placed t lawful)

-- ---- by id

find-gone : (store : Store) (t : Table) (id : ℕ) → standing_at t id ≡ None → (es : List (ℕ × Fileset)) → ArePlaced t es → find (has_id id) (checkpoints_in store t es) ≡ None
find-gone store t id none [] placed = refl
find-gone store t id none (e ∷ es) placed =
    let rest = find-gone store t id none es placed.1 in
    let left : List (ℕ × Fileset) = filter (λ x. not x.1.gone) es in
    elim e.1.gone as (λ b. e.1.gone ≡ b → find (has_id id) (list_map (λ (x : ℕ × Fileset). checkpoint_on store t x.0 x.1) (cond (not b) (e ∷ left) left)) ≡ None) [
      | true ↦ λ _. rest
      | false ↦ λ stays. elim (nat_eq e.0 id) as (λ v. nat_eq e.0 id ≡ v → cond v (Some (checkpoint_on store t e.0 e.1)) (find (has_id id) (checkpoints_in store t es)) ≡ None) [
        | true ↦ λ same.
            let is : e.0 ≡ id = grind (arith, nat_tests) in
            let here : standing_at t e.0 ≡ Some e.1 = standing_here t e es placed.0 ∙ ap (λ b. if b then None else Some e.1) stays in
            absurd (false≢true (ap is_some (sym none ∙ ap (standing_at t) (sym is) ∙ here)))
        | false ↦ λ _. rest
      ] refl
    ] refl

find-standing : (store : Store) (t : Table) (id : ℕ) (fileset : Fileset) → standing_at t id ≡ Some fileset → (es : List (ℕ × Fileset)) → ArePlaced t es → IsSome (map.find nat_cmp id es)
    → find (has_id id) (checkpoints_in store t es) ≡ Some (checkpoint_on store t id fileset)
find-standing store t id fileset some [] placed found = absurd (false≢true found)
find-standing store t id fileset some (e ∷ es) placed found =
    let left : List (ℕ × Fileset) = filter (λ x. not x.1.gone) es in
    elim (nat_eq e.0 id) as (λ v. nat_eq e.0 id ≡ v → find (has_id id) (checkpoints_in store t (e ∷ es)) ≡ Some (checkpoint_on store t id fileset)) [
      | true ↦ λ same.
          let is : e.0 ≡ id = grind (arith, nat_tests) in
          let here : (if e.1.gone then None else Some e.1) ≡ Some fileset = sym (standing_here t e es placed.0) ∙ ap (standing_at t) is ∙ some in
          elim e.1.gone as (λ b. (if b then None else Some e.1) ≡ Some fileset → find (has_id id) (list_map (λ (x : ℕ × Fileset). checkpoint_on store t x.0 x.1) (cond (not b) (e ∷ left) left)) ≡ Some (checkpoint_on store t id fileset)) [
            | true ↦ λ h. absurd (false≢true (ap is_some h))
            | false ↦ λ h. let one : e.1 ≡ fileset = cc in
                ap (λ v. cond v (Some (checkpoint_on store t e.0 e.1)) (find (has_id id) (checkpoints_in store t es))) same
                ∙ (λ i. Some (checkpoint_on store t (is i) (one i)))
          ] here
      | false ↦ λ apart.
          let untied : eq_by_cmp nat_cmp id e.0 ≡ false = grind (arith, nat_tests) in
          let rest = find-standing store t id fileset some es placed.1 (subst (λ b. IsSome (cond b (Some e.1) (map.find nat_cmp id es))) untied found) in
          elim (not e.1.gone) as (λ b. find (has_id id) (list_map (λ (x : ℕ × Fileset). checkpoint_on store t x.0 x.1) (cond b (e ∷ left) left)) ≡ Some (checkpoint_on store t id fileset)) [
            | true ↦ ap (λ v. cond v (Some (checkpoint_on store t e.0 e.1)) (find (has_id id) (checkpoints_in store t es))) apart ∙ rest
            | false ↦ rest
          ]
    ] refl

-- the world has the checkpoint with an id where the table has it
pub gone-is : (store : Store) (t : Table) (id : ℕ) → IsTable t → standing_at t id ≡ None → find (has_id id) (checkpoints_on store t) ≡ None
gone-is store t id lawful none = find-gone store t id none (map.entries t.filesets) (all_placed t lawful)

-- a checkpoint that stands is in the table
pub there_is : (t : Table) (id : ℕ) (fileset : Fileset) → standing_at t id ≡ Some fileset → map.get t.filesets id ≡ Some fileset
there_is t id fileset some =
    elim (map.get t.filesets id) as (λ o. option_and_then (λ (f : Fileset). if f.gone then None else Some f) o ≡ Some fileset → o ≡ Some fileset) [
      | None ↦ λ h. absurd (false≢true (ap is_some h))
      | Some f ↦ λ h. elim f.gone as (λ b. (if b then None else Some f) ≡ Some fileset → ◌≡◌ {A = Option Fileset} (Some f) (Some fileset)) [ true ↦ λ is. absurd (false≢true (ap is_some is)) | false ↦ λ is. is ] h
    ] some

pub standing-is : (store : Store) (t : Table) (id : ℕ) (fileset : Fileset) → IsTable t → standing_at t id ≡ Some fileset → find (has_id id) (checkpoints_on store t) ≡ Some (checkpoint_on store t id fileset)
standing-is store t id fileset lawful some =
    find-standing store t id fileset some (map.entries t.filesets) (all_placed t lawful) (ap is_some (sym (map.get-entries t.filesets id) ∙ there_is t id fileset some))
