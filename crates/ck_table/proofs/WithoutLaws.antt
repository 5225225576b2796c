-- A table without a checkpoint that has no entry: what its other checkpoints read.
use Rattle.std.proofs.Common.{◌≡◌, ℕ, Bool, true, false, cond, not, ◌&&◌, ◌||◌, List, [], ◌∷◌, filter, Option, None, nat_lt, nat_le, nat_eq, refl, sym, ap, ◌∙◌}
use Rattle.std.specs.List.{list_any}
use Rattle.std.specs.Option.{option_or, option_map, option_map_or}
use Rattle.std.proofs.lemmas.Bool.{eqb-true}
use Rattle.std.specs.FinMap as map
use Rattle.ck_model.specs.declared.key.Key.{Key}
use Rattle.ck_model.specs.declared.held.Held.{Held}
use Rattle.ck_model.specs.declared.checkpoint.Fileset.{Fileset}
use Rattle.ck_model.specs.World.{keeps_files}
use Rattle.ck_model.specs.Table.{Table, Filesets, column, newer}
use Rattle.ck_model.specs.Chain.{first_entry, present, value_of, is_live_data, keeps_data, as_mark, seen}
use Rattle.ck_model.specs.Rules.{first_holder}
use Rattle.ck_table.proofs.IdLaws.{is_other, keys-remove, get-recorded}

-- ---- lists without one id

first_entry-other : (held : ℕ → Option Held) (id : ℕ) → held id ≡ None → (xs : List ℕ) → first_entry held (filter (is_other id) xs) ≡ first_entry held xs
first_entry-other held id none [] = refl
first_entry-other held id none (x ∷ xs) =
    let rest = first_entry-other held id none xs in
    elim (nat_eq x id) as (λ b. nat_eq x id ≡ b → first_entry held (cond (not b) (x ∷ filter (is_other id) xs) (filter (is_other id) xs)) ≡ option_or (held x) (first_entry held xs)) [
      | true ↦ λ same. rest ∙ sym (ap (λ o. option_or o (first_entry held xs)) (ap held (eqb-true x id same) ∙ none))
      | false ↦ λ _. ap (option_or (held x)) rest
    ] refl

first_holder-other : (held : ℕ → Option Held) (id : ℕ) → held id ≡ None → (xs : List ℕ) → first_holder held (filter (is_other id) xs) ≡ first_holder held xs
first_holder-other held id none [] = refl
first_holder-other held id none (x ∷ xs) =
    let rest = first_holder-other held id none xs in
    elim (nat_eq x id) as (λ b. nat_eq x id ≡ b → first_holder held (cond (not b) (x ∷ filter (is_other id) xs) (filter (is_other id) xs)) ≡ option_or (option_map (λ entry. (x, entry)) (held x)) (first_holder held xs)) [
      | true ↦ λ same. rest ∙ sym (ap (λ o. option_or (option_map (λ entry. (x, entry)) o) (first_holder held xs)) (ap held (eqb-true x id same) ∙ none))
      | false ↦ λ _. ap (option_or (option_map (λ entry. (x, entry)) (held x))) rest
    ] refl

-- two tests that agree but at one id, which isn't there
pub filter-others : (p q : ℕ → Bool) (id : ℕ) → ((x : ℕ) → nat_eq x id ≡ false → p x ≡ q x) → (xs : List ℕ) → filter p (filter (is_other id) xs) ≡ filter q (filter (is_other id) xs)
filter-others p q id same [] = refl
filter-others p q id same (x ∷ xs) =
    let rest = filter-others p q id same xs in
    elim (nat_eq x id) as (λ b. nat_eq x id ≡ b → filter p (cond (not b) (x ∷ filter (is_other id) xs) (filter (is_other id) xs)) ≡ filter q (cond (not b) (x ∷ filter (is_other id) xs) (filter (is_other id) xs))) [
      | true ↦ λ _. rest
      | false ↦ λ apart. ap (λ b. cond b (x ∷ filter p (filter (is_other id) xs)) (filter p (filter (is_other id) xs))) (same x apart) ∙ ap (λ ids. cond (q x) (x ∷ ids) ids) rest
    ] refl

pub any-others : (p q : ℕ → Bool) (id : ℕ) → ((x : ℕ) → nat_eq x id ≡ false → p x ≡ q x) → (xs : List ℕ) → list_any p (filter (is_other id) xs) ≡ list_any q (filter (is_other id) xs)
any-others p q id same [] = refl
any-others p q id same (x ∷ xs) =
    let rest = any-others p q id same xs in
    elim (nat_eq x id) as (λ b. nat_eq x id ≡ b → list_any p (cond (not b) (x ∷ filter (is_other id) xs) (filter (is_other id) xs)) ≡ list_any q (cond (not b) (x ∷ filter (is_other id) xs) (filter (is_other id) xs))) [
      | true ↦ λ _. rest
      | false ↦ λ apart i. same x apart i || rest i
    ] refl

-- a test that the one id doesn't pass
pub filter-dropped : (q : ℕ → Bool) (id : ℕ) → q id ≡ false → (xs : List ℕ) → filter q (filter (is_other id) xs) ≡ filter q xs
filter-dropped q id fails [] = refl
filter-dropped q id fails (x ∷ xs) =
    let rest = filter-dropped q id fails xs in
    elim (nat_eq x id) as (λ b. nat_eq x id ≡ b → filter q (cond (not b) (x ∷ filter (is_other id) xs) (filter (is_other id) xs)) ≡ cond (q x) (x ∷ filter q xs) (filter q xs)) [
      | true ↦ λ same. rest ∙ sym (ap (λ b. cond b (x ∷ filter q xs) (filter q xs)) (ap q (eqb-true x id same) ∙ fails))
      | false ↦ λ _. ap (λ ids. cond (q x) (x ∷ ids) ids) rest
    ] refl

pub any-dropped : (q : ℕ → Bool) (id : ℕ) → q id ≡ false → (xs : List ℕ) → list_any q (filter (is_other id) xs) ≡ list_any q xs
any-dropped q id fails [] = refl
any-dropped q id fails (x ∷ xs) =
    let rest = any-dropped q id fails xs in
    elim (nat_eq x id) as (λ b. nat_eq x id ≡ b → list_any q (cond (not b) (x ∷ filter (is_other id) xs) (filter (is_other id) xs)) ≡ (q x || list_any q xs)) [
      | true ↦ λ same. rest ∙ sym (ap (λ b. b || list_any q xs) (ap q (eqb-true x id same) ∙ fails))
      | false ↦ λ _. ap (λ b. q x || b) rest
    ] refl

filter-turned : (p q : ℕ → Bool) (xs : List ℕ) → filter p (filter q xs) ≡ filter q (filter p xs)
filter-turned p q [] = refl
filter-turned p q (x ∷ xs) =
    let rest = filter-turned p q xs in
    elim (p x) as (λ b. p x ≡ b → filter p (cond (q x) (x ∷ filter q xs) (filter q xs)) ≡ filter q (cond b (x ∷ filter p xs) (filter p xs))) [
      | true ↦ λ h. elim (q x) as (λ b. filter p (cond b (x ∷ filter q xs) (filter q xs)) ≡ cond b (x ∷ filter q (filter p xs)) (filter q (filter p xs))) [
        | true ↦ ap (λ b. cond b (x ∷ filter p (filter q xs)) (filter p (filter q xs))) h ∙ ap (λ ids. x ∷ ids) rest
        | false ↦ rest
      ]
      | false ↦ λ h. elim (q x) as (λ b. filter p (cond b (x ∷ filter q xs) (filter q xs)) ≡ filter q (filter p xs)) [
        | true ↦ ap (λ b. cond b (x ∷ filter p (filter q xs)) (filter p (filter q xs))) h ∙ rest
        | false ↦ rest
      ]
    ] refl

-- ---- tables without one checkpoint

-- the second table is the first one without this checkpoint, which has no entry
pub record IsWithout (t u : Table) (id : ℕ) : Type 0 where
  pub entries : u.entries ≡ t.entries
  pub filesets : u.filesets ≡ map.remove t.filesets id
  pub empty : (key : Key) → column t key id ≡ None

pub newer-without : (t u : Table) (id : ℕ) → IsWithout t u id → (fs : ℕ) → newer u fs ≡ filter (is_other id) (newer t fs)
newer-without t u id without fs =
    ap (λ (m : Filesets). filter (λ x. nat_lt fs x) (map.keys m)) without.filesets
    ∙ ap (filter (λ x. nat_lt fs x)) (keys-remove t.filesets id)
    ∙ filter-turned (λ x. nat_lt fs x) (is_other id) (map.keys t.filesets)

pub column-without : (t u : Table) (id : ℕ) → IsWithout t u id → (key : Key) → column u key ≡ column t key
column-without t u id without key = λ i fs. map.get (without.entries i) (fs, key)

pub value-without : (t u : Table) (id : ℕ) → IsWithout t u id → (fs : ℕ) (key : Key) → value_of u fs key ≡ value_of t fs key
value-without t u id without fs key =
    ap (λ (c : ℕ → Option Held). present (first_entry c (fs ∷ newer u fs))) (column-without t u id without key)
    ∙ ap (λ ids. present (first_entry (column t key) (fs ∷ ids))) (newer-without t u id without fs)
    ∙ ap (λ o. present (option_or (column t key fs) o)) (first_entry-other (column t key) id (without.empty key) (newer t fs))

pub holder-without : (t u : Table) (id : ℕ) → IsWithout t u id → (fs : ℕ) (key : Key) → first_holder (column u key) (newer u fs) ≡ first_holder (column t key) (newer t fs)
holder-without t u id without fs key =
    ap (λ (c : ℕ → Option Held). first_holder c (newer u fs)) (column-without t u id without key)
    ∙ ap (first_holder (column t key)) (newer-without t u id without fs)
    ∙ first_holder-other (column t key) id (without.empty key) (newer t fs)

pub get-without : (t u : Table) (id : ℕ) → IsWithout t u id → (x : ℕ) → nat_eq x id ≡ false → map.get u.filesets x ≡ map.get t.filesets x
get-without t u id without x apart =
    ap (λ (m : Filesets). map.get m x) without.filesets ∙ get-recorded t.filesets id None x ∙ ap (λ b. cond b None (map.get t.filesets x)) apart

-- whether data is kept, where it isn't by the checkpoint that is missing
pub keeps-without : (t u : Table) (id : ℕ) → IsWithout t u id → (fs : ℕ) → (nat_le id fs && is_live_data t id) ≡ false → keeps_data u fs ≡ keeps_data t fs
keeps-without t u id without fs fails =
    let in_t : ℕ → Bool = λ x. nat_le x fs && is_live_data t x in
    let in_u : ℕ → Bool = λ x. nat_le x fs && is_live_data u x in
    let same : (x : ℕ) → nat_eq x id ≡ false → in_u x ≡ in_t x = λ x apart.
    ap (λ o. nat_le x fs && option_map_or (λ (fileset : Fileset). not fileset.gone && keeps_files fileset.kind) o false) (get-without t u id without x apart) in
    ap (list_any in_u) (newer-without t u id without 0) ∙ any-others in_u in_t id same (newer t 0) ∙ any-dropped in_t id fails (newer t 0)

pub seen-without : (t u : Table) (id : ℕ) → IsWithout t u id → (fs : ℕ) (key : Key) → (nat_le id fs && is_live_data t id) ≡ false → seen u fs key ≡ seen t fs key
seen-without t u id without fs key fails =
    ap (λ b. cond b (value_of u fs key) (option_map as_mark (value_of u fs key))) (keeps-without t u id without fs fails)
    ∙ ap (λ o. cond (keeps_data t fs) o (option_map as_mark o)) (value-without t u id without fs key)
