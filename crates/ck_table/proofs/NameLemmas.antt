-- Which checkpoints have a name.
use Rattle.std.proofs.Common.{◌≡◌, ℕ, ◌<◌, Bool, true, false, cond, not, ◌&&◌, ◌||◌, List, [], ◌∷◌, Some, None, IsSome, nat_lt, nat_eq, is_some, find, refl, sym, ap, ◌∙◌}
use Rattle.std.specs.Cmp.Lexicographic.{pointwise}
use Rattle.std.specs.List.{list_any}
use Rattle.std.specs.Option.{option_map_or}
use Rattle.std.proofs.lemmas.Bool.{false≢true, eqb-true, lt-ltb, and_from}
use Rattle.std.specs.FinMap as map
use Rattle.ck_model.specs.declared.checkpoint.Fileset.{Fileset}
use Rattle.ck_model.specs.Table.{Table, newer, IsTable}
use Rattle.ck_table.specs.Names.{is_named, id_named}
use Rattle.ck_table.proofs.IdLaws.{newer-has}

-- none of the elements passes a test that finds nothing
none_passes : (test : ℕ → Bool) (xs : List ℕ) → find test xs ≡ None → (x : ℕ) → list_any (nat_eq x) xs ≡ true → test x ≡ false
none_passes test [] none x there = absurd (false≢true there)
none_passes test (y ∷ ys) none x there =
    elim (test y) as (λ b. test y ≡ b → cond b (Some y) (find test ys) ≡ None → (nat_eq x y || list_any (nat_eq x) ys) ≡ true → test x ≡ false) [
      | true ↦ λ _ h _. cc
      | false ↦ λ fails h there. elim (nat_eq x y) as (λ b. nat_eq x y ≡ b → (b || list_any (nat_eq x) ys) ≡ true → test x ≡ false) [
        | true ↦ λ same _. ap test (eqb-true x y same) ∙ fails
        | false ↦ λ _ there. none_passes test ys h x there
      ] refl there
    ] refl none there

stands : (t : Table) (name : List ℕ) (id : ℕ) → is_named t name id ≡ true → IsSome (map.get t.filesets id)
stands t name id named =
    elim (map.get t.filesets id) as (λ o. option_map_or (λ (fileset : Fileset). not fileset.gone && pointwise nat_eq fileset.name name) o false ≡ true → IsSome o) [ None ↦ λ h. h | Some fileset ↦ λ _. refl ] named

-- where none is found, none has the name
pub unnamed : (t : Table) (name : List ℕ) → IsTable t → id_named t name ≡ None → (id : ℕ) → is_named t name id ≡ false
unnamed t name lawful none id =
    elim (is_named t name id) as (λ b. is_named t name id ≡ b → b ≡ false) [
      | true ↦ λ named.
          let there = stands t name id named in
          let above : 0 < id = elim (map.get t.filesets id) as (λ o. map.get t.filesets id ≡ o → IsSome o → 0 < id) [
            | None ↦ λ _ h. absurd (false≢true h)
            | Some fileset ↦ λ is _. (lawful.filesets id fileset is).some
          ] refl there in
          sym named ∙ none_passes (is_named t name) (newer t 0) none id (newer-has t 0 id ∙ and_from (nat_lt 0 id) (is_some (map.get t.filesets id)) (lt-ltb 0 id above) there)
      | false ↦ λ _. refl
    ] refl
