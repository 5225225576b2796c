-- Which checkpoint of a table's world has an id, and what a read of it is refused with.
use Rattle.std.proofs.Common.{◌≡◌, ℕ, Bool, true, false, ◌&&◌, cond, not, T, Result, Err, Option, Some, None, List, [], ◌∷◌, filter, find, map as list_map, nat_eq, refl, sym, ap, ◌∙◌, arith}
use Rattle.std.specs.Ordering.{nat_cmp, eq_by_cmp}
use Rattle.std.specs.Option.{ok_or, option_and_then, option_map_or}
use Rattle.std.specs.FinMap.{nat_cmp-IsAntisymmetric, is_sorted, entries_sorted}
use Rattle.std.specs.FinMap.Entries.{below_all}
use Rattle.std.specs.FinMap as map
use Rattle.std.proofs.lemmas.Bool.Decides.{nat_tests}
use Rattle.std.proofs.lemmas.Cmp.{nat_cmp_total}
use Rattle.ck_model.specs.declared.checkpoint.Fileset.{Fileset}
use Rattle.ck_model.specs.declared.checkpoint.Kind.TheVariants.{Keeping, Nodata}
use Rattle.ck_model.specs.declared.reply.Reply.{Reply}
use Rattle.ck_model.specs.declared.reply.Reply.TheVariants.{Gone, NoData}
use Rattle.ck_model.specs.Cells.{Cells}
use Rattle.ck_model.specs.Chain.{is_live, is_live_data}
use Rattle.ck_model.specs.CheckpointCalls.{standing, with_data}
use Rattle.ck_model.specs.Refusals.{and_then}
use Rattle.ck_model.specs.Table.{Table}
use Rattle.ck_model.specs.TableWorld.{checkpoint_on, checkpoints_on, world_on}
use Rattle.ck_model.specs.Values.{Store}
use Rattle.ck_model.specs.World.{Checkpoint, Mounts, has_id, keeps_files}
use Rattle.ck_model.proofs.CaseLaws.{head_of}
use Rattle.ck_model.proofs.FilesetLaws.{not_below}
use Rattle.ck_read.specs.Block.{map_on}

module _ (store : Store) (t : Table) (id : ℕ) where
  -- the checkpoint with this fileset, unless that is gone
  abbrev pub shown : Fileset → Option Checkpoint
  shown fileset = cond fileset.gone None (Some (checkpoint_on store t id fileset))

  abbrev checkpoints_in : List (ℕ × Fileset) → List Checkpoint
  checkpoints_in es = list_map (λ (e : ℕ × Fileset). checkpoint_on store t e.0 e.1) es

  found_in : (es : List (ℕ × Fileset)) → T (is_sorted nat_cmp es)
      → find (has_id id) (checkpoints_in (filter (λ e. not e.1.gone) es)) ≡ option_and_then shown (map.find nat_cmp id es)
  found_in [] sorted = refl
  found_in (e ∷ es) sorted =
      let parts = head_of (below_all nat_cmp e.0 es) (is_sorted nat_cmp es) sorted in
      let rest = found_in es parts.1 in
      let left : List (ℕ × Fileset) = filter (λ x. not x.1.gone) es in
      elim (nat_eq e.0 id) as (λ v. nat_eq e.0 id ≡ v → find (has_id id) (checkpoints_in (filter (λ x. not x.1.gone) (e ∷ es))) ≡ option_and_then shown (map.find nat_cmp id (e ∷ es))) [
        | true ↦ λ same.
            let is : e.0 ≡ id = grind (arith, nat_tests) in
            let tied : eq_by_cmp nat_cmp id e.0 ≡ true = grind (arith, nat_tests) in
            let none : map.find nat_cmp id es ≡ None = ap (λ x. map.find nat_cmp x es) (sym is) ∙ not_below nat_cmp_total nat_cmp-IsAntisymmetric e.0 es parts.0 in
            elim e.1.gone as (λ b. find (has_id id) (checkpoints_in (cond (not b) (e ∷ left) left)) ≡ cond b None (Some (checkpoint_on store t id e.1))) [
              | true ↦ rest ∙ ap (option_and_then shown) none
              | false ↦ ap (λ v. cond v (Some (checkpoint_on store t e.0 e.1)) (find (has_id id) (checkpoints_in left))) same ∙ ap (λ n. Some (checkpoint_on store t n e.1)) is
            ]
            ∙ sym (ap (λ b. option_and_then shown (cond b (Some e.1) (map.find nat_cmp id es))) tied)
        | false ↦ λ apart.
            let untied : eq_by_cmp nat_cmp id e.0 ≡ false = grind (arith, nat_tests) in
            elim (not e.1.gone) as (λ b. find (has_id id) (checkpoints_in (cond b (e ∷ left) left)) ≡ option_and_then shown (map.find nat_cmp id es)) [
              | true ↦ ap (λ v. cond v (Some (checkpoint_on store t e.0 e.1)) (find (has_id id) (checkpoints_in left))) apart ∙ rest
              | false ↦ rest
            ]
            ∙ sym (ap (λ b. option_and_then shown (cond b (Some e.1) (map.find nat_cmp id es))) untied)
      ] refl

  pub found : find (has_id id) (checkpoints_on store t) ≡ option_and_then shown (map.get t.filesets id)
  found = found_in (map.entries t.filesets) (entries_sorted t.filesets) ∙ ap (option_and_then shown) (sym (map.get-entries t.filesets id))

  -- ---- what is read of it

  module _ (read : Cells → Result Reply Reply) where
    abbrev read_of : Checkpoint → Result Reply Reply
    read_of mounted = and_then (with_data mounted) (λ checkpoint. read checkpoint.cells)

    -- gone, without data, or read
    abbrev pub answer_if : Bool → Bool → Result Reply Reply
    answer_if live keeps = cond (not live) (Err (Gone id)) (cond (not keeps) (Err (NoData id)) (read (map_on store t id)))

    of_fileset : (o : Option Fileset) → and_then (ok_or (option_and_then shown o) (Gone id)) read_of
        ≡ answer_if (option_map_or (λ (f : Fileset). not f.gone) o false) (option_map_or (λ (f : Fileset). not f.gone && keeps_files f.kind) o false)
    of_fileset None = refl
    of_fileset (Some f) =
        elim f.gone as (λ b. and_then (ok_or (cond b None (Some (checkpoint_on store t id f))) (Gone id)) read_of ≡ answer_if (not b) (not b && keeps_files f.kind)) [
          | true ↦ refl
          | false ↦ elim f.kind as (λ k. read_of (checkpoint_on store t id (record f { kind = k })) ≡ answer_if true (keeps_files k)) [ Keeping ↦ refl | Nodata ↦ refl ]
        ]

    pub standing_is : (mounts : Mounts) → and_then (standing (world_on store mounts t) id) read_of ≡ answer_if (is_live t id) (is_live_data t id)
    standing_is mounts = ap (λ o. and_then (ok_or o (Gone id)) read_of) found ∙ of_fileset (map.get t.filesets id)
