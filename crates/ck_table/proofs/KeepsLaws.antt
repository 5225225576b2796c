-- Where data is kept once a checkpoint keeps none, or leaves.
use Rattle.std.proofs.Common.{◌≡◌, ℕ, ◌<◌, Bool, true, false, cond, not, ◌&&◌, Option, Some, None, nat_le, nat_eq, refl, sym, ap, ◌∙◌, arith}
use Rattle.std.specs.List.{list_any}
use Rattle.std.specs.Option.{option_map, option_map_or}
use Rattle.std.specs.FinMap as map
use Rattle.std.proofs.lemmas.Bool.{eqb-true}
use Rattle.std.proofs.lemmas.Bool.Decides.{nat_tests}
use Rattle.ck_model.specs.declared.checkpoint.Fileset.{Fileset}
use Rattle.ck_model.specs.World.{keeps_files}
use Rattle.ck_model.specs.Table.{Table}
use Rattle.ck_model.specs.Chain.{is_live, is_live_data, keeps_data}
use Rattle.ck_table.specs.Flags.{as_nodata, with_nodata, with_record}
use Rattle.ck_table.specs.Gone.{as_gone, with_gone}
use Rattle.ck_table.proofs.FlagLaws.{newer-with_nodata}
use Rattle.ck_table.proofs.IdLaws.{get-recorded}
use Rattle.ck_table.proofs.LeaveLaws.{newer-with_gone}

and_none : (b : Bool) → (b && false) ≡ false
and_none true = refl
and_none false = refl

and_all : (b : Bool) → (b && true) ≡ b
and_all true = refl
and_all false = refl

-- which checkpoints keep their files once this one doesn't
data_dropped : (t : Table) (id : ℕ) (change : Fileset → Fileset) → ((f : Fileset) → (not (change f).gone && keeps_files (change f).kind) ≡ false) → (x : ℕ) → is_live_data (with_record t id change) x ≡ (is_live_data t x && not (nat_eq x id))
data_dropped t id change drops x =
    ap (λ o. option_map_or (λ (f : Fileset). not f.gone && keeps_files f.kind) o false) (get-recorded t.filesets id (option_map change (map.get t.filesets id)) x)
    ∙ elim (nat_eq x id) as (λ b. option_map_or (λ (f : Fileset). not f.gone && keeps_files f.kind) (cond b (option_map change (map.get t.filesets id)) (map.get t.filesets x)) false ≡ (is_live_data t x && not b)) [
      | true ↦ none (map.get t.filesets id) ∙ sym (and_none (is_live_data t x))
      | false ↦ sym (and_all (is_live_data t x))
    ]
  where
    none : (o : Option Fileset) → option_map_or (λ (f : Fileset). not f.gone && keeps_files f.kind) (option_map change o) false ≡ false
    none None = refl
    none (Some f) = drops f

pub data-with_nodata : (t : Table) (id x : ℕ) → is_live_data (with_nodata t id) x ≡ (is_live_data t x && not (nat_eq x id))
data-with_nodata t id x = data_dropped t id as_nodata (λ f. and_none (not f.gone)) x

pub data-with_gone : (t : Table) (id x : ℕ) → is_live_data (with_gone t id) x ≡ (is_live_data t x && not (nat_eq x id))
data-with_gone t id x = data_dropped t id as_gone (λ f. refl) x

-- one that is newer decides nothing
same_upto : (t u : Table) (id fs : ℕ) → fs < id → ((x : ℕ) → is_live_data u x ≡ (is_live_data t x && not (nat_eq x id))) → (x : ℕ) → (nat_le x fs && is_live_data u x) ≡ (nat_le x fs && is_live_data t x)
same_upto t u id fs less reads x =
    ap (λ b. nat_le x fs && b) (reads x)
    ∙ elim (nat_eq x id) as (λ b. nat_eq x id ≡ b → (nat_le x fs && (is_live_data t x && not b)) ≡ (nat_le x fs && is_live_data t x)) [
      | true ↦ λ same.
          let at : x ≡ id = eqb-true x id same in
          let past : nat_le x fs ≡ false = grind (arith, nat_tests) in
          ap (λ b. b && (is_live_data t x && false)) past ∙ sym (ap (λ b. b && is_live_data t x) past)
      | false ↦ λ _. ap (λ b. nat_le x fs && b) (and_all (is_live_data t x))
    ] refl

-- of an older one, data is kept where it was
pub keeps_older-with_nodata : (t : Table) (id : ℕ) → is_live t id ≡ true → (fs : ℕ) → fs < id → keeps_data (with_nodata t id) fs ≡ keeps_data t fs
keeps_older-with_nodata t id live fs less = λ i. list_any (λ x. same_upto t (with_nodata t id) id fs less (data-with_nodata t id) x i) (newer-with_nodata t id live 0 i)

pub keeps_older-with_gone : (t : Table) (id : ℕ) → is_live t id ≡ true → (fs : ℕ) → fs < id → keeps_data (with_gone t id) fs ≡ keeps_data t fs
keeps_older-with_gone t id live fs less = λ i. list_any (λ x. same_upto t (with_gone t id) id fs less (data-with_gone t id) x i) (newer-with_gone t id live 0 i)
