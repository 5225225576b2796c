use Rattle.std.proofs.Common.{◌≡◌, ◌<◌, ℕ, length, get_or, nat_lt, T, true, [], arith, rules, sym, ap, subst, ◌∙◌}
use Rattle.std.specs.Ordering.{nat_cmp}
use Rattle.std.specs.Cmp.{nat_cmp_total}
use Rattle.std.specs.FinMap.{is_sorted, nat_cmp-IsAntisymmetric}
use Rattle.std.proofs.lemmas.List.{get_or_default}
use Rattle.std.proofs.lemmas.List.Sorted.{IsPartitionPoint-from_clause}
use Rattle.ck_model.specs.declared.checkpoint.Fileset.{Fileset}
use Rattle.ck_model.specs.declared.checkpoint.Kind.TheVariants.{Nodata}
use Rattle.ck_model.proofs.PlaceLaws.{find_gap}
use Rattle.ck_slots.proofs.IdLemmas.{partitioned, front_is, below_falls, place_is}
use Rattle.ck_slots.proofs.filesets.search.Goals.{else-at-filesets-via-then-at-filesets+else-filesets-at, else-at-filesets-via-else-at-filesets}
use Rattle.ck_slots.proofs.filesets.search.Goals as goal

no_fileset : Fileset
no_fileset = record { name = []; kind = Nodata; removable = true; gone = true; ctime = 0 }

pub returns-then-filesets-at-clause-found : goal.returns-then-filesets-at-clause-found
returns-then-filesets-at-clause-found c =
    let es = c.args.filesets.now in
    let id = c.args.id in
    let at = c.partition_point-at.result in
    let sorted : T (is_sorted nat_cmp es) = subst T (sym c.requires) tt in
    let point = IsPartitionPoint-from_clause (λ (e : ℕ × Fileset). nat_lt e.0 id) es at c.partition_point-at.ensures.partitioned (partitioned nat_cmp (λ x. nat_lt x id) (below_falls id) es sorted) (λ a r q k. search rules) in
    record {
      place = front_is (λ x. nat_lt x id) es at c.partition_point-at.ensures.bound point.0 point.1 ∙ sym (place_is id es);
      within = c.if-at-filesets.true;
      same = λ d. ap (λ (e : ℕ × Fileset). e.0) (get_or_default es at d c.index-filesets-at.result c.if-at-filesets.true) ∙ c.if-filesets-at.true;
    }

pub returns-else-at-filesets-clause-absent : goal.returns-else-at-filesets-clause-absent
returns-else-at-filesets-clause-absent c =
    let es = c.args.filesets.now in
    let id = c.args.id in
    let at = c.partition_point-at.result in
    let sorted : T (is_sorted nat_cmp es) = subst T (sym c.requires) tt in
    let point = IsPartitionPoint-from_clause (λ (e : ℕ × Fileset). nat_lt e.0 id) es at c.partition_point-at.ensures.partitioned (partitioned nat_cmp (λ x. nat_lt x id) (below_falls id) es sorted) (λ a r q k. search rules) in
    let place = front_is (λ x. nat_lt x id) es at c.partition_point-at.ensures.bound point.0 point.1 ∙ sym (place_is id es) in
    record {
      place = place;
      within = c.partition_point-at.ensures.bound;
      none = elim c.else-at-filesets.branch [
        | else-at-filesets-via-then-at-filesets+else-filesets-at w ↦
            find_gap nat_cmp_total nat_cmp-IsAntisymmetric id es w.index-filesets-at.result sorted (subst (λ n. n < length es → (get_or es n w.index-filesets-at.result).0 ≡ id → ⊥) place (λ within same. w.if-filesets-at.false same))
        | else-at-filesets-via-else-at-filesets w ↦
            find_gap nat_cmp_total nat_cmp-IsAntisymmetric id es (id, no_fileset) sorted (subst (λ n. n < length es → (get_or es n (id, no_fileset)).0 ≡ id → ⊥) place (λ within same. absurd (omega (arith, w.if-at-filesets.false, within))))
      ];
    }
