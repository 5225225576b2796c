use Rattle.std.proofs.Common.{◌≡◌, ◌<◌, ◌∷◌, ℕ, length, get_or, nat_le, T, arith, rules, sym, ap, subst, ◌∙◌}
use Rattle.std.specs.Ordering.{nat_cmp}
use Rattle.std.specs.FinMap.{is_sorted}
use Rattle.std.proofs.lemmas.List.{get_or_default}
use Rattle.std.proofs.lemmas.List.Sorted.{IsPartitionPoint-from_clause}
use Rattle.ck_model.specs.declared.checkpoint.Fileset.{Fileset}
use Rattle.ck_slots.specs.Recorded.{ids_behind}
use Rattle.ck_slots.proofs.IdLemmas.{partitioned, front_is, upto_falls, next_at_front, none_at_front}
use Rattle.ck_slots.proofs.filesets.next_id.Goals as goal

next_there : (c : goal.After-index-filesets-at) → (c.args.after < (get_or c.args.filesets.now c.partition_point-at.result c.index-filesets-at.result).0) × (ids_behind c.args.filesets.now c.args.after ≡ (get_or c.args.filesets.now c.partition_point-at.result c.index-filesets-at.result).0 ∷ ids_behind c.args.filesets.now (get_or c.args.filesets.now c.partition_point-at.result c.index-filesets-at.result).0)
next_there c =
    let es = c.args.filesets.now in
    let after = c.args.after in
    let at = c.partition_point-at.result in
    let e = get_or es at c.index-filesets-at.result in
    let within : at < length es = c.if-at-filesets.true in
    let sorted : T (is_sorted nat_cmp es) = subst T (sym c.requires) tt in
    let point = IsPartitionPoint-from_clause (λ (e : ℕ × Fileset). nat_le e.0 after) es at c.partition_point-at.ensures.partitioned (partitioned nat_cmp (λ x. nat_le x after) (upto_falls after) es sorted) (λ a r q k. search rules) in
    let place = front_is (λ x. nat_le x after) es at c.partition_point-at.ensures.bound point.0 point.1 in
    next_at_front after es e sorted (omega (arith, place, within)) (ap (λ n. get_or es n e) (sym place) ∙ get_or_default es at e c.index-filesets-at.result within)

pub returns-then-at-filesets-clause-next : goal.returns-then-at-filesets-clause-next
returns-then-at-filesets-clause-next c = (next_there c).1

pub returns-then-at-filesets-clause-above : goal.returns-then-at-filesets-clause-above
returns-then-at-filesets-clause-above c = (next_there c).0

pub returns-else-at-filesets-clause-next : goal.returns-else-at-filesets-clause-next
returns-else-at-filesets-clause-next c =
    let es = c.args.filesets.now in
    let after = c.args.after in
    let at = c.partition_point-at.result in
    let sorted : T (is_sorted nat_cmp es) = subst T (sym c.requires) tt in
    let point = IsPartitionPoint-from_clause (λ (e : ℕ × Fileset). nat_le e.0 after) es at c.partition_point-at.ensures.partitioned (partitioned nat_cmp (λ x. nat_le x after) (upto_falls after) es sorted) (λ a r q k. search rules) in
    let place = front_is (λ x. nat_le x after) es at c.partition_point-at.ensures.bound point.0 point.1 in
    none_at_front after es (omega (arith, place, c.if-at-filesets.false))
