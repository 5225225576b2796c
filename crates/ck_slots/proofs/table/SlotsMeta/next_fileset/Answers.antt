use Rattle.std.proofs.Common.{◌≡◌, ◌∷◌, [], ℕ, List, MatchOption, filter, nat_lt, sym, subst}
use Rattle.std.specs.Cmp.{nat_cmp_total}
use Rattle.std.specs.FinMap.{nat_cmp-IsAntisymmetric}
use Rattle.ck_model.proofs.PlaceLaws.{keys_are}
use Rattle.ck_slots.specs.Recorded.{ids_behind}
use Rattle.ck_slots.proofs.table.SlotsMeta.next_fileset.Goals as goal

pub returns-clause-next : goal.returns-clause-next
returns-clause-next c =
    let s = c.args.self.now in
    let after = c.args.after in
    let next : MatchOption c.next_id.result (ids_behind s.filesets.items after ≡ []) (λ id. ids_behind s.filesets.items after ≡ id ∷ ids_behind s.filesets.items id) =
    rw c.deref.ensures.value at c.next_id.ensures.next in
    subst (λ (ids : List ℕ). MatchOption c.next_id.result (filter (λ id. nat_lt after id) ids ≡ []) (λ id. filter (λ n. nat_lt after n) ids ≡ id ∷ filter (λ n. nat_lt id n) ids)) (sym (keys_are nat_cmp_total nat_cmp-IsAntisymmetric s.filesets.items s.sorted)) next
