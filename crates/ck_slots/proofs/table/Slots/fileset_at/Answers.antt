use Rattle.std.proofs.Common.{◌<◌, Some, length, T, arith, ap, sym, subst, ◌∙◌}
use Rattle.std.specs.List.{slice_get}
use Rattle.std.specs.Ordering.{nat_cmp}
use Rattle.std.specs.Cmp.{nat_cmp_total}
use Rattle.std.specs.FinMap.{nat_cmp-IsAntisymmetric, entries-from_sorted}
use Rattle.std.proofs.lemmas.Option.{slice_get-get_or}
use Rattle.ck_model.proofs.PlaceLaws.{len_of}
use Rattle.ck_slots.proofs.table.Slots.fileset_at.Goals as goal

pub index-requires : goal.index-requires
index-requires c = let s = c.args.self.now in omega (arith, c.requires, len_of nat_cmp_total nat_cmp-IsAntisymmetric s.filesets.items s.sorted)

pub returns : goal.returns
returns c =
    let s = c.args.self.now in
    let within : c.args.at < length s.filesets.items = omega (arith, c.requires, len_of nat_cmp_total nat_cmp-IsAntisymmetric s.filesets.items s.sorted) in
    ap (λ xs. slice_get xs c.args.at) (entries-from_sorted nat_cmp s.filesets.items (subst T (sym s.sorted) tt))
    ∙ slice_get-get_or s.filesets.items c.args.at c.index.result.now within
    ∙ ap Some (sym c.index.ensures)
