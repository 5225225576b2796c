use Rattle.std.proofs.Common.{sym, ap, ◌∙◌, arith}
use Rattle.std.specs.FinMap as map
use Rattle.ck_nodata.specs.StripItem.{unstripped_count}
use Rattle.ck_files.proofs.DrainLemmas.{none_to_remove}
use Rattle.ck_files.proofs.removal.step.Goals as goal

pub returns-else-remove_next-clause-fewer : goal.returns-else-remove_next-clause-fewer
returns-else-remove_next-clause-fewer g c stripped =
    let none = c.remove_next.ensures.none c.if-remove_next.false in
    let nothing = none_to_remove (g.M.Meta.table c.strip_next.new.meta) (λ id f is. none id f (ap (λ m. map.get m id) (sym c.strip_next.ensures.filesets) ∙ is)) in
    let fewer = c.strip_next.ensures.left stripped in
    let same = ap unstripped_count (c.remove_next.ensures.untouched c.if-remove_next.false) in
    omega (arith, nothing, fewer, same)
