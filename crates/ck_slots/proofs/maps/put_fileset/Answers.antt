use Rattle.std.proofs.Common.{inr, length, ap, sym, subst, arith}
use Rattle.std.specs.Ordering.{nat_cmp}
use Rattle.std.specs.Cmp.{nat_cmp_total}
use Rattle.std.specs.FinMap.{nat_cmp-IsAntisymmetric}
use Rattle.ck_model.specs.Ordered.{Edits}
use Rattle.ck_model.proofs.PlaceLaws.{len_of}
use Rattle.ck_slots.specs.Maps.{with_filesets}
use Rattle.ck_slots.specs.Recorded.{filesets_of}
use Rattle.ck_slots.proofs.MapLemmas.{edits_same}
use Rattle.ck_slots.proofs.maps.put_fileset.Goals as goal

pub set-requires-clause-room : goal.set-requires-clause-room
set-requires-clause-room c =
    let items = c.args.filesets.now.items in
    inr (omega (arith, c.requires.room, ap length c.in-Some.ensures, len_of nat_cmp_total nat_cmp-IsAntisymmetric items c.requires.sorted))

pub returns-in-Some-clause-put : goal.returns-in-Some-clause-put
returns-in-Some-clause-put c =
    subst (λ es. Edits nat_cmp c.set.new.filesets.items (with_filesets es (filesets_of c.args.filesets.now.items))) (sym c.in-Some.ensures) c.set.ensures.set

pub returns-in_default-clause-put : goal.returns-in_default-clause-put
returns-in_default-clause-put c =
    let items = c.args.filesets.now.items in
    subst (λ es. Edits nat_cmp items (with_filesets es (filesets_of items))) (sym c.in_default.ensures) (edits_same items c.requires.sorted)
