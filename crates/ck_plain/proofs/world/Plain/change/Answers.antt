use Rattle.std.proofs.Common.{◌≡◌, Result, Ok, IfOk, subst, arith}
use Rattle.ck_model.specs.declared.reply.Reply.{Reply}
use Rattle.ck_model.specs.World.{World}
use Rattle.ck_model.specs.FileCalls.{changed_by}
use Rattle.ck_plain.specs.Plain.{world_of}
use Rattle.ck_plain.specs.Changed.{Answers, with_next}
use Rattle.ck_plain.proofs.FewCells.{IsSmall, changed_by-small}
use Rattle.ck_plain.proofs.world.Plain.change.Goals as goal

pub put_files-requires-clause-cells : goal.put_files-requires-clause-cells
put_files-requires-clause-cells c =
    let w = world_of c.args.self.now in
    let next : changed_by w c.args.call.now ≡ Ok (with_next w c.in-Ok.next) = subst (Answers w (changed_by w c.args.call.now)) c.in-Ok.is c.in_ok-next.ensures in
    let small : IsSmall w (with_next w c.in-Ok.next) = subst (λ (r : Result World Reply). IfOk r (IsSmall w)) next (changed_by-small w c.args.call.now) in
    omega (arith, small.cells, c.args.self.now.few_cells)

pub put_files-requires-clause-stamp : goal.put_files-requires-clause-stamp
put_files-requires-clause-stamp c =
    let w = world_of c.args.self.now in
    let next : changed_by w c.args.call.now ≡ Ok (with_next w c.in-Ok.next) = subst (Answers w (changed_by w c.args.call.now)) c.in-Ok.is c.in_ok-next.ensures in
    let small : IsSmall w (with_next w c.in-Ok.next) = subst (λ (r : Result World Reply). IfOk r (IsSmall w)) next (changed_by-small w c.args.call.now) in
    small.stamp c.args.self.now.stamps
