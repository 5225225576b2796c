use Rattle.std.proofs.Common.{◌≡◌, [], get_or, refl, arith}
use Rattle.std.proofs.lemmas.List.{length-set, get_or_read}
use Rattle.ck_disk.specs.declared.mem_disk.MemStep.TheVariants.{Write}
use Rattle.ck_disk.proofs.MomentLaws.{set_same}
use Rattle.ck_disk.proofs.Steps.{marks_write, pushed_to, torn_to, undo_write, failed_torn, failed_marks, failed_step}
use Rattle.ck_disk.proofs.mem_disk.MemDiskDisk.write.Goals as goal

pub returns-then-due-clause-others : goal.returns-then-due-clause-others
returns-then-due-clause-others c = λ told. set_same _ _

pub returns-then-due-clause-crash : goal.returns-then-due-clause-crash
returns-then-due-clause-crash c =
    let stood : c.index-was.result.now ≡ get_or c.args.self.now.blocks.items c.args.at [] = get_or_read c.args.self.now.blocks.items c.args.at c.index-was.result.now c.requires c.index-was.ensures [] in
    failed_torn _ _ _ c.args.at c.index-was.result.now stood c.requires c.args.self.now.consists c.note-noted.result c.note-noted.ensures.ok c.note-noted.ensures.err

pub returns-then-due-clause-marks : goal.returns-then-due-clause-marks
returns-then-due-clause-marks c =
    let stood : c.index-was.result.now ≡ get_or c.args.self.now.blocks.items c.args.at [] = get_or_read c.args.self.now.blocks.items c.args.at c.index-was.result.now c.requires c.index-was.ensures [] in
    failed_marks c.args.self.now.steps.items c.note-noted.new.steps.items c.args.self.now.blocks.items c.args.at c.index-was.result.now stood c.requires c.note-noted.result c.note-noted.ensures.ok c.note-noted.ensures.err

pub returns-then-due-clause-step : goal.returns-then-due-clause-step
returns-then-due-clause-step c =
    let stood : c.index-was.result.now ≡ get_or c.args.self.now.blocks.items c.args.at [] = get_or_read c.args.self.now.blocks.items c.args.at c.index-was.result.now c.requires c.index-was.ensures [] in
    failed_step _ _ _ c.args.at c.index-was.result.now stood c.requires c.note-noted.result _ _ _ _ c.note-noted.ensures.ok c.note-noted.ensures.err (omega arith) (omega arith)

pub returns-clause-crash : goal.returns-clause-crash
returns-clause-crash c =
    let stood : c.index-was.result.now ≡ get_or c.args.self.now.blocks.items c.args.at [] = get_or_read c.args.self.now.blocks.items c.args.at c.index-was.result.now c.requires c.index-was.ensures [] in
    torn_to _ _ _ c.args.at c.index-was.result.now _ (c.if-not-noted.ensures.ok refl) stood c.requires c.args.self.now.consists

pub returns-clause-marks : goal.returns-clause-marks
returns-clause-marks c = λ k ne clean. marks_write c.args.self.now.steps.items _ c.args.at c.index-was.result.now (c.if-not-noted.ensures.ok refl) k ne clean

pub returns-clause-step : goal.returns-clause-step
returns-clause-step c =
    let stood : c.index-was.result.now ≡ get_or c.args.self.now.blocks.items c.args.at [] = get_or_read c.args.self.now.blocks.items c.args.at c.index-was.result.now c.requires c.index-was.ensures [] in
    pushed_to _ _ (Write c.args.at c.index-was.result.now) _ _ _ _ _ _ (c.if-not-noted.ensures.ok refl) (undo_write c.args.self.now.blocks.items c.args.at c.index-was.result.now _ stood) (length-set c.args.self.now.blocks.items c.args.at _) (omega arith) (omega arith)
