use Rattle.std.proofs.Common.{refl, arith}
use Rattle.ck_disk.specs.declared.mem_disk.MemStep.TheVariants.{Sync}
use Rattle.ck_disk.proofs.Steps.{marks_sync, pushed_to, only_to, within_to}
use Rattle.ck_disk.proofs.mem_disk.MemDiskDisk.sync.Goals as goal

pub returns-clause-durable : goal.returns-clause-durable
returns-clause-durable c = λ told. only_to c.args.self.now.steps.items _ _ (c.if-not-note.ensures.ok refl)

pub returns-clause-crash : goal.returns-clause-crash
returns-clause-crash c = within_to c.args.self.now.steps.items _ _ (c.if-not-note.ensures.ok refl)

pub returns-clause-marks : goal.returns-clause-marks
returns-clause-marks c = λ k clean. marks_sync c.args.self.now.steps.items _ (c.if-not-note.ensures.ok refl) k

pub returns-clause-cleans : goal.returns-clause-cleans
returns-clause-cleans c = λ k. marks_sync c.args.self.now.steps.items _ (c.if-not-note.ensures.ok refl) k

pub returns-clause-step : goal.returns-clause-step
returns-clause-step c = pushed_to _ _ Sync _ _ _ _ _ _ (c.if-not-note.ensures.ok refl) refl refl (omega arith) (omega arith)
