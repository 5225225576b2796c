use Rattle.std.proofs.Common.{[], ◌∙◌, ap, length}
use Rattle.std.proofs.lemmas.List.{get_or_default}
use Rattle.ck_disk.proofs.mem_disk.are_blocks.Goals as goal

pub returns : goal.returns
returns c = λ k d lt. ap length (get_or_default c.args.image.now k d [] lt) ∙ c.told-image k lt
