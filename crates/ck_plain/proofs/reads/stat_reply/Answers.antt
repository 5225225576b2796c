use Rattle.std.proofs.Common.{◌≡◌, length, ap, arith}
use Rattle.ck_model.specs.Contents.{children}
use Rattle.ck_plain.proofs.Few.{few_children}
use Rattle.ck_plain.proofs.reads.stat_reply.Goals as goal

pub overflow_cast-result : goal.overflow_cast-result
overflow_cast-result c =
    let same : length c.in_ok-names.names.items ≡ length (children c.args.cells.now c.args.node) = ap length c.in_ok-names.ensures in
    omega (arith, few_children c.args.cells.now c.args.node)
