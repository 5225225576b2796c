use Rattle.std.proofs.Common.{length-take-le, sym, arith}
use Rattle.ck_script.proofs.parser.long_line.Goals as goal

pub slice_bounds-line_feeds-end : goal.slice_bounds-line_feeds-end
slice_bounds-line_feeds-end c = sym (length-take-le 16777216 c.args.bytes.now (omega (arith, c.if-bytes-le-SCRIPT_LIMIT.false)))

pub line_feeds-requires : goal.line_feeds-requires
line_feeds-requires c = omega (arith, length-take-le 16777216 c.args.bytes.now (omega (arith, c.if-bytes-le-SCRIPT_LIMIT.false)))

pub overflow_add-result : goal.overflow_add-result
overflow_add-result c = omega (arith, length-take-le 16777216 c.args.bytes.now (omega (arith, c.if-bytes-le-SCRIPT_LIMIT.false)), c.line_feeds.ensures.few)
