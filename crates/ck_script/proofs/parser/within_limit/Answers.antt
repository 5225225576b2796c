use Rattle.std.proofs.Common.{length-take-le, sym, arith}
use Rattle.std.proofs.lemmas.List.{take_all}
use Rattle.ck_script.proofs.parser.within_limit.Goals as goal

pub slice_bounds-result-end : goal.slice_bounds-result-end
slice_bounds-result-end c = sym (length-take-le 16777216 c.args.bytes.now (omega (arith, c.if-bytes-gt-SCRIPT_LIMIT.true)))

pub returns-then-bytes-gt-SCRIPT_LIMIT-clause-short :
    goal.returns-then-bytes-gt-SCRIPT_LIMIT-clause-short
returns-then-bytes-gt-SCRIPT_LIMIT-clause-short c = omega (arith, length-take-le 16777216 c.args.bytes.now (omega (arith, c.if-bytes-gt-SCRIPT_LIMIT.true)))

pub returns-else-bytes-gt-SCRIPT_LIMIT-clause-text :
    goal.returns-else-bytes-gt-SCRIPT_LIMIT-clause-text
returns-else-bytes-gt-SCRIPT_LIMIT-clause-text c = sym (take_all 16777216 c.args.bytes.now c.if-bytes-gt-SCRIPT_LIMIT.false)
