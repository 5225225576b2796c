use Rattle.std.proofs.Common.{length}
use Rattle.std.proofs.lemmas.Result.{err_from_is_err_and}
use Rattle.ck_image.specs.Images.{next_merged, to_end}
use Rattle.ck_image.proofs.Rounds.{at_end, goes_on, stops, is_out}
use Rattle.ck_image.proofs.merges.merge_all.Goals as goal

pub returns-then-at-bytes-clause-read : goal.returns-then-at-bytes-clause-read
returns-then-at-bytes-clause-read c =
    at_end (next_merged c.args.bytes.now) c.args.bytes.now (length c.args.bytes.now) c.loop.counter c.loop.all c.loop.at (to_end (next_merged c.args.bytes.now) (length c.args.bytes.now) c.args.bytes.now c.args.first c.args.at) c.loop-test.true c.if-at-bytes.true c.loop.invariant.made

pub returns-in_err-all-clause-read : goal.returns-in_err-all-clause-read
returns-in_err-all-clause-read c =
    let p = err_from_is_err_and c.from_residual.result c.from_residual.ensures.1 in
    rw (p.1, p.2) (stops (next_merged c.args.bytes.now) c.args.bytes.now (length c.args.bytes.now) c.loop.counter c.loop.all c.loop.at c.in_err-all.field-0.0 (to_end (next_merged c.args.bytes.now) (length c.args.bytes.now) c.args.bytes.now c.args.first c.args.at) c.loop-test.true c.if-at-bytes.false c.in_err-all.ensures.read c.loop.invariant.made)

pub loop-preserved : goal.loop-preserved
loop-preserved c = record {
  made = goes_on (next_merged c.args.bytes.now) c.args.bytes.now (length c.args.bytes.now) c.loop.counter c.loop.all c.loop.at (c.in_ok-all.field-0-0, c.in_ok-all.field-0-1) (to_end (next_merged c.args.bytes.now) (length c.args.bytes.now) c.args.bytes.now c.args.first c.args.at) c.loop-test.true c.if-at-bytes.false c.in_ok-all.ensures.read c.loop.invariant.made;
  right = c.in_ok-all.ensures.right;
  within = c.in_ok-all.ensures.within;
}

pub returns-clause-read : goal.returns-clause-read
returns-clause-read c =
    is_out (next_merged c.args.bytes.now) c.args.bytes.now (length c.args.bytes.now) c.loop.counter c.loop.all c.loop.at (to_end (next_merged c.args.bytes.now) (length c.args.bytes.now) c.args.bytes.now c.args.first c.args.at) c.loop-test.false c.loop.invariant.made
