use Rattle.std.proofs.Common.{length}
use Rattle.std.proofs.lemmas.Result.{err_from_is_err_and}
use Rattle.ck_image.specs.Images.{next_in, changes_in}
use Rattle.ck_image.proofs.Rounds.{at_end, goes_on, stops, is_out}
use Rattle.ck_image.proofs.images.apply_all.Goals as goal

pub returns-then-at-bytes-clause-read : goal.returns-then-at-bytes-clause-read
returns-then-at-bytes-clause-read c =
    at_end (next_in c.args.bytes.now) c.args.bytes.now (length c.args.bytes.now) c.loop.counter c.loop.base c.loop.at (changes_in (length c.args.bytes.now) c.args.bytes.now c.args.base c.args.at) c.loop-test.true c.if-at-bytes.true c.loop.invariant.made

pub returns-in_err-base-clause-read : goal.returns-in_err-base-clause-read
returns-in_err-base-clause-read c =
    let p = err_from_is_err_and c.from_residual.result c.from_residual.ensures.1 in
    rw (p.1, p.2) (stops (next_in c.args.bytes.now) c.args.bytes.now (length c.args.bytes.now) c.loop.counter c.loop.base c.loop.at c.in_err-base.field-0.0 (changes_in (length c.args.bytes.now) c.args.bytes.now c.args.base c.args.at) c.loop-test.true c.if-at-bytes.false c.in_err-base.ensures.read c.loop.invariant.made)

pub loop-preserved : goal.loop-preserved
loop-preserved c = record {
  made = goes_on (next_in c.args.bytes.now) c.args.bytes.now (length c.args.bytes.now) c.loop.counter c.loop.base c.loop.at (c.in_ok-base.field-0-0, c.in_ok-base.field-0-1) (changes_in (length c.args.bytes.now) c.args.bytes.now c.args.base c.args.at) c.loop-test.true c.if-at-bytes.false c.in_ok-base.ensures.read c.loop.invariant.made;
  right = c.in_ok-base.ensures.right;
  within = c.in_ok-base.ensures.within;
}

pub returns-clause-read : goal.returns-clause-read
returns-clause-read c =
    is_out (next_in c.args.bytes.now) c.args.bytes.now (length c.args.bytes.now) c.loop.counter c.loop.base c.loop.at (changes_in (length c.args.bytes.now) c.args.bytes.now c.args.base c.args.at) c.loop-test.false c.loop.invariant.made
