use Rattle.std.proofs.Common.{◌≡◌, ◌++◌, ◌∷◌, [], length, None}
use Rattle.ck_stream.specs.Parsed.{items_at}
use Rattle.ck_stream.proofs.Loop.{at_empty, at_end, goes_on, stops_as, is_out}
use Rattle.ck_stream.proofs.parsed.items_of.Goals as goal

pub returns-in-None : goal.returns-in-None
returns-in-None c =
    at_empty c.loop.items.items (length c.args.bytes.now) c.loop.counter c.args.total c.args.full c.loop.last c.loop.rest.now
    (items_at (length c.args.bytes.now) c.args.total c.args.full None c.args.bytes.now) c.loop-test.true c.in-None.ensures c.loop.invariant

pub returns-in-Some-eq0-default : goal.returns-in-Some-eq0-default
returns-in-Some-eq0-default c =
    let begins = rw c.in-Some-eq0-default.field-0-0-test at c.in-Some-eq0-default.ensures in
    at_end c.loop.items.items (length c.args.bytes.now) c.loop.counter c.args.total c.args.full c.loop.last c.loop.rest.now c.in-Some-eq0-default.after.now
    (items_at (length c.args.bytes.now) c.args.total c.args.full None c.args.bytes.now) c.loop-test.true begins c.loop.invariant

pub returns-in-Err : goal.returns-in-Err
returns-in-Err c =
    stops_as c.in-Err.flaw c.fault_at.result c.saturating_sub.result c.loop.items.items (length c.args.bytes.now) c.loop.counter c.args.total c.args.full c.loop.last c.loop.rest.now c.in-Some.number c.in-Some.after.now
    (items_at (length c.args.bytes.now) c.args.total c.args.full None c.args.bytes.now) c.fault_at.ensures c.saturating_sub.ensures c.loop-test.true c.in-Some.ensures c.in-Some.number-test.1 c.in-Err.ensures c.loop.invariant

pub loop-preserved : goal.loop-preserved
loop-preserved c =
    let pushed : c.push.new.self.items ≡ c.loop.items.items ++ c.in-Ok.item ∷ [] = c.in_ok-push-in-Ok.ensures.items in
    rw (pushed, c.key.ensures)
    (goes_on c.loop.items.items (length c.args.bytes.now) c.loop.counter c.args.total c.args.full c.loop.last c.loop.rest.now c.in-Some.number c.in-Some.after.now c.in-Ok.item c.in-Ok.after.now
    (items_at (length c.args.bytes.now) c.args.total c.args.full None c.args.bytes.now) c.loop-test.true c.in-Some.ensures c.in-Some.number-test.1 c.in-Ok.ensures c.loop.invariant)

pub returns : goal.returns
returns c =
    is_out c.loop.items.items (length c.args.bytes.now) c.loop.counter c.args.total c.args.full c.loop.last c.loop.rest.now
    (items_at (length c.args.bytes.now) c.args.total c.args.full None c.args.bytes.now) c.loop-test.false c.loop.invariant
