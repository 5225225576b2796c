use Rattle.std.proofs.Common.{◌≡◌, ℕ, ◌+◌, ◌-◌, ◌++◌, ◌∷◌, [], length, length-append, Ok, None, Some, ap, subst, ◌∙◌, arith}
use Rattle.ck_model.specs.declared.key.Key.{Key}
use Rattle.ck_stream.specs.Parsed.{items_at, record_at}
use Rattle.ck_stream.specs.SeenKey.{key_seen, last_seen}
use Rattle.ck_stream.specs.Seen.{counted}
use Rattle.ck_stream.proofs.Loop.{with_front, at_empty, at_end, goes_on, stops_at, is_out}
use Rattle.ck_stream.proofs.SeenLemmas.{keyed_ok, keyed_err}
use Rattle.ck_stream.proofs.summary.count_of.Goals as goal

pub returns-in-None : goal.returns-in-None
returns-in-None c =
    let at = c.loop-count in
    ap counted (at_empty at.invariant.0 (length c.args.bytes.now) at.count c.args.total c.args.full (last_seen at.last) at.rest.now
    (items_at (length c.args.bytes.now) c.args.total c.args.full None c.args.bytes.now) c.loop-count-test.true c.in-None.ensures at.invariant.2)

pub returns-in-Some-eq0-default : goal.returns-in-Some-eq0-default
returns-in-Some-eq0-default c =
    let at = c.loop-count in
    let begins = rw c.in-Some-eq0-default.field-0-0-test at c.in-Some-eq0-default.ensures in
    ap counted (at_end at.invariant.0 (length c.args.bytes.now) at.count c.args.total c.args.full (last_seen at.last) at.rest.now c.in-Some-eq0-default.after.now
    (items_at (length c.args.bytes.now) c.args.total c.args.full None c.args.bytes.now) c.loop-count-test.true begins at.invariant.2)
    ∙ ap (λ (count : ℕ). Ok (count, c.in-Some-eq0-default.after.now)) at.invariant.1

pub returns-in-Err : goal.returns-in-Err
returns-in-Err c =
    let at = c.loop-count in
    ap counted (stops_at c.in-Err.flaw c.fault_at.result c.saturating_sub.result at.invariant.0 (length c.args.bytes.now) at.count c.args.total c.args.full (last_seen at.last) at.rest.now c.in-Some.number c.in-Some.after.now
    (items_at (length c.args.bytes.now) c.args.total c.args.full None c.args.bytes.now) c.fault_at.ensures c.saturating_sub.ensures c.loop-count-test.true c.in-Some.ensures c.in-Some.number-test.1 (keyed_err (record_at c.args.full (last_seen at.last) c.in-Some.number c.in-Some.after.now) c.in-Err.flaw c.in-Err.ensures) at.invariant.2)

pub loop-count-preserved : goal.loop-count-preserved
loop-count-preserved c =
    let at = c.loop-count in
    let front = at.invariant.0 in
    let was = at.invariant.1 in
    let whole = items_at (length c.args.bytes.now) c.args.total c.args.full None c.args.bytes.now in
    let found = keyed_ok (record_at c.args.full (last_seen at.last) c.in-Some.number c.in-Some.after.now) (key_seen c.in-Ok.key) c.in-Ok.after.now c.in-Ok.ensures in
    let item = found.0 in
    let more : length (front ++ item ∷ []) ≡ at.count + 1 = omega (arith, length-append front (item ∷ [])) in (
      front ++ item ∷ [],
      more,
      subst (λ (key : Key). with_front (front ++ item ∷ []) (items_at (length c.args.bytes.now - (at.count + 1)) c.args.total c.args.full (Some key) c.in-Ok.after.now) ≡ whole) found.2
          (goes_on front (length c.args.bytes.now) at.count c.args.total c.args.full (last_seen at.last) at.rest.now c.in-Some.number c.in-Some.after.now item c.in-Ok.after.now whole c.loop-count-test.true c.in-Some.ensures c.in-Some.number-test.1 found.1 at.invariant.2),
    )

pub returns : goal.returns
returns c =
    let at = c.loop-count in
    ap counted (is_out at.invariant.0 (length c.args.bytes.now) at.count c.args.total c.args.full (last_seen at.last) at.rest.now
    (items_at (length c.args.bytes.now) c.args.total c.args.full None c.args.bytes.now) c.loop-count-test.false at.invariant.2)
