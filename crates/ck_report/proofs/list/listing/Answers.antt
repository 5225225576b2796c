use Rattle.std.proofs.Common.{◌+◌, List, drop, subst}
use Rattle.std.proofs.lemmas.List.{drop_all}
use Rattle.ck_model.specs.declared.checkpoint.CkptLine.{CkptLine}
use Rattle.ck_report.proofs.ListLemmas.{IsBegun, begun_more, listed, drop_item}
use Rattle.ck_report.proofs.list.listing.Goals as goal

pub loop-line-preserved : goal.loop-line-preserved
loop-line-preserved c =
    let lines : List CkptLine = c.args.lines.now in
    let at = c.loop-line.line-index in
    let line : CkptLine = c.line-item.result in
    let now = subst (IsBegun lines c.loop-line.text.items) (drop_item lines at line c.loop-line-test.true c.line-item.is) c.loop-line.invariant in
    let next = c.in_ok-put_listed.ensures in
    begun_more lines c.loop-line.text.items c.put_listed.new.out.items line (drop (at + 1) lines) now next.0 next.1 next.2

pub returns : goal.returns
returns c =
    let lines : List CkptLine = c.args.lines.now in
    listed lines c.loop-line.text.items (subst (IsBegun lines c.loop-line.text.items) (drop_all c.loop-line.line-index lines c.loop-line-test.false) c.loop-line.invariant)
