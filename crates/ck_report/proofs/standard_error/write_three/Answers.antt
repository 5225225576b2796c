use Rattle.std.proofs.Common.{◌++◌}
use Rattle.ck_io.proofs.ByteLaws.{told_on, gains_first, gains_second}
use Rattle.ck_text.proofs.AppendLaws.{appended_two}
use Rattle.ck_report.proofs.standard_error.write_three.Goals as goal

pub returns-in_err-write_all-clause-part : goal.returns-in_err-write_all-clause-part
returns-in_err-write_all-clause-part g c = λ told.
    gains_first _ _ (c.args.first.now ++ c.args.second.now) c.args.third.now
    (gains_first _ _ c.args.first.now c.args.second.now (c.in_err-write_all.ensures.part told))

pub returns-in_err-write_all-2-clause-part : goal.returns-in_err-write_all-2-clause-part
returns-in_err-write_all-2-clause-part g c = λ told.
    gains_first _ _ (c.args.first.now ++ c.args.second.now) c.args.third.now
    (gains_second _ _ _ c.args.first.now c.args.second.now (c.in_ok-write_all.ensures.whole told)
    (c.in_err-write_all-2.ensures.part (told_on _ _ c.in_ok-write_all.ensures.tells told)))

pub returns-in_err-write_all-3-clause-part : goal.returns-in_err-write_all-3-clause-part
returns-in_err-write_all-3-clause-part g c = λ told.
    let told_then = told_on _ _ c.in_ok-write_all.ensures.tells told in
    let both = appended_two _ c.args.first.now c.args.second.now _ _ (c.in_ok-write_all.ensures.whole told) (c.in_ok-write_all-2.ensures.whole told_then) in
    gains_second _ _ _ (c.args.first.now ++ c.args.second.now) c.args.third.now both
    (c.in_err-write_all-3.ensures.part (told_on _ _ c.in_ok-write_all-2.ensures.tells told_then))

pub returns-clause-part : goal.returns-clause-part
returns-clause-part g c = λ told.
    let told_then = told_on _ _ c.in_ok-write_all.ensures.tells told in
    let both = appended_two _ c.args.first.now c.args.second.now _ _ (c.in_ok-write_all.ensures.whole told) (c.in_ok-write_all-2.ensures.whole told_then) in
    gains_second _ _ _ (c.args.first.now ++ c.args.second.now) c.args.third.now both
    (c.in_ok-write_all-3.ensures.part (told_on _ _ c.in_ok-write_all-2.ensures.tells told_then))
