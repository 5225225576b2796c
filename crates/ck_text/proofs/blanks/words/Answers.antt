use Rattle.std.proofs.Common.{◌≤◌, arith}
use Rattle.ck_text.proofs.WordsLemmas.{next_found, next_within, next_before, next_apart}
use Rattle.ck_text.proofs.blanks.words.Goals as goal

pub loop-at-preserved : goal.loop-at-preserved
loop-at-preserved c =
    let line = c.args.line.now in
    let places = c.loop-at.words.items in
    let at = c.loop-at.at in
    let end = c.word_end-end.result in
    let is = c.word_end-end.ensures in
    let found = c.loop-at.invariant in
    let later : at ≤ end = omega (arith, is.end) in
    rw c.in_ok-push_word.ensures
    (record {
      found = next_found line places at end is.end is.within found.found;
      within = next_within line places at end is.within found.within;
      before = next_before places at end later found.before;
      apart = next_apart places at end found.before found.apart;
    })
