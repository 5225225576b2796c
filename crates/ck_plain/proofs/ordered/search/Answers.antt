use Rattle.std.proofs.Common.{◌≡◌, ℕ, suc, ◌<◌, ◌∷◌, List, length, get_or, drop, sym, ap, ◌∙◌, arith, drop-cons}
use Rattle.std.proofs.lemmas.List.{get_or_default}
use Rattle.ck_model.specs.declared.key.Key.{Key}
use Rattle.ck_model.specs.declared.cell.Cell.{Cell}
use Rattle.ck_model.specs.Key.{key_cmp_total, key_cmp_exact}
use Rattle.ck_model.proofs.PlaceLaws.{found_here, absent_here}
use Rattle.ck_plain.proofs.ordered.search.Goals as goal

module _ (es : List (Key × Cell)) (at : ℕ) (e : Key × Cell) (within : at < length es) (is : e ≡ get_or es at e) where
  here : drop at es ≡ e ∷ drop (suc at) es
  here = drop-cons es at e within ∙ ap (λ x. x ∷ drop (suc at) es) (sym is)

  each : (d : Key × Cell) → get_or es at d ≡ e
  each d = get_or_default es at d e within ∙ sym is

pub returns-in-Equal-clause-found : goal.returns-in-Equal-clause-found
returns-in-Equal-clause-found c =
    let es = c.args.entries.now in
    let e = c.index-entries-at.result in
    let within : c.loop-at.at < length es = omega arith in
    found_here key_cmp_total key_cmp_exact c.args.key.now es c.loop-at.at e (here es c.loop-at.at e within c.index-entries-at.is) c.loop-at.invariant.place c.loop-at.invariant.sorted within (each es c.loop-at.at e within c.index-entries-at.is) (sym c.in-Equal.ensures)

pub returns-in-Less-clause-absent : goal.returns-in-Less-clause-absent
returns-in-Less-clause-absent c =
    let es = c.args.entries.now in
    let e = c.index-entries-at.result in
    let within : c.loop-at.at < length es = omega arith in
    absent_here key_cmp_total key_cmp_exact c.args.key.now es c.loop-at.at e (here es c.loop-at.at e within c.index-entries-at.is) c.loop-at.invariant.place c.loop-at.invariant.sorted within c.loop-at.invariant.found (sym c.in-Less.ensures)
