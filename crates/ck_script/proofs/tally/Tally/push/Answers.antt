use Rattle.std.proofs.Common.{◌≡◌, ◌+◌, ◌++◌, ◌∷◌, [], List, sym, ap, subst, ◌∙◌, IsTrue, arith}
use Rattle.std.specs.Prelude.{slice_index, slice_set}
use Rattle.ck_script.specs.declared.line.Line.{Line}
use Rattle.ck_script.specs.Limits.{are_within_limits}
use Rattle.ck_script.specs.Parsed.{Parsed}
use Rattle.ck_script.specs.Steps.{IsTally}
use Rattle.ck_script.proofs.TallyLemmas.{count_few, tally_more}
use Rattle.ck_script.proofs.tally.Tally.push.Goals as goal

pub overflow_add-self-3 : goal.overflow_add-self-3
overflow_add-self-3 c =
    let inside = c.self.inside in
    omega (arith, count_few inside.lines.items inside.asked inside.streams inside.counts c.args.line.actor c.self.invariant c.requires.actor)

pub invariant_of-self-2 : goal.invariant_of-self-2
invariant_of-self-2 c =
    let inside = c.self.inside in
    let line : Line = c.args.line in
    let lines : List Line = inside.lines.items in
    let same : c.args.self.now.calls ≡ lines = ap (λ (read : Parsed). read.calls) (sym c.self.view_is) in
    let within = subst (λ (lines : List Line). IsTrue (are_within_limits (lines ++ line ∷ []))) same c.requires.within in
    subst (λ (all : List Line). IsTally all (inside.asked + c.from-asked.result) (inside.streams + c.streams_by-streams.result) (slice_set inside.counts line.actor (slice_index inside.counts line.actor + 1))) (sym c.in_ok-push.ensures.items)
    (tally_more lines line inside.asked inside.streams c.from-asked.result c.streams_by-streams.result inside.counts c.self.invariant c.requires.actor
    (c.from-asked.ensures ∙ c.asked_by.ensures) c.streams_by-streams.ensures within)
