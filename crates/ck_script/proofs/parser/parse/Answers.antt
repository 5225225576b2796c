use Rattle.std.proofs.Common.{◌≡◌, subst, sym, ◌∙◌, Ok, IsTrue}
use Rattle.std.specs.List.{AllByRecursion}
use Rattle.std.proofs.lemmas.Result.{err_from_is_err_and}
use Rattle.ck_script.specs.declared.form.Form.TheVariants.{Called}
use Rattle.ck_script.specs.Built.{is_built}
use Rattle.ck_script.specs.Limits.{IsWithinLimits, AreTurns}
use Rattle.ck_script.specs.Names.{HaveValidNames}
use Rattle.ck_script.specs.Places.{HavePlaces}
use Rattle.ck_script.specs.Numbered.{IsNumbered}
use Rattle.ck_script.specs.Parsed.{Parsed, read_script}
use Rattle.ck_script.specs.Steps.{IsFaultOf}
use Rattle.ck_script.proofs.KeepsLemmas.{IsRead, script_is_read, read_within}
use Rattle.ck_script.proofs.ParsedLemmas.{read_script-is}
use Rattle.ck_script.proofs.parser.parse.Goals as goal

pub returns-in_err-tally-clause-refused : goal.returns-in_err-tally-clause-refused
returns-in_err-tally-clause-refused c =
    let p = err_from_is_err_and c.from_residual.result c.from_residual.ensures.1 in
    let same = read_script-is c.args.bytes.now c.within_limit.result.now c.long_line.result c.long_line.ensures c.within_limit.ensures.text in
    rw (p.1, p.2) (subst (λ outcome. IsFaultOf outcome c.in_err-tally.field-0.0) (sym same) c.in_err-tally.ensures.err)

pub invariant_of-result : goal.invariant_of-result
invariant_of-result c =
    let tally : Parsed = c.in_ok-tally.tally in
    let read : read_script c.args.bytes.now ≡ Ok tally =
    read_script-is c.args.bytes.now c.within_limit.result.now c.long_line.result c.long_line.ensures c.within_limit.ensures.text ∙ c.in_ok-tally.ensures.read in
    let is : IsRead tally = script_is_read c.args.bytes.now tally read in
    let calls = sym (c.of.ensures ∙ c.into_parts-lines.ensures.calls) in
    let turns = sym c.into_parts-lines.ensures.turns in
    record { numbered = subst IsNumbered calls is.numbered; within = subst IsWithinLimits calls (read_within tally is); actors = subst AreTurns turns is.turns }

pub returns-clause-built : goal.returns-clause-built
returns-clause-built c =
    let tally : Parsed = c.in_ok-tally.tally in
    let read : read_script c.args.bytes.now ≡ Ok tally =
    read_script-is c.args.bytes.now c.within_limit.result.now c.long_line.result c.long_line.ensures c.within_limit.ensures.text ∙ c.in_ok-tally.ensures.read in
    let is : IsRead tally = script_is_read c.args.bytes.now tally read in
    let calls = sym (c.of.ensures ∙ c.into_parts-lines.ensures.calls) in
    subst (AllByRecursion (λ line. IsTrue (is_built (Called line.actor line.call)))) calls is.built

pub returns-clause-checkpoint_names : goal.returns-clause-checkpoint_names
returns-clause-checkpoint_names c =
    let tally : Parsed = c.in_ok-tally.tally in
    let read : read_script c.args.bytes.now ≡ Ok tally =
    read_script-is c.args.bytes.now c.within_limit.result.now c.long_line.result c.long_line.ensures c.within_limit.ensures.text ∙ c.in_ok-tally.ensures.read in
    let is : IsRead tally = script_is_read c.args.bytes.now tally read in
    let calls = sym (c.of.ensures ∙ c.into_parts-lines.ensures.calls) in
    subst HaveValidNames calls is.names

pub returns-clause-places : goal.returns-clause-places
returns-clause-places c =
    let tally : Parsed = c.in_ok-tally.tally in
    let read : read_script c.args.bytes.now ≡ Ok tally =
    read_script-is c.args.bytes.now c.within_limit.result.now c.long_line.result c.long_line.ensures c.within_limit.ensures.text ∙ c.in_ok-tally.ensures.read in
    let is : IsRead tally = script_is_read c.args.bytes.now tally read in
    let calls = sym (c.of.ensures ∙ c.into_parts-lines.ensures.calls) in
    subst HavePlaces calls is.places
