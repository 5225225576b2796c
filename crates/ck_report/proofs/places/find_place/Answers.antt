use Rattle.std.proofs.Common.{ap, ◌∙◌}
use Rattle.std.specs.Option.{option_map}
use Rattle.ck_report.proofs.CallLemmas.{call_of, call_among-is, call_found}
use Rattle.ck_report.proofs.places.find_place.Goals as goal

pub returns-in-Some-clause-call : goal.returns-in-Some-clause-call
returns-in-Some-clause-call c = call_found c.args.actor c.args.seq c.args.start c.in-Some.place c.args.lines.now c.requires c.in-Some.ensures.within c.in-Some.ensures.first

pub returns-in-None-clause-call : goal.returns-in-None-clause-call
returns-in-None-clause-call c = ap (option_map call_of) c.find_from-in-None.ensures.first ∙ call_among-is c.args.actor c.args.seq c.args.lines.now c.requires
