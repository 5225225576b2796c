use Rattle.ck_record.specs.Record.{fields_of, spelling}
use Rattle.ck_record.specs.Candidates.{record_in}
use Rattle.ck_record.proofs.FieldLemmas.{is_fields, within_limits, taken_again}
use Rattle.ck_record.proofs.candidate.Goals as goal

pub returns-clause-within : goal.returns-clause-within
returns-clause-within c = within_limits (record_in c.read.result) c.record_of.result c.record_of.ensures

pub returns-clause-only : goal.returns-clause-only
unfolding spelling
returns-clause-only c value is e =
    taken_again c.record_of.result c.read.result value is (c.read.ensures (fields_of value) (is_fields value is) e) c.record_of.ensures
