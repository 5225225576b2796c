use Rattle.ck_laws.proofs.LawsLemmas.{order_stays_lem}
use Rattle.ck_laws.proofs.WorldLaws.{worlds_begin_lem, calls_keep_worlds_lem, worlds_stay_lem}
use Rattle.ck_laws.proofs.TableLaws.{tables_are_ordered_lem, tables_stand_lem}
use Rattle.ck_laws.proofs.laws.worlds_stay.Goals as goal

pub returns : goal.returns
returns c = record {
  begin = worlds_begin_lem;
  tables = tables_stand_lem;
  tables_in_order = tables_are_ordered_lem;
  calls = calls_keep_worlds_lem;
  histories = worlds_stay_lem;
  order = order_stays_lem;
}
