use Rattle.std.proofs.Common.{◌+◌, sym, ap, subst, ◌∙◌}
use Rattle.ck_model.specs.Table.{record_count}
use Rattle.ck_model.specs.Chain.{live_ids, value_of, seen}
use Rattle.ck_model.specs.Rules.{IsSound}
use Rattle.ck_table.proofs.LeaveLaws.{sound-unlinked, live_ids-unlinked, value-unlinked, seen-unlinked, record_count-unlinked}
use Rattle.ck_table.proofs.gone.unlink.Goals as goal

pub returns-clause-sound : goal.returns-clause-sound
returns-clause-sound g c = subst IsSound (sym c.del_fileset.ensures) (sound-unlinked (g.M.Meta.table c.args.meta.now) c.args.id c.requires.gone c.requires.empty c.requires.sound)

pub returns-clause-lives : goal.returns-clause-lives
returns-clause-lives g c = ap live_ids c.del_fileset.ensures ∙ live_ids-unlinked (g.M.Meta.table c.args.meta.now) c.args.id c.requires.gone c.requires.empty

pub returns-clause-values : goal.returns-clause-values
returns-clause-values g c fs key = ap (λ u. value_of u fs key) c.del_fileset.ensures ∙ value-unlinked (g.M.Meta.table c.args.meta.now) c.args.id c.requires.empty fs key

pub returns-clause-kept : goal.returns-clause-kept
returns-clause-kept g c fs key = ap (λ u. seen u fs key) c.del_fileset.ensures ∙ seen-unlinked (g.M.Meta.table c.args.meta.now) c.args.id c.requires.gone c.requires.empty fs key

pub returns-clause-count : goal.returns-clause-count
returns-clause-count g c = ap (λ u. record_count u + 1) c.del_fileset.ensures ∙ record_count-unlinked (g.M.Meta.table c.args.meta.now) c.args.id c.requires.gone
