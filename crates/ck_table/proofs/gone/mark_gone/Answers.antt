use Rattle.std.proofs.Common.{sym, ap, subst, ◌∙◌}
use Rattle.std.specs.Option.{option_map}
use Rattle.ck_model.specs.Table.{IsTable, record_count, with_fileset}
use Rattle.ck_model.specs.Chain.{keeps_data, live_ids, value_of, seen}
use Rattle.ck_model.specs.Rules.{IsSound}
use Rattle.ck_table.specs.Gone.{as_gone}
use Rattle.ck_table.proofs.LeaveLaws.{sound-with_gone, live_ids-with_gone, value-with_gone, seen-with_gone, keeps-with_gone, record_count-with_gone}
use Rattle.ck_table.proofs.gone.mark_gone.Goals as goal

pub returns-clause-sound : goal.returns-clause-sound
returns-clause-sound g c =
    let t = g.M.Meta.table c.args.meta.now in
    let same = c.put_fileset.ensures ∙ ap (λ o. with_fileset t c.args.id (option_map as_gone o)) (sym c.unwrap-fileset.ensures ∙ c.fileset.ensures) in
    subst IsSound (sym same) (sound-with_gone t c.args.id c.requires.live c.requires.sound)

pub returns-clause-lives : goal.returns-clause-lives
returns-clause-lives g c =
    let t = g.M.Meta.table c.args.meta.now in
    let same = c.put_fileset.ensures ∙ ap (λ o. with_fileset t c.args.id (option_map as_gone o)) (sym c.unwrap-fileset.ensures ∙ c.fileset.ensures) in
    ap live_ids same ∙ live_ids-with_gone t c.args.id c.requires.live

pub returns-clause-values : goal.returns-clause-values
returns-clause-values g c fs key =
    let t = g.M.Meta.table c.args.meta.now in
    let same = c.put_fileset.ensures ∙ ap (λ o. with_fileset t c.args.id (option_map as_gone o)) (sym c.unwrap-fileset.ensures ∙ c.fileset.ensures) in
    ap (λ u. value_of u fs key) same ∙ value-with_gone t c.args.id c.requires.live fs key

pub returns-clause-kept : goal.returns-clause-kept
returns-clause-kept g c fs key differs live =
    let t = g.M.Meta.table c.args.meta.now in
    let same = c.put_fileset.ensures ∙ ap (λ o. with_fileset t c.args.id (option_map as_gone o)) (sym c.unwrap-fileset.ensures ∙ c.fileset.ensures) in
    let after = subst IsTable same (g.met.M.Meta.lawful c.put_fileset.new.self) in
    ap (λ u. seen u fs key) same ∙ seen-with_gone t c.args.id c.requires.live (g.met.M.Meta.lawful c.args.meta.now) after fs key differs live

pub returns-clause-count : goal.returns-clause-count
returns-clause-count g c =
    let t = g.M.Meta.table c.args.meta.now in
    let same = c.put_fileset.ensures ∙ ap (λ o. with_fileset t c.args.id (option_map as_gone o)) (sym c.unwrap-fileset.ensures ∙ c.fileset.ensures) in
    ap record_count same ∙ record_count-with_gone t c.args.id c.requires.live

pub returns-clause-no_data : goal.returns-clause-no_data
returns-clause-no_data g c fs none =
    let t = g.M.Meta.table c.args.meta.now in
    let same = c.put_fileset.ensures ∙ ap (λ o. with_fileset t c.args.id (option_map as_gone o)) (sym c.unwrap-fileset.ensures ∙ c.fileset.ensures) in
    ap (λ u. keeps_data u fs) same ∙ keeps-with_gone t c.args.id c.requires.live fs none
