use Rattle.std.proofs.Common.{sym, ap, subst, ◌∙◌}
use Rattle.std.specs.Option.{option_map}
use Rattle.ck_model.specs.Table.{record_count, with_fileset}
use Rattle.ck_model.specs.Chain.{keeps_data, live_ids, value_of, seen}
use Rattle.ck_model.specs.Rules.{IsSound}
use Rattle.ck_table.specs.Flags.{as_nodata}
use Rattle.ck_table.proofs.FlagLaws.{sound-with_nodata, live_ids-with_nodata, value-with_nodata, seen-with_nodata, keeps-with_nodata, record_count-with_nodata}
use Rattle.ck_table.proofs.flags.set_nodata.Goals as goal

pub returns-clause-sound : goal.returns-clause-sound
returns-clause-sound g c =
    let t = g.M.Meta.table c.args.meta.now in
    let same = c.put_fileset.ensures ∙ ap (λ o. with_fileset t c.args.id (option_map as_nodata o)) (sym c.unwrap-fileset.ensures ∙ c.fileset.ensures) in
    subst IsSound (sym same) (sound-with_nodata t c.args.id c.requires.live c.requires.sound)

pub returns-clause-lives : goal.returns-clause-lives
returns-clause-lives g c =
    let t = g.M.Meta.table c.args.meta.now in
    let same = c.put_fileset.ensures ∙ ap (λ o. with_fileset t c.args.id (option_map as_nodata o)) (sym c.unwrap-fileset.ensures ∙ c.fileset.ensures) in
    ap live_ids same ∙ live_ids-with_nodata t c.args.id c.requires.live

pub returns-clause-values : goal.returns-clause-values
returns-clause-values g c fs key =
    let t = g.M.Meta.table c.args.meta.now in
    let same = c.put_fileset.ensures ∙ ap (λ o. with_fileset t c.args.id (option_map as_nodata o)) (sym c.unwrap-fileset.ensures ∙ c.fileset.ensures) in
    ap (λ u. value_of u fs key) same ∙ value-with_nodata t c.args.id c.requires.live fs key

pub returns-clause-kept : goal.returns-clause-kept
returns-clause-kept g c fs key differs live =
    let t = g.M.Meta.table c.args.meta.now in
    let same = c.put_fileset.ensures ∙ ap (λ o. with_fileset t c.args.id (option_map as_nodata o)) (sym c.unwrap-fileset.ensures ∙ c.fileset.ensures) in
    ap (λ u. seen u fs key) same ∙ seen-with_nodata t c.args.id c.requires.live (g.met.M.Meta.lawful c.args.meta.now) fs key differs live

pub returns-clause-no_data : goal.returns-clause-no_data
returns-clause-no_data g c fs none =
    let t = g.M.Meta.table c.args.meta.now in
    let same = c.put_fileset.ensures ∙ ap (λ o. with_fileset t c.args.id (option_map as_nodata o)) (sym c.unwrap-fileset.ensures ∙ c.fileset.ensures) in
    ap (λ u. keeps_data u fs) same ∙ keeps-with_nodata t c.args.id c.requires.live fs none

pub returns-clause-count : goal.returns-clause-count
returns-clause-count g c =
    let t = g.M.Meta.table c.args.meta.now in
    let same = c.put_fileset.ensures ∙ ap (λ o. with_fileset t c.args.id (option_map as_nodata o)) (sym c.unwrap-fileset.ensures ∙ c.fileset.ensures) in
    ap record_count same ∙ record_count-with_nodata t c.args.id c.requires.live
