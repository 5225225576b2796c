use Rattle.std.proofs.Common.{sym, ap, subst, ◌∙◌}
use Rattle.std.specs.Option.{option_map}
use Rattle.ck_model.specs.Table.{record_count, with_fileset}
use Rattle.ck_model.specs.Chain.{keeps_data, live_ids, value_of, seen}
use Rattle.ck_model.specs.Rules.{IsSound}
use Rattle.ck_table.specs.Flags.{as_removable}
use Rattle.ck_table.proofs.FlagLaws.{sound-with_removable, live_ids-with_removable, value-with_removable, seen-with_removable, keeps-with_removable, record_count-with_removable}
use Rattle.ck_table.proofs.flags.set_removable.Goals as goal

pub returns-clause-sound : goal.returns-clause-sound
returns-clause-sound g c =
    let t = g.M.Meta.table c.args.meta.now in
    let same = c.put_fileset.ensures ∙ ap (λ o. with_fileset t c.args.id (option_map (as_removable c.args.on) o)) (sym c.unwrap-fileset.ensures ∙ c.fileset.ensures) in
    subst IsSound (sym same) (sound-with_removable t c.args.id c.args.on c.requires.live c.requires.sound)

pub returns-clause-lives : goal.returns-clause-lives
returns-clause-lives g c =
    let t = g.M.Meta.table c.args.meta.now in
    let same = c.put_fileset.ensures ∙ ap (λ o. with_fileset t c.args.id (option_map (as_removable c.args.on) o)) (sym c.unwrap-fileset.ensures ∙ c.fileset.ensures) in
    ap live_ids same ∙ live_ids-with_removable t c.args.id c.args.on c.requires.live

pub returns-clause-values : goal.returns-clause-values
returns-clause-values g c fs key =
    let t = g.M.Meta.table c.args.meta.now in
    let same = c.put_fileset.ensures ∙ ap (λ o. with_fileset t c.args.id (option_map (as_removable c.args.on) o)) (sym c.unwrap-fileset.ensures ∙ c.fileset.ensures) in
    ap (λ u. value_of u fs key) same ∙ value-with_removable t c.args.id c.args.on c.requires.live fs key

pub returns-clause-kept : goal.returns-clause-kept
returns-clause-kept g c fs key =
    let t = g.M.Meta.table c.args.meta.now in
    let same = c.put_fileset.ensures ∙ ap (λ o. with_fileset t c.args.id (option_map (as_removable c.args.on) o)) (sym c.unwrap-fileset.ensures ∙ c.fileset.ensures) in
    ap (λ u. seen u fs key) same ∙ seen-with_removable t c.args.id c.args.on c.requires.live fs key

pub returns-clause-keeps : goal.returns-clause-keeps
returns-clause-keeps g c fs =
    let t = g.M.Meta.table c.args.meta.now in
    let same = c.put_fileset.ensures ∙ ap (λ o. with_fileset t c.args.id (option_map (as_removable c.args.on) o)) (sym c.unwrap-fileset.ensures ∙ c.fileset.ensures) in
    ap (λ u. keeps_data u fs) same ∙ keeps-with_removable t c.args.id c.args.on c.requires.live fs

pub returns-clause-count : goal.returns-clause-count
returns-clause-count g c =
    let t = g.M.Meta.table c.args.meta.now in
    let same = c.put_fileset.ensures ∙ ap (λ o. with_fileset t c.args.id (option_map (as_removable c.args.on) o)) (sym c.unwrap-fileset.ensures ∙ c.fileset.ensures) in
    ap record_count same ∙ record_count-with_removable t c.args.id c.args.on c.requires.live
