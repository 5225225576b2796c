use Rattle.std.proofs.Common.{◌∷◌, [], ◌++◌, refl, sym, ap, subst, ◌∙◌}
use Rattle.ck_model.specs.Table.{record_count}
use Rattle.ck_model.specs.Chain.{live_ids, value_of, seen}
use Rattle.ck_model.specs.Rules.{IsSound}
use Rattle.ck_table.specs.Added.{new_fileset}
use Rattle.ck_table.proofs.AddLemmas.{allows, sound-added, live_ids-added, value-added, seen-added, record_count-added}
use Rattle.ck_table.proofs.added.add.Goals as goal

pub returns-clause-sound : goal.returns-clause-sound
returns-clause-sound g c =
    let t = g.M.Meta.table c.args.meta.now in
    let allowed = allows t c.args.name.now c.in_ok-id.id (sym c.new_id.ensures ∙ c.in_ok-id.was) in
    subst IsSound (sym c.enter.ensures) (sound-added t (new_fileset c.args.name.now c.args.kind c.args.removable c.args.at) (g.met.M.Meta.lawful c.args.meta.now) c.requires.sound refl allowed.free allowed.few)

pub returns-clause-lives : goal.returns-clause-lives
returns-clause-lives g c =
    let t = g.M.Meta.table c.args.meta.now in
    let allowed = allows t c.args.name.now c.in_ok-id.id (sym c.new_id.ensures ∙ c.in_ok-id.was) in
    ap live_ids c.enter.ensures
    ∙ live_ids-added t (new_fileset c.args.name.now c.args.kind c.args.removable c.args.at) (g.met.M.Meta.lawful c.args.meta.now) c.requires.sound.orderly refl
    ∙ ap (λ id. live_ids t ++ id ∷ []) allowed.next

pub returns-clause-contents : goal.returns-clause-contents
returns-clause-contents g c key =
    let t = g.M.Meta.table c.args.meta.now in
    let allowed = allows t c.args.name.now c.in_ok-id.id (sym c.new_id.ensures ∙ c.in_ok-id.was) in
    ap (λ id. value_of (g.M.Meta.table c.enter.new.meta) id key) (sym allowed.next)
    ∙ ap (λ u. value_of u t.counters.id key) c.enter.ensures
    ∙ value-added t (new_fileset c.args.name.now c.args.kind c.args.removable c.args.at) (g.met.M.Meta.lawful c.args.meta.now) c.requires.sound.orderly key

pub returns-clause-kept : goal.returns-clause-kept
returns-clause-kept g c fs key live =
    let t = g.M.Meta.table c.args.meta.now in
    ap (λ u. seen u fs key) c.enter.ensures
    ∙ seen-added t (new_fileset c.args.name.now c.args.kind c.args.removable c.args.at) (g.met.M.Meta.lawful c.args.meta.now) c.requires.sound.orderly fs key live

pub returns-clause-count : goal.returns-clause-count
returns-clause-count g c =
    ap record_count c.enter.ensures ∙ record_count-added (g.M.Meta.table c.args.meta.now) (new_fileset c.args.name.now c.args.kind c.args.removable c.args.at) c.requires.sound.orderly
