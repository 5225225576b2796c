use Rattle.std.proofs.Common.{ap, ◌∙◌}
use Rattle.ck_model.specs.Refusals.{and_then}
use Rattle.ck_model.specs.ReadCalls.{names_listed}
use Rattle.ck_model.specs.TableWorld.{checkpoint_on, world_on}
use Rattle.ck_model.specs.Step.{answered}
use Rattle.ck_model.proofs.CaseLaws.{if_ok_map}
use Rattle.ck_files.proofs.NamesLemmas.{stands_shown}
use Rattle.ck_files.proofs.names.cls.Goals as goal

pub returns-in-Ok-clause-reply : goal.returns-in-Ok-clause-reply
returns-in-Ok-clause-reply g c =
    if_ok_map _ _ c.names_in.result
    (λ reply told store.
    let t = g.M.Meta.table c.args.meta.now in
    let w = world_on store c.args.mounts.now t in
    let there = c.in-Ok.ensures.value store in
    ap (λ found. answered w (and_then found (λ checkpoint. names_listed checkpoint.cells c.args.path.now))) there.mounted
    ∙ told (checkpoint_on store t c.in-Ok.id there.fileset).cells w (stands_shown store t c.requires.lawful c.in-Ok.id there.fileset.kind))
    c.names_in.ensures.reply
