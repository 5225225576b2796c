use Rattle.std.proofs.Common.{◌≡◌, ◌<◌, true, length, get_or, take, Some, map as list_map, refl, sym, ap, ◌∙◌, arith, rules}
use Rattle.std.specs.Option.{option_map}
use Rattle.std.specs.List.{find, remove, slice_get}
use Rattle.std.proofs.lemmas.List.{get_or_default}
use Rattle.std.proofs.lemmas.Option.{slice_get_read}
use Rattle.ck_model.specs.World.{World, is_named, keeps_files}
use Rattle.ck_model.specs.CheckpointCalls.{older_than}
use Rattle.ck_plain.specs.declared.answer.Answer.{Answer}
use Rattle.ck_plain.specs.declared.world.PlainCheckpoint.{PlainCheckpoint}
use Rattle.ck_plain.specs.Plain.{checkpoint_of, world_of}
use Rattle.ck_plain.specs.Outcome.{outcome_with}
use Rattle.ck_plain.proofs.Restored.{restored-is, take-remove}
use Rattle.ck_plain.proofs.world.Plain.restore.Goals as goal

pub returns : goal.returns
returns c =
    let plain = c.args.self.now in
    let all = plain.checkpoints.items in
    let name = c.args.name.now in
    let place = c.place_named-place.result in
    let gone = c.remove-checkpoint.result in
    let within : place < length all = search rules in
    let found : find (is_named name) (list_map checkpoint_of all) ≡ Some (checkpoint_of gone) =
    sym (rw c.deref.ensures.value at c.place_named-place.ensures.found)
    ∙ ap (option_map checkpoint_of) (slice_get_read all (length all) place gone refl within c.remove-checkpoint.ensures.value) in
    let kept : keeps_files c.index.result.now.kind ≡ true = search rules in
    let same : c.index.result.now ≡ gone = c.index.ensures ∙ get_or_default all place c.index.result.now gone within ∙ sym c.remove-checkpoint.ensures.value in
    let keeps : keeps_files gone.kind ≡ true = sym (ap (λ (x : PlainCheckpoint). keeps_files x.kind) same) ∙ kept in
    let rest : list_map checkpoint_of c.truncate.new.self.items ≡ older_than (world_of plain) name =
    ap (list_map checkpoint_of) (c.truncate.ensures.items ∙ ap (take place) c.remove-checkpoint.ensures.items ∙ take-remove all place within)
    ∙ rw c.deref.ensures.value at c.place_named-place.ensures.older in
    let next : World = record (world_of plain) { primary = gone.cells; checkpoints = list_map checkpoint_of c.truncate.new.self.items } in
    restored-is (world_of plain) name (checkpoint_of gone) (list_map checkpoint_of c.truncate.new.self.items) found keeps rest
    ∙ ap (λ (answer : Answer). outcome_with answer next) (sym c.told-2.ensures)
