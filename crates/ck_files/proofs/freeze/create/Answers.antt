use Rattle.std.proofs.Common.{◌≡◌, ℕ, ◌+◌, sym, ap, subst, ◌∙◌, arith}
use Rattle.ck_model.specs.declared.checkpoint.Limits.{Limits}
use Rattle.ck_model.specs.declared.reply.Reply.{Reply}
use Rattle.ck_model.specs.Step.{created}
use Rattle.ck_model.specs.TableWorld.{world_on}
use Rattle.ck_model.specs.World.{World}
use Rattle.ck_files.specs.declared.given.Given.{Given}
use Rattle.ck_files.specs.Freeze.{refusal_of}
use Rattle.ck_files.specs.Room.{answered_with, answered_after, given_before}
use Rattle.ck_files.proofs.CreateLemmas.{created-refused, new_id-ok}
use Rattle.ck_files.proofs.freeze.create.Goals as goal

pub returns-in-Err-clause-reply : goal.returns-in-Err-clause-reply
returns-in-Err-clause-reply g c store mounts =
    let t = g.M.Meta.table c.args.meta.now in
    let w = world_on store mounts t in
    let name = c.args.name.now in
    subst (λ (given : Given Reply). created w name c.args.nodata c.args.removable c.args.at ≡ answered_after given.count given.answer w) (sym c.none.ensures)
    (created-refused store mounts t c.requires.files.ours name c.args.nodata c.args.removable c.args.at c.in-Err.fault (sym c.new_id.ensures ∙ c.in-Err.is)
    ∙ ap (λ (l : Limits). answered_with (refusal_of l.checkpoints c.in-Err.fault) w) (sym c.requires.limits)
    ∙ ap (λ reply. answered_with reply w) (sym c.refusal.ensures))

none_after : (given : ℕ) (reply : Reply) (next : World) → given_before given (answered_with reply next) ≡ answered_after given reply next
none_after given reply next = let same : given + 0 ≡ given = omega arith in ap (λ n. answered_after n reply next) same

pub returns-clause-reply : goal.returns-clause-reply
returns-clause-reply g c store mounts =
    let t = g.M.Meta.table c.args.meta.now in
    let name = c.args.name.now in
    let id = c.in_default.field-0 in
    c.free_record-count.ensures.given store mounts name c.args.nodata c.args.removable c.args.at id (new_id-ok store mounts t name id c.requires.files.ours.lawful (sym c.new_id.ensures ∙ c.in_default.is))
    ∙ ap (given_before c.free_record-count.result) (c.add_checkpoint-answer.ensures.reply store mounts)
    ∙ none_after c.free_record-count.result c.add_checkpoint-answer.result (world_on store mounts (g.M.Meta.table c.add_checkpoint-answer.new.meta))
