use Rattle.std.proofs.Common.{◌≡◌, ℕ, ◌+◌, IfSome, length, sym, ap, subst, ◌∙◌}
use Rattle.ck_model.specs.World.{World}
use Rattle.ck_read.specs.Mounted.{IsReadIn}
use Rattle.ck_read.specs.Progress.{had_by, turns_of, IsOnWay}
use Rattle.ck_engine.specs.Engine.{disk_of, world_of}
use Rattle.ck_volume.proofs.TurnLemmas.{on_reply, on_both, on_read, no_write, no_refusal, no_cause, answers-read, had_is, begun_is, fits_is, last_is}
use Rattle.ck_model.specs.declared.reply.Reply.{Reply}
use Rattle.ck_engine.specs.ReadAnswer.{bytes_in}
use Rattle.ck_volume.proofs.event.read.Goals as goal

last-had : {m n : ℕ} (at : ℕ) → m ≡ n → (reply : Reply) → IfSome (bytes_in reply) (λ bytes. m + 1 ≡ turns_of at (length bytes)) → IfSome (bytes_in reply) (λ bytes. n + 1 ≡ turns_of at (length bytes))
last-had at is reply h = subst (λ k. IfSome (bytes_in reply) (λ bytes. k + 1 ≡ turns_of at (length bytes))) is h

pub cread-requires-clause-on_way : goal.cread-requires-clause-on_way
cread-requires-clause-on_way g c = subst (λ o. IfSome o (IsOnWay c.args.at)) (sym c.into_read.ensures) (begun_is c.args.letter c.args.path.now c.args.at c.args.len c.args.progress c.requires.begun)

pub returns-in-Ok-clause-answers : goal.returns-in-Ok-clause-answers
returns-in-Ok-clause-answers g c =
    let w : World = world_of (g.D.Disk.means (disk_of c.args.engine.now)).shows c.args.engine.now in
    let next : World = world_of (g.D.Disk.means (disk_of c.cread.new.self)).shows c.cread.new.self in
    on_both c.in-Ok.turn _ _ _
    (λ reply is ordinary told texts moment.
    let begun : IfSome c.into_read.result (IsReadIn w c.args.actor c.args.letter c.args.path.now c.args.at c.args.len) =
    subst (λ o. IfSome o (IsReadIn w c.args.actor c.args.letter c.args.path.now c.args.at c.args.len)) (sym c.into_read.ensures) (fits_is w c.args.actor c.args.letter c.args.path.now c.args.at c.args.len c.args.progress (c.requires.fits told)) in
    answers-read w next c.args.actor c.args.letter c.args.path.now c.args.at c.args.len reply (is told begun) ordinary (c.in-Ok.ensures.world told) texts moment)
    c.in-Ok.ensures.replied c.in-Ok.ensures.ordinary

pub returns-in-Ok-clause-no_write : goal.returns-in-Ok-clause-no_write
returns-in-Ok-clause-no_write g c = on_reply c.in-Ok.turn _ _ no_write c.in-Ok.ensures.ordinary

pub returns-in-Ok-clause-not_refused : goal.returns-in-Ok-clause-not_refused
returns-in-Ok-clause-not_refused g c = on_reply c.in-Ok.turn _ _ no_refusal c.in-Ok.ensures.ordinary

pub returns-in-Ok-clause-cause : goal.returns-in-Ok-clause-cause
returns-in-Ok-clause-cause g c = on_reply c.in-Ok.turn _ _ (no_cause (g.D.Disk.means (disk_of c.args.engine.now)) (g.D.Disk.means (disk_of c.cread.new.self))) c.in-Ok.ensures.ordinary

pub returns-in-Ok-clause-last : goal.returns-in-Ok-clause-last
returns-in-Ok-clause-last g c =
    let had = ap had_by c.into_read.ensures ∙ had_is c.args.progress in
    on_reply c.in-Ok.turn _ _ (λ reply h. last_is c.args.letter c.args.path.now c.args.at c.args.len _ reply (last-had c.args.at had reply h)) c.in-Ok.ensures.last

pub returns-in-Ok-clause-begun : goal.returns-in-Ok-clause-begun
returns-in-Ok-clause-begun g c = on_read c.in-Ok.turn _ _ (λ read h. h.0) c.in-Ok.ensures.more

pub returns-in-Ok-clause-turns : goal.returns-in-Ok-clause-turns
returns-in-Ok-clause-turns g c =
    let had = ap had_by c.into_read.ensures ∙ had_is c.args.progress in
    on_read c.in-Ok.turn _ _ (λ read h. h.1 ∙ ap (λ n. n + 1) had) c.in-Ok.ensures.more

pub returns-in-Ok-clause-fits : goal.returns-in-Ok-clause-fits
returns-in-Ok-clause-fits g c =
    let w : World = world_of (g.D.Disk.means (disk_of c.args.engine.now)).shows c.args.engine.now in
    on_read c.in-Ok.turn _ _
    (λ read h told.
    h told (subst (λ o. IfSome o (IsReadIn w c.args.actor c.args.letter c.args.path.now c.args.at c.args.len)) (sym c.into_read.ensures) (fits_is w c.args.actor c.args.letter c.args.path.now c.args.at c.args.len c.args.progress (c.requires.fits told))))
    c.in-Ok.ensures.fits
