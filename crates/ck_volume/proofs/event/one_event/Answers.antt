use Rattle.std.proofs.Common.{◌≡◌, ℕ, ◌+◌, Bool, List, length, Some, None, if◌then◌else◌, refl, sym, ap, subst, ◌∙◌}
use Rattle.ck_history.specs.History.{entries_of}
use Rattle.ck_model.specs.declared.call.Call.{Call}
use Rattle.ck_model.specs.declared.call.Call.TheVariants.{Create, Cread, Nodata, Removable, Remove, Sync}
use Rattle.ck_model.specs.World.{World}
use Rattle.ck_files.specs.Built.{IsBuilt}
use Rattle.ck_engine.specs.Engine.{disk_of, world_of}
use Rattle.ck_volume.specs.Event.{Answers}
use Rattle.ck_volume.specs.Present.{present}
use Rattle.ck_volume.specs.Progress.{had_of, FitsWorld, IsBegunFor, IsLastOf, IsNowOf, IsOfCall}
use Rattle.ck_volume.proofs.CutsAfter.{survives-giving, keeps-giving}
use Rattle.ck_volume.proofs.TurnLemmas.{on_same, on_more, each_reply, each_read}
use Rattle.ck_volume.proofs.event.one_event.Goals as goal

not_create : {letter at len : ℕ} {path : List (List ℕ)} {n : List ℕ} {nodata removable : Bool} (call : Call) → call ≡ Cread letter path at len → call ≡ Create n nodata removable → ⊥
not_create call is create = cc

not_remove : {letter at len : ℕ} {path : List (List ℕ)} {n : List ℕ} (call : Call) → call ≡ Cread letter path at len → call ≡ Remove n → ⊥
not_remove call is remove = cc

not_removable : {letter at len : ℕ} {path : List (List ℕ)} {n : List ℕ} {on : Bool} (call : Call) → call ≡ Cread letter path at len → call ≡ Removable n on → ⊥
not_removable call is removable = cc

not_sync : {letter at len : ℕ} {path : List (List ℕ)} (call : Call) → call ≡ Cread letter path at len → call ≡ Sync → ⊥
not_sync call is sync = cc

not_nodata : {letter at len : ℕ} {path : List (List ℕ)} {n : List ℕ} {synchronous : Bool} (call : Call) → call ≡ Cread letter path at len → call ≡ Nodata n synchronous → ⊥
not_nodata call is nodata = cc

pub read-requires-clause-limit : goal.read-requires-clause-limit
read-requires-clause-limit g c = subst IsBuilt c.in-Cread.is c.requires.built

pub read-requires-clause-begun : goal.read-requires-clause-begun
read-requires-clause-begun g c = subst (λ call. IsBegunFor call c.args.progress) c.in-Cread.is c.requires.begun

pub read-requires-clause-fits : goal.read-requires-clause-fits
read-requires-clause-fits g c = λ told.
    let w : World = world_of (g.D.Disk.means (disk_of c.args.engine.now)).shows c.args.engine.now in
    subst (λ call. FitsWorld w c.args.actor call c.args.progress) c.in-Cread.is (c.requires.fits told)

pub returns-in-Cread-clause-answers : goal.returns-in-Cread-clause-answers
returns-in-Cread-clause-answers g c =
    let w : World = world_of (g.D.Disk.means (disk_of c.args.engine.now)).shows c.args.engine.now in
    let next : World = world_of (g.D.Disk.means (disk_of c.read.new.engine)).shows c.read.new.engine in
    on_same c.read.result _ _ (λ reply h told texts. subst (λ call. Answers texts w c.args.actor c.args.moment call 0 reply next) (sym c.in-Cread.is) (h told texts c.args.moment)) c.read.ensures.answers

pub returns-in-Cread-clause-freezes : goal.returns-in-Cread-clause-freezes
returns-in-Cread-clause-freezes g c = each_reply c.read.result _ (λ reply name nodata removable is_create. absurd (not_create c.args.call.now c.in-Cread.is is_create))

pub returns-in-Cread-clause-removes : goal.returns-in-Cread-clause-removes
returns-in-Cread-clause-removes g c = each_reply c.read.result _ (λ reply name is_remove. absurd (not_remove c.args.call.now c.in-Cread.is is_remove))

pub returns-in-Cread-clause-converts : goal.returns-in-Cread-clause-converts
returns-in-Cread-clause-converts g c = each_reply c.read.result _ (λ reply name synchronous is_nodata. absurd (not_nodata c.args.call.now c.in-Cread.is is_nodata))

pub returns-in-Cread-clause-flags : goal.returns-in-Cread-clause-flags
returns-in-Cread-clause-flags g c = each_reply c.read.result _ (λ reply name on is_removable. absurd (not_removable c.args.call.now c.in-Cread.is is_removable))

pub returns-in-Cread-clause-synced : goal.returns-in-Cread-clause-synced
returns-in-Cread-clause-synced g c = each_reply c.read.result _ (λ reply is_sync. absurd (not_sync c.args.call.now c.in-Cread.is is_sync))

pub returns-in-Cread-clause-broken : goal.returns-in-Cread-clause-broken
returns-in-Cread-clause-broken g c = on_same c.read.result _ _ (λ reply h. c.requires.unbroken ∙ sym (ap (λ b. if b then Some (length (entries_of c.args.log.now.history)) else None) h)) c.read.ensures.no_write

pub returns-in-Cread-clause-last : goal.returns-in-Cread-clause-last
returns-in-Cread-clause-last g c = on_same c.read.result _ _ (λ reply h. subst (λ call. IsLastOf call reply (had_of c.args.progress + 1)) (sym c.in-Cread.is) h) c.read.ensures.last

pub returns-in-Cread-clause-log : goal.returns-in-Cread-clause-log
returns-in-Cread-clause-log g c = each_read c.read.result _ (λ read. refl)

pub returns-in-Cread-clause-reading : goal.returns-in-Cread-clause-reading
returns-in-Cread-clause-reading g c = each_read c.read.result _ (λ read. c.read.ensures.reading c.args.log.now)

pub returns-in-Cread-clause-begun : goal.returns-in-Cread-clause-begun
returns-in-Cread-clause-begun g c = on_more c.read.result _ _ (λ read h. subst (λ call. IsOfCall call read) (sym c.in-Cread.is) h) c.read.ensures.begun

pub returns-in-Cread-clause-fits : goal.returns-in-Cread-clause-fits
returns-in-Cread-clause-fits g c =
    let w : World = world_of (g.D.Disk.means (disk_of c.args.engine.now)).shows c.args.engine.now in
    on_more c.read.result _ _ (λ read h told. subst (λ call. IsNowOf w c.args.actor call read) (sym c.in-Cread.is) (h told)) c.read.ensures.fits

pub returns-in-Cread-clause-survives : goal.returns-in-Cread-clause-survives
returns-in-Cread-clause-survives g c =
    survives-giving 0 (g.D.Disk.means (disk_of c.args.engine.now)) (g.D.Disk.means (disk_of c.read.new.engine)) (present c.args.engine.now c.args.log.now) (c.read.ensures.reading c.args.log.now).survives

pub returns-in-Cread-clause-kept : goal.returns-in-Cread-clause-kept
returns-in-Cread-clause-kept g c = λ _ told w keeps.
    let before = c.args.engine.now in
    let old = g.D.Disk.means (disk_of before) in
    keeps-giving 0 (g.D.Disk.means (disk_of c.read.new.engine)) (present c.read.new.engine c.args.log.now) w (world_of old.shows before) ((c.read.ensures.reading c.args.log.now).kept told w keeps)
