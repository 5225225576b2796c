use Rattle.std.proofs.Common.{◌≡◌, ap}
use Rattle.ck_disk.specs.Disk.{Meaning}
use Rattle.ck_model.specs.TableWorld.{world_on}
use Rattle.ck_model.specs.World.{World, unmounted}
use Rattle.ck_script.specs.Parsed.{Parsed}
use Rattle.ck_data.specs.Device.{store_on}
use Rattle.ck_engine.specs.Engine.{data_of, table_of}
use Rattle.ck_volume.specs.Volume.{disk_of, world_of}
use Rattle.ck_volume.proofs.BegunLaws.{opened-recovers}
use Rattle.ck_admin.proofs.TopLemmas.{ends_opened, read_or_refused}
use Rattle.ck_admin.proofs.command.play_script.Goals as goal

pub play_volume-requires-clause-recovers : goal.play_volume-requires-clause-recovers
play_volume-requires-clause-recovers g c =
    let volume = c.in-Ok-open.volume in
    opened-recovers (g.D.Disk.means c.args.disk) (g.D.Disk.means (disk_of volume)) volume.engine (g.met.D.Disk.lawful (disk_of volume)) c.in-Ok-open.ensures.opened.files_are

pub returns-in-Ok-open-clause-ends : goal.returns-in-Ok-open-clause-ends
returns-in-Ok-open-clause-ends g c =
    let source = g.S.Source.means c.args.source.now in
    let left = g.S.Source.means c.read.new.source in
    let clock = g.C.Clock.means c.args.clock.now in
    let volume = c.in-Ok-open.volume in
    let before : Meaning = g.D.Disk.means c.args.disk in
    let mid : Meaning = g.D.Disk.means (disk_of volume) in
    let after : Meaning = g.D.Disk.means c.play_volume.result.disk in
    let opened = c.in-Ok-open.ensures.opened in
    let read : Parsed = record { calls = c.in-Ok.script.calls; turns = c.in-Ok.script.turns } in
    let w : World = world_of mid.shows volume in
    let bare : w ≡ unmounted w = ap (λ mounts. world_on (store_on mid.shows (data_of volume.engine)) mounts (table_of volume.engine)) opened.begun.mounts_are in
    ends_opened source left clock (g.K.Sink.means c.args.out.now) (g.K.Sink.means c.play_volume.new.out) before mid after (g.met.D.Disk.lawful c.args.disk) (g.met.D.Disk.lawful (disk_of volume)) read w c.play_volume.result.status
    c.in-Ok.ensures.script bare opened.files_are.recovers opened.files_are.any_moment c.play_volume.ensures.ends

pub returns-in-Ok-open-clause-bad_script : goal.returns-in-Ok-open-clause-bad_script
returns-in-Ok-open-clause-bad_script g c = λ line refused.
    absurd (read_or_refused (g.S.Source.means c.args.source.now) (record { calls = c.in-Ok.script.calls; turns = c.in-Ok.script.turns }) line c.in-Ok.ensures.script refused)

pub returns-in-Ok-open-clause-bad_script_device : goal.returns-in-Ok-open-clause-bad_script_device
returns-in-Ok-open-clause-bad_script_device g c = λ line refused.
    absurd (read_or_refused (g.S.Source.means c.args.source.now) (record { calls = c.in-Ok.script.calls; turns = c.in-Ok.script.turns }) line c.in-Ok.ensures.script refused)

pub returns-clause-bad_script : goal.returns-clause-bad_script
returns-clause-bad_script g c = λ line refused.
    absurd (read_or_refused (g.S.Source.means c.args.source.now) (record { calls = c.in-Ok.script.calls; turns = c.in-Ok.script.turns }) line c.in-Ok.ensures.script refused)

pub returns-clause-bad_script_device : goal.returns-clause-bad_script_device
returns-clause-bad_script_device g c = λ line refused.
    absurd (read_or_refused (g.S.Source.means c.args.source.now) (record { calls = c.in-Ok.script.calls; turns = c.in-Ok.script.turns }) line c.in-Ok.ensures.script refused)
