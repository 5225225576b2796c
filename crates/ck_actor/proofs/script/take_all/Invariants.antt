use Rattle.std.proofs.Common.{◌≡◌, take as list_take}
use Rattle.ck_volume.specs.Volume.{origin_of}
use Rattle.ck_actor.specs.Played.{AreTurned}
use Rattle.ck_actor.proofs.script.take_all.Given as goal

abbrev pub invariant-loop-at : goal.invariant-loop-at
invariant-loop-at g l = record {
  turned : AreTurned g.D.Disk.means (origin_of l.initial.volume) (g.C.Clock.means l.initial.clock) l.script.calls (list_take l.at l.script.turns) l.volume l.actors;
  clock : g.C.Clock.means l.clock ≡ g.C.Clock.means l.initial.clock;
}
