use Rattle.std.proofs.Common.{◌≡◌}
use Rattle.ck_volume.specs.Volume.{origin_of}
use Rattle.ck_actor.specs.Played.{AreFinished}
use Rattle.ck_actor.proofs.script.finish_all.Given as goal

abbrev pub invariant-loop-line : goal.invariant-loop-line
invariant-loop-line g l = record {
  finished : AreFinished g.D.Disk.means (origin_of l.initial.volume) (g.C.Clock.means l.initial.clock) l.script.calls l.script.turns l.line l.volume l.actors;
  clock : g.C.Clock.means l.clock ≡ g.C.Clock.means l.initial.clock;
}
