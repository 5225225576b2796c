use Rattle.std.proofs.Common.{◌≡◌}
use Rattle.ck_volume.specs.Volume.{origin_of, table_of}
use Rattle.ck_actor.proofs.StepLemmas.{turns_at, IsFinishing}
use Rattle.ck_actor.proofs.script.finish.Given as goal

abbrev pub invariant-loop-alloc : goal.invariant-loop-alloc
invariant-loop-alloc g l = record {
  way : IsFinishing g.D.Disk.means (origin_of l.initial.volume) (g.C.Clock.means l.initial.clock) l.script.calls l.script.turns l.line l.place l.volume l.actors;
  clock : g.C.Clock.means l.clock ≡ g.C.Clock.means l.initial.clock;
}

abbrev pub decreases-loop-alloc : goal.decreases-loop-alloc
decreases-loop-alloc g l = turns_at l.line l.place (table_of l.volume) l.actors
