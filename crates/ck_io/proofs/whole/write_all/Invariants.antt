use Rattle.std.proofs.Common.{length, take, ◌-◌, ◌≡◌, ◌≤◌, ◌++◌, IsTrue}
use Rattle.ck_io.proofs.whole.write_all.Given as goal

abbrev pub invariant-loop-written : goal.invariant-loop-written
invariant-loop-written g l = record {
  within : l.written ≤ length l.bytes;
  holds : IsTrue (g.K.Sink.means l.fn.sink).tells → (g.K.Sink.means l.sink).holds ≡ (g.K.Sink.means l.fn.sink).holds ++ take l.written l.bytes;
  tells : (g.K.Sink.means l.sink).tells ≡ (g.K.Sink.means l.fn.sink).tells;
  faults : (g.K.Sink.means l.fn.sink).faults ≤ (g.K.Sink.means l.sink).faults;
}

abbrev pub decreases-loop-written : goal.decreases-loop-written
decreases-loop-written g l = length l.bytes - l.written
