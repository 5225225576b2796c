use Rattle.std.proofs.Common.{◌≡◌, ◌-◌, ◌≤◌, ◌++◌, vec_len, IsTrue}
use Rattle.ck_io.proofs.whole.read_pieces.Given as goal

abbrev pub invariant-loop-bytes : goal.invariant-loop-bytes
invariant-loop-bytes g l = record {
  within : vec_len l.bytes ≤ l.most;
  none_lost : IsTrue (g.S.Source.means l.fn.source).tells → (g.S.Source.means l.fn.source).left ≡ l.bytes.items ++ (g.S.Source.means l.source).left;
  tells : (g.S.Source.means l.source).tells ≡ (g.S.Source.means l.fn.source).tells;
  faults : (g.S.Source.means l.fn.source).faults ≤ (g.S.Source.means l.source).faults;
}

abbrev pub decreases-loop-bytes : goal.decreases-loop-bytes
decreases-loop-bytes g l = l.most - vec_len l.bytes
