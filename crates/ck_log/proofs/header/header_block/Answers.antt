use Rattle.std.proofs.Common.{ℕ, List, ◌++◌, replicate, ap}
use Rattle.ck_log.proofs.Headers.{written}
use Rattle.ck_log.proofs.header.header_block.Goals as goal

pub returns : goal.returns
returns c =
    written c.args.blocks c.args.records _ _ _ _ (ap (λ (t : List ℕ). t ++ replicate 4088 0) c.copy_from_slice.ensures.after) c.put_u32.ensures.put c.put_u32-2.ensures.put c.put_u32-3.ensures.put
