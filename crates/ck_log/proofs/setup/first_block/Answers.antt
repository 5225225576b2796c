use Rattle.std.proofs.Common.{ℕ, List, ◌∙◌, ap}
use Rattle.std.specs.Int.{w32, to_be_bytes}
use Rattle.ck_num.specs.Field.{with_field}
use Rattle.ck_log.specs.FirstTable.{first_block}
use Rattle.ck_log.proofs.setup.first_block.Goals as goal

pub returns : goal.returns
unfolding first_block
returns c =
    let one = to_be_bytes w32 1 in
    c.put_u32-2.ensures.put
    ∙ ap (λ (b : List ℕ). with_field b 20 one) c.put_u32.ensures.put
    ∙ ap (λ (b : List ℕ). with_field (with_field b 16 one) 20 one) c.put_u64.ensures.put
