use Rattle.std.proofs.Common.{arith}
use Rattle.ck_model.specs.Key.{key_cmp_total, key_cmp_exact}
use Rattle.ck_model.specs.Cells.{is_new_in, is_gone_in}
use Rattle.ck_model.proofs.SizeLaws.{len-retain_keys-le}
use Rattle.ck_model.proofs.DifferenceLaws.{len-differences}
use Rattle.ck_plain.proofs.cells.PlainMap.difference_count.Goals as goal

pub overflow_add-result : goal.overflow_add-result
overflow_add-result c =
    let older = c.args.self.now in
    let newer = c.args.next.now in
    omega (arith, len-retain_keys-le key_cmp_total key_cmp_exact newer (is_new_in older newer), len-retain_keys-le key_cmp_total key_cmp_exact older (is_gone_in newer))

pub returns : goal.returns
returns c = omega (arith, len-differences c.args.self.now c.args.next.now)
