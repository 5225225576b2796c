use Rattle.std.proofs.Common.{◌+◌, ◌-◌, ◌≤◌, List, ℕ, length, set, ap, ◌∙◌, arith}
use borrow.Rule.Slice.PartMut.{put_mid}
use Rattle.ck_record.proofs.SpelledLemmas.{put_counted, put_none}
use Rattle.ck_record.proofs.fields.put_name.Goals as goal

pub returns-in-Some-clause-put : goal.returns-in-Some-clause-put
returns-in-Some-clause-put c =
    let bytes = c.args.bytes.now in
    let text = c.bytes-text.result.now in
    let fits : 25 + length text ≤ length bytes = omega (arith, c.bytes-text.ensures.name.few, c.told-bytes) in
    ap (λ (t : List ℕ). put_mid 25 (25 + length text - 25) (set bytes 24 (length text)) t) c.copy_from_slice.ensures.after
    ∙ put_counted bytes text fits ∙ rw (c.bytes-text.ensures.bytes, c.in-Some.is)

pub returns-in-None-clause-put : goal.returns-in-None-clause-put
returns-in-None-clause-put c =
    put_none c.args.bytes.now (omega (arith, c.told-bytes)) ∙ rw c.in-None.is
