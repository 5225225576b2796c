use Rattle.std.proofs.Common.{◌≡◌, ◌+◌, take, length, sym, ap, ◌∙◌}
use Rattle.std.proofs.Math.Seq.{take-append_seam}
use Rattle.ck_script.specs.Parsed.{read_script}
use Rattle.ck_script.proofs.ScriptLaws.{read_script-take}
use Rattle.ck_admin.proofs.read.read_bytes.Goals as goal

pub returns-in-Err-TooLong-clause-read : goal.returns-in-Err-TooLong-clause-read
returns-in-Err-TooLong-clause-read g c = λ told.
    let bytes = c.in-Err-TooLong.bytes.items in
    let carried = rw c.in-Err-TooLong.field-0-is at c.in-Err-TooLong.ensures.carried in
    let one_more = rw c.in-Err-TooLong.field-0-is at c.in-Err-TooLong.ensures.one_more in
    let parts = carried told in
    let front : take (16777216 + 1) (g.S.Source.means c.args.source.now).left ≡ bytes =
    ap (λ n. take n (g.S.Source.means c.args.source.now).left) (sym one_more) ∙ ap (take (length bytes)) parts ∙ take-append_seam bytes _ in
    ap read_script (sym front) ∙ read_script-take (g.S.Source.means c.args.source.now).left
