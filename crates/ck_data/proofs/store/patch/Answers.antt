use Rattle.std.proofs.Common.{◌≡◌, ◌≤◌, ◌+◌, ◌-◌, length, take, drop, ◌++◌, sym, ap, ◌∙◌, arith}
use Rattle.std.proofs.lemmas.List.{take-append-drop}
use Rattle.std.proofs.lemmas.Slice.{take-put_mid, drop-put_mid}
use Rattle.ck_data.proofs.PatchLemmas.{patch-is}
use Rattle.ck_data.proofs.store.patch.Goals as goal

pub returns : goal.returns
returns c = λ old filled.
    let at = c.args.at in
    let block = c.args.block.now in
    let bytes = c.args.bytes.now in
    let new = c.copy_from_slice.new.self in
    let end = at + length bytes in
    let same : new ≡ bytes = c.copy_from_slice.ensures.after in
    let long : length new ≡ end - at = ap length same ∙ omega arith in
    let low : at ≤ length block = omega (arith, c.requires, c.told-block) in
    sym (take-append-drop end _)
    ∙ (λ i. take-put_mid at (end - at) block new end (omega (arith, ap length same)) low i ++ drop-put_mid at (end - at) block new end (omega arith) low long i)
    ∙ ap (λ xs. (take at block ++ xs) ++ drop end block) same
    ∙ patch-is block old bytes at c.told-block c.requires filled
