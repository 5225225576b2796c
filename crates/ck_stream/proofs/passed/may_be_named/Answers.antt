use Rattle.std.proofs.Common.{◌≡◌, Bool, false, ◌&&◌, take, drop, sym, ap, ◌∙◌}
use Rattle.std.specs.List.{list_all}
use Rattle.std.proofs.lemmas.List.{take-append-drop}
use Rattle.std.proofs.lemmas.List.Folds.{list_all-append}
use Rattle.ck_stream.specs.Parsed.{is_name_byte}
use Rattle.ck_stream.proofs.Names.{by_test}
use Rattle.ck_stream.proofs.passed.may_be_named.Goals as goal

pub returns-then-not-are_name_bytes : goal.returns-then-not-are_name_bytes
returns-then-not-are_name_bytes c =
    let rest = c.loop-eight.rest.now in
    let front : list_all is_name_byte (take 8 rest) ≡ false =
    sym (c.are_name_bytes.ensures ∙ ap (list_all is_name_byte) c.in-Some.ensures.cases.0) ∙ c.if-not-are_name_bytes.true in
    let parts : list_all is_name_byte rest ≡ false =
    ap (list_all is_name_byte) (sym (take-append-drop 8 rest)) ∙ list_all-append is_name_byte (take 8 rest) (drop 8 rest)
    ∙ ap (λ (b : Bool). b && list_all is_name_byte (drop 8 rest)) front in
    by_test false c.args.bytes.now (sym (sym c.loop-eight.invariant ∙ parts))

pub returns : goal.returns
returns c = by_test c.are_name_bytes-2.result c.args.bytes.now (c.are_name_bytes-2.ensures ∙ c.loop-eight.invariant)
