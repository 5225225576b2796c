-- A count of a map's entries by their keys.
use Rattle.std.proofs.Common.{◌≡◌, ℕ, Bool, count_by, sym, ◌∙◌}
use Rattle.std.specs.FinMap as map
use Rattle.std.proofs.lemmas.List.Sums.{length-filter}
use Rattle.ck_model.specs.declared.key.Key.{Key}
use Rattle.ck_model.specs.declared.cell.Cell.{Cell}
use Rattle.ck_model.specs.Key.{key_cmp_total, key_cmp_exact}
use Rattle.ck_model.specs.Cells.{Cells}
use Rattle.ck_model.proofs.SizeLaws.{len-retain_keys}

pub counted : (cells : Cells) (p : Key → Bool) (n : ℕ) → n ≡ count_by (λ e. p e.0) (map.entries cells) → n ≡ map.len (map.retain_keys cells p)
counted cells p n is =
    is ∙ sym (len-retain_keys key_cmp_total key_cmp_exact cells p ∙ length-filter (λ (e : Key × Cell). p e.0) (map.entries cells))
