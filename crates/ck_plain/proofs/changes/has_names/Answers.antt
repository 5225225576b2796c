use Rattle.std.proofs.Common.{◌≡◌, Bool, List, [], ◌∷◌, ◌||◌, map as list_map, refl, ap, ◌∙◌}
use Rattle.std.specs.List.{list_any}
use Rattle.std.specs.FinMap as map
use Rattle.ck_model.specs.declared.key.Key.{Key}
use Rattle.ck_model.specs.declared.cell.Cell.{Cell}
use Rattle.ck_model.specs.Key.{is_name_in}
use Rattle.ck_plain.proofs.changes.has_names.Goals as goal

any_key : (p : Key → Bool) (es : List (Key × Cell)) → list_any (λ e. p e.0) es ≡ list_any p (list_map (λ e. e.0) es)
any_key p [] = refl
any_key p (e ∷ es) = ap (λ b. p e.0 || b) (any_key p es)

pub returns : goal.returns
returns c =
    c.any_name_in.ensures ∙ ap (λ es. list_any (λ (e : Key × Cell). is_name_in c.args.node e.0) es) c.entries.ensures
    ∙ any_key (is_name_in c.args.node) (map.entries c.args.cells.now)
