use Rattle.std.proofs.Common.{rules, not}
use Rattle.std.proofs.lemmas.Fn.{filter_same}
use Rattle.ck_model.specs.Key.{is_past, key_cmp_total, key_cmp_exact}
use Rattle.ck_model.proofs.PlaceLaws.{edits_retain}
use Rattle.ck_plain.proofs.retain.retain_not_past.Goals as goal

pub returns : goal.returns
returns c =
    edits_retain key_cmp_total key_cmp_exact (λ key. not (is_past c.args.node c.args.size key)) _ _ c.requires
    (filter_same _ (λ e. not (is_past c.args.node c.args.size e.0)) _ (λ x b f' k. search rules) _ _ c.retain.ensures.filtered)
