use Rattle.std.proofs.Common.{◌+◌, sym, ap, subst, ◌∙◌}
use Rattle.ck_model.specs.Table.{record_count}
use Rattle.ck_model.specs.Chain.{seen}
use Rattle.ck_remove.specs.Gone.{left_of}
use Rattle.ck_remove.specs.Unseen.{IsUnseen}
use Rattle.ck_remove.proofs.LeftLemmas.{left_unlinked}
use Rattle.ck_remove.proofs.UnseenLemmas.{unseen_unlinked}
use Rattle.ck_remove.proofs.removal.remove_empty.Goals as goal

pub returns-clause-unseen : goal.returns-clause-unseen
returns-clause-unseen g c =
    let t = g.M.Meta.table c.args.meta.now in
    let same = c.unlink.ensures.table in
    subst (IsUnseen t) (sym same) (unseen_unlinked t c.args.fs c.requires.gone c.requires.empty
    (λ fs key. sym (ap (λ u. seen u fs key) same) ∙ c.unlink.ensures.kept fs key)
    (sym (ap (λ u. record_count u + 1) same) ∙ c.unlink.ensures.count))

pub returns-clause-left : goal.returns-clause-left
returns-clause-left g c =
    let t = g.M.Meta.table c.args.meta.now in
    ap (λ u. left_of u + 1) c.unlink.ensures.table ∙ left_unlinked t c.args.fs (g.met.M.Meta.lawful c.args.meta.now) c.requires.gone c.requires.empty
