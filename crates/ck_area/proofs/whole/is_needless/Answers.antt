use Rattle.std.proofs.Common.{◌≡◌, true, not, ◌&&◌, sym, ap, ◌∙◌}
use Rattle.std.specs.Ordering.{nat_cmp}
use Rattle.std.specs.BTreeMap as tree
use Rattle.ck_model.specs.Table.{column, newer}
use Rattle.ck_model.specs.Chain.{is_live}
use Rattle.ck_model.specs.Rules.{first_holder}
use Rattle.ck_area.specs.Damage.{is_needed_by}
use Rattle.ck_area.specs.Known.{column_order}
use Rattle.ck_area.proofs.HolderLemmas.{holder_in_table}
use Rattle.ck_area.proofs.whole.is_needless.Goals as goal

pub returns-then-is_live : goal.returns-then-is_live
returns-then-is_live c t listed knows =
    let key = c.args.key.now in
    let fs = c.args.fileset in
    let known = c.args.known.now in
    let holder = holder_in_table t key (tree.get nat_cmp known.filesets) (λ id. tree.get column_order known.entries (key, id)) knows.filesets (λ id. knows.entries id key) fs c.next_holder-holder.result c.next_holder-holder.ensures in
    let live : is_live t fs ≡ true = sym (c.is_live.ensures t listed knows) ∙ c.if-is_live.true in
    ap not (c.is_needed_by.ensures t listed knows ∙ ap (is_needed_by t) (sym holder))
    ∙ ap (λ b. b && not (is_needed_by t (first_holder (column t key) (newer t fs)))) (sym live)
