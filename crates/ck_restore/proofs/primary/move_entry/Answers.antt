use Rattle.std.proofs.Common.{◌++◌, sym, ap, subst, ◌∙◌, arith}
use Rattle.ck_model.specs.Table.{column}
use Rattle.ck_model.specs.Rules.{IsOrderly}
use Rattle.ck_chain.specs.Named.{block_of}
use Rattle.ck_restore.specs.Freed.{listed}
use Rattle.ck_restore.specs.Older.{OthersNeeded}
use Rattle.ck_restore.proofs.FreedLemmas.{released_still}
use Rattle.ck_restore.proofs.TidiedLemmas.{older_then}
use Rattle.ck_restore.proofs.PromotedLemmas.{LeavesPromoted, promoted_one}
use Rattle.ck_restore.proofs.primary.move_entry.Goals as goal

pub tidy_older-requires-clause-orderly : goal.tidy_older-requires-clause-orderly
tidy_older-requires-clause-orderly g c =
    let t = g.M.Meta.table c.args.meta.now in
    let need = c.requires in
    let moved = promoted_one t c.args.id c.args.fs c.args.key.now (g.met.M.Meta.lawful c.args.meta.now) need.orderly need.needed need.holds need.at_least need.stands need.newest need.held in
    subst IsOrderly (sym c.promote.ensures) moved.orderly

pub tidy_older-requires-clause-others : goal.tidy_older-requires-clause-others
tidy_older-requires-clause-others g c =
    let t = g.M.Meta.table c.args.meta.now in
    let need = c.requires in
    let moved = promoted_one t c.args.id c.args.fs c.args.key.now (g.met.M.Meta.lawful c.args.meta.now) need.orderly need.needed need.holds need.at_least need.stands need.newest need.held in
    subst (λ u. OthersNeeded u c.args.id c.args.key.now) (sym c.promote.ensures) moved.others

pub returns-clause-older : goal.returns-clause-older
returns-clause-older g c =
    let t = g.M.Meta.table c.args.meta.now in
    let p = g.M.Meta.table c.promote.new.meta in
    let need = c.requires in
    let moved = subst (LeavesPromoted c.args.id c.args.key.now t) (sym c.promote.ensures)
    (promoted_one t c.args.id c.args.fs c.args.key.now (g.met.M.Meta.lawful c.args.meta.now) need.orderly need.needed need.holds need.at_least need.stands need.newest need.held) in
    older_then c.args.id t p (g.M.Meta.table c.tidy_older.new.meta) moved.older c.tidy_older.ensures.tidied.older

pub returns-clause-gains : goal.returns-clause-gains
returns-clause-gains g c =
    let t = g.M.Meta.table c.args.meta.now in
    let p = g.M.Meta.table c.promote.new.meta in
    let need = c.requires in
    let moved = subst (LeavesPromoted c.args.id c.args.key.now t) (sym c.promote.ensures)
    (promoted_one t c.args.id c.args.fs c.args.key.now (g.met.M.Meta.lawful c.args.meta.now) need.orderly need.needed need.holds need.at_least need.stands need.newest need.held) in
    record {
      gained = listed (block_of (column t c.args.key.now 0));
      behind = c.push_block.ensures.items ∙ ap (λ o. c.args.freed.now.items ++ listed o) (c.block_of.ensures ∙ ap block_of c.get-old.ensures);
      released = released_still t p (g.M.Meta.table c.tidy_older.new.meta) (listed (block_of (column t c.args.key.now 0))) moved.released c.tidy_older.ensures.tidied.named;
    }

pub returns-clause-entries : goal.returns-clause-entries
returns-clause-entries g c =
    let t = g.M.Meta.table c.args.meta.now in
    let need = c.requires in
    let moved = subst (LeavesPromoted c.args.id c.args.key.now t) (sym c.promote.ensures)
    (promoted_one t c.args.id c.args.fs c.args.key.now (g.met.M.Meta.lawful c.args.meta.now) need.orderly need.needed need.holds need.at_least need.stands need.newest need.held) in
    let same = c.tidy_older.ensures.tidied.entries in
    omega (arith, moved.entries, same)
