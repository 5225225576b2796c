use Rattle.std.proofs.Common.{rules, ◌≡◌, ◌≤◌, ◌↔◌, Some, None, sym, subst}
use Rattle.ck_model.specs.declared.held.Held.TheVariants.{Absent, Extent}
use Rattle.ck_model.specs.Table.{column, record_count}
use Rattle.ck_model.specs.Chain.{seen}
use Rattle.ck_model.specs.Rules.{IsNeeded, IsOrderly}
use Rattle.ck_chain.specs.Needless.{tidied, SaysSame}
use Rattle.ck_chain.proofs.ReadLaws.{live_stands}
use Rattle.ck_chain.proofs.OrderlyLaws.{positive_id}
use Rattle.ck_chain.proofs.HolderLaws.{needed_tidied, needed_here, orderly_tidied}
use Rattle.ck_chain.proofs.TidyLaws.{tidied_reads, tidied_primary, tidied_extents, tidied_shrinks}
use Rattle.ck_chain.proofs.SameValues.{goes_where_same}
use Rattle.ck_chain.proofs.needless.tidy.Goals as goal

pub returns-then-is_needless-clause-goes : goal.returns-then-is_needless-clause-goes
returns-then-is_needless-clause-goes g c some =
    let t = g.M.Meta.table c.args.meta.now in
    let same : g.M.Meta.table c.del.new.self ≡ tidied t c.args.fs c.args.key.now = search rules in
    let positive = positive_id t c.args.fs (g.met.M.Meta.lawful c.args.meta.now) (live_stands t c.args.fs c.requires.live) in
    subst (λ u. (column u c.args.key.now c.args.fs ≡ None) ↔ SaysSame t c.args.fs c.args.key.now) (sym same)
    (goes_where_same t c.args.fs c.args.key.now c.requires.orderly positive some)

pub returns-else-is_needless-clause-goes : goal.returns-else-is_needless-clause-goes
returns-else-is_needless-clause-goes g c some =
    let t = g.M.Meta.table c.args.meta.now in
    let same : t ≡ tidied t c.args.fs c.args.key.now = search rules in
    let positive = positive_id t c.args.fs (g.met.M.Meta.lawful c.args.meta.now) (live_stands t c.args.fs c.requires.live) in
    subst (λ u. (column u c.args.key.now c.args.fs ≡ None) ↔ SaysSame t c.args.fs c.args.key.now) (sym same)
    (goes_where_same t c.args.fs c.args.key.now c.requires.orderly positive some)

pub returns-then-is_needless-clause-records : goal.returns-then-is_needless-clause-records
returns-then-is_needless-clause-records g c =
    let t = g.M.Meta.table c.args.meta.now in
    let same : g.M.Meta.table c.del.new.self ≡ tidied t c.args.fs c.args.key.now = search rules in
    subst (λ u. record_count u ≤ record_count t) (sym same) (tidied_shrinks t c.args.fs c.args.key.now)

pub returns-then-is_needless-clause-primary : goal.returns-then-is_needless-clause-primary
returns-then-is_needless-clause-primary g c q =
    let t = g.M.Meta.table c.args.meta.now in
    let same : g.M.Meta.table c.del.new.self ≡ tidied t c.args.fs c.args.key.now = search rules in
    let positive = positive_id t c.args.fs (g.met.M.Meta.lawful c.args.meta.now) (live_stands t c.args.fs c.requires.live) in
    subst (λ u. column u q 0 ≡ column t q 0) (sym same) (tidied_primary t c.args.fs c.args.key.now positive q)

pub returns-then-is_needless-clause-extents : goal.returns-then-is_needless-clause-extents
returns-then-is_needless-clause-extents g c at q stamp block =
    let t = g.M.Meta.table c.args.meta.now in
    let same : g.M.Meta.table c.del.new.self ≡ tidied t c.args.fs c.args.key.now = search rules in
    subst (λ u. (column u q at ≡ Some (Extent stamp block)) ↔ (column t q at ≡ Some (Extent stamp block))) (sym same) (tidied_extents t c.args.fs c.args.key.now at q stamp block)

pub returns-then-is_needless-clause-kept : goal.returns-then-is_needless-clause-kept
returns-then-is_needless-clause-kept g c at q live =
    let t = g.M.Meta.table c.args.meta.now in
    let same : g.M.Meta.table c.del.new.self ≡ tidied t c.args.fs c.args.key.now = search rules in
    let lawful = g.met.M.Meta.lawful c.args.meta.now in
    let stands = live_stands t c.args.fs c.requires.live in
    subst (λ u. seen u at q ≡ seen t at q) (sym same)
    (tidied_reads t c.args.fs c.args.key.now (positive_id t c.args.fs lawful stands) stands at q (positive_id t at lawful (live_stands t at live)))

pub returns-then-is_needless-clause-orderly : goal.returns-then-is_needless-clause-orderly
returns-then-is_needless-clause-orderly g c =
    let t = g.M.Meta.table c.args.meta.now in
    let same : g.M.Meta.table c.del.new.self ≡ tidied t c.args.fs c.args.key.now = search rules in
    subst IsOrderly (sym same) (orderly_tidied t c.args.fs c.args.key.now c.requires.orderly)

pub returns-then-is_needless-clause-needed : goal.returns-then-is_needless-clause-needed
returns-then-is_needless-clause-needed g c at q needed =
    let t = g.M.Meta.table c.args.meta.now in
    let same : g.M.Meta.table c.del.new.self ≡ tidied t c.args.fs c.args.key.now = search rules in
    let positive = positive_id t c.args.fs (g.met.M.Meta.lawful c.args.meta.now) (live_stands t c.args.fs c.requires.live) in
    subst (λ u. IsNeeded u q at) (sym same) (needed_tidied t c.args.fs c.args.key.now positive c.requires.live at q needed)

pub returns-then-is_needless-clause-here : goal.returns-then-is_needless-clause-here
returns-then-is_needless-clause-here g c left =
    let t = g.M.Meta.table c.args.meta.now in
    let same : g.M.Meta.table c.del.new.self ≡ tidied t c.args.fs c.args.key.now = search rules in
    subst (λ u. IsNeeded u c.args.key.now c.args.fs) (sym same)
    (needed_here t c.args.fs c.args.key.now (subst (λ u. column u c.args.key.now c.args.fs ≡ Some Absent) same left))
