use Rattle.std.proofs.Common.{◌≡◌, ◌≤◌, true, false, if◌then◌else◌, length, sym, ap, ◌∙◌, arith}
use Rattle.ck_model.specs.declared.reply.Reply.TheVariants.{StatDir, StatFile}
use Rattle.ck_model.specs.Cells.{is_directory_at, size_at}
use Rattle.ck_model.specs.Contents.{children}
use Rattle.ck_model.specs.TableWorld.{values_of}
use Rattle.ck_model.specs.Values.{cells_on, no_store}
use Rattle.ck_files.proofs.NamesLemmas.{names-few}
use Rattle.ck_tree.proofs.MapLaws.{stands_on as stands}
use Rattle.ck_files.proofs.names.status.Goals as goal

pub overflow_cast-result : goal.overflow_cast-result
overflow_cast-result g c =
    let t = g.M.Meta.table c.args.meta.now in
    let cells = cells_on no_store (values_of t 0) in
    let few : length (children cells c.args.node) ≤ 262144 = names-few no_store t c.requires c.args.node in
    let count : c.len.result ≡ length (children cells c.args.node) = c.len.ensures ∙ c.in_ok-found.found.ok.0 ∙ ap length (c.in_ok-found.ensures cells (stands no_store t 0)) in
    omega (arith, few, count)

pub returns-in_ok-found-clause-reply : goal.returns-in_ok-found-clause-reply
returns-in_ok-found-clause-reply g c = λ store.
    let t = g.M.Meta.table c.args.meta.now in
    let node = c.args.node in
    let cells = cells_on store (values_of t 0) in
    let is : true ≡ is_directory_at cells node = sym c.if-is_directory_at.true ∙ c.is_directory_at.ensures cells (stands store t 0) in
    ap (StatDir node) (c.len.ensures ∙ c.in_ok-found.found.ok.0 ∙ ap length (c.in_ok-found.ensures cells (stands store t 0)))
    ∙ ap (λ b. if b then StatDir node (length (children cells node)) else StatFile node (size_at cells node)) is

pub returns-else-is_directory_at-clause-reply : goal.returns-else-is_directory_at-clause-reply
returns-else-is_directory_at-clause-reply g c = λ store.
    let t = g.M.Meta.table c.args.meta.now in
    let node = c.args.node in
    let cells = cells_on store (values_of t 0) in
    let is : false ≡ is_directory_at cells node = sym c.if-is_directory_at.false ∙ c.is_directory_at.ensures cells (stands store t 0) in
    ap (StatFile node) (c.size_at.ensures cells (stands store t 0))
    ∙ ap (λ b. if b then StatDir node (length (children cells node)) else StatFile node (size_at cells node)) is
