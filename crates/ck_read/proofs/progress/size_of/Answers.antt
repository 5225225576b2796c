use Rattle.std.proofs.Common.{◌≡◌, ◌≤◌, ℕ, Bool, Result, true, false, cond, Ok, Err, IfOk, IfErr, refl, sym, ap, subst, ◌∙◌}
use Rattle.ck_model.specs.declared.key.Key.TheVariants.{Node}
use Rattle.ck_model.specs.Cells.{Content, content_at, is_directory, size_in}
use Rattle.ck_model.specs.Limits.{file_limit}
use Rattle.ck_model.specs.Values.{no_store}
use Rattle.ck_read.specs.declared.fault.StartFault.{StartFault}
use Rattle.ck_read.specs.declared.fault.StartFault.TheVariants.{IsDir}
use Rattle.ck_read.specs.Block.{map_on}
use Rattle.ck_read.specs.StartFault.{content_on, file_size}
use Rattle.ck_read.proofs.MapLemmas.{content-map_on, size_below}
use Rattle.ck_read.proofs.progress.size_of.Goals as goal

-- the answer where this is a directory or isn't
abbrev answer : Bool → ℕ → Result ℕ StartFault
answer directory n = cond directory (Err IsDir) (Ok n)

file_is : (content : Content) (node : ℕ) → IfOk (file_size content) (λ size. answer (is_directory content) node ≡ Ok node)
file_is content node = elim (is_directory content) as (λ b. IfOk (answer b (size_in content)) (λ size. answer b node ≡ Ok node)) [ true ↦ tt | false ↦ refl ]

size_is : (content : Content) → IfOk (file_size content) (λ size. size ≡ size_in content)
size_is content = elim (is_directory content) as (λ b. IfOk (answer b (size_in content)) (λ size. size ≡ size_in content)) [ true ↦ tt | false ↦ refl ]

refused_is : (content : Content) (node : ℕ) → IfErr (file_size content) (λ why. answer (is_directory content) node ≡ Err why)
refused_is content node = elim (is_directory content) as (λ b. IfErr (answer b (size_in content)) (λ why. answer b node ≡ Err why)) [ true ↦ refl | false ↦ tt ]

pub returns-clause-file : goal.returns-clause-file
returns-clause-file g c = λ store.
    let t = g.M.Meta.table c.args.meta.now in
    let content = content_at (map_on store t c.args.ckpt) (Node c.args.node) in
    let is : c.size_in.result ≡ file_size content =
    c.size_in.ensures store ∙ ap (λ held. file_size (content_on store held)) c.value.ensures
    ∙ ap file_size (sym (content-map_on store t c.args.ckpt (Node c.args.node) (g.met.M.Meta.lawful c.args.meta.now) c.requires.live)) in
    subst (λ r. IfOk r (λ size. answer (is_directory content) c.args.node ≡ Ok c.args.node)) (sym is) (file_is content c.args.node)

pub returns-clause-size : goal.returns-clause-size
returns-clause-size g c = λ store.
    let t = g.M.Meta.table c.args.meta.now in
    let content = content_at (map_on store t c.args.ckpt) (Node c.args.node) in
    let is : c.size_in.result ≡ file_size content =
    c.size_in.ensures store ∙ ap (λ held. file_size (content_on store held)) c.value.ensures
    ∙ ap file_size (sym (content-map_on store t c.args.ckpt (Node c.args.node) (g.met.M.Meta.lawful c.args.meta.now) c.requires.live)) in
    subst (λ r. IfOk r (λ size. size ≡ size_in content)) (sym is) (size_is content)

pub returns-clause-limit : goal.returns-clause-limit
returns-clause-limit g c =
    let t = g.M.Meta.table c.args.meta.now in
    subst (λ r. IfOk r (λ size. size ≤ file_limit))
    (sym (c.size_in.ensures no_store ∙ ap (λ held. file_size (content_on no_store held)) c.value.ensures))
    (size_below t c.args.ckpt c.args.node (g.met.M.Meta.lawful c.args.meta.now))

pub returns-clause-refused : goal.returns-clause-refused
returns-clause-refused g c = λ store.
    let t = g.M.Meta.table c.args.meta.now in
    let content = content_at (map_on store t c.args.ckpt) (Node c.args.node) in
    let is : c.size_in.result ≡ file_size content =
    c.size_in.ensures store ∙ ap (λ held. file_size (content_on store held)) c.value.ensures
    ∙ ap file_size (sym (content-map_on store t c.args.ckpt (Node c.args.node) (g.met.M.Meta.lawful c.args.meta.now) c.requires.live)) in
    subst (λ r. IfErr r (λ why. answer (is_directory content) c.args.node ≡ Err why)) (sym is) (refused_is content c.args.node)
