use Rattle.std.proofs.Common.{Some, ◌∷◌, sym, ap, ◌∙◌}
use Rattle.std.specs.Option.{option_copied}
use Rattle.ck_model.specs.Rules.{block_in}
use Rattle.ck_model.specs.TableWorld.{values_of}
use Rattle.ck_model.specs.Streams.{changed}
use Rattle.ck_model.specs.Values.{cells_on}
use Rattle.ck_changed.specs.Compare.{cells_from, content_on, rest_after, store_on}
use Rattle.ck_changed.proofs.CompareLemmas.{ends, gives, readable, within}
use Rattle.ck_changed.proofs.compare.answer.Goals as goal

pub returns-in_default-next_difference-clause-next : goal.returns-in_default-next_difference-clause-next
returns-in_default-next_difference-clause-next g c = λ goes tells s.
    let t = g.M.Meta.table c.args.meta.now in
    ends s (store_on (g.D.Disk.means c.args.disk.now).shows c.args.base) t c.args.from c.args.to (option_copied c.args.after) c.next_difference.result
    (g.met.M.Meta.lawful c.args.meta.now) goes c.next_difference.ensures c.in_default-next_difference.is

pub returns-in_default-new-clause-next : goal.returns-in_default-new-clause-next
returns-in_default-new-clause-next g c = λ goes tells s.
    let t = g.M.Meta.table c.args.meta.now in
    let store = store_on (g.D.Disk.means c.args.disk.now).shows c.args.base in
    let key = c.in-Some-next_difference.key in
    let changes = changed (cells_from s t c.args.from) (cells_on store (values_of t c.args.to)) in
    gives s store t c.args.from c.args.to (option_copied c.args.after) c.next_difference.result key c.in-Some-next_difference.new
    (g.met.M.Meta.lawful c.args.meta.now) goes c.next_difference.ensures c.in-Some-next_difference.is
    ∙ ap (λ new. (key, content_on store new) ∷ rest_after (Some key) changes) c.in_default-new.is

pub load-requires-clause-own : goal.load-requires-clause-own
load-requires-clause-own g c =
    let t = g.M.Meta.table c.args.meta.now in
    (readable t c.args.from c.args.to (option_copied c.args.after) c.next_difference.result c.in-Some-next_difference.key c.in-Some-next_difference.new c.in-Some-new.held
    (g.met.M.Meta.lawful c.args.meta.now) c.requires.orderly (sym c.refusal.ensures ∙ c.in_default.is) c.next_difference.ensures c.in-Some-next_difference.is c.in-Some-new.is).0

pub load-requires-clause-block : goal.load-requires-clause-block
load-requires-clause-block g c =
    let t = g.M.Meta.table c.args.meta.now in
    within t (block_in c.in-Some-new.held) c.args.base (g.D.Disk.means c.args.disk.now).size c.requires.area
    (readable t c.args.from c.args.to (option_copied c.args.after) c.next_difference.result c.in-Some-next_difference.key c.in-Some-next_difference.new c.in-Some-new.held
    (g.met.M.Meta.lawful c.args.meta.now) c.requires.orderly (sym c.refusal.ensures ∙ c.in_default.is) c.next_difference.ensures c.in-Some-next_difference.is c.in-Some-new.is).1

pub returns-in-Ok-clause-next : goal.returns-in-Ok-clause-next
returns-in-Ok-clause-next g c = λ goes tells s.
    let t = g.M.Meta.table c.args.meta.now in
    let store = store_on (g.D.Disk.means c.args.disk.now).shows c.args.base in
    let key = c.in-Some-next_difference.key in
    let changes = changed (cells_from s t c.args.from) (cells_on store (values_of t c.args.to)) in
    gives s store t c.args.from c.args.to (option_copied c.args.after) c.next_difference.result key c.in-Some-next_difference.new
    (g.met.M.Meta.lawful c.args.meta.now) goes c.next_difference.ensures c.in-Some-next_difference.is
    ∙ ap (λ new. (key, content_on store new) ∷ rest_after (Some key) changes) c.in-Some-new.is
    ∙ ap (λ content. (key, Some content) ∷ rest_after (Some key) changes) (c.in-Ok.ensures.payload tells)
