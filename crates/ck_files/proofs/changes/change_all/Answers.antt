use Rattle.std.proofs.Common.{◌≡◌, ◌-◌, ◌≤◌, sym, ap, subst, ◌∙◌}
use Rattle.ck_model.specs.Table.{Table, spare_count}
use Rattle.ck_model.specs.Rules.{IsSound}
use Rattle.ck_push.specs.Growth.{gains, losses}
use Rattle.ck_files.specs.Changes.{raised}
use Rattle.ck_push.specs.Changes.{changed_all}
use Rattle.ck_files.proofs.ChangeLemmas.{raised_lawful, raised_sound}
use Rattle.ck_push.proofs.ChangeLaws.{are_made}
use Rattle.ck_files.proofs.changes.change_all.Goals as goal

pub apply_all-requires-clause-ours : goal.apply_all-requires-clause-ours
apply_all-requires-clause-ours g c =
    let t = g.M.Meta.table c.args.meta.now in
    record {
      lawful = g.met.M.Meta.lawful c.set_counters.new.self;
      sized = g.met.M.Meta.sized c.set_counters.new.self;
      sound = subst IsSound (sym c.set_counters.ensures) (raised_sound t c.args.next t.blocks c.requires.ours.sound c.requires.raised);
    }

pub apply_all-requires-clause-room : goal.apply_all-requires-clause-room
apply_all-requires-clause-room g c =
    subst (λ x. gains x c.args.items.now - losses x c.args.items.now ≤ spare_count x) (sym c.set_counters.ensures) c.requires.room

pub returns-clause-files : goal.returns-clause-files
returns-clause-files g c =
    let t = g.M.Meta.table c.args.meta.now in
    let u = raised t c.args.next t.blocks in
    let made = are_made u c.args.items.now c.args.stamp (raised_lawful t c.args.next t.blocks c.requires.ours.lawful c.requires.raised) (raised_sound t c.args.next t.blocks c.requires.ours.sound c.requires.raised) c.requires.stamp c.requires.may in
    let same : g.M.Meta.table c.apply_all.new.meta ≡ changed_all u c.args.items.now c.args.stamp = c.apply_all.ensures.changed ∙ ap (λ x. changed_all x c.args.items.now c.args.stamp) c.set_counters.ensures in
    record {
      ours = c.apply_all.ensures.ours;
      allocated = c.apply_all.ensures.allocated;
      limit = ap (λ (x : Table). x.blocks) same ∙ made.blocks ∙ c.requires.limit;
      records = ap (λ (x : Table). x.records) same ∙ made.records ∙ c.requires.records;
    }
