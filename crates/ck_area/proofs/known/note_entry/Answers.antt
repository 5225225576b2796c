use Rattle.std.proofs.Common.{◌≡◌, rules, Option, Some, sym, ap, ◌∙◌}
use Rattle.std.specs.Option.{option_or}
use Rattle.std.specs.Ordering.{nat_cmp}
use Rattle.std.specs.BTreeMap as tree
use Rattle.std.proofs.lemmas.Result.{on_ok_weaker}
use Rattle.ck_record.specs.declared.records.Record.{Record}
use Rattle.ck_record.specs.declared.records.Record.TheVariants.{Entry}
use Rattle.ck_area.specs.Area.{entries_by}
use Rattle.ck_area.specs.Known.{column_order, found_at_home}
use Rattle.ck_area.proofs.KnownLemmas.{entry_at_home}
use Rattle.ck_area.proofs.known.note_entry.Goals as goal

pub returns-in-Some-Entry : goal.returns-in-Some-Entry
returns-in-Some-Entry c =
    let filesets = tree.get nat_cmp c.args.filesets.now in
    let e = c.in-Some-Entry in
    let slot : c.args.slot.now ≡ Some (Entry e.fileset e.key e.held) = first_of (cc, search rules) in
    let home = sym c.is_home.ensures ∙ c.if-is_home.true in
    on_ok_weaker c.add.result (λ all fs key. all (key, fs)
    ∙ ap (option_or (tree.get column_order c.args.known.now (key, fs)))
    (entry_at_home filesets e.fileset e.key e.held fs key home ∙ ap (λ (s : Option Record). found_at_home filesets (entries_by s) fs key) (sym slot))) c.add.ensures
