use Rattle.std.proofs.Common.{cond, Option, None, sym, ap, ◌∙◌}
use Rattle.std.specs.Ordering.{nat_cmp}
use Rattle.std.specs.BTreeMap as tree
use Rattle.std.specs.FinMap as map
use Rattle.std.proofs.lemmas.Cmp.{nat_cmp_total}
use Rattle.ck_model.specs.declared.held.Held.{Held}
use Rattle.ck_model.specs.Key.{entry_cmp_total}
use Rattle.ck_area.specs.Area.{entries_in, filesets_in}
use Rattle.ck_area.specs.Known.{is_home}
use Rattle.ck_area.proofs.known.Known.of.Goals as goal

pub returns : goal.returns
returns c blocks records =
    let area = c.args.area.now in
    let filesets = tree.get nat_cmp c.in_ok-filesets.filesets in
    record {
      filesets = λ id. c.in_ok-filesets.ensures id ∙ sym (map.get-from_entries nat_cmp_total (filesets_in area) id);
      entries = λ fs key. c.in_ok-entries.ensures fs key ∙ ap (λ (o : Option Held). cond (is_home filesets fs) o None) (sym (map.get-from_entries entry_cmp_total (entries_in area) (fs, key)));
      least = c.least_data.ensures;
    }
