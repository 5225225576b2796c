use Rattle.std.proofs.Common.{◌++◌, sym, ap, ◌∙◌, arith}
use Rattle.std.specs.FinMap as map
use Rattle.std.proofs.lemmas.List.{take_all}
use Rattle.ck_model.specs.TableWorld.{blocks_in, blocks_of}
use Rattle.ck_slots.specs.Slots.{table_in}
use Rattle.ck_slots.proofs.ExtentLemmas.{blocks_more}
use Rattle.ck_slots.proofs.table.Slots.extents.Goals as goal

pub loop-at-preserved : goal.loop-at-preserved
loop-at-preserved c =
    let so_far = c.loop-at.invariant in
    let es = map.entries (table_in c.args.self.now).entries in
    record {
      found = c.push_named.ensures.items ∙ ap (λ l. l ++ blocks_in c.listed_at-entry.result.2) so_far.found
          ∙ sym (blocks_more es c.loop-at.at ((c.listed_at-entry.result.0, c.listed_at-entry.result.1), c.listed_at-entry.result.2) c.listed_at-entry.ensures);
      few = omega (arith, so_far.few, c.push_named.ensures.few);
      capacity = omega (arith, so_far.capacity, c.push_named.ensures.capacity);
    }

pub returns : goal.returns
returns c =
    let es = map.entries (table_in c.args.self.now).entries in
    c.loop-at.invariant.found ∙ ap blocks_of (take_all c.loop-at.at es (omega (arith, c.len-count.ensures, map.len-entries (table_in c.args.self.now).entries)))
