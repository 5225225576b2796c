-- The first table of a volume has the spellings of a new table's records.
use Rattle.std.proofs.Common.{◌≡◌, ℕ, zero, suc, ◌+◌, ◌-◌, ◌*◌, ◌<◌, ◌≤◌, List, [], length, take, drop, refl, sym, ap, ◌∙◌, arith}
use Rattle.std.specs.List.{slice_get}
use Rattle.std.specs.FinMap as map
use Rattle.std.proofs.lemmas.List.{get_or-replicate, length-replicate, take-replicate, drop-replicate, drop-drop}
use Rattle.ck_model.specs.declared.key.Key.{Key}
use Rattle.ck_model.specs.declared.key.Key.TheVariants.{Node}
use Rattle.ck_model.specs.declared.held.Held.{Held}
use Rattle.ck_model.specs.declared.held.Held.TheVariants.{Plain}
use Rattle.ck_model.specs.declared.held.Small.TheVariants.{Dir}
use Rattle.ck_record.specs.declared.records.Record.TheVariants.{Free, Counters as CountersRecord, Entry}
use Rattle.ck_record.specs.Fields.{zeros, spelled}
use Rattle.ck_record.specs.Record.{spelling}
use Rattle.ck_log.specs.Layout.{table_blocks}
use Rattle.ck_log.specs.FirstTable.{blank_block, counters_slot, root_slot, first_block, first_table}
use Rattle.ck_log.proofs.FirstSlotLaws.{slot_0-first_block, slot_1-first_block, free_slots-first_block}
use Rattle.ck_area.specs.Area.{AreSlots, new_table, written_as}
use Rattle.ck_area.proofs.NewTableLaws.{new_entries, new_filesets, new_table_within, new_count}
use Rattle.ck_slots.specs.Written.{record_in, IsSpelled, AreSpelled}
use Rattle.ck_slots.proofs.WrittenTexts.{entry_slot, free_slot, spelled_slots}

-- ---- the three spellings

counters_spelled : spelling (CountersRecord (record { stamp = 1; id = 1; number = 1 })) ≡ counters_slot
unfolding spelling spelled
counters_spelled = refl

root_spelled : spelling (Entry 0 (Node 0) (Plain 0 Dir)) ≡ root_slot
unfolding spelling spelled
root_spelled = refl

free_spelled : spelling Free ≡ zeros 128
unfolding spelling spelled
free_spelled = refl

-- ---- free slots

-- 128 of many zeros
slot_of_zeros : (at n : ℕ) → at + 128 ≤ n → take 128 (drop at (zeros n)) ≡ zeros 128
slot_of_zeros at n room = ap (take {A = ℕ} 128) (drop-replicate at n 0) ∙ take-replicate 128 (n - at) 0 (omega (arith, room))

-- behind the first two slots
rest_of_first : (place : ℕ) → 2 ≤ place → place < 32 → take 128 (drop (128 * place) first_block) ≡ zeros 128
rest_of_first place behind within =
    let from : 128 * place ≡ 256 + 128 * (place - 2) = omega (arith, behind) in
    ap (λ k. take 128 (drop k first_block)) from ∙ ap (take 128) (sym (drop-drop (128 * (place - 2)) 256 first_block))
    ∙ ap (λ b. take 128 (drop (128 * (place - 2)) b)) free_slots-first_block ∙ slot_of_zeros (128 * (place - 2)) 3840 (omega (arith, behind, within))

module _ (blocks records : ℕ) where
  free_behind : (slot : ℕ) → 2 ≤ slot → zeros 128 ≡ spelling (record_in (new_table blocks records) slot)
  free_behind slot behind = sym free_spelled ∙ ap spelling (free_slot (new_table blocks records) slot (omega (arith, behind, new_count blocks records)))

  -- ---- the blocks

  root_in_slot : Entry 0 (Node 0) (Plain 0 Dir) ≡ record_in (new_table blocks records) 1
  root_in_slot =
      let t = new_table blocks records in
      entry_slot t 1 0 ((0, Node 0), Plain 0 Dir) (omega arith) (sym (map.len-entries t.filesets ∙ ap length (new_filesets blocks records))) (omega arith)
      (ap (λ (es : List ((ℕ × Key) × Held)). slice_get es 0) (new_entries blocks records))

  first_block_spelled : IsSpelled (new_table blocks records) 0 first_block
  first_block_spelled zero within = slot_0-first_block ∙ sym counters_spelled
  first_block_spelled (suc zero) within = slot_1-first_block ∙ sym root_spelled ∙ ap spelling root_in_slot
  first_block_spelled (suc (suc place)) within = rest_of_first (suc (suc place)) (omega arith) within ∙ free_behind (0 + suc (suc place)) (omega arith)

  blank_block_spelled : (first : ℕ) → 2 ≤ first → IsSpelled (new_table blocks records) first blank_block
  blank_block_spelled first behind place within = slot_of_zeros (128 * place) 4096 (omega (arith, within)) ∙ free_behind (first + place) (omega (arith, behind))

  first_table_spelled : (n : ℕ) → AreSpelled (new_table blocks records) (first_table n)
  first_table_spelled n zero low place within = first_block_spelled place within
  first_table_spelled n (suc at) low place within =
      ap (λ b. take 128 (drop (128 * place) b)) (get_or-replicate (n - 1) at blank_block [] (omega (arith, low, length-replicate (n - 1) blank_block)))
      ∙ blank_block_spelled (32 * suc at) (omega arith) place within

  -- ---- the slots

  pub first_are_slots : 32 ≤ records → AreSlots (first_table (table_blocks records)) (written_as (32 * table_blocks records) (new_table blocks records))
  first_are_slots some =
      let n = table_blocks records in
      let long : length (first_table n) ≡ n = ap suc (length-replicate (n - 1) blank_block) ∙ omega (arith, some) in
      spelled_slots n (new_table blocks records) (first_table n) (new_table_within blocks records) (omega (arith, some, new_count blocks records)) long (first_table_spelled n)
