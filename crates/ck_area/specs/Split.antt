-- The rules on a slot, apart: those on the record alone, those on lower slots, and those on the whole table.
use Rattle.std.specs.Prelude.{ℕ, suc, zero, Bool, true, false, not, ◌&&◌, ◌||◌, List, Option, Some, None, is_some, take, nat_eq, nat_le, nat_lt, map as list_map}
use Rattle.std.specs.Ordering.{eq_by_cmp}
use Rattle.std.specs.Cmp.Lexicographic.{pointwise}
use Rattle.std.specs.Option.{option_map_or}
use Rattle.ck_model.specs.declared.key.Key.{Key}
use Rattle.ck_model.specs.declared.held.Held.{Held}
use Rattle.ck_model.specs.declared.checkpoint.Counters.{Counters}
use Rattle.ck_model.specs.declared.checkpoint.Fileset.{Fileset}
use Rattle.ck_model.specs.Rules.{stamp_in, block_in}
use Rattle.ck_model.specs.Key.{key_cmp, entry_cmp}
use Rattle.ck_model.specs.Table.{Table}
use Rattle.ck_record.specs.declared.records.Record.{Record}
use Rattle.ck_record.specs.declared.records.Record.TheVariants.{Free, Counters as CountersRecord, Fileset as FilesetRecord, Entry}
use Rattle.ck_area.specs.Area.{Area, slot_at, filesets_in}
use Rattle.ck_area.specs.Firsts.{stands_in}
use Rattle.ck_area.specs.Parts.{place_in, version_in, named_in, id_in, live_name_in}
use Rattle.ck_area.specs.Damage.{is_id_past, is_stamp_past, is_number_past, is_free, live_count, breaks_whole}

-- a number of the entry is past its limit
abbrev pub is_entry_past : ℕ → Option Counters → Key → Held → Bool
is_entry_past blocks counters key held =
    is_stamp_past counters (stamp_in held) || is_number_past counters key held || option_map_or (λ block. nat_le blocks block) (block_in held) false

-- the record may not stand behind slot 0, or a number of it is past its limit
abbrev pub is_past : ℕ → Option Counters → Record → Bool
is_past blocks counters Free = false
is_past blocks counters (CountersRecord own) = true
is_past blocks counters (FilesetRecord id fileset) = is_id_past counters id
is_past blocks counters (Entry fs key held) = is_entry_past blocks counters key held

-- the slot breaks a rule on its record alone
abbrev pub breaks_alone : ℕ → ℕ → Option Counters → ℕ → Option Record → Bool
breaks_alone blocks records counters slot None = true
breaks_alone blocks records counters zero (Some value) = not (is_some counters)
breaks_alone blocks records counters (suc before) (Some value) =
    (nat_lt records (suc before) && not (is_free value)) || is_past blocks counters value

-- one more checkpoint that isn't gone, where 64 stand
abbrev pub crowds : ℕ → Option Record → Bool
crowds count None = false
crowds count (Some Free) = false
crowds count (Some (CountersRecord counters)) = false
crowds count (Some (FilesetRecord id fileset)) = not fileset.gone && nat_le 64 count
crowds count (Some (Entry fs key held)) = false

-- the slot breaks the limit of checkpoints
abbrev pub breaks_crowd : Area → ℕ → Bool
breaks_crowd area slot = crowds (live_count (filesets_in (take slot area))) (slot_at area slot)

-- the slot's entry breaks a rule that looks at the whole table
abbrev pub breaks_table : Table → List (ℕ × Fileset) → Option Record → Bool
breaks_table t filesets None = false
breaks_table t filesets (Some Free) = false
breaks_table t filesets (Some (CountersRecord counters)) = false
breaks_table t filesets (Some (FilesetRecord id fileset)) = false
breaks_table t filesets (Some (Entry fs key held)) = breaks_whole t filesets fs key held

-- the part of a slot that these lower slots have too
abbrev pub stands_below : {K : Type 0} → (K → K → Bool) → (Option Record → Option K) → Area → Option Record → Bool
stands_below same part lower slot = option_map_or (stands_in same (list_map part lower)) (part slot) false

-- the slot repeats what a lower slot has, and may not
abbrev pub breaks_again : Area → Option Record → Bool
breaks_again lower slot =
    stands_below (eq_by_cmp entry_cmp) place_in lower slot
    || stands_below (λ x y. eq_by_cmp key_cmp x.0 y.0 && nat_eq x.1 y.1) version_in lower slot
    || stands_below nat_eq named_in lower slot
    || stands_below nat_eq id_in lower slot
    || stands_below (pointwise nat_eq) live_name_in lower slot
