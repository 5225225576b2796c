-- What the rules that look at lower slots take from a slot.
use Rattle.std.specs.Prelude.{ℕ, List, Option, Some, None, if◌then◌else◌}
use Rattle.std.specs.Option.{option_map}
use Rattle.ck_model.specs.declared.key.Key.{Key}
use Rattle.ck_model.specs.Rules.{stamp_in, block_in}
use Rattle.ck_record.specs.declared.records.Record.{Record}
use Rattle.ck_record.specs.declared.records.Record.TheVariants.{Free, Counters as CountersRecord, Fileset as FilesetRecord, Entry}

-- the fileset and key of an entry
abbrev pub place_in : Option Record → Option (ℕ × Key)
place_in None = None
place_in (Some Free) = None
place_in (Some (CountersRecord counters)) = None
place_in (Some (FilesetRecord id fileset)) = None
place_in (Some (Entry fs key held)) = Some (fs, key)

-- the key and the stamp of an entry that has one
abbrev pub version_in : Option Record → Option (Key × ℕ)
version_in None = None
version_in (Some Free) = None
version_in (Some (CountersRecord counters)) = None
version_in (Some (FilesetRecord id fileset)) = None
version_in (Some (Entry fs key held)) = option_map (λ stamp. (key, stamp)) (stamp_in held)

-- the data block that an entry names
abbrev pub named_in : Option Record → Option ℕ
named_in None = None
named_in (Some Free) = None
named_in (Some (CountersRecord counters)) = None
named_in (Some (FilesetRecord id fileset)) = None
named_in (Some (Entry fs key held)) = block_in held

-- a checkpoint's id
abbrev pub id_in : Option Record → Option ℕ
id_in None = None
id_in (Some Free) = None
id_in (Some (CountersRecord counters)) = None
id_in (Some (FilesetRecord id fileset)) = Some id
id_in (Some (Entry fs key held)) = None

-- the name of a checkpoint that isn't gone
abbrev pub live_name_in : Option Record → Option (List ℕ)
live_name_in None = None
live_name_in (Some Free) = None
live_name_in (Some (CountersRecord counters)) = None
live_name_in (Some (FilesetRecord id fileset)) = if fileset.gone then None else Some fileset.name
live_name_in (Some (Entry fs key held)) = None
