-- A new checkpoint: what is refused, in order, and the table after it.
use Rattle.std.specs.Prelude.{ℕ, ◌+◌, Bool, false, List, length, Some, Result, Ok, Err, is_some, nat_eq, nat_le, if◌then◌else◌}
use Rattle.ck_model.specs.declared.checkpoint.Fileset.{Fileset}
use Rattle.ck_model.specs.declared.checkpoint.Kind.{Kind}
use Rattle.ck_model.specs.Table.{Table, with_fileset, with_counters}
use Rattle.ck_model.specs.Chain.{live_ids}
use Rattle.ck_table.specs.declared.added.AddFault.{AddFault}
use Rattle.ck_table.specs.declared.added.AddFault.TheVariants.{Exists, TooMany, Spent}
use Rattle.ck_table.specs.Names.{id_named}

-- the first refusal, or the next id
abbrev pub new_id : Table → List ℕ → Result ℕ AddFault
new_id t name =
    if is_some (id_named t name) then Err Exists
    else (if nat_le 64 (length (live_ids t)) then Err TooMany
    else (if nat_eq t.counters.id 4294967295 then Err Spent
    else Ok t.counters.id))

-- a checkpoint that stands
abbrev pub new_fileset : List ℕ → Kind → Bool → ℕ → Fileset
new_fileset name kind removable ctime =
    record { name = name; kind = kind; removable = removable; gone = false; ctime = ctime }

-- the table with this record under the next id, and the next id raised by one
abbrev pub with_added : Table → Fileset → Table
with_added t fileset =
    with_counters (with_fileset t t.counters.id (Some fileset)) (record (t.counters) { id = t.counters.id + 1 })
