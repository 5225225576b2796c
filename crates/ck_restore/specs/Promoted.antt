-- An entry of a checkpoint becomes the primary's.
use Rattle.std.specs.Prelude.{ℕ, None}
use Rattle.ck_model.specs.declared.key.Key.{Key}
use Rattle.ck_model.specs.Table.{Table, column, with_entry}
use Rattle.ck_model.specs.Chain.{present}

-- the fileset's entry moves into the primary; an absent takes away what the primary has
abbrev pub promoted : Table → ℕ → Key → Table
promoted t fs key = with_entry (with_entry t fs key None) 0 key (present (column t key fs))
