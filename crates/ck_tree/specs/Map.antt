-- The map that a fileset of a table stands for, as far as its names and nodes go.
use Rattle.std.specs.Prelude.{◌≡◌, ℕ, Option, Some, None, is_some}
use Rattle.std.specs.Option.{option_map}
use Rattle.std.specs.FinMap as map
use Rattle.ck_model.specs.declared.key.Key.{Key}
use Rattle.ck_model.specs.declared.cell.Payload.TheVariants as payload
use Rattle.ck_model.specs.declared.held.Held.{Held}
use Rattle.ck_model.specs.declared.held.Held.TheVariants.{Absent, Plain, Extent, Mark}
use Rattle.ck_model.specs.declared.held.Small.{Small}
use Rattle.ck_model.specs.Cells.{Cells, Content, content_at}
use Rattle.ck_model.specs.Table.{Table}
use Rattle.ck_model.specs.Chain.{value_at}
use Rattle.ck_model.specs.Values.{payload_of}

-- what stands in the entry itself
abbrev pub small_in : Option Held → Option Small
small_in None = None
small_in (Some Absent) = None
small_in (Some (Plain stamp value)) = Some value
small_in (Some (Extent stamp block)) = None
small_in (Some (Mark stamp)) = None

-- a block as a mark
abbrev pub without_bytes : Content → Content
without_bytes (Some (payload.To node)) = Some (payload.To node)
without_bytes (Some (payload.File size)) = Some (payload.File size)
without_bytes (Some payload.Dir) = Some payload.Dir
without_bytes (Some (payload.Bytes bytes)) = None
without_bytes None = None

-- each key has a cell where the fileset has a value there, and the cell holds the value's name or
-- node. What a block holds isn't said
pub record StandsFor (t : Table) (fs : ℕ) (cells : Cells) : Type 0 where
  pub present : (key : Key) → map.contains_key cells key ≡ is_some (value_at t fs key)
  pub small : (key : Key)
      → without_bytes (content_at cells key) ≡ option_map payload_of (small_in (value_at t fs key))
