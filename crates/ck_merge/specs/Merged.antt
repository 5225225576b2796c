-- Changes that follow one another, as one.
use Rattle.std.specs.Prelude.{List, ◌++◌, Option, Some, None, map as list_map}
use Rattle.std.specs.FinMap as map
use Rattle.std.specs.FinMap.{find}
use Rattle.std.specs.BTreeMap.{BTreeMap}
use Rattle.ck_model.specs.declared.key.Key.{Key}
use Rattle.ck_model.specs.declared.cell.Payload.{Payload}
use Rattle.ck_model.specs.Cells.{Content}
use Rattle.ck_model.specs.Key.{key_cmp}
use Rattle.ck_stream.specs.declared.item.Item.{Item}
use Rattle.ck_stream.specs.declared.item.Item.TheVariants.{Put, Removed}
use Rattle.ck_stream.specs.Right.{changes}

-- the keys of both in their order, each with what the second ones give it where they have it, and else the first ones:
-- the map of a list has the first value of each key
abbrev pub merged : List (Key × Option Content) → List (Key × Option Content) → List (Key × Option Content)
merged x y = map.entries (map.from_entries {R = key_cmp} (y ++ x))

-- the record of what a key has from then on
abbrev pub record_of : Key → Option Payload → Item
record_of key None = Removed key
record_of key (Some payload) = Put key payload

abbrev pub records : List (Key × Option Payload) → List Item
records entries = list_map (λ e. record_of e.0 e.1) entries

-- what a key is changed to, if it is changed
abbrev pub change_at : BTreeMap Key (Option Payload) → Key → Option (Option Content)
change_at items key = find key_cmp key (changes (records items.entries))
