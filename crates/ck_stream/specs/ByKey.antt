-- Records by their keys, as a map has them.
use Rattle.std.specs.Prelude.{List, Option, map as list_map}
use Rattle.std.specs.FinMap.{find}
use Rattle.std.specs.BTreeMap.{BTreeMap}
use Rattle.ck_model.specs.declared.key.Key.{Key}
use Rattle.ck_model.specs.declared.cell.Payload.{Payload}
use Rattle.ck_model.specs.Cells.{Content}
use Rattle.ck_model.specs.Key.{key_cmp}
use Rattle.ck_stream.specs.declared.item.Item.{Item}
use Rattle.ck_stream.specs.declared.item.Item.TheVariants.{Put}
use Rattle.ck_stream.specs.Right.{contents}

-- each key is put with what it has
abbrev pub records : List (Key × Payload) → List Item
records entries = list_map (λ e. Put e.0 e.1) entries

-- what a key has, if it has anything
abbrev pub held_at : BTreeMap Key Payload → Key → Option Content
held_at items key = find key_cmp key (contents (records items.entries))
