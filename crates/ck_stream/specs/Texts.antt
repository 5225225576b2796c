-- The bytes of streams as functions of what maps hold, as the model's step takes them.
use Rattle.std.specs.Prelude.{map as list_map, Option, Some, None}
use Rattle.ck_model.specs.declared.key.Key.{Key}
use Rattle.ck_model.specs.Cells.{Content}
use Rattle.ck_model.specs.Streams.{Texts}
use Rattle.ck_stream.specs.declared.item.Item.{Item}
use Rattle.ck_stream.specs.declared.item.Item.TheVariants.{Put, Removed}
use Rattle.ck_stream.specs.declared.stream.Stream.TheVariants as stream
use Rattle.ck_stream.specs.Written.{text}

-- the record of what a key has; a mark has no bytes, and no data checkpoint holds one
abbrev pub item_for : Key → Content → Item
item_for key None = Removed key
item_for key (Some payload) = Put key payload

abbrev pub change_for : Key → Option Content → Item
change_for key None = Removed key
change_for key (Some content) = item_for key content

abbrev pub texts : Texts
texts = record {
  full = λ id es. text (stream.Full (record { id = id; items = list_map (λ e. item_for e.0 e.1) es }));
  changes = λ from to es. text (stream.Changed (record { from = from; to = to; items = list_map (λ e. change_for e.0 e.1) es }));
}
