-- Keys as they stand in the bytes, and records that are passed over.
use Rattle.std.specs.Prelude.{ℕ, List, Option, Some, None, Result, Ok}
use Rattle.ck_model.specs.declared.key.Key.{Key}
use Rattle.ck_model.specs.declared.key.Key.TheVariants.{Name, Node, Block}
use Rattle.ck_stream.specs.declared.item.Item.{Item}
use Rattle.ck_stream.specs.declared.fault.Flaw.{Flaw}
use Rattle.ck_stream.specs.declared.seen.SeenKey.{SeenKey}
use Rattle.ck_stream.specs.declared.seen.SeenKey.TheVariants as seen
use Rattle.ck_stream.specs.Right.{key_of}
use Rattle.ck_stream.specs.Parsed.{◌>>=◌}

-- the key that stands there
abbrev pub key_seen : SeenKey → Key
key_seen (seen.Name directory name) = Name directory name.now
key_seen (seen.Node node) = Node node
key_seen (seen.Block node index) = Block node index

abbrev pub last_seen : Option SeenKey → Option Key
last_seen None = None
last_seen (Some key) = Some (key_seen key)

-- the key of a record that is read, without what it has, and the bytes behind the record
abbrev pub keyed : Result (Item × List ℕ) Flaw → Result (Key × List ℕ) Flaw
keyed read = read >>= λ x. Ok (key_of x.0, x.1)
