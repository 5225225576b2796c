-- What is told of a stream whose records aren't kept: its header, and how many records it has.
use Rattle.std.specs.Prelude.{◌≡◌, ℕ, suc, ◌-◌, List, length, drop, None, Result, Ok}
use Rattle.sha2.specs.Sha256.{sha256}
use Rattle.ck_stream.specs.declared.item.Item.{Item}
use Rattle.ck_stream.specs.declared.fault.StreamFault.{StreamFault}
use Rattle.ck_stream.specs.declared.tag.Header.TheVariants as header
use Rattle.ck_stream.specs.declared.stream.Stream.{Stream}
use Rattle.ck_stream.specs.declared.stream.Stream.TheVariants as stream
use Rattle.ck_stream.specs.declared.stream.Summary.{Summary}
use Rattle.ck_stream.specs.Written.{text, StandsIn}
use Rattle.ck_stream.specs.Right.{IsStream}
use Rattle.ck_stream.specs.Parsed.{◌>>=◌, located, header_at, items_at, end_at, is_full, signed, digest_in}

abbrev pub summary_of : Stream → Summary
summary_of (stream.Full full) = record { header = header.Full full.id; records = length full.items }
summary_of (stream.Changed changed) =
    record { header = header.Changed changed.from changed.to; records = length changed.items }

-- a right stream stands from this place on up to the one that is told, and this is told of it
pub record TellsOf (bytes : List ℕ) (at : ℕ) (read : Summary × ℕ) : Type 0 where
  pub stream : Stream
  pub right : IsStream stream
  pub spelled : StandsIn bytes at read.1 (text stream)
  pub told : summary_of stream ≡ read.0

-- what was read, without the records
abbrev pub seen : {E : Type 0} → Result (Stream × ℕ) E → Result (Summary × ℕ) E
seen read = read >>= λ x. Ok (summary_of x.0, x.1)

abbrev pub counted : Result (List Item × List ℕ) StreamFault → Result (ℕ × List ℕ) StreamFault
counted read = read >>= λ x. Ok (length x.0, x.1)

-- the stream that begins at this place, with its records only counted
unfoldable pub seen_at : List ℕ → ℕ → Result (Summary × ℕ) StreamFault
seen_at bytes at = do
  head ← located (length bytes) at (header_at (drop at bytes))
  items ← counted (items_at (length head.1) (length bytes) (is_full head.0) None head.1)
  end ← located (length bytes) (length bytes - suc (length items.1)) (end_at items.0 items.1)
  digest_in end.0 (sha256 (signed (drop at bytes) (length end.1)))
      (record { header = head.0; records = items.0 }, length bytes - length end.1)
