-- What a command prints, and the words of a refusal.
use Rattle.std.specs.Prelude.{ℕ, List, [], ◌∷◌, ◌++◌, length, Result, Ok, Err, nat_lt, if◌then◌else◌, codes}
use Rattle.std.specs.Fmt.{decimal}
use Rattle.hex.specs.Hex.{encode_lower}
use Rattle.ck_model.specs.Limits.{input_limit}
use Rattle.ck_stream.specs.declared.fault.StreamFault.{StreamFault}
use Rattle.ck_stream.specs.declared.fault.StreamFault.TheVariants as fault
use Rattle.ck_stream.specs.declared.stream.Stream.{Stream}
use Rattle.ck_stream.specs.declared.stream.Stream.TheVariants as stream
use Rattle.ck_stream.specs.declared.stream.Summary.{Summary}
use Rattle.ck_stream.specs.declared.tag.Header.{Header}
use Rattle.ck_stream.specs.declared.tag.Header.TheVariants as header
use Rattle.ck_stream.specs.Written.{items_of, text}
use Rattle.ck_stream.specs.Parsed.{◌>>=◌}
use Rattle.ck_image.specs.declared.refusal.Refusal.{Refusal}
use Rattle.ck_image.specs.declared.refusal.Refusal.TheVariants as refusal
use Rattle.ck_image.specs.declared.command.Command.{Command}
use Rattle.ck_image.specs.declared.command.Command.TheVariants.{Verify, Apply, Merge}
use Rattle.ck_image.specs.Images.{whole_in, applied_in, merged_in}

-- a space, and a number or bytes in hexadecimal
abbrev pub number_words : ℕ → List ℕ
number_words number = 32 ∷ decimal number

abbrev pub digest_words : List ℕ → List ℕ
digest_words bytes = 32 ∷ encode_lower bytes

-- the kind and the ids
abbrev pub kind_words : Stream → List ℕ
kind_words (stream.Full full) = codes "full" ++ number_words full.id
kind_words (stream.Changed changed) =
    codes "changed" ++ number_words changed.from ++ number_words changed.to

-- the line that says what a stream is
abbrev pub stream_line : Stream → List ℕ
stream_line s = kind_words s ++ codes " records" ++ number_words (length (items_of s)) ++ 10 ∷ []

-- the same of what is told of a stream
abbrev pub header_words : Header → List ℕ
header_words (header.Full id) = codes "full" ++ number_words id
header_words (header.Changed earlier later) =
    codes "changed" ++ number_words earlier ++ number_words later

abbrev pub summary_line : Summary → List ℕ
summary_line told = header_words told.header ++ codes " records" ++ number_words told.records ++ 10 ∷ []

abbrev pub fault_words : StreamFault → List ℕ
fault_words (fault.NotStream place) = codes "NotStream" ++ number_words place
fault_words (fault.Truncated total) = codes "Truncated" ++ number_words total
fault_words (fault.Digest kept found) = codes "Digest" ++ digest_words kept ++ digest_words found
fault_words fault.NoMemory = []

abbrev pub refusal_words : Refusal → List ℕ
refusal_words (refusal.Stream why) = fault_words why
refusal_words (refusal.WrongBase has wants) = codes "WrongBase" ++ number_words has ++ number_words wants
refusal_words (refusal.NotAdjacent ends begins) = codes "NotAdjacent" ++ number_words ends ++ number_words begins
refusal_words refusal.TooLong = codes "TooLong 1073741824"
refusal_words refusal.NoMemory = []

-- what a command makes of an input that isn't too long
abbrev pub made_of : Command → List ℕ → Result (List ℕ) Refusal
made_of Verify bytes = whole_in bytes >>= λ s. Ok (stream_line s)
made_of Apply bytes = applied_in bytes >>= λ full. Ok (text (stream.Full full))
made_of Merge bytes = merged_in bytes >>= λ changed. Ok (text (stream.Changed changed))

-- what a command prints, or why it refuses its input
unfoldable pub printed : Command → List ℕ → Result (List ℕ) Refusal
printed command bytes =
    if nat_lt input_limit (length bytes) then Err refusal.TooLong else made_of command bytes
