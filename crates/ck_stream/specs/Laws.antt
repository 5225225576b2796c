-- What follows of the spelling alone.
use Rattle.std.specs.Prelude.{◌≡◌, ℕ, List, [], ◌++◌}
use Rattle.ck_model.specs.Cells.{Cells, OfOneHistory}
use Rattle.ck_model.specs.Streams.{image, applied, changed as map_changes}
use Rattle.ck_stream.specs.declared.stream.Full.{Full}
use Rattle.ck_stream.specs.declared.stream.Changed.{Changed}
use Rattle.ck_stream.specs.declared.stream.Stream.{Stream}
use Rattle.ck_stream.specs.declared.stream.Stream.TheVariants as stream
use Rattle.ck_stream.specs.Written.{text}
use Rattle.ck_stream.specs.Right.{IsFull, IsStream, contents, changes}
use Rattle.ck_stream.specs.Texts.{texts}

-- bytes that begin with a stream's are another stream's only where nothing stands behind
abbrev pub NoneBeginsAnother : Type 0
NoneBeginsAnother =
    (s t : Stream) (behind : List ℕ) → IsStream s → IsStream t → text t ≡ text s ++ behind → (behind ≡ []) × (s ≡ t)

-- a full stream of one map, with what changed to another map of the same history applied to it, is the full stream of
-- that map, byte for byte
abbrev pub BackupsApply : Type 0
BackupsApply =
    (a b : Cells) (full later : Full) (changed : Changed) → OfOneHistory a b → contents full.items ≡ image a →
    changes changed.items ≡ map_changes a b → IsFull later → later.id ≡ changed.to →
    contents later.items ≡ applied (contents full.items) (changes changed.items) →
    text (stream.Full later) ≡ texts.full changed.to (image b)
