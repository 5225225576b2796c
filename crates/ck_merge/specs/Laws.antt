-- What follows of merging alone.
use Rattle.std.specs.Prelude.{◌≡◌, List, Option}
use Rattle.std.specs.Option.{option_or}
use Rattle.std.specs.FinMap.{find}
use Rattle.ck_model.specs.declared.key.Key.{Key}
use Rattle.ck_model.specs.Cells.{Cells, Content, OfOneHistory}
use Rattle.ck_model.specs.Key.{key_cmp}
use Rattle.ck_model.specs.Streams.{image, applied, changed as map_changes}
use Rattle.ck_stream.specs.declared.stream.Full.{Full}
use Rattle.ck_stream.specs.declared.stream.Changed.{Changed}
use Rattle.ck_stream.specs.declared.stream.Stream.TheVariants as stream
use Rattle.ck_stream.specs.Written.{text}
use Rattle.ck_stream.specs.Right.{IsFull, contents, changes}
use Rattle.ck_stream.specs.Texts.{texts}
use Rattle.ck_merge.specs.Merged.{merged}

-- to apply both at once is to apply one after the other
abbrev pub MergedApplies : Type 0
MergedApplies =
    (items : List (Key × Content)) (x y : List (Key × Option Content)) →
    applied items (merged x y) ≡ applied (applied items x) y

-- each key has what the second ones give it, and else what the first ones do
abbrev pub MergedHasBoth : Type 0
MergedHasBoth =
    (x y : List (Key × Option Content)) (key : Key) →
    find key_cmp key (merged x y) ≡ option_or (find key_cmp key y) (find key_cmp key x)

-- a full stream of one map, with what changed to a second one and from there to a third merged and applied to it, is the
-- full stream of the third one, byte for byte
abbrev pub BackupsMerge : Type 0
BackupsMerge =
    (a b c : Cells) (full later : Full) (first second both : Changed) → OfOneHistory a b → OfOneHistory b c →
    contents full.items ≡ image a → changes first.items ≡ map_changes a b → changes second.items ≡ map_changes b c →
    changes both.items ≡ merged (changes first.items) (changes second.items) → IsFull later → later.id ≡ second.to →
    contents later.items ≡ applied (contents full.items) (changes both.items) →
    text (stream.Full later) ≡ texts.full second.to (image c)
