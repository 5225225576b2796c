-- What the streams in an input come to: one stream, a full stream with changed ones applied to it, or changed ones as one.
use Rattle.std.specs.Prelude.{◌≡◌, ℕ, zero, suc, List, [], ◌∷◌, length, map as list_map, Some, None, Result, Ok, Err, nat_eq, if◌then◌else◌, ⊤}
use Rattle.ck_model.specs.declared.key.Key.{Key}
use Rattle.ck_model.specs.Cells.{Content}
use Rattle.ck_model.specs.Streams.{applied}
use Rattle.ck_stream.specs.declared.item.Item.{Item}
use Rattle.ck_stream.specs.declared.item.Item.TheVariants.{Put}
use Rattle.ck_stream.specs.declared.fault.StreamFault.{StreamFault}
use Rattle.ck_stream.specs.declared.fault.StreamFault.TheVariants as fault
use Rattle.ck_stream.specs.declared.stream.Full.{Full}
use Rattle.ck_stream.specs.declared.stream.Changed.{Changed}
use Rattle.ck_stream.specs.declared.stream.Stream.{Stream}
use Rattle.ck_stream.specs.declared.stream.Stream.TheVariants as stream
use Rattle.ck_stream.specs.declared.stream.Summary.{Summary}
use Rattle.ck_stream.specs.Right.{contents, changes}
use Rattle.ck_stream.specs.Parsed.{◌>>=◌, stream_at}
use Rattle.ck_stream.specs.Seen.{summary_of}
use Rattle.ck_stream.specs.Texts.{change_for}
use Rattle.ck_merge.specs.Merged.{merged}
use Rattle.ck_image.specs.declared.refusal.Refusal.{Refusal}
use Rattle.ck_image.specs.declared.refusal.Refusal.TheVariants as refusal

-- what a call answered is what it is to answer, unless memory ran out
abbrev pub HasRefusal : {Y : Type 0} → Refusal → Result Y Refusal → Type 0
HasRefusal (refusal.Stream why) read = read ≡ Err (refusal.Stream why)
HasRefusal (refusal.WrongBase has wants) read = read ≡ Err (refusal.WrongBase has wants)
HasRefusal (refusal.NotAdjacent ends begins) read = read ≡ Err (refusal.NotAdjacent ends begins)
HasRefusal refusal.TooLong read = read ≡ Err refusal.TooLong
HasRefusal refusal.NoMemory read = ⊤

abbrev pub Answers : {X Y : Type 0} → (X → Y) → Result X Refusal → Result Y Refusal → Type 0
Answers view (Ok x) read = read ≡ Ok (view x)
Answers view (Err why) read = HasRefusal why read

abbrev pub refused_stream : StreamFault → Refusal
refused_stream (fault.NotStream place) = refusal.Stream (fault.NotStream place)
refused_stream (fault.Truncated total) = refusal.Stream (fault.Truncated total)
refused_stream (fault.Digest kept found) = refusal.Stream (fault.Digest kept found)
refused_stream fault.NoMemory = refusal.NoMemory

-- the stream at a place, and the place behind it
abbrev pub found_at : List ℕ → ℕ → Result (Stream × ℕ) StreamFault → Result (Stream × ℕ) Refusal
found_at bytes at (Ok read) = Ok read
found_at bytes at (Err why) = Err (refused_stream why)

unfoldable pub stream_in : List ℕ → ℕ → Result (Stream × ℕ) Refusal
stream_in bytes at = found_at bytes at (stream_at bytes at)

-- a stream that isn't right at this place
abbrev pub wrong_at : ℕ → Refusal
wrong_at place = refusal.Stream (fault.NotStream place)

-- ---- one stream

-- nothing may stand behind it
abbrev pub all_of : List ℕ → Stream × ℕ → Result Stream Refusal
all_of bytes read = if nat_eq read.1 (length bytes) then Ok read.0 else Err (wrong_at read.1)

unfoldable pub whole_in : List ℕ → Result Stream Refusal
whole_in bytes = stream_in bytes 0 >>= λ read. all_of bytes read

-- what is told of it
abbrev pub told : Result Stream Refusal → Result Summary Refusal
told read = read >>= λ s. Ok (summary_of s)

-- ---- one stream after the other

-- what a step makes of the streams from a place up to the input's end, of which there are at most so many: each has bytes
unfoldable pub to_end : {A : Type 0} → (A → ℕ → Result (A × ℕ) Refusal) → ℕ → List ℕ → A → ℕ → Result A Refusal
to_end step zero bytes made at = Ok made
to_end step (suc n) bytes made at =
    if nat_eq at (length bytes) then Ok made
    else (step made at >>= λ next. to_end step n bytes next.0 next.1)

-- ---- a full stream, and changed ones behind it

-- what the kind of stream is that is asked for there
abbrev pub full_of : ℕ → Stream → ℕ → Result (Full × ℕ) Refusal
full_of at (stream.Full full) end = Ok (full, end)
full_of at (stream.Changed changed) end = Err (wrong_at at)

abbrev pub changed_of : ℕ → Stream → ℕ → Result (Changed × ℕ) Refusal
changed_of at (stream.Full full) end = Err (wrong_at at)
changed_of at (stream.Changed changed) end = Ok (changed, end)

unfoldable pub full_in : List ℕ → Result (Full × ℕ) Refusal
full_in bytes = stream_in bytes 0 >>= λ read. full_of 0 read.0 read.1

unfoldable pub changed_in : List ℕ → ℕ → Result (Changed × ℕ) Refusal
changed_in bytes at = stream_in bytes at >>= λ read. changed_of at read.0 read.1

-- the records that put these contents; a mark has no record
abbrev pub put_again : Key → Content → List Item → List Item
put_again key None items = items
put_again key (Some payload) items = Put key payload ∷ items

abbrev pub items_with : List (Key × Content) → List Item
items_with [] = []
items_with (e ∷ es) = put_again e.0 e.1 (items_with es)

-- the later checkpoint, from the earlier one and what changed
abbrev pub later : Full → Changed → Full
later full changed =
    record { id = changed.to; items = items_with (applied (contents full.items) (changes changed.items)) }

-- what changed must be from that very checkpoint on
unfoldable pub applied_once : Full → Changed → Result Full Refusal
applied_once full changed =
    if nat_eq full.id changed.from then Ok (later full changed)
    else Err (refusal.WrongBase full.id changed.from)

unfoldable pub next_in : List ℕ → Full → ℕ → Result (Full × ℕ) Refusal
next_in bytes full at = do
  read ← changed_in bytes at
  new ← applied_once full read.0
  Ok (new, read.1)

abbrev pub changes_in : ℕ → List ℕ → Full → ℕ → Result Full Refusal
changes_in n bytes full at = to_end (next_in bytes) n bytes full at

unfoldable pub applied_in : List ℕ → Result Full Refusal
applied_in bytes = full_in bytes >>= λ first. changes_in (length bytes) bytes first.0 first.1

-- ---- changed streams alone

-- the changes of both, from where the first ones begin to where the second ones end
abbrev pub both : Changed → Changed → Changed
both first second = record {
  from = first.from;
  to = second.to;
  items = list_map (λ e. change_for e.0 e.1) (merged (changes first.items) (changes second.items));
}

-- the second ones must begin where the first ones end
unfoldable pub merged_once : Changed → Changed → Result Changed Refusal
merged_once first second =
    if nat_eq first.to second.from then Ok (both first second)
    else Err (refusal.NotAdjacent first.to second.from)

unfoldable pub next_merged : List ℕ → Changed → ℕ → Result (Changed × ℕ) Refusal
next_merged bytes all at = do
  read ← changed_in bytes at
  new ← merged_once all read.0
  Ok (new, read.1)

unfoldable pub merged_in : List ℕ → Result Changed Refusal
merged_in bytes = changed_in bytes 0 >>= λ first. to_end (next_merged bytes) (length bytes) bytes first.0 first.1
