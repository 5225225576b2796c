-- What a read that is on its way has to do with the history and with the present world.
use Rattle.std.proofs.Common.{◌≡◌, ◌≢◌, ◌≤◌, ◌<◌, ◌⊎◌, inl, inr, ℕ, zero, suc, ◌+◌, ◌-◌, ◌/◌, Bool, true, false, Option, Some, None, List, [], ◌∷◌, ◌++◌, length, find, min, nat_eq, slice_get, Result, if◌then◌else◌, IsTrue, refl, sym, ap, subst, ◌∙◌, arith}
use Rattle.std.specs.List.{range_with_len}
use Rattle.std.proofs.lemmas.Bool.{cases_lt, eqb-true, false_from_ne_true}
use Rattle.std.proofs.lemmas.Bool.Decides.{nat_tests}
use Rattle.std.proofs.lemmas.List.{take-append-le}
use Rattle.std.proofs.lemmas.Option.{slice_get_within}
use Rattle.std.specs.Coded.{Coded-set, coded_ℕ, coded_result}
use Rattle.std.specs.FinMap as map
use Rattle.std.proofs.Props.{props}
use mathlib.Core.Logic.{∥∥₁_elim}
use Rattle.ck_disk.specs.Disk.{Meaning}
use Rattle.ck_model.specs.contracts.reply.Reply as reply_row
use Rattle.ck_model.specs.declared.call.Call.{Call}
use Rattle.ck_model.specs.declared.call.Call.TheVariants.{Cread, Nodata}
use Rattle.ck_model.specs.declared.checkpoint.Kind.TheVariants.{Keeping}
use Rattle.ck_model.specs.declared.entry.Entry.{Entry}
use Rattle.ck_model.specs.declared.reply.Reply.{Reply}
use Rattle.ck_model.specs.Cells.{Cells, size_at}
use Rattle.ck_model.specs.Changes.{touched}
use Rattle.ck_model.specs.CheckpointCalls.{checkpoint_named}
use Rattle.ck_model.specs.Streams.{Texts}
use Rattle.ck_model.specs.World.{World, Checkpoint, has_id}
use Rattle.ck_model.specs.History.{CallsBy, begun, numbers_of, state}
use Rattle.ck_laws.specs.Laws.{IsOrdered, frozen}
use Rattle.ck_laws.specs.Fits.{Reading, IsReadingOf, FitsCall}
use Rattle.ck_laws.proofs.OthersLaws.{fits_last_lem, kept_maps_are_frozen_lem}
use Rattle.ck_laws.proofs.TableLaws.{tables_are_ordered_lem}
use Rattle.ck_log.specs.Layout.{base_of}
use Rattle.ck_data.specs.Device.{store_on}
use Rattle.ck_read.specs.declared.progress.ReadProgress.{ReadProgress}
use Rattle.ck_read.specs.Mounted.{IsReadIn, IsReadNow}
use Rattle.ck_read.specs.Progress.{all_turns, left_len, next_place, turns_had, turns_left, turns_of, IsOnWay}
use Rattle.ck_engine.specs.Recovery.{Recovers}
use Rattle.ck_engine.proofs.RecoveryLaws.{recovered_table}
use Rattle.ck_volume.specs.declared.event.Progress.{Progress}
use Rattle.ck_volume.specs.declared.event.Progress.TheVariants as progress
use Rattle.ck_volume.specs.Kept.{HasCalls, Stands}
use Rattle.ck_volume.specs.Present.{Present, history_of, world_of}
use Rattle.ck_volume.specs.Progress.{had_of, reading_of, IsBegunFor, FitsHistory, FitsNow, FitsStrip, FitsWorld, StripsNamed}
use Rattle.ck_volume.specs.Told.{AreAnswered}
use Rattle.ck_volume.specs.Turn.{OnStrip}
use Rattle.ck_volume.proofs.CallsLemmas.{numbers-more}
use Rattle.ck_volume.proofs.ToldLaws.{answered-before}

-- what an image recovers to has its checkpoints in order
pub recovered_order : (w : World) (image : List (List ℕ)) → Recovers image w → IsOrdered w
recovered_order w image found =
    let has = recovered_table image w found in
    subst IsOrdered has.world (tables_are_ordered_lem (store_on image (base_of has.layout.records)) map.empty has.table has.is_table has.orderly)

-- ---- in the present world

-- a read of a letter's checkpoint, as the history tells of it
record IsTold (w : World) (actor letter : ℕ) (path : List (List ℕ)) (at len : ℕ) (reading : Reading) : Type 0 where
  mounted : map.get w.mounts (actor, letter) ≡ Some reading.ckpt
  reads : (checkpoint : Checkpoint) → find (has_id reading.ckpt) w.checkpoints ≡ Some checkpoint → checkpoint.kind ≡ Keeping → IsReadingOf checkpoint.cells path at len reading

file-set : IsSet (Result ℕ Reply)
file-set = Coded-set (coded_result coded_ℕ reply_row.the_row.coded)

reading-prop : (cells : Cells) (path : List (List ℕ)) (at len : ℕ) (reading : Reading) → IsProp (IsReadingOf cells path at len reading)
reading-prop cells path at len reading = hlevel (file-set, props)

now-prop : (w : World) (actor letter : ℕ) (path : List (List ℕ)) (at len : ℕ) (reading : Reading) → IsProp (IsTold w actor letter path at len reading)
now-prop w actor letter path at len reading = hlevel (reading-prop, props)

one_map : (o : Option Cells) (a b : Cells) → o ≡ Some a → o ≡ Some b → a ≡ b
one_map o a b is same = cc

no_texts : Texts
no_texts = record { full = λ id items. []; changes = λ from to items. [] }

module _ {D : Type 0} (origin now : Meaning) (told : List Call) (volume : Present D) (stands : Stands origin now told volume) (is_told : IsTrue origin.tells) where
  abbrev history : List Entry
  history = history_of volume

  abbrev here : World
  here = world_of now.shows volume

  module _ (texts : Texts) (calls : CallsBy) (w : World) (found : Recovers origin.shows w) (answered : AreAnswered calls told (history_of volume)) where
    -- the history leads there
    here_is : state texts calls w history ≡ here
    here_is = ap (λ past. past.world) (stands is_told w found texts calls answered).1

    -- a checkpoint that stands with its data has the map that was frozen
    frozen_here : (id : ℕ) (checkpoint : Checkpoint) → find (has_id id) here.checkpoints ≡ Some checkpoint → checkpoint.kind ≡ Keeping → frozen texts calls w history id ≡ Some checkpoint.cells
    frozen_here id checkpoint stood keeps =
        kept_maps_are_frozen_lem texts calls w history (recovered_order w origin.shows found) (stands is_told w found texts calls answered).0 id checkpoint
        (ap (λ (x : World). find (has_id id) x.checkpoints) here_is ∙ stood) keeps

    fits_here : (actor letter : ℕ) (path : List (List ℕ)) (at len : ℕ) (reading : Reading) → FitsCall texts calls w history actor letter path at len reading → IsTold here actor letter path at len reading
    fits_here actor letter path at len reading fits = record {
      mounted = sym (ap (λ (x : World). map.get x.mounts (actor, letter)) here_is) ∙ fits.mounted;
      reads = λ checkpoint stood keeps.
          subst (λ cells. IsReadingOf cells path at len reading)
          (one_map (frozen texts calls w history reading.ckpt) fits.cells checkpoint.cells fits.cells_are (frozen_here reading.ckpt checkpoint stood keeps)) fits.read;
    }

    fits_then : (actor letter : ℕ) (path : List (List ℕ)) (at len : ℕ) (read : ReadProgress) → IsReadNow here actor letter path at len read → FitsCall texts calls w history actor letter path at len (reading_of read)
    fits_then actor letter path at len read reads = record {
      mounted = ap (λ (x : World). map.get x.mounts (actor, letter)) here_is ∙ reads.mounted;
      cells = reads.checkpoint.cells;
      cells_are = frozen_here read.ckpt reads.checkpoint reads.stands reads.keeps;
      read = record {
        file = reads.reads.file;
        from_is = reads.reads.from;
        to_is = reads.reads.to;
        within = reads.reads.fits.under_way.within;
        bytes_are = reads.reads.fits.bytes;
      };
    }

-- so it has it in the present one
module _ {D : Type 0} (origin now : Meaning) (told : List Call) (volume : Present D) (stands : Stands origin now told volume) (calls : ∥ HasCalls origin told (history_of volume) ∥₁) where
  least_size : (to at len size : ℕ) → to ≡ min (at + len) size → to ≤ size
  least_size to at len size is = omega (arith, is)

  read_in : (actor letter : ℕ) (path : List (List ℕ)) (at len : ℕ) (read : ReadProgress) → IsOnWay at read → IsTold (world_of now.shows volume) actor letter path at len (reading_of read) → IsReadIn (world_of now.shows volume) actor letter path at len read
  read_in actor letter path at len read on_way fits = record {
    mounted = fits.mounted;
    reads = λ checkpoint stood keeps.
        let r = fits.reads checkpoint stood keeps in
        record {
          file = r.file;
          from = r.from_is;
          to = r.to_is;
          fits = record { under_way = on_way.under_way; end = least_size read.to at len (size_at checkpoint.cells read.node) r.to_is; bytes = r.bytes_are };
        };
  }

  pub fits_world : IsTrue origin.tells → (actor : ℕ) (call : Call) (p : Progress) → OnStrip p (λ id. ⊥) → IsBegunFor call p → FitsHistory origin told (history_of volume) actor call p → FitsWorld (world_of now.shows volume) actor call p
  fits_world is_told actor call progress.Fresh reads begun fits = tt
  fits_world is_told actor (Cread letter path at len) (progress.Read read) reads begun fits =
      read_in actor letter path at len read begun
      (∥∥₁_elim calls (now-prop (world_of now.shows volume) actor letter path at len (reading_of read)) (λ has.
      let first = has.first is_told in
      fits_here origin now told volume stands is_told no_texts has.calls first.0 first.1 has.answered actor letter path at len (reading_of read)
      (fits is_told first.0 first.1 no_texts has.calls has.answered)))
  fits_world is_told actor _ (progress.Read read) reads begun fits = absurd begun
  fits_world is_told actor call (progress.Strip id) reads begun fits = absurd reads

-- and what fits there fits the history
pub now_fits : {D : Type 0} (origin now : Meaning) (told : List Call) (volume : Present D) → Stands origin now told volume → (actor : ℕ) (call : Call) (p : Progress)
    → (IsTrue origin.tells → FitsNow (world_of now.shows volume) actor call p) → FitsHistory origin told (history_of volume) actor call p
now_fits origin now told volume stands actor call progress.Fresh reads = tt
now_fits origin now told volume stands actor (Cread letter path at len) (progress.Read read) reads = λ is_told w found texts calls answered.
    fits_then origin now told volume stands is_told texts calls w found answered actor letter path at len read (reads is_told)
now_fits origin now told volume stands actor _ (progress.Read read) reads = λ is_told w found texts calls answered. absurd (reads is_told)
now_fits origin now told volume stands actor call (progress.Strip id) reads = λ is_told w found texts calls answered. absurd (reads is_told)

-- ---- as entries of other actors come

none_of : (entry : Entry) (actor : ℕ) → entry.actor ≢ actor → numbers_of (entry ∷ []) actor ≡ []
none_of entry actor apart =
    elim (nat_eq entry.actor actor) as (λ b. nat_eq entry.actor actor ≡ b → numbers_of (entry ∷ []) actor ≡ []) [
      | true ↦ λ same. absurd (apart (grind (arith, same)))
      | false ↦ λ other. cc
    ] refl

-- an entry stays where it is as others come behind it
stays_there : (entries more : List Entry) (number : ℕ) (entry : Entry) → slice_get entries number ≡ Some entry → slice_get (entries ++ more) number ≡ Some entry
stays_there [] more number entry is = absurd (none_there entry is)
  where
    none_there : (e : Entry) → None ≡ Some e → ⊥
    none_there e h = cc
stays_there (first ∷ entries) more zero entry is = is
stays_there (first ∷ entries) more (suc number) entry is = stays_there entries more number entry is

module _ (texts : Texts) (calls : CallsBy) (w : World) (history : List Entry) (entry : Entry) (actor : ℕ) (apart : entry.actor ≢ actor) where
  abbrev one_if : Bool → ℕ
  one_if b = if b then 1 else 0

  -- what is stripped stays the checkpoint of the actor's last call
  strips_others : (name : List ℕ) (id : ℕ) → StripsNamed texts calls w history actor name id → StripsNamed texts calls w (history ++ entry ∷ []) actor name id
  strips_others name id strips =
      let within : strips.number < length history = slice_get_within history strips.number strips.entry strips.there in
      let many = numbers-more history entry actor in
      let none : one_if (nat_eq entry.actor actor) ≡ 0 = ap one_if (false_from_ne_true (nat_eq entry.actor actor) (λ h. apart (eqb-true entry.actor actor h))) in
      record {
        number = strips.number;
        entry = strips.entry;
        there = stays_there history (entry ∷ []) strips.number strips.entry strips.there;
        own = strips.own;
        seq = strips.seq ∙ omega (arith, many, none);
        checkpoint = strips.checkpoint;
        named = ap (λ (es : List Entry). checkpoint_named (state texts calls w es) name) (take-append-le strips.number history (entry ∷ []) (omega (arith, within))) ∙ strips.named;
        id_is = strips.id_is;
      }

  fits_strip : (call : Call) (id : ℕ) → FitsStrip texts calls w history actor call id → FitsStrip texts calls w (history ++ entry ∷ []) actor call id
  fits_strip (Nodata name true) id fits = strips_others name id fits
  fits_strip (Nodata name false) id fits = absurd fits
  fits_strip _ id fits = absurd fits

pub fits_others : (origin : Meaning) (told : List Call) (other : Call) (history : List Entry) (entry : Entry) (actor : ℕ) (call : Call) (p : Progress) → entry.actor ≢ actor
    → FitsHistory origin told history actor call p → FitsHistory origin (told ++ other ∷ []) (history ++ entry ∷ []) actor call p
fits_others origin told other before entry actor call progress.Fresh apart fits = tt
fits_others origin told other before entry actor call (progress.Read read) apart fits = λ is_told w found texts calls answered.
    fits_last_lem texts calls w before (entry ∷ []) actor call (reading_of read) (none_of entry actor apart)
    (fits is_told w found texts calls (answered-before calls told other before entry answered).0)
fits_others origin told other before entry actor call (progress.Strip id) apart fits = λ is_told w found texts calls answered.
    fits_strip texts calls w before entry actor apart call id (fits is_told w found texts calls (answered-before calls told other before entry answered).0)

-- ---- its turns

-- as many as the bytes that the file has of the range take
pub turns_on_way : (cells : Cells) (path : List (List ℕ)) (at len : ℕ) (read : ReadProgress) → IsReadingOf cells path at len (reading_of read) → all_turns read ≡ turns_of at (min len (size_at cells read.node - at))
turns_on_way cells path at len read r =
    let size = size_at cells read.node in
    let range : read.to - read.from ≡ min len (size - at) = omega (arith, r.to_is, r.from_is) in
    ap (λ n. turns_of read.from n) range ∙ ap (λ n. turns_of n (min len (size - at))) r.from_is

-- one at least is left
one_left : (all left : ℕ) → 1 ≤ all → 1 ≤ left → all - left + 1 ≤ all
one_left all left some more = omega (arith, some, more)

one_turn : (place count : ℕ) → 1 ≤ turns_of place count
one_turn place count = omega arith

pub had_below : (read : ReadProgress) → turns_had read + 1 ≤ all_turns read
had_below read = one_left (all_turns read) (turns_left read) (one_turn read.from (read.to - read.from)) (one_turn (next_place read) (left_len read))

-- ---- and no more than a file has blocks

range-length : (first count : ℕ) → length (range_with_len first count) ≡ count
range-length first zero = refl
range-length first (suc count) = ap suc (range-length (first + 1) count)

touched_within : (place count : ℕ) → (count ≡ 0) ⊎ (place + count ≤ 1073741824) → length (touched place count) ≤ 262144
touched_within place count within =
    elim (nat_eq count 0) as (λ b. nat_eq count 0 ≡ b → length (range_with_len (place / 4096) (if b then 0 else (place + count + 4095) / 4096 - place / 4096)) ≤ 262144) [
      | true ↦ λ _. omega arith
      | false ↦ λ some.
          let many = range-length (place / 4096) ((place + count + 4095) / 4096 - place / 4096) in
          elim within [
            | inl none ↦ absurd (grind (arith, nat_tests, none, some))
            | inr low ↦ omega (arith, many, low)
          ]
    ] refl

all_within : (read : ReadProgress) → read.to ≤ 1073741824 → all_turns read ≤ 262144
all_within read low =
    let many = touched_within read.from (read.to - read.from) (elim (cases_lt read.from read.to) [
      | inl ahead ↦ inr (omega (arith, low, ahead))
      | inr none ↦ inl (omega (arith, none))
    ]) in
    omega (arith, many)

-- so a call goes on over no more events
pub had_within : (call : Call) (p : Progress) → IsBegunFor call p → had_of p < 262144
had_within call progress.Fresh begun = omega arith
had_within (Cread letter path at len) (progress.Read read) begun =
    let some = had_below read in
    let all = all_within read begun.under_way.limit in
    omega (arith, some, all)
had_within _ (progress.Read read) begun = absurd begun
had_within call (progress.Strip id) begun = omega arith
