-- A checkpoint that a call goes on to strip: that of a conversion step by step which was done.
use Rattle.std.proofs.Common.{◌≡◌, inl, inr, ℕ, ◌+◌, Bool, true, false, not, cond, ◌&&◌, Option, Some, None, IfSome, IfNone, IsSome, MatchOption, if◌then◌else◌, List, [], ◌∷◌, ◌++◌, length, slice_get, find, nat_eq, refl, sym, ap, subst, ◌∙◌, arith}
use Rattle.std.specs.Option.{option_map, option_map_or, option_or}
use Rattle.std.specs.Cmp.Lexicographic.{pointwise}
use Rattle.std.specs.FinMap as map
use Rattle.std.proofs.lemmas.Bool.{eqb-true, false≢true}
use Rattle.std.proofs.Math.Seq.{take-append_seam}
use Rattle.ck_disk.specs.Disk.{Meaning}
use Rattle.ck_disk.specs.declared.disk.Disk.{Ghosts}
use Rattle.ck_data.specs.Device.{store_on}
use Rattle.ck_model.specs.declared.call.Call.{Call}
use Rattle.ck_model.specs.declared.call.Call.TheVariants.{Nodata}
use Rattle.ck_model.specs.declared.checkpoint.Fileset.{Fileset}
use Rattle.ck_model.specs.declared.entry.Entry.{Entry}
use Rattle.ck_model.specs.declared.reply.Reply.{Reply}
use Rattle.ck_model.specs.declared.reply.Reply.TheVariants.{Broken, Done}
use Rattle.ck_model.specs.Chain.{is_live, keeps_data}
use Rattle.ck_model.specs.CheckpointCalls.{checkpoint_named}
use Rattle.ck_model.specs.History.{CallsBy, numbers_of, reply_number, state, is_broken, is_write_fault}
use Rattle.ck_model.specs.Streams.{Texts}
use Rattle.ck_model.specs.Table.{Table, IsTable}
use Rattle.ck_model.specs.TableWorld.{checkpoint_on, world_on}
use Rattle.ck_model.specs.Values.{Store}
use Rattle.ck_model.specs.World.{World, Mounts}
use Rattle.ck_nodata.specs.StripItem.{unstripped_count}
use Rattle.ck_table.specs.Flags.{as_nodata, with_nodata}
use Rattle.ck_table.specs.Names.{id_named, is_named}
use Rattle.ck_table.proofs.FlagLaws.{newer-with_nodata}
use Rattle.ck_table.proofs.IdLaws.{get-recorded}
use Rattle.ck_table.proofs.LeaveLaws.{stands_live}
use Rattle.ck_table.proofs.WorldLaws.{named-some}
use Rattle.ck_files.specs.Conversion.{IsConverted, Converts}
use Rattle.ck_files.specs.Drained.{IsOver}
use Rattle.ck_history.specs.History.{entries_of}
use Rattle.ck_engine.specs.Engine as files
use Rattle.ck_volume.specs.declared.event.Progress.{Progress}
use Rattle.ck_volume.specs.declared.event.Progress.TheVariants.{Fresh, Read, Strip}
use Rattle.ck_volume.specs.declared.event.Turn.{Turn}
use Rattle.ck_volume.specs.declared.event.Turn.TheVariants.{More, Answered}
use Rattle.ck_volume.specs.declared.volume.Volume.{Volume}
use Rattle.ck_volume.specs.Conversion.{strip_begun, ConvertsBy, ConvertsNamed, StripsFirst}
use Rattle.ck_volume.specs.Event.{IsEntryOf}
use Rattle.ck_volume.specs.Kept.{Stands}
use Rattle.ck_volume.specs.Present.{Present, history_of}
use Rattle.ck_volume.specs.Progress.{strip_of, IsSynchronous, FitsHistory, FitsStrip, StripsNamed}
use Rattle.ck_volume.specs.Turn.{entries_had, OnAnswered, OnEntry, OnMore, StripsOn}
use Rattle.ck_volume.specs.Volume.{broken_of, committed_of, disk_of, origin_of, past_on, room_of, spoilt_of, table_of, told_of, KeepsLog}
use Rattle.ck_volume.proofs.CallsLemmas.{numbers-more}
use Rattle.ck_volume.proofs.ToldLaws.{answered-before}

-- ---- names stay

module _ (t : Table) (id : ℕ) (live : is_live t id ≡ true) (name : List ℕ) where
  named_same : (x : ℕ) → is_named (with_nodata t id) name x ≡ is_named t name x
  named_same x =
      let test : Fileset → Bool = λ f. not f.gone && pointwise nat_eq f.name name in
      ap (λ o. option_map_or test o false) (get-recorded t.filesets id (option_map as_nodata (map.get t.filesets id)) x)
      ∙ elim (nat_eq x id) as (λ b. nat_eq x id ≡ b → option_map_or (λ (f : Fileset). not f.gone && pointwise nat_eq f.name name) (cond b (option_map as_nodata (map.get t.filesets id)) (map.get t.filesets x)) false ≡ is_named t name x) [
        | true ↦ λ here. still (map.get t.filesets id) ∙ sym (ap (λ (n : ℕ). is_named t name n) (eqb-true x id here))
        | false ↦ λ _. refl
      ] refl
    where
      still : (o : Option Fileset) → option_map_or (λ (f : Fileset). not f.gone && pointwise nat_eq f.name name) (option_map as_nodata o) false ≡ option_map_or (λ (f : Fileset). not f.gone && pointwise nat_eq f.name name) o false
      still None = refl
      still (Some f) = refl

  pub id_named-with_nodata : id_named (with_nodata t id) name ≡ id_named t name
  id_named-with_nodata = λ i. find (λ x. named_same x i) (newer-with_nodata t id live 0 i)

-- ---- which calls go on to strip

no_one : (id : ℕ) → None ≡ Some id → ⊥
no_one id h = cc

-- a conversion step by step that was done
record Begins (call : Call) (reply : Reply) (t : Table) (id : ℕ) : Type 0 where
  name : List ℕ
  call_is : call ≡ Nodata name true
  done : reply ≡ Done
  named : id_named t name ≡ Some id

begins : (call : Call) (reply : Reply) (t : Table) (id : ℕ) → strip_begun call reply t ≡ Some id → Begins call reply t id
begins (Nodata name true) Done t id is = record { name = name; call_is = refl; done = refl; named = is }
begins (Nodata name true) _ t id is = absurd (no_one id is)
begins (Nodata name false) reply t id is = absurd (no_one id is)
begins _ reply t id is = absurd (no_one id is)

pub begun_synchronous : (call : Call) (reply : Reply) (t : Table) (id : ℕ) → strip_begun call reply t ≡ Some id → IsSynchronous call
begun_synchronous call reply t id is = subst IsSynchronous (sym (begins call reply t id is).call_is) tt

pub begun_done : (call : Call) (reply : Reply) (t : Table) (id : ℕ) → strip_begun call reply t ≡ Some id → reply ≡ Done
begun_done call reply t id is = (begins call reply t id is).done

-- ---- what its first event does

module _ (reply : Reply) (old mid new : Table) (turn : Turn) (now : Progress) where
  -- what the strip did, where there was one
  abbrev Went : Call → Type 0
  Went call = IfSome (strip_begun call reply mid) (λ id. OnMore turn ((now ≡ Strip id) × (unstripped_count new + 1 ≡ unstripped_count mid)) × OnAnswered turn (IsOver new id))

  abbrev Stayed : Call → Type 0
  Stayed call = IfNone (strip_begun call reply mid) ((turn ≡ Answered) × (new ≡ mid))

  first_strip : (name : List ℕ) → IsConverted name reply old mid → Went (Nodata name true) → Stayed (Nodata name true) → StripsFirst name reply old new turn now
  first_strip name converted went stayed = elim converted.said [
    | inl done ↦
        let same : id_named mid name ≡ Some converted.id = ap (λ (t : Table). id_named t name) converted.table ∙ id_named-with_nodata old converted.id converted.live name ∙ converted.named in
        let begun : strip_begun (Nodata name true) reply mid ≡ Some converted.id = ap (λ (r : Reply). strip_begun (Nodata name true) r mid) done ∙ same in
        let h : OnMore turn ((now ≡ Strip converted.id) × (unstripped_count new + 1 ≡ unstripped_count mid)) × OnAnswered turn (IsOver new converted.id) =
        subst (λ o. IfSome o (λ id. OnMore turn ((now ≡ Strip id) × (unstripped_count new + 1 ≡ unstripped_count mid)) × OnAnswered turn (IsOver new id))) begun went in
        record {
          id = converted.id;
          named = converted.named;
          more = on_more turn (λ both. (both.0, done, both.1 ∙ ap (λ (t : Table). unstripped_count t) converted.table)) h.0;
          over = h.1;
        }
    | inr delayed ↦
        let none : strip_begun (Nodata name true) reply mid ≡ None = ap (λ (r : Reply). strip_begun (Nodata name true) r mid) delayed in
        let h : (turn ≡ Answered) × (new ≡ mid) = subst (λ o. IfNone o ((turn ≡ Answered) × (new ≡ mid))) none stayed in
        record {
          id = converted.id;
          named = converted.named;
          more = subst (λ (t : Turn). OnMore t ((now ≡ Strip converted.id) × (reply ≡ Done) × (unstripped_count new + 1 ≡ unstripped_count (with_nodata old converted.id)))) (sym h.0) tt;
          over = on_answered turn (inr (inl (ap (λ (t : Table). keeps_data t converted.id) h.1 ∙ converted.delayed delayed)));
        }
  ]
    where
      on_more : {X Y : Type 0} (t : Turn) → (X → Y) → OnMore t X → OnMore t Y
      on_more More f x = f x
      on_more Answered f x = tt

      on_answered : {X : Type 0} (t : Turn) → X → OnAnswered t X
      on_answered More x = tt
      on_answered Answered x = x

  pub converts_first : (call : Call) → Converts call reply old mid → Went call → Stayed call → ConvertsBy call reply old new turn now
  converts_first call converts went stayed name synchronous is number =
      let converted = converts name synchronous is number in
      each synchronous converted (subst Went is went) (subst Stayed is stayed)
    where
      each : (b : Bool) → IsConverted name reply old mid → Went (Nodata name b) → Stayed (Nodata name b) → ConvertsNamed name b reply old new turn now
      each true converted went stayed = first_strip name converted went stayed
      each false converted went stayed = subst (IsConverted name reply old) (sym stayed.1) converted

-- ---- and it fits the history

put_there : (history : List Entry) (entry : Entry) → slice_get (history ++ entry ∷ []) (length history) ≡ Some entry
put_there [] entry = refl
put_there (first ∷ history) entry = put_there history entry

module _ (texts : Texts) (calls : CallsBy) (w : World) (history : List Entry) (entry : Entry) (actor seq at : ℕ) (is_entry : IsEntryOf actor seq at entry) (number : seq ≡ length (numbers_of history actor) + 1) where
  -- the checkpoint with the name before the entry
  strips_named : (store : Store) (mounts : Mounts) (t : Table) → IsTable t → state texts calls w history ≡ world_on store mounts t → (name : List ℕ) (id : ℕ) → is_live t id ≡ true → id_named t name ≡ Some id
      → StripsNamed texts calls w (history ++ entry ∷ []) actor name id
  strips_named store mounts t lawful here name id live named =
      elim (map.get t.filesets id) as (λ o. map.get t.filesets id ≡ o → IsSome o → StripsNamed texts calls w (history ++ entry ∷ []) actor name id) [
        | None ↦ λ _ h. absurd (false≢true h)
        | Some f ↦ λ there _.
            let many = numbers-more history entry actor in
            record {
              number = length history;
              entry = entry;
              there = put_there history entry;
              own = is_entry.actor_is;
              seq = is_entry.seq_is ∙ number ∙ sym (many ∙ ap (λ n. length (numbers_of history actor) + n) own_is);
              checkpoint = checkpoint_on store t id f;
              named =
                  ap (λ (es : List Entry). checkpoint_named (state texts calls w es) name) (take-append_seam history (entry ∷ []))
                  ∙ ap (λ (v : World). checkpoint_named v name) here
                  ∙ named-some store mounts t lawful name id f named there;
              id_is = refl;
            }
      ] refl (stands_live t id live)
    where
      itself : (n : ℕ) → nat_eq n n ≡ true
      itself n = grind arith

      own_is : ◌≡◌ {A = ℕ} (cond (nat_eq entry.actor actor) 1 0) 1
      own_is = ap (λ a. cond (nat_eq a actor) 1 0) is_entry.actor_is ∙ ap (λ b. cond b 1 0) (itself actor)

  -- what a call begins to strip that was just answered: its checkpoint stood before it and keeps its name
  pub strip_fits : (store : Store) (mounts : Mounts) (old mid : Table) → IsTable old → state texts calls w history ≡ world_on store mounts old
      → (call : Call) → Converts call entry.reply old mid → (id : ℕ) → strip_begun call entry.reply mid ≡ Some id → FitsStrip texts calls w (history ++ entry ∷ []) actor call id
  strip_fits store mounts old mid lawful here call converts id is =
      let b = begins call entry.reply mid id is in
      let converted = converts b.name true b.call_is (ap (λ (r : Reply). reply_number r) b.done) in
      let same : id_named mid b.name ≡ Some converted.id = ap (λ (t : Table). id_named t b.name) converted.table ∙ id_named-with_nodata old converted.id converted.live b.name ∙ converted.named in
      let id_is : converted.id ≡ id = one (id_named mid b.name) converted.id id same b.named in
      subst (λ (c : Call). FitsStrip texts calls w (history ++ entry ∷ []) actor c id) (sym b.call_is)
      (subst (λ n. StripsNamed texts calls w (history ++ entry ∷ []) actor b.name n) id_is
      (strips_named store mounts old lawful here b.name converted.id converted.live converted.named))
    where
      one : (o : Option ℕ) (a b : ℕ) → o ≡ Some a → o ≡ Some b → a ≡ b
      one o a b is same = cc

-- it does so in the history of a volume
module _ {D : Type 0} (origin now : Meaning) (told : List Call) (volume : Present D) (stands : Stands origin now told volume) (lawful : IsTable (files.table_of volume.engine)) where
  pub fits_begun : (entry : Entry) (actor seq at : ℕ) → IsEntryOf actor seq at entry → seq ≡ length (numbers_of (history_of volume) actor) + 1 → (call : Call) (mid : Table)
      → Converts call entry.reply (files.table_of volume.engine) mid → (id : ℕ) → strip_begun call entry.reply mid ≡ Some id → FitsHistory origin (told ++ call ∷ []) (history_of volume ++ entry ∷ []) actor call (Strip id)
  fits_begun entry actor seq at is_entry number call mid converts id is = λ is_told w found texts calls answered.
      let here = ap (λ past. past.world) (stands is_told w found texts calls (answered-before calls told call (history_of volume) entry answered).0).1 in
      strip_fits texts calls w (history_of volume) entry actor seq at is_entry number (store_on now.shows (files.data_of volume.engine)) volume.engine.mounts (files.table_of volume.engine) mid lawful here call converts id is

-- ---- where a volume begins to strip, or not

pub unbroken_done : (old mid : Option ℕ) (number : ℕ) (reply : Reply) → reply ≡ Done → MatchOption old (is_broken reply ≡ false) (λ by. reply ≡ Broken by) → mid ≡ option_or old (if is_write_fault reply then Some number else None)
    → (old ≡ None) × (mid ≡ None)
unbroken_done None mid number reply done refused broken = (refl, broken ∙ ap (λ (r : Reply). if is_write_fault r then Some number else None) done)
unbroken_done (Some by) mid number reply done refused broken = absurd (not_both reply by done refused)
  where
    not_both : (r : Reply) (n : ℕ) → r ≡ Done → r ≡ Broken n → ⊥
    not_both r n is other = cc

not_more : (turn : Turn) → turn ≡ More → turn ≡ Answered → ⊥
not_more turn more answered = cc

pub on_entry : {X : Type 0} (was : Progress) (turn : Turn) (now : Progress) → X → OnEntry was turn now X
on_entry (Strip id) turn now x = tt
on_entry Fresh Answered now x = x
on_entry Fresh More (Strip id) x = x
on_entry Fresh More Fresh x = tt
on_entry Fresh More (Read read) x = tt
on_entry (Read read) Answered now x = x
on_entry (Read read) More now x = tt

pub if_more : {X : Type 0} (turn : Turn) → (turn ≡ More → X) → OnMore turn X
if_more More x = x refl
if_more Answered x = tt

module _ {D : Type 0} {g : Ghosts D} (means : D → Meaning) (mid new : Volume D g) (turn : Turn) (now : Progress) where
  abbrev Strips : Option ℕ → Type 0
  Strips o = IfSome o (λ id. StripsOn means mid new id turn now)

  abbrev IsThrough : Option ℕ → Type 0
  IsThrough o = IfNone o ((turn ≡ Answered) × (now ≡ Fresh) × (new ≡ mid))

  pub begun_log : (o : Option ℕ) → Strips o → IsThrough o → KeepsLog mid new
  begun_log (Some id) strips through = strips.log
  begun_log None strips through = record {
    history = ap (λ (v : Volume D g). entries_of v.log.history) through.2;
    room = ap (λ (v : Volume D g). room_of v) through.2;
    told = ap (λ (v : Volume D g). told_of v) through.2;
    committed = ap (λ (v : Volume D g). committed_of v) through.2;
    spoilt = ap (λ (v : Volume D g). spoilt_of v) through.2;
    broken = ap (λ (v : Volume D g). broken_of v) through.2;
    origin = ap (λ (v : Volume D g). origin_of v) through.2;
  }

  pub begun_past : (o : Option ℕ) → Strips o → IsThrough o → past_on (means (disk_of new)).shows new ≡ past_on (means (disk_of mid)).shows mid
  begun_past (Some id) strips through =
      ap (λ (d : D). past_on (means d).shows new) strips.disk
      ∙ (λ i. record { world = strips.world i; length = length (strips.log.history i); broken = strips.log.broken i })
  begun_past None strips through = ap (λ (v : Volume D g). past_on (means (disk_of v)).shows v) through.2

  pub begun_went : (o : Option ℕ) → ((id : ℕ) → o ≡ Some id → broken_of mid ≡ None) → Strips o
      → IfSome o (λ id. OnMore turn ((now ≡ Strip id) × (unstripped_count (table_of new) + 1 ≡ unstripped_count (table_of mid))) × OnAnswered turn (IsOver (table_of new) id))
  begun_went (Some id) unbroken strips = (strips.more, on_answered turn (λ over. over (strips.log.broken ∙ unbroken id refl)) strips.over)
    where
      on_answered : {X Y : Type 0} (t : Turn) → (X → Y) → OnAnswered t X → OnAnswered t Y
      on_answered More f x = tt
      on_answered Answered f x = f x
  begun_went None unbroken strips = tt

  pub begun_stayed : (o : Option ℕ) → IsThrough o → IfNone o ((turn ≡ Answered) × (table_of new ≡ table_of mid))
  begun_stayed (Some id) through = tt
  begun_stayed None through = (through.0, ap (λ (v : Volume D g). table_of v) through.2)

  pub begun_more : (o : Option ℕ) → Strips o → IsThrough o → turn ≡ More → (id : ℕ) × ((o ≡ Some id) × (now ≡ Strip id))
  begun_more (Some id) strips through more = (id, (refl, (subst (λ (t : Turn). OnMore t ((now ≡ Strip id) × (unstripped_count (table_of new) + 1 ≡ unstripped_count (table_of mid)))) more strips.more).0))
  begun_more None strips through more = absurd (not_more turn more through.0)

-- ---- a call that doesn't strip yet

pub entries_had_none : (p : Progress) → ((id : ℕ) → strip_of p ≡ Some id → ⊥) → entries_had p ≡ 0
entries_had_none Fresh none = refl
entries_had_none (Read read) none = refl
entries_had_none (Strip id) none = absurd (none id refl)

pub add_none : (n had : ℕ) → had ≡ 0 → n ≡ n + had
add_none n had none = omega (arith, none)
