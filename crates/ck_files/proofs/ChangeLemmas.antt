-- A call that changes files, in the world of a volume's table: it fits exactly where the table has room for its changes.
use Rattle.std.proofs.Common.{◌≡◌, ℕ, ◌+◌, ◌-◌, ◌<◌, ◌≤◌, true, false, Option, Some, None, Ok, IfSome, List, refl, sym, ap, subst, ◌∙◌, inl, inr, ⊎_elim, arith}
use Rattle.std.specs.FinMap as map
use Rattle.std.proofs.lemmas.Bool.{cases_lt}
use Rattle.ck_model.specs.declared.key.Key.{Key}
use Rattle.ck_model.specs.declared.key.Key.TheVariants.{Name, Node, Block}
use Rattle.ck_model.specs.declared.held.Held.{Held}
use Rattle.ck_model.specs.declared.held.Held.TheVariants.{Absent, Plain, Extent, Mark}
use Rattle.ck_model.specs.declared.held.Small.{Small}
use Rattle.ck_model.specs.declared.held.Small.TheVariants.{To, File, Dir}
use Rattle.ck_model.specs.declared.change.Change.{Change}
use Rattle.ck_model.specs.declared.checkpoint.Counters.{Counters}
use Rattle.ck_model.specs.declared.reply.Reply.{Reply}
use Rattle.ck_model.specs.declared.reply.Reply.TheVariants.{Done}
use Rattle.ck_model.specs.World.{World, Mounts}
use Rattle.ck_model.specs.Space.{records_in, new_block_count}
use Rattle.ck_model.specs.Step.{changing, with_room}
use Rattle.ck_model.specs.Table.{Table, IsTable, record_count}
use Rattle.ck_model.specs.Rules.{IsSound, KeyBelow, SmallBelow, HeldBelow, stamp_in, block_in}
use Rattle.ck_model.specs.Values.{Store}
use Rattle.ck_model.specs.TableWorld.{world_on}
use Rattle.ck_model.specs.Placed.{NoneGone}
use Rattle.ck_push.specs.Growth.{gains, losses, write_count}
use Rattle.ck_reclaim.specs.Removable.{pick_of}
use Rattle.ck_table.specs.Gone.{with_gone}
use Rattle.ck_files.specs.Drained.{IsDrained}
use Rattle.ck_files.specs.Files.{IsOurs}
use Rattle.ck_files.specs.Room.{Grows, has_room, lack_of_room, answered_with, given_before}
use Rattle.ck_files.specs.Changes.{raised, IsRaised, with_changes}
use Rattle.ck_push.specs.Changes.{MayChangeAll, changed_all, AreMade}
use Rattle.ck_files.proofs.WorldLaws.{world_same}
use Rattle.ck_files.specs.Allocated.{SameNamed}
use Rattle.ck_nodata.proofs.HeldLaws.{records-is, records-within}
use Rattle.ck_files.proofs.RoomLemmas.{no_room-is, room-given, room-is, room_of}
use Rattle.ck_push.proofs.ChangeLaws.{are_made}
use Rattle.ck_files.proofs.WorldAfter.{world_changed_all}
use Rattle.ck_files.proofs.NewBlocks.{new-is}

key_raised : (a b : ℕ) (key : Key) → a ≤ b → KeyBelow a key → KeyBelow b key
key_raised a b (Name d n) le h = omega (arith, le, h)
key_raised a b (Node n) le h = omega (arith, le, h)
key_raised a b (Block n i) le h = omega (arith, le, h)

small_raised : (a b : ℕ) (small : Small) → a ≤ b → SmallBelow a small → SmallBelow b small
small_raised a b (To node) le h = omega (arith, le, h)
small_raised a b (File size) le h = tt
small_raised a b Dir le h = tt

held_raised : (a b : ℕ) (h : Held) → a ≤ b → HeldBelow a h → HeldBelow b h
held_raised a b Absent le h = tt
held_raised a b (Plain s small) le h = small_raised a b small le h
held_raised a b (Extent s block) le h = tt
held_raised a b (Mark s) le h = tt

some_raised : (a b : ℕ) (o : Option ℕ) → a ≤ b → IfSome o (λ n. n < a) → IfSome o (λ n. n < b)
some_raised a b None le h = tt
some_raised a b (Some n) le h = omega (arith, le, h)

pub raised_lawful : (t : Table) (counters : Counters) (blocks : ℕ) → IsTable t → IsRaised t counters blocks → IsTable (raised t counters blocks)
raised_lawful t counters blocks lawful up = record { entries = lawful.entries; filesets = lawful.filesets; counters = up.lawful }

pub raised_sound : (t : Table) (counters : Counters) (blocks : ℕ) → IsSound t → IsRaised t counters blocks → IsSound (raised t counters blocks)
raised_sound t counters blocks sound up = record {
  orderly = record {
    names = sound.orderly.names;
    ids = λ id there. let low = sound.orderly.ids id there in let up_id = up.id in omega arith;
    live = sound.orderly.live;
    homes = sound.orderly.homes;
    stamps = λ fs key h has. some_raised t.counters.stamp counters.stamp (stamp_in h) up.stamp (sound.orderly.stamps fs key h has);
    numbers = λ fs key h has. (key_raised t.counters.number counters.number key up.number (sound.orderly.numbers fs key h has).0, held_raised t.counters.number counters.number h up.number (sound.orderly.numbers fs key h has).1);
    blocks = λ fs key h has. some_raised t.blocks blocks (block_in h) up.limit (sound.orderly.blocks fs key h has);
    unshared = sound.orderly.unshared;
    primary = sound.orderly.primary;
    marks = sound.orderly.marks;
    versions = sound.orderly.versions;
  };
  absents = sound.absents;
}

grows_by : (before after gain loss : ℕ) → after + loss ≡ before + gain → Grows before after (gain - loss)
grows_by before after gain loss counted = ⊎_elim
    (λ less. record { by = inl (omega (arith, counted, less), omega (arith, less)) })
    (λ more. record { by = inr (omega (arith, counted, more)) })
    (cases_lt gain loss)

-- A call's changes, which may be made once the counters are raised, over data blocks that hold what the call writes.
module _ (store other : Store) (mounts : Mounts) (t : Table) (counters : Counters) (blocks : ℕ) (items : List Change)
    (ours : IsOurs t) (up : IsRaised t counters blocks) (more : t.counters.stamp < counters.stamp) (same : SameNamed t store other)
    (may : MayChangeAll (raised t counters blocks) items t.counters.stamp) where
  abbrev w : World
  w = world_on store mounts t

  -- the world that the call leads to
  abbrev pub led : World
  led = record w {
    primary = with_changes other w.primary items t.counters.stamp;
    next = counters;
  }

  abbrev u : Table
  u = changed_all (raised t counters blocks) items t.counters.stamp

  made : AreMade (raised t counters blocks) u items
  made = are_made (raised t counters blocks) items t.counters.stamp (raised_lawful t counters blocks ours.lawful up) (raised_sound t counters blocks ours.sound up) more may

  stood : w ≡ world_on other mounts t
  stood = world_same t mounts store other same

  leads : record (world_on other mounts (raised t counters blocks)) { primary = with_changes other (world_on other mounts t).primary items t.counters.stamp } ≡ world_on other mounts u
  leads = sym (world_changed_all other mounts (raised t counters blocks) items t.counters.stamp (raised_lawful t counters blocks ours.lawful up) (raised_sound t counters blocks ours.sound up) more may)

  led_world : records_in led ≡ records_in (world_on other mounts u)
  led_world = ap (λ (x : World). records_in (record x { primary = with_changes other x.primary items t.counters.stamp })) stood ∙ ap records_in leads

  -- its records
  led_records : NoneGone t → records_in led ≡ record_count u
  led_records none = led_world ∙ records-is other mounts u made.lawful made.sound (λ id f is. none id f (ap (λ m. map.get m id) (sym made.filesets) ∙ is))

  led_within : records_in led ≤ record_count u
  led_within = let same = led_world in let most = records-within other mounts u made.lawful made.sound in omega (arith, same, most)

  led_grows : NoneGone t → Grows (record_count t) (records_in led) (gains t items - losses t items)
  led_grows none = subst (λ n. Grows (record_count t) n (gains t items - losses t items)) (sym (led_records none)) (grows_by (record_count t) (record_count u) (gains t items) (losses t items) made.counted)

  new_is : new_block_count t.counters.stamp led.primary ≡ write_count items
  new_is = new-is store t ours.sound other (raised t counters blocks) items may

  -- where its changes are made over these data blocks, that world is the table's
  pub led-is : blocks ≡ t.blocks → led ≡ world_on other mounts u
  led-is fixed =
      ap (λ (x : World). record x { primary = with_changes other x.primary items t.counters.stamp; next = counters }) stood
      ∙ ap (λ n. record (world_on other mounts (raised t counters n)) { primary = with_changes other (world_on other mounts t).primary items t.counters.stamp }) (sym fixed)
      ∙ leads

  -- it has no room, and nothing is left to give up
  pub changing-full : IsDrained t → pick_of t ≡ None → (b r : ℕ) (reply : Reply) → b ≡ write_count items → r ≡ gains t items - losses t items → has_room t b r ≡ false → reply ≡ lack_of_room t b r
      → changing w (Ok led) ≡ answered_with reply w
  changing-full drained empty b r reply bs rs full is =
      let none : has_room t (write_count items) (gains t items - losses t items) ≡ false = (λ i. has_room t (sym bs i) (sym rs i)) ∙ full in
      ap (λ n. with_room w (λ left. record led { checkpoints = left.checkpoints }) n Done) new_is
      ∙ no_room-is store mounts t ours drained led (write_count items) (gains t items - losses t items) (led_grows drained.none) empty (λ left. record led { checkpoints = left.checkpoints }) Done refl none
      ∙ (λ i. answered_with (lack_of_room t (sym bs i) (sym rs i)) w)
      ∙ ap (λ x. answered_with x w) (sym is)

  -- it has no room, and comes to what it does once the pick is gone
  pub changing-given : IsDrained t → (id : ℕ) → pick_of t ≡ Some id → has_room t (write_count items) (gains t items - losses t items) ≡ false
      → changing w (Ok led) ≡ given_before 1 (changing (world_on store mounts (with_gone t id)) (Ok led))
  changing-given drained id picked full =
      ap (λ n. with_room w (λ left. record led { checkpoints = left.checkpoints }) n Done) new_is
      ∙ room-given store mounts t ours drained led (write_count items) (gains t items - losses t items) (led_grows drained.none) id picked (λ left. record led { checkpoints = left.checkpoints }) Done refl full
      ∙ ap (λ n. given_before 1 (with_room (world_on store mounts (with_gone t id)) (λ left. record led { checkpoints = left.checkpoints }) n Done)) (sym new_is)

  -- it has room, and its changes are made
  pub changing-fits : (b r : ℕ) (after : Table) → b ≡ write_count items → r ≡ gains t items - losses t items → has_room t b r ≡ true → blocks ≡ t.blocks → after ≡ u
      → changing w (Ok led) ≡ answered_with Done (world_on other mounts after)
  changing-fits b r after bs rs room fixed is =
      let there = room_of t (write_count items) (gains t items - losses t items) ((λ i. has_room t (sym bs i) (sym rs i)) ∙ room) in
      let counted = made.counted in
      let most = led_within in
      let fits = ours.sized.fits in
      let records = there.1 in
      ap (λ n. with_room w (λ left. record led { checkpoints = left.checkpoints }) n Done) new_is
      ∙ room-is store mounts t ours led (write_count items) there.0 (within (gains t items) (losses t items) (record_count t) (record_count u) (records_in led) t.records counted most fits records) (λ left. record led { checkpoints = left.checkpoints }) Done refl
      ∙ ap (answered_with Done) (led-is fixed ∙ ap (world_on other mounts) (sym is))
    where
      within : (gain loss before after led limit : ℕ) → after + loss ≡ before + gain → led ≤ after → before ≤ limit → before + (gain - loss) ≤ limit → led ≤ limit
      within gain loss before after led limit counted most fits records = omega (arith, counted, most, fits, records)
