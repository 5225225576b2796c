-- A call has room in a volume's table exactly where it has room in the world.
use Rattle.std.proofs.Common.{◌≡◌, ℕ, ◌+◌, ◌-◌, ◌≤◌, Bool, true, false, ◌&&◌, if◌then◌else◌, Some, None, nat_le, refl, sym, ap, ◌∙◌, inl, inr, arith}
use Rattle.std.proofs.lemmas.Bool.Decides.{nat_tests}
use mathlib.Core.Bool.{false≢true}
use Rattle.ck_model.specs.declared.reply.Reply.{Reply}
use Rattle.ck_model.specs.declared.reply.Reply.TheVariants.{NoSpace}
use Rattle.ck_model.specs.declared.reply.SpaceOf.TheVariants.{Blocks, Records}
use Rattle.ck_model.specs.World.{World, Mounts}
use Rattle.ck_model.specs.Space.{held, records_in, fits, no_space}
use Rattle.ck_model.specs.Step.{Outcome, with_room}
use Rattle.ck_model.specs.Table.{Table, record_count}
use Rattle.ck_model.specs.Values.{Store}
use Rattle.ck_model.specs.TableWorld.{world_on, extent_count}
use Rattle.ck_nodata.proofs.HeldLaws.{held-is, held-within, records-is}
use Rattle.ck_reclaim.specs.Removable.{pick_of}
use Rattle.ck_reclaim.proofs.GivenLaws.{one_more, room-fits, room-next, room-none}
use Rattle.ck_reclaim.proofs.PickLaws.{pick-is}
use Rattle.ck_table.specs.Gone.{with_gone}
use Rattle.ck_files.specs.Drained.{IsDrained}
use Rattle.ck_files.specs.Files.{IsOurs}
use Rattle.ck_files.specs.Room.{Grows, has_room, lack_of_room, answered_with, given_before}

-- ---- a table's room

fits_records : (before after records limit : ℕ) → before ≤ limit → Grows before after records → nat_le after limit ≡ nat_le (before + records) limit
fits_records before after records limit below grows = elim grows.by [
  | inl less ↦ let one : nat_le after limit ≡ true = let le = less.0 in grind (arith, nat_tests) in
      let two : nat_le (before + records) limit ≡ true = let none = less.1 in grind (arith, nat_tests) in one ∙ sym two
  | inr more ↦ ap (λ n. nat_le n limit) more
]

grown : (before after records limit : ℕ) → before ≤ limit → Grows before after records → nat_le (before + records) limit ≡ false → after - before ≡ records
grown before after records limit below grows full = elim grows.by [
  | inl less ↦ let fit : nat_le (before + records) limit ≡ true = let none = less.1 in grind (arith, nat_tests) in absurd (false≢true (sym full ∙ fit))
  | inr more ↦ omega (arith, more)
]

-- where nothing is left to remove or to strip
module _ (store : Store) (mounts : Mounts) (t : Table) (ours : IsOurs t) (drained : IsDrained t) (next : World) (new records : ℕ) (grows : Grows (record_count t) (records_in next) records) where
  abbrev here : World
  here = world_on store mounts t

  held-here : held here ≡ extent_count t
  held-here = held-is store mounts t ours.lawful ours.sound drained.none drained.stripped

  records-here : records_in here ≡ record_count t
  records-here = records-is store mounts t ours.lawful ours.sound drained.none

  fit-is : fits here next new ≡ has_room t new records
  fit-is = λ i. nat_le (held-here i + new) t.blocks && fits_records (record_count t) (records_in next) records t.records ours.sized.fits grows i

  both_full : (a b : Bool) → (a && b) ≡ false → a ≡ true → b ≡ false
  both_full true b h is = h
  both_full false b h is = cc

  space-is : has_room t new records ≡ false → no_space here next new ≡ lack_of_room t new records
  space-is full =
      ap (λ n. if nat_le (n + new) t.blocks then NoSpace Records (records_in here) (records_in next - records_in here) t.records else NoSpace Blocks n new t.blocks) held-here
      ∙ elim (nat_le (extent_count t + new) t.blocks) as (λ b. nat_le (extent_count t + new) t.blocks ≡ b → (if b then NoSpace Records (records_in here) (records_in next - records_in here) t.records else NoSpace Blocks (extent_count t) new t.blocks)
      ≡ (if b then NoSpace Records (record_count t) records t.records else NoSpace Blocks (extent_count t) new t.blocks)) [
        | true ↦ λ is. ap (λ n. NoSpace Records n (records_in next - n) t.records) records-here
            ∙ ap (λ n. NoSpace Records (record_count t) n t.records) (grown (record_count t) (records_in next) records t.records ours.sized.fits grows (both_full _ _ full is))
        | false ↦ λ _. refl
      ] refl

  full_here : (effect : World → World) → effect here ≡ next → has_room t new records ≡ false → fits here (effect here) new ≡ false
  full_here effect leads full = ap (λ n. fits here n new) leads ∙ fit-is ∙ full

  -- a call that leads to this world has no room, and nothing is left to give up
  pub no_room-is : pick_of t ≡ None → (effect : World → World) (reply : Reply) → effect here ≡ next → has_room t new records ≡ false
      → with_room here effect new reply ≡ answered_with (lack_of_room t new records) here
  no_room-is none effect reply leads full =
      room-none here effect new reply (full_here effect leads full) (sym (pick-is store mounts t ours.lawful) ∙ none)
      ∙ ap (λ n. answered_with (no_space here n new) here) leads
      ∙ ap (λ r. answered_with r here) (space-is full)

  -- one that has no room gives up the pick, and comes to what it does then
  pub room-given : (id : ℕ) → pick_of t ≡ Some id → (effect : World → World) (reply : Reply) → effect here ≡ next → has_room t new records ≡ false
      → with_room here effect new reply ≡ given_before 1 (with_room (world_on store mounts (with_gone t id)) effect new reply)
  room-given id picked effect reply leads full =
      room-next store mounts t ours.lawful id picked effect new reply (full_here effect leads full)
      ∙ one_before (with_room (world_on store mounts (with_gone t id)) effect new reply)
    where
      one_before : (outcome : Outcome) → one_more outcome ≡ given_before 1 outcome
      one_before outcome = let same : outcome.given + 1 ≡ 1 + outcome.given = omega arith in ap (λ n. record outcome { given = n }) same

-- a call that leads to this world, of so many records at most, has room where the table has it
module _ (store : Store) (mounts : Mounts) (t : Table) (ours : IsOurs t) (next : World) (new : ℕ) (fit : extent_count t + new ≤ t.blocks) (within : records_in next ≤ t.records) where
  abbrev now : World
  now = world_on store mounts t

  fits-there : fits now next new ≡ true
  fits-there =
      let most = held-within store mounts t ours.lawful ours.sound in
      let blocks : held now + new ≤ t.blocks = omega (arith, most, fit) in
      let one : nat_le (held now + new) t.blocks ≡ true = grind (arith, nat_tests) in
      let two : nat_le (records_in next) t.records ≡ true = grind (arith, nat_tests) in
      λ i. one i && two i

  pub room-is : (effect : World → World) (reply : Reply) → effect now ≡ next → with_room now effect new reply ≡ answered_with reply next
  room-is effect reply leads =
      room-fits now effect new reply (ap (λ n. fits now n new) leads ∙ fits-there)
      ∙ ap (answered_with reply) leads

-- what a table's room says
pub room_of : (t : Table) (blocks records : ℕ) → has_room t blocks records ≡ true → (extent_count t + blocks ≤ t.blocks) × (record_count t + records ≤ t.records)
room_of t blocks records room =
    let parts = both (nat_le (extent_count t + blocks) t.blocks) (nat_le (record_count t + records) t.records) room in
    let one = parts.0 in
    let two = parts.1 in
    (grind (arith, nat_tests), grind (arith, nat_tests))
  where
    both : (a b : Bool) → (a && b) ≡ true → (a ≡ true) × (b ≡ true)
    both true b h = (refl, h)
    both false b h = cc
