-- What mounts and what is mounted come to in the world of a table.
use Rattle.std.proofs.Common.{◌≡◌, ℕ, Bool, true, false, List, Option, Some, None, Result, Ok, Err, refl, ap, ◌∙◌}
use Rattle.std.specs.Option.{ok_or}
use Rattle.std.specs.FinMap as map
use Rattle.ck_model.specs.declared.checkpoint.Fileset.{Fileset}
use Rattle.ck_model.specs.declared.reply.Reply.{Reply}
use Rattle.ck_model.specs.declared.reply.Reply.TheVariants.{Done, NoCkpt, InUse, NotMounted, Gone}
use Rattle.ck_model.specs.Refusals.{and_then, refuse_if}
use Rattle.ck_model.specs.World.{World, Checkpoint, Mounts}
use Rattle.ck_model.specs.CheckpointCalls.{mounted, standing, mounted_checkpoint}
use Rattle.ck_model.specs.Step.{Outcome, done}
use Rattle.ck_model.specs.Table.{Table, IsTable}
use Rattle.ck_model.specs.Values.{Store}
use Rattle.ck_model.specs.TableWorld.{world_on}
use Rattle.ck_table.specs.Names as names
use Rattle.ck_table.proofs.WorldLaws.{at_named, named-none}
use Rattle.ck_files.specs.Mounts.{IsMounted}
use Rattle.ck_files.specs.Files.{IsOurs}
use Rattle.ck_files.specs.Room.{answered_with}
use Rattle.ck_files.specs.Reports.{standing_at}
use Rattle.ck_files.proofs.Listed.{gone-is, standing-is}

-- ---- a letter is let stand for a checkpoint

-- the world with the letter standing for a checkpoint
abbrev with_mount : World → ℕ → ℕ → Checkpoint → Result World Reply
with_mount w actor letter checkpoint =
    refuse_if (map.contains_key w.mounts (actor, letter)) InUse
    (Ok (record w { mounts = map.insert w.mounts (actor, letter) checkpoint.id }))

module _ (store : Store) (mounts : Mounts) (t : Table) (lawful : IsTable t) (actor letter : ℕ) (name : List ℕ) where
  abbrev w : World
  w = world_on store mounts t

  abbrev mounts_of : Result Checkpoint Reply → Outcome
  mounts_of found = done w (and_then found (with_mount w actor letter))

  pub mounted-unnamed : names.id_named t name ≡ None → done w (mounted w actor letter name) ≡ answered_with NoCkpt w
  mounted-unnamed none = ap mounts_of (named-none store mounts t lawful name none)

  -- the checkpoint that is found has this id
  module _ (id : ℕ) (is : names.id_named t name ≡ Some id) (named : names.is_named t name id ≡ true) where
    abbrev mounted_if : Bool → Outcome
    mounted_if used = done w (refuse_if used InUse (Ok (record w { mounts = map.insert mounts (actor, letter) id })))

    mounted-is : done w (mounted w actor letter name) ≡ mounted_if (map.contains_key mounts (actor, letter))
    mounted-is = at_named store mounts t lawful name id is named (λ r. mounts_of r ≡ mounted_if (map.contains_key mounts (actor, letter))) (λ f there. refl)

    pub mounted-in_use : map.contains_key mounts (actor, letter) ≡ true → done w (mounted w actor letter name) ≡ answered_with InUse w
    mounted-in_use used = mounted-is ∙ ap mounted_if used

    pub mounted-done : map.contains_key mounts (actor, letter) ≡ false → done w (mounted w actor letter name) ≡ answered_with Done (world_on store (map.insert mounts (actor, letter) id) t)
    mounted-done free = mounted-is ∙ ap mounted_if free

-- ---- what a letter stands for

module _ (store : Store) (mounts : Mounts) (t : Table) (ours : IsOurs t) (actor letter : ℕ) where
  abbrev here : World
  here = world_on store mounts t

  pub mounted_at-gone : (id : ℕ) → map.get mounts (actor, letter) ≡ Some id → standing_at t id ≡ None → mounted_checkpoint here actor letter ≡ Err (Gone id)
  mounted_at-gone id is none =
      ap (λ o. and_then (ok_or o NotMounted) (standing here)) is
      ∙ ap (λ (o : Option Checkpoint). ok_or o (Gone id)) (gone-is store t id ours.lawful none)

  pub mounted_at-some : (id : ℕ) → map.get mounts (actor, letter) ≡ Some id → (fileset : Fileset) → standing_at t id ≡ Some fileset → IsMounted store mounts t actor letter id
  mounted_at-some id is fileset stands =
      record {
        fileset = fileset;
        mounted =
            ap (λ o. and_then (ok_or o NotMounted) (standing here)) is
            ∙ ap (λ (o : Option Checkpoint). ok_or o (Gone id)) (standing-is store t id fileset ours.lawful stands);
      }
