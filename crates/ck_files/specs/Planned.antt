-- What a call that changes files comes to, before anything is written.
use Rattle.std.specs.Prelude.{◌≡◌, ◌-◌, true, false}
use Rattle.ck_model.specs.declared.call.Call.{Call}
use Rattle.ck_model.specs.History.{is_fault}
use Rattle.ck_model.specs.Step.{changing}
use Rattle.ck_model.specs.World.{Mounts}
use Rattle.ck_model.specs.Table.{Table}
use Rattle.ck_model.specs.Values.{Store}
use Rattle.ck_model.specs.TableWorld.{world_on}
use Rattle.ck_push.specs.Growth.{gains, losses, write_count}
use Rattle.ck_tree.specs.Plan.{IsPlan}
use Rattle.ck_model.specs.FileCalls.{changed_by}
use Rattle.ck_files.specs.Room.{has_room, answered_with}
use Rattle.ck_files.specs.declared.planned.Planned.{Planned}
use Rattle.ck_files.specs.declared.planned.Planned.TheVariants.{Answered, Changes}

-- it is answered at once, or it has these changes, for which there is room and which write so many data blocks
abbrev pub IsPlanned : Table → Call → Planned → Type 0
IsPlanned t call (Answered reply) =
    (is_fault reply ≡ false) × ((store : Store) (mounts : Mounts) → let w = world_on store mounts t in changing w (changed_by w call) ≡ answered_with reply w)
IsPlanned t call (Changes changes writes) =
    IsPlan t call changes.items × (has_room t (write_count changes.items) (gains t changes.items - losses t changes.items) ≡ true) × (writes ≡ write_count changes.items)
