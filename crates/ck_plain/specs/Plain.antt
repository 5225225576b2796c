-- The world that the plain program holds.
use Rattle.std.specs.Prelude.{map as list_map}
use Rattle.ck_model.specs.World.{World, Checkpoint}
use Rattle.ck_plain.specs.declared.world.Plain.{Plain}
use Rattle.ck_plain.specs.declared.world.PlainCheckpoint.{PlainCheckpoint}

abbrev pub checkpoint_of : PlainCheckpoint → Checkpoint
checkpoint_of plain = record {
  id = plain.id;
  name = plain.name;
  kind = plain.kind;
  removable = plain.removable;
  ctime = plain.ctime;
  cells = plain.cells;
}

abbrev pub world_of : Plain → World
world_of plain = record {
  limits = plain.limits;
  primary = plain.primary;
  checkpoints = list_map checkpoint_of plain.checkpoints.items;
  next = plain.next;
  mounts = plain.mounts;
}
