-- A change that nobody sees leaves the world.
use Rattle.ck_model.specs.Table.{Table, IsTable}
use Rattle.ck_remove.specs.Unseen.{IsUnseen}
use Rattle.ck_remove.proofs.WorldLaws.{unseen_world}
use Rattle.ck_files.specs.Worlds.{StandAlike}

pub alike_unseen : (old new : Table) → IsTable old → IsTable new → IsUnseen old new → StandAlike old new
alike_unseen old new lawful again unseen = record {
  worlds = unseen_world old new lawful again unseen;
  primary = unseen.primary;
  counters = unseen.counters;
  blocks = unseen.blocks;
  records = unseen.limit;
}
