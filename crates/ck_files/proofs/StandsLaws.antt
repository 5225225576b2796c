-- The map that a fileset stands for over data blocks, as paths and files are looked up in it.
use Rattle.std.proofs.Common.{◌≡◌, ℕ, ◌<◌, Option, Some, None, subst}
use Rattle.std.specs.Option.{option_and_then, ForSome}
use Rattle.ck_model.specs.declared.key.Key.{Key}
use Rattle.ck_model.specs.declared.held.Held.{Held}
use Rattle.ck_model.specs.declared.held.Held.TheVariants.{Absent, Plain, Extent, Mark}
use Rattle.ck_model.specs.Table.{Table}
use Rattle.ck_model.specs.Chain.{value_at}
use Rattle.ck_model.specs.Rules.{IsSound, block_in}
use Rattle.ck_files.proofs.WorldLaws.{value_column}

-- the data block of a value is below the number of data blocks
pub value_below : (t : Table) → IsSound t → (fs : ℕ) (key : Key) (o : Option Held) → value_at t fs key ≡ o → ForSome (option_and_then block_in o) (λ block. block < t.blocks)
value_below t sound fs key None is = λ b clash. cc
value_below t sound fs key (Some Absent) is = λ b clash. cc
value_below t sound fs key (Some (Plain s small)) is = λ b clash. cc
value_below t sound fs key (Some (Extent s block)) is = λ b same.
    let at = value_column t fs key s block is in
    let low : block < t.blocks = sound.orderly.blocks at.0 key (Extent s block) at.1 in
    let which : block ≡ b = cc in
    subst (λ n. n < t.blocks) which low
value_below t sound fs key (Some (Mark s)) is = λ b clash. cc
