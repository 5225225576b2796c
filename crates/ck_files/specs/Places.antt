-- The data blocks that a call's changes write.
use Rattle.std.specs.Prelude.{◌≡◌, ◌<◌, ⊤, ℕ, false, List, [], ◌∷◌, length, nat_eq}
use Rattle.std.specs.List.{list_any, AllByRecursion}
use Rattle.ck_alloc.specs.Blocks.{Allocation}
use Rattle.ck_model.specs.declared.change.Change.{Change}
use Rattle.ck_model.specs.declared.change.Change.TheVariants.{Put, Write, Del}
use Rattle.ck_model.specs.Table.{Table}
use Rattle.ck_model.specs.Values.{Store}
use Rattle.ck_push.specs.Growth.{write_count}
use Rattle.ck_files.specs.Allocated.{is_named, IsAllocatedBut}

-- the changes, each block that they write in the next of these data blocks
abbrev pub with_places : List Change → List ℕ → List Change
with_places [] places = []
with_places (Put key small ∷ changes) places = Put key small ∷ with_places changes places
with_places (Del key ∷ changes) places = Del key ∷ with_places changes places
with_places (Write node index block ∷ changes) [] = Write node index block ∷ with_places changes []
with_places (Write node index block ∷ changes) (place ∷ places) = Write node index place ∷ with_places changes places

-- the data blocks that the changes write
abbrev pub places_of : List Change → List ℕ
places_of [] = []
places_of (Put key small ∷ changes) = places_of changes
places_of (Del key ∷ changes) = places_of changes
places_of (Write node index block ∷ changes) = block ∷ places_of changes

-- no number stands twice
abbrev pub AreDistinct : List ℕ → Type 0
AreDistinct [] = ⊤
AreDistinct (x ∷ xs) = (list_any (nat_eq x) xs ≡ false) × AreDistinct xs

-- the changes write data blocks that no entry names, each another one, and these are in use now
pub record ArePlaced (t : Table) (after : Allocation) (old new : List Change) : Type 0 where
  pub places : List ℕ
  pub are : new ≡ with_places old places
  pub many : length places ≡ write_count old
  pub distinct : AreDistinct places
  pub within : AllByRecursion (λ place. place < t.blocks) places
  pub unnamed : AllByRecursion (λ place. is_named t place ≡ false) places
  pub allocated : IsAllocatedBut places t after

-- the data blocks that the changes write hold these bytes of the files' blocks
abbrev pub AreHeld : (ℕ → ℕ → List ℕ) → Store → List Change → Type 0
AreHeld bytes store [] = ⊤
AreHeld bytes store (Put key small ∷ changes) = AreHeld bytes store changes
AreHeld bytes store (Write node index block ∷ changes) = (store block ≡ bytes node index) × AreHeld bytes store changes
AreHeld bytes store (Del key ∷ changes) = AreHeld bytes store changes
