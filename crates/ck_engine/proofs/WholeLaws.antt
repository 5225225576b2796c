-- Where it is known that the files are whole, but not in which way, they are: tests decide between the ways.
use Rattle.std.proofs.Common.{◌≡◌, ◌≢◌, ◌<◌, ℕ, Bool, true, false, Option, Some, None, IsSomeAnd, ◌⊎◌, inl, inr, refl, ap, arith}
use mathlib.Core.Logic.{∥∥₁_elim, ∥∥₁_map}
use mathlib.Core.Bool.{false≢true}
use Rattle.std.proofs.Props.{props}
use Rattle.std.proofs.lemmas.Bool.{cases_lt}
use Rattle.std.proofs.lemmas.Bool.Decides.{eqb_tells}
use Rattle.ck_disk.specs.Disk.{Meaning}
use Rattle.ck_model.specs.declared.key.Key.{Key}
use Rattle.ck_model.specs.declared.key.Key.TheVariants.{Name, Node, Block}
use Rattle.ck_model.specs.declared.held.Held.{Held}
use Rattle.ck_model.specs.declared.held.Held.TheVariants.{Absent, Plain, Extent, Mark}
use Rattle.ck_model.specs.declared.held.Small.TheVariants.{To, File, Dir}
use Rattle.ck_model.specs.Chain.{is_gone}
use Rattle.ck_model.specs.Key.{spelled, spelled_alike}
use Rattle.ck_model.specs.Rules.{KeyBelow, HeldBelow, IsOwn, IsOrderly, IsSound, first_holder}
use Rattle.ck_model.specs.Table.{Table, column, newer}
use Rattle.ck_slots.specs.Lawful.{IsTable-prop}
use Rattle.ck_engine.specs.declared.engine.Engine.{Engine}
use Rattle.ck_files.specs.Files.{IsOurs}
use Rattle.ck_engine.specs.Engine.{table_of, IsWhole}

KeyBelow-prop : (limit : ℕ) (key : Key) → IsProp (KeyBelow limit key)
KeyBelow-prop limit (Name directory name) = hlevel props
KeyBelow-prop limit (Node number) = hlevel props
KeyBelow-prop limit (Block number index) = hlevel props

HeldBelow-prop : (limit : ℕ) (held : Held) → IsProp (HeldBelow limit held)
HeldBelow-prop limit Absent = hlevel props
HeldBelow-prop limit (Plain stamp (To node)) = hlevel props
HeldBelow-prop limit (Plain stamp (File size)) = hlevel props
HeldBelow-prop limit (Plain stamp Dir) = hlevel props
HeldBelow-prop limit (Extent stamp block) = hlevel props
HeldBelow-prop limit (Mark stamp) = hlevel props

IsOwn-prop : (held : Held) → IsProp (IsOwn held)
IsOwn-prop Absent = hlevel props
IsOwn-prop (Plain stamp small) = hlevel props
IsOwn-prop (Extent stamp block) = hlevel props
IsOwn-prop (Mark stamp) = hlevel props

-- a test decides between the two causes
decided : {Q : Type 0} (b : Bool) → IsProp Q → ∥ (b ≡ true) ⊎ Q ∥₁ → (b ≡ true) ⊎ Q
decided true prop known = inl refl
decided false prop known = inr (∥∥₁_elim known prop (elim [ inl is ↦ absurd (false≢true is) | inr q ↦ q ]))

home : {Q : Type 0} (fs : ℕ) → IsProp Q → ∥ (fs ≡ 0) ⊎ Q ∥₁ → (fs ≡ 0) ⊎ Q
home fs prop known =
    elim (eqb_tells fs 0) [
      | inl primary ↦ inl primary.1
      | inr other ↦ inr (∥∥₁_elim known prop (elim [ inl is ↦ absurd (other.1 is) | inr q ↦ q ]))
    ]

needed_by : (t : Table) (holder : Option (ℕ × Held)) → ∥ IsSomeAnd holder (λ holder. (is_gone t holder.0 ≡ true) ⊎ (holder.1 ≢ Absent)) ∥₁ → IsSomeAnd holder (λ holder. (is_gone t holder.0 ≡ true) ⊎ (holder.1 ≢ Absent))
needed_by t None known = ∥∥₁_elim known (hlevel props) (λ none. none)
needed_by t (Some holder) known = decided (is_gone t holder.0) (hlevel props) known

orderly : (t : Table) → ∥ IsOrderly t ∥₁ → IsOrderly t
orderly t known = record {
  names = ∥∥₁_elim known (hlevel props) (λ r. r.names);
  ids = ∥∥₁_elim known (hlevel props) (λ r. r.ids);
  live = ∥∥₁_elim known (hlevel props) (λ r. r.live);
  homes = λ fs key some. home fs (hlevel props) (∥∥₁_map known (λ r. r.homes fs key some));
  stamps = ∥∥₁_elim known (hlevel props) (λ r. r.stamps);
  numbers = ∥∥₁_elim known (hlevel (KeyBelow-prop, HeldBelow-prop, props)) (λ r. r.numbers);
  blocks = ∥∥₁_elim known (hlevel props) (λ r. r.blocks);
  unshared = λ fs gs key other held again block at there names also. (
    ∥∥₁_elim known (hlevel props) (λ r. (r.unshared fs gs key other held again block at there names also).0),
    spelled_alike key other (∥∥₁_elim known (hlevel props) (λ r. ap spelled (r.unshared fs gs key other held again block at there names also).1)),
  );
  primary = ∥∥₁_elim known (hlevel (IsOwn-prop, props)) (λ r. r.primary);
  marks = ∥∥₁_elim known (hlevel props) (λ r. r.marks);
  versions = ∥∥₁_elim known (hlevel props) (λ r. r.versions);
}

sound : (t : Table) → ∥ IsSound t ∥₁ → IsSound t
sound t known = record {
  orderly = orderly t (∥∥₁_map known (λ r. r.orderly));
  absents = λ fs key live absent. needed_by t (first_holder (column t key) (newer t fs)) (∥∥₁_map known (λ r. r.absents fs key live absent));
}

ours : (t : Table) → ∥ IsOurs t ∥₁ → IsOurs t
ours t known = record {
  lawful = ∥∥₁_elim known (IsTable-prop t) (λ r. r.lawful);
  sized = ∥∥₁_elim known (hlevel props) (λ r. r.sized);
  sound = sound t (∥∥₁_map known (λ r. r.sound));
}

-- the one number is below the other, or the cause is the second one
below_or : {Q : Type 0} (a b : ℕ) → IsProp Q → ∥ (a < b) ⊎ Q ∥₁ → (a < b) ⊎ Q
below_or a b prop known =
    elim (cases_lt a b) [
      | inl less ↦ inl less
      | inr most ↦ inr (∥∥₁_elim known prop (elim [ inl less ↦ absurd (omega (arith, less, most)) | inr q ↦ q ]))
    ]

pub whole-known : {D : Type 0} (m : Meaning) (engine : Engine D) → ∥ IsWhole m engine ∥₁ → IsWhole m engine
whole-known m engine known = record {
  files = record {
    ours = ours (table_of engine) (∥∥₁_map known (λ r. r.files.ours));
    allocated = ∥∥₁_elim known (hlevel props) (λ r. r.files.allocated);
    limit = ∥∥₁_elim known (hlevel props) (λ r. r.files.limit);
    records = ∥∥₁_elim known (hlevel props) (λ r. r.files.records);
  };
  blocks = ∥∥₁_elim known (hlevel props) (λ r. r.blocks);
  records = ∥∥₁_elim known (hlevel props) (λ r. r.records);
  size = ∥∥₁_elim known (hlevel props) (λ r. r.size);
  settled = ∥∥₁_elim known (hlevel props) (λ r. r.settled);
  stripped = λ fs key left. below_or engine.stripped.id fs (hlevel props) (∥∥₁_map known (λ r. r.stripped fs key left));
}
