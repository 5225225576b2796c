-- What a checkpoint that keeps its files has at a key has its contents, and names a block of the volume.
use Rattle.std.proofs.Common.{◌≡◌, ◌≢◌, ℕ, ◌<◌, ◌≤◌, Bool, true, false, ◌&&◌, ◌||◌, not, List, [], ◌∷◌, ◌++◌, filter, Option, Some, None, IsSome, IfSome, nat_le, refl, sym, ap, ◌∙◌, ◌⊎◌, inl, inr, arith}
use Rattle.std.specs.Option.{option_or, option_map_or}
use Rattle.std.specs.List.{list_any, AllByRecursion}
use Rattle.std.specs.FinMap as map
use mathlib.Core.Bool.{false≢true}
use Rattle.std.proofs.lemmas.Bool.Decides.{nat_tests}
use Rattle.ck_model.specs.declared.checkpoint.Fileset.{Fileset}
use Rattle.ck_model.specs.declared.key.Key.{Key}
use Rattle.ck_model.specs.declared.held.Held.{Held}
use Rattle.ck_model.specs.declared.held.Held.TheVariants.{Absent, Plain, Extent, Mark}
use Rattle.ck_model.specs.World.{keeps_files}
use Rattle.ck_model.specs.Table.{Table, IsTable, newer, column}
use Rattle.ck_model.specs.Chain.{first_entry, present, value_of, keeps_data, is_live_data}
use Rattle.ck_model.specs.Rules.{IsOrderly, IsOwn, block_in}
use Rattle.ck_chain.specs.Needless.{in_between}
use Rattle.ck_chain.proofs.NewerLaws.{newer_split}
use Rattle.ck_chain.proofs.ReadLaws.{keeps_newer, each_above}
use Rattle.ck_chain.proofs.OrderlyLaws.{positive_id}

-- ---- a live data checkpoint keeps data

pub data_stands : (t : Table) (fs : ℕ) → is_live_data t fs ≡ true → IsSome (map.get t.filesets fs)
data_stands t fs live = elim (map.get t.filesets fs) as (λ o. option_map_or (λ (g : Fileset). not g.gone && keeps_files g.kind) o false ≡ true → IsSome o) [ None ↦ λ h. h | Some g ↦ λ _. refl ] live

any_there : (p : ℕ → Bool) (xs : List ℕ) (y : ℕ) (ys : List ℕ) → p y ≡ true → list_any p (xs ++ y ∷ ys) ≡ true
any_there p [] y ys h = ap (λ b. b || list_any p ys) h
any_there p (x ∷ xs) y ys h =
    let rest = any_there p xs y ys h in
    elim (p x) as (λ b. (b || list_any p (xs ++ y ∷ ys)) ≡ true) [ true ↦ refl | false ↦ rest ]

pub keeps_own : (t : Table) (fs : ℕ) → IsTable t → is_live_data t fs ≡ true → keeps_data t fs ≡ true
keeps_own t fs lawful live =
    let stands = data_stands t fs live in
    let passes = λ (id : ℕ). nat_le id fs && is_live_data t id in
    let le : nat_le fs fs ≡ true = grind (arith, nat_tests) in
    ap (list_any passes) (newer_split t 0 fs (positive_id t fs lawful stands) stands)
    ∙ any_there passes (filter (in_between 0 fs) (map.keys t.filesets)) fs (newer t fs) (λ i. le i && live i)

-- ---- where a value stands

pub record Place (c : ℕ → Option Held) (low : ℕ) (held : Held) : Type 0 where
  pub at : ℕ
  pub home : (at ≡ 0) ⊎ (low ≤ at)
  pub has : c at ≡ Some held

first_place : (c : ℕ → Option Held) (low : ℕ) (ids : List ℕ) (held : Held) → AllByRecursion (λ x. low ≤ x) ids → first_entry c ids ≡ Some held → Place c low held
first_place c low [] held above is = record { at = 0; home = inl refl; has = is }
first_place c low (x ∷ ids) held above is =
    elim (c x) as (λ o. c x ≡ o → option_or o (first_entry c ids) ≡ Some held → Place c low held) [
      | None ↦ λ _ rest. first_place c low ids held above.1 rest
      | Some h ↦ λ here same. record { at = x; home = inr above.0; has = here ∙ same }
    ] refl is

some_present : (o : Option Held) (held : Held) → present o ≡ Some held → (o ≡ Some held) × (held ≢ Absent)
some_present None held is = cc
some_present (Some Absent) held is = cc
some_present (Some (Plain stamp small)) held is = (is, λ e. cc)
some_present (Some (Extent stamp block)) held is = (is, λ e. cc)
some_present (Some (Mark stamp)) held is = (is, λ e. cc)

own_at : (t : Table) (to at : ℕ) (q : Key) (held : Held) → IsOrderly t → keeps_data t to ≡ true → (at ≡ 0) ⊎ (to ≤ at) → column t q at ≡ Some held → held ≢ Absent → IsOwn held
own_at t to at q Absent is keeps home has own = absurd (own refl)
own_at t to at q (Plain stamp small) is keeps home has own = tt
own_at t to at q (Extent stamp block) is keeps home has own = tt
own_at t to at q (Mark stamp) is keeps home has own = elim home [
  | inl zero ↦ is.primary q (Mark stamp) (ap (column t q) (sym zero) ∙ has)
  | inr above ↦ absurd (false≢true (sym (is.marks at q stamp has) ∙ keeps_newer t to at above keeps))
]

-- what such a checkpoint has is no mark, and its block is one of the volume's
pub own_value : (t : Table) (to : ℕ) (q : Key) (held : Held) → IsTable t → IsOrderly t → is_live_data t to ≡ true → value_of t to q ≡ Some held → IsOwn held × IfSome (block_in held) (λ block. block < t.blocks)
own_value t to q held lawful is live value =
    let parts = some_present (first_entry (column t q) (to ∷ newer t to)) held value in
    let place = first_place (column t q) to (to ∷ newer t to) held (omega arith, each_above (λ x. to ≤ x) to (map.keys t.filesets) (λ x more. omega arith)) parts.0 in
    (own_at t to place.at q held is (keeps_own t to lawful live) place.home place.has parts.1, is.blocks place.at q held place.has)
