-- The rules of a table, after an entry is written or goes.
use Rattle.std.proofs.Common.{◌≡◌, ℕ, ◌<◌, ◌≤◌, true, false, cond, ◌⊎◌, inl, inr, Option, Some, None, is_some, IsSome, IfSome, nat_eq, refl, sym, ap, subst, ◌∙◌, arith}
use Rattle.std.specs.FinMap as map
use Rattle.std.proofs.lemmas.Bool.Decides.{nat_tests}
use Rattle.ck_model.specs.declared.key.Key.{Key}
use Rattle.ck_model.specs.declared.held.Held.{Held}
use Rattle.ck_model.specs.declared.held.Held.TheVariants.{Mark}
use Rattle.ck_model.specs.Table.{Table, IsTable, column, with_entry}
use Rattle.ck_model.specs.Chain.{keeps_data}
use Rattle.ck_model.specs.Rules.{IsOrderly, IsOwn, KeyBelow, HeldBelow, stamp_in, block_in}
use Rattle.ck_model.proofs.CaseLaws.{some_is, some_same}
use Rattle.ck_chain.specs.Fits.{Fits}
use Rattle.ck_chain.proofs.ColumnLaws.{column-with_entry, column-with_entry_other, same_or_other}

-- the ids of filesets are at least 1
pub positive_id : (t : Table) (id : ℕ) → IsTable t → IsSome (map.get t.filesets id) → 1 ≤ id
positive_id t id is stands = let found = some_is (map.get t.filesets id) stands in (is.filesets id found.0 found.1).some

-- an entry of the written table is the one that was written, or stood before
pub written_or_before : (t : Table) (f : ℕ) (k : Key) (w : Option Held) (g : ℕ) (q : Key) (held : Held) → column (with_entry t f k w) q g ≡ Some held
    → ((g ≡ f) × (q ≡ k) × (w ≡ Some held)) ⊎ (column t q g ≡ Some held)
written_or_before t f k w g q held is = elim (same_or_other q k) [
  | inr other ↦ inr (sym (ap (λ (c : ℕ → Option Held). c g) (column-with_entry_other t f k w q other)) ∙ is)
  | inl same ↦
      let here : cond (nat_eq g f) w (column t k g) ≡ Some held = sym (column-with_entry t f k w g) ∙ subst (λ u. column (with_entry t f k w) u g ≡ Some held) same is in
      elim (nat_eq g f) as (λ b. nat_eq g f ≡ b → cond b w (column t k g) ≡ Some held → ((g ≡ f) × (q ≡ k) × (w ≡ Some held)) ⊎ (column t q g ≡ Some held)) [
        | true ↦ λ e h. inl (grind (arith, nat_tests), same, h)
        | false ↦ λ e h. inr (ap (λ u. column t u g) same ∙ h)
      ] refl here
]

-- where an entry goes, every other one stood before
pub still_stood : (t : Table) (f : ℕ) (k : Key) (g : ℕ) (q : Key) (held : Held) → column (with_entry t f k None) q g ≡ Some held → column t q g ≡ Some held
still_stood t f k g q held is = elim (written_or_before t f k None g q held is) [ inl gone ↦ let wrong = gone.2 in cc | inr stood ↦ stood ]

still_some : (t : Table) (f : ℕ) (k : Key) (g : ℕ) (q : Key) → IsSome (column (with_entry t f k None) q g) → IsSome (column t q g)
still_some t f k g q some =
    let found = some_is (column (with_entry t f k None) q g) some in
    ap is_some (still_stood t f k g q found.0 found.1)

-- any entry may go
pub orderly_without : (t : Table) (f : ℕ) (k : Key) → IsOrderly t → IsOrderly (with_entry t f k None)
orderly_without t f k is = record {
  names = is.names;
  ids = is.ids;
  live = is.live;
  homes = λ fs key some. is.homes fs key (still_some t f k fs key some);
  stamps = λ fs key held at. is.stamps fs key held (still_stood t f k fs key held at);
  numbers = λ fs key held at. is.numbers fs key held (still_stood t f k fs key held at);
  blocks = λ fs key held at. is.blocks fs key held (still_stood t f k fs key held at);
  unshared = λ fs gs key other held again block at too. is.unshared fs gs key other held again block (still_stood t f k fs key held at) (still_stood t f k gs other again too);
  primary = λ key held at. is.primary key held (still_stood t f k 0 key held at);
  marks = λ fs key stamp at. is.marks fs key stamp (still_stood t f k fs key (Mark stamp) at);
  versions = λ fs gs key held again stamp at too. is.versions fs gs key held again stamp (still_stood t f k fs key held at) (still_stood t f k gs key again too);
}

-- what holds of the written entry and of all before holds of each afterwards
each_entry : (t : Table) (f : ℕ) (k : Key) (new : Held) (P : ℕ → Key → Held → Type 0) → P f k new → ((g : ℕ) (q : Key) (held : Held) → column t q g ≡ Some held → P g q held)
    → (g : ℕ) (q : Key) (held : Held) → column (with_entry t f k (Some new)) q g ≡ Some held → P g q held
each_entry t f k new P here there g q held at = elim (written_or_before t f k (Some new) g q held at) [
  | inl is ↦ subst (λ (x : ℕ). P x q held) (sym is.0) (subst (λ (x : Key). P f x held) (sym is.1) (subst (λ (x : Held). P f k x) (some_same new held is.2) here))
  | inr stood ↦ there g q held stood
]

-- the written entry, or one that stood before
abbrev Either : Table → ℕ → Key → Held → ℕ → Key → Held → Type 0
Either t f k new g q held = ((g ≡ f) × (q ≡ k) × (◌≡◌ {A = Option Held} (Some new) (Some held))) ⊎ (column t q g ≡ Some held)

as_new : {X : Type 0} (of : Held → Option X) (new held : Held) (x : X) → ◌≡◌ {A = Option Held} (Some new) (Some held) → of held ≡ Some x → of new ≡ Some x
as_new of new held x same is = ap of (some_same new held same) ∙ is

pair_unshared : (t : Table) (f : ℕ) (k : Key) (new : Held) → IsOrderly t → Fits t f k new
    → (fs gs : ℕ) (key other : Key) (held again : Held) (block : ℕ) → Either t f k new fs key held → Either t f k new gs other again
    → block_in held ≡ Some block → block_in again ≡ Some block → (fs ≡ gs) × (key ≡ other)
pair_unshared t f k new is fits fs gs key other held again block one two of_one of_two = elim one [
  | inl a ↦ elim two [
    | inl b ↦ (a.0 ∙ sym b.0, a.1 ∙ sym b.1)
    | inr stood ↦ let r = fits.unshared gs other again block stood of_two (as_new block_in new held block a.2 of_one) in (a.0 ∙ sym r.0, a.1 ∙ sym r.1)
  ]
  | inr there ↦ elim two [
    | inl b ↦ let r = fits.unshared fs key held block there of_one (as_new block_in new again block b.2 of_two) in (r.0 ∙ sym b.0, r.1 ∙ sym b.1)
    | inr stood ↦ is.unshared fs gs key other held again block there stood of_one of_two
  ]
]

pair_version : (t : Table) (f : ℕ) (k : Key) (new : Held) → IsOrderly t → Fits t f k new
    → (fs gs : ℕ) (key : Key) (held again : Held) (stamp : ℕ) → Either t f k new fs key held → Either t f k new gs key again
    → stamp_in held ≡ Some stamp → stamp_in again ≡ Some stamp → fs ≡ gs
pair_version t f k new is fits fs gs key held again stamp one two of_one of_two = elim one [
  | inl a ↦ elim two [
    | inl b ↦ a.0 ∙ sym b.0
    | inr stood ↦ a.0 ∙ sym (fits.version gs again stamp (subst (λ u. column t u gs ≡ Some again) a.1 stood) of_two (as_new stamp_in new held stamp a.2 of_one))
  ]
  | inr there ↦ elim two [
    | inl b ↦ fits.version fs held stamp (subst (λ u. column t u fs ≡ Some held) b.1 there) of_one (as_new stamp_in new again stamp b.2 of_two) ∙ sym b.0
    | inr stood ↦ is.versions fs gs key held again stamp there stood of_one of_two
  ]
]

-- such an entry may be written
pub orderly_with : (t : Table) (f : ℕ) (k : Key) (new : Held) → IsOrderly t → Fits t f k new → IsOrderly (with_entry t f k (Some new))
orderly_with t f k new is fits =
    let by_key : (P : ℕ → Key → Held → Type 0) → P f k new → ((g : ℕ) (q : Key) (held : Held) → column t q g ≡ Some held → P g q held)
    → (g : ℕ) (q : Key) (held : Held) → column (with_entry t f k (Some new)) q g ≡ Some held → P g q held
    = λ P here there g q held at. each_entry t f k new P here there g q held at in
    record {
      names = is.names;
      ids = is.ids;
      live = is.live;
      homes = λ fs key some.
          let found = some_is (column (with_entry t f k (Some new)) key fs) some in
          by_key (λ g q held. (g ≡ 0) ⊎ IsSome (map.get t.filesets g)) fits.home (λ g q held at. is.homes g q (ap is_some at)) fs key found.0 found.1;
      stamps = by_key (λ g q held. IfSome (stamp_in held) (λ stamp. stamp < t.counters.stamp)) fits.stamp is.stamps;
      numbers = by_key (λ g q held. KeyBelow t.counters.number q × HeldBelow t.counters.number held) fits.number is.numbers;
      blocks = by_key (λ g q held. IfSome (block_in held) (λ block. block < t.blocks)) fits.block is.blocks;
      unshared = λ fs gs key other held again block at too of_one of_other.
          pair_unshared t f k new is fits fs gs key other held again block (written_or_before t f k (Some new) fs key held at) (written_or_before t f k (Some new) gs other again too) of_one of_other;
      primary = λ key held at.
          by_key (λ g q held. g ≡ 0 → IsOwn held) fits.primary (λ g q held there zero. is.primary q held (subst (λ n. column t q n ≡ Some held) zero there)) 0 key held at refl;
      marks = λ fs key stamp at.
          by_key (λ g q held. (stamp : ℕ) → held ≡ Mark stamp → keeps_data t g ≡ false) fits.mark (λ g q held there stamp mark. is.marks g q stamp (there ∙ ap (λ (h : Held). Some h) mark)) fs key (Mark stamp) at stamp refl;
      versions = λ fs gs key held again stamp at too of_one of_other.
          pair_version t f k new is fits fs gs key held again stamp (written_or_before t f k (Some new) fs key held at) (written_or_before t f k (Some new) gs key again too) of_one of_other;
    }
