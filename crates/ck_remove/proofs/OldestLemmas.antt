-- The oldest checkpoint that is gone, and its least entry.
use Rattle.std.proofs.Common.{◌≡◌, ℕ, ◌<◌, ◌≤◌, Bool, true, false, cond, not, ◌||◌, List, [], ◌∷◌, ◌++◌, filter, find, Option, Some, None, is_some, IsSome, IfSome, IsSomeAnd, MatchOption, refl, sym, ap, subst, ◌∙◌, arith}
use Rattle.std.specs.Ordering.{is_eq}
use Rattle.std.specs.Option.{option_map, option_map_or}
use Rattle.std.specs.FinMap as map
use Rattle.std.proofs.lemmas.Cmp.{tied_itself}
use Rattle.std.proofs.lemmas.Bool.{true≢false, false_from_ne_true}
use Rattle.std.proofs.lemmas.Bool.Decides.{nat_tests}
use Rattle.ck_model.specs.declared.key.Key.{Key}
use Rattle.ck_model.specs.declared.held.Held.{Held}
use Rattle.ck_model.specs.declared.checkpoint.Fileset.{Fileset}
use Rattle.ck_model.specs.Key.{key_cmp_total}
use Rattle.ck_model.specs.Table.{Table, IsTable, column, keys_in, newer}
use Rattle.ck_model.specs.Chain.{is_gone, is_live}
use Rattle.ck_model.specs.TableWorld.{is_among}
use Rattle.ck_model.proofs.RowLaws.{find-row_of}
use Rattle.ck_model.specs.Rows.{row_of}
use Rattle.ck_model.proofs.CaseLaws.{none_some, some_same}
use Rattle.ck_chain.proofs.NewerLaws.{newer_split}
use Rattle.ck_chain.specs.Needless.{in_between}
use Rattle.ck_chain.proofs.OrderlyLaws.{positive_id}
use Rattle.ck_chain.proofs.OrderLaws.{keys-row, among-keys}
use Rattle.ck_remove.specs.declared.gone.GoneEntry.{GoneEntry}
use Rattle.ck_remove.specs.Gone.{oldest_gone, first_of, work_of}

pub gone_stands : (t : Table) (fs : ℕ) → is_gone t fs ≡ true → IsSome (map.get t.filesets fs)
gone_stands t fs gone = elim (map.get t.filesets fs) as (λ o. option_map_or (λ (f : Fileset). f.gone) o false ≡ true → IsSome o) [ None ↦ λ h. h | Some f ↦ λ _. refl ] gone

pub gone_not_live : (t : Table) (fs : ℕ) → is_gone t fs ≡ true → is_live t fs ≡ false
gone_not_live t fs gone = elim (map.get t.filesets fs) as (λ o. option_map_or (λ (f : Fileset). f.gone) o false ≡ true → option_map_or (λ (f : Fileset). not f.gone) o false ≡ false) [ None ↦ λ _. refl | Some f ↦ λ h. ap not h ] gone

pub live_where_not_gone : (t : Table) (fs : ℕ) → IsSome (map.get t.filesets fs) → is_gone t fs ≡ false → is_live t fs ≡ true
live_where_not_gone t fs stands kept = elim (map.get t.filesets fs) as (λ o. IsSome o → option_map_or (λ (f : Fileset). f.gone) o false ≡ false → option_map_or (λ (f : Fileset). not f.gone) o false ≡ true) [ None ↦ λ h _. h | Some f ↦ λ _ h. ap not h ] stands kept

-- what is found passes
found_passes : (p : ℕ → Bool) (xs : List ℕ) → IfSome (find p xs) (λ x. p x ≡ true)
found_passes p [] = tt
found_passes p (x ∷ xs) =
    let rest = found_passes p xs in
    elim (p x) as (λ b. p x ≡ b → IfSome (cond b (Some x) (find p xs)) (λ x. p x ≡ true)) [ true ↦ λ h. h | false ↦ λ _. rest ] refl

-- where one passes, it or one before it is found
found_before : (p : ℕ → Bool) (x : ℕ) (ids rest : List ℕ) → p x ≡ true → IsSomeAnd (find p (filter (in_between 0 x) ids ++ x ∷ rest)) (λ y. y ≤ x)
found_before p x [] rest h = subst (λ b. IsSomeAnd (cond b (Some x) (find p rest)) (λ y. y ≤ x)) (sym h) (omega arith)
found_before p x (i ∷ ids) rest h =
    let further = found_before p x ids rest h in
    elim (in_between 0 x i) as (λ v. in_between 0 x i ≡ v → IsSomeAnd (find p (cond v (i ∷ filter (in_between 0 x) ids) (filter (in_between 0 x) ids) ++ x ∷ rest)) (λ y. y ≤ x)) [
      | true ↦ λ e.
          let lower : i < x = grind (arith, nat_tests) in
          elim (p i) as (λ b. IsSomeAnd (cond b (Some i) (find p (filter (in_between 0 x) ids ++ x ∷ rest))) (λ y. y ≤ x)) [ true ↦ omega (arith, lower) | false ↦ further ]
      | false ↦ λ _. further
    ] refl

-- the oldest one is at most as high as each that is gone
oldest_at_most : (t : Table) (x : ℕ) → IsTable t → is_gone t x ≡ true → IsSomeAnd (oldest_gone t) (λ y. y ≤ x)
oldest_at_most t x lawful gone =
    let stands = gone_stands t x gone in
    let least = positive_id t x lawful stands in
    subst (λ ids. IsSomeAnd (find (is_gone t) ids) (λ y. y ≤ x)) (sym (newer_split t 0 x (omega arith) stands)) (found_before (is_gone t) x (map.keys t.filesets) (newer t x) gone)

-- where there is none, none is gone
pub none_gone : (t : Table) → IsTable t → oldest_gone t ≡ None → (fs : ℕ) → is_gone t fs ≡ false
none_gone t lawful none fs = false_from_ne_true (is_gone t fs) (λ gone. subst (λ o. IsSomeAnd o (λ y. y ≤ fs)) none (oldest_at_most t fs lawful gone))

pub oldest_is_gone : (t : Table) → IfSome (oldest_gone t) (λ id. is_gone t id ≡ true)
oldest_is_gone t = found_passes (is_gone t) (newer t 0)

pub record IsOldest (t : Table) (g : ℕ) : Type 0 where
  pub gone : is_gone t g ≡ true
  pub stands : IsSome (map.get t.filesets g)
  pub above : 0 < g
  pub first : (x : ℕ) → x < g → is_gone t x ≡ false

pub oldest_is : (t : Table) (g : ℕ) → IsTable t → oldest_gone t ≡ Some g → IsOldest t g
oldest_is t g lawful is =
    let gone : is_gone t g ≡ true = subst (λ o. IfSome o (λ id. is_gone t id ≡ true)) is (oldest_is_gone t) in
    let stands = gone_stands t g gone in
    let least = positive_id t g lawful stands in
    record {
      gone = gone;
      stands = stands;
      above = omega arith;
      first = λ x lower. false_from_ne_true (is_gone t x) (λ other. let most = subst (λ o. IsSomeAnd o (λ y. y ≤ x)) is (oldest_at_most t x lawful other) in absurd (omega (arith, most, lower)));
    }

-- ---- the work

pub record IsWork (t : Table) (item : GoneEntry) : Type 0 where
  pub oldest : oldest_gone t ≡ Some item.id
  pub least : first_of (keys_in t item.id) ≡ item.key

pub work_parts : (t : Table) (item : GoneEntry) → work_of t ≡ Some item → IsWork t item
work_parts t item is =
    elim (oldest_gone t) as (λ o. oldest_gone t ≡ o → option_map (λ id. record { id = id; key = first_of (keys_in t id) }) o ≡ Some item → IsWork t item) [
      | None ↦ λ _ h. absurd (none_some item h)
      | Some id ↦ λ found h. subst (IsWork t) (some_same (record { id = id; key = first_of (keys_in t id) }) item h) (record { oldest = found; least = refl })
    ] refl is

among-keys_in : (t : Table) (fs : ℕ) (q : Key) → is_among q (keys_in t fs) ≡ is_some (column t q fs)
among-keys_in t fs q =
    ap (is_among q) (keys-row fs (map.entries t.entries)) ∙ among-keys q (row_of t fs) ∙ ap is_some (find-row_of t fs q)

-- the first key has an entry
pub first_held : (t : Table) (fs : ℕ) (key : Key) → first_of (keys_in t fs) ≡ Some key → IsSome (column t key fs)
first_held t fs key is = sym (among-keys_in t fs key) ∙ go (keys_in t fs) is
  where
    go : (keys : List Key) → first_of keys ≡ Some key → is_among key keys ≡ true
    go [] h = absurd (none_some key h)
    go (k ∷ keys) h = subst (λ q. is_among q (k ∷ keys) ≡ true) (some_same k key h) (ap (λ o. is_eq o || is_among k keys) (tied_itself key_cmp_total k))

no_key : (keys : List Key) → first_of keys ≡ None → keys ≡ []
no_key [] h = refl
no_key (k ∷ keys) h = absurd (none_some k (sym h))

nothing : (o : Option Held) → is_some o ≡ false → o ≡ None
nothing None h = refl
nothing (Some held) h = absurd (true≢false h)

-- where there is none, the fileset is empty
pub none_held : (t : Table) (fs : ℕ) → first_of (keys_in t fs) ≡ None → (keys_in t fs ≡ []) × ((q : Key) → column t q fs ≡ None)
none_held t fs is =
    let none = no_key (keys_in t fs) is in
    (none, λ q. nothing (column t q fs) (sym (among-keys_in t fs q) ∙ ap (is_among q) none))

-- what `next` gives at first
pub next_is_first : (keys : List Key) (next : Option Key) (rest : Key → List Key) → MatchOption next (keys ≡ []) (λ key. keys ≡ key ∷ rest key) → first_of keys ≡ next
next_is_first keys None rest h = ap first_of h
next_is_first keys (Some key) rest h = ap first_of h
