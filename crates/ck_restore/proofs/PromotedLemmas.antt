-- An entry of the newest fileset moves into the primary.
use Rattle.std.proofs.Common.{◌≡◌, ℕ, ◌+◌, ◌<◌, ◌≤◌, true, false, cond, inl, inr, [], ◌∷◌, Option, Some, None, is_some, IsSome, IfSome, if◌then◌else◌, nat_eq, refl, sym, ap, subst, ◌∙◌, arith}
use Rattle.std.specs.Ordering.{eq_by_cmp}
use Rattle.std.specs.Option.{option_or, option_map}
use Rattle.std.specs.FinMap as map
use Rattle.std.proofs.lemmas.Bool.{true≢false}
use Rattle.std.proofs.lemmas.Bool.Decides.{nat_tests}
use Rattle.ck_model.specs.declared.key.Key.{Key}
use Rattle.ck_model.specs.declared.held.Held.{Held}
use Rattle.ck_model.specs.declared.held.Held.TheVariants.{Absent, Plain, Extent, Mark}
use Rattle.ck_model.specs.Key.{key_cmp}
use Rattle.ck_model.specs.Held.{IsEntry}
use Rattle.ck_model.specs.Table.{Table, IsSized, IsTable, column, newer, record_count, spare_count, with_entry}
use Rattle.ck_model.specs.Chain.{as_mark, first_entry, is_live_data, keeps_data, present, seen}
use Rattle.ck_model.specs.Rules.{IsOrderly, IsOwn, first_holder}
use Rattle.ck_model.proofs.CaseLaws.{none_some, some_is}
use Rattle.ck_chain.specs.Fits.{Fits}
use Rattle.ck_chain.specs.Kept.{read_as}
use Rattle.ck_chain.specs.Named.{block_of, one_of, IsNamed}
use Rattle.ck_chain.specs.Needless.{Says}
use Rattle.ck_chain.proofs.ColumnLaws.{column-with_entry, column-with_entry_other, same_or_other, write_twice}
use Rattle.ck_chain.proofs.CountLaws.{record_count-with_entry}
use Rattle.ck_chain.proofs.NameLaws.{naming_of, named_else, named_here, named_without, named_written}
use Rattle.ck_chain.proofs.OrderlyLaws.{orderly_with, orderly_without, positive_id, still_stood}
use Rattle.ck_chain.proofs.ReadLaws.{keeps_newer, live_stands, older_reads}
use Rattle.ck_restore.specs.Entries.{entries_from}
use Rattle.ck_restore.specs.Freed.{AreReleased, listed}
use Rattle.ck_restore.specs.Older.{LeavesOlder, OlderNeeded, OthersNeeded}
use Rattle.ck_restore.specs.Promoted.{promoted}
use Rattle.ck_restore.proofs.EntriesLemmas.{entries_from-older, entries_from-without}
use Rattle.ck_restore.proofs.FreedLemmas.{is_listed, listed_is, listed_once}
use Rattle.ck_restore.proofs.UnlinkedLemmas.{data_stands, own_data}

-- ---- what is present

present_twice : (o : Option Held) → present (present o) ≡ present o
present_twice None = refl
present_twice (Some Absent) = refl
present_twice (Some (Plain stamp small)) = refl
present_twice (Some (Extent stamp block)) = refl
present_twice (Some (Mark stamp)) = refl

block_present : (o : Option Held) → block_of (present o) ≡ block_of o
block_present None = refl
block_present (Some Absent) = refl
block_present (Some (Plain stamp small)) = refl
block_present (Some (Extent stamp block)) = refl
block_present (Some (Mark stamp)) = refl

one_at_most : (o : Option Held) → one_of o ≤ 1
one_at_most None = omega arith
one_at_most (Some held) = omega arith

pub present_entry : (key : Key) (o : Option Held) → IfSome o (IsEntry key) → IfSome (present o) (IsEntry key)
present_entry key None h = h
present_entry key (Some Absent) h = tt
present_entry key (Some (Plain stamp small)) h = h
present_entry key (Some (Extent stamp block)) h = h
present_entry key (Some (Mark stamp)) h = h

-- a record is free once an entry is away
pub room_after : (t : Table) (fs : ℕ) (key : Key) → IsSized t → IsSome (column t key fs) → 0 < spare_count (with_entry t fs key None)
room_after t fs key sized held =
    let found = some_is (column t key fs) held in
    let one : one_of (column t key fs) ≡ 1 = ap one_of found.1 in
    let count : record_count (with_entry t fs key None) + one_of (column t key fs) ≡ record_count t + 0 = record_count-with_entry t fs key None in
    let fits = sized.fits in
    omega (arith, one, count, fits)

-- absents at other keys are needed as they were
pub others_needed : (t : Table) (id fs : ℕ) (key : Key) → OlderNeeded t id → OthersNeeded (promoted t fs key) id key
others_needed t id fs key needed x q apart live lower absent = elim (same_or_other q key) [
  | inl same ↦ absurd (apart same)
  | inr other ↦
      let same : column (promoted t fs key) q ≡ column t q = column-with_entry_other (with_entry t fs key None) 0 key (present (column t key fs)) q other ∙ column-with_entry_other t fs key None q other in
      subst (λ (c : ℕ → Option Held). Says t (first_holder c (newer t x))) (sym same) (needed x q live lower (sym (ap (λ (c : ℕ → Option Held). c x) same) ∙ absent))
]

-- ---- the entry of the newest fileset

module _ (t : Table) (fs : ℕ) (key : Key) (h : Held) (orderly : IsOrderly t) (above : 0 < fs) (at : column t key fs ≡ Some h) where
  abbrev away : Table
  away = with_entry t fs key None

  -- and without what the primary had
  abbrev bare : Table
  bare = with_entry away 0 key None

  abbrev new : Option Held
  new = present (column t key fs)

  orderly_away : IsOrderly away
  orderly_away = orderly_without t fs key orderly

  orderly_bare : IsOrderly bare
  orderly_bare = orderly_without away 0 key orderly_away

  own_away : column away key fs ≡ None
  own_away = column-with_entry t fs key None fs ∙ grind (arith, nat_tests)

  own_bare : column bare key fs ≡ None
  own_bare = column-with_entry away 0 key None fs ∙ ap (cond (nat_eq fs 0) None) own_away ∙ elim (nat_eq fs 0) as (λ b. ◌≡◌ {A = Option Held} (cond b None None) None) [ true ↦ refl | false ↦ refl ]

  primary_away : column away key 0 ≡ column t key 0
  primary_away = column-with_entry t fs key None 0 ∙ grind (arith, nat_tests)

  stood : (g : ℕ) (q : Key) (held : Held) → column bare q g ≡ Some held → column t q g ≡ Some held
  stood g q held is = still_stood t fs key g q held (still_stood away 0 key g q held is)

  fits : IsOwn h → Fits bare 0 key h
  fits own = record {
    home = inl refl;
    stamp = orderly.stamps fs key h at;
    number = orderly.numbers fs key h at;
    block = orderly.blocks fs key h at;
    primary = λ _. own;
    mark = λ stamp is. absurd (subst IsOwn is own);
    unshared = λ gs other again block there of_again of_new.
        let one = orderly.unshared gs fs other key again h block (stood gs other again there) at of_again of_new in
        let wrong : ◌≡◌ {A = Option Held} None (Some again) = sym own_bare ∙ sym (ap (λ k. column bare k fs) one.1) ∙ sym (ap (column bare other) one.0) ∙ there in
        absurd (none_some again wrong);
    version = λ gs again stamp there of_again of_new.
        let one = orderly.versions gs fs key again h stamp (stood gs key again there) at of_again of_new in
        let wrong : ◌≡◌ {A = Option Held} None (Some again) = sym own_bare ∙ sym (ap (column bare key) one) ∙ there in
        absurd (none_some again wrong);
  }

  put_there : IsOwn h → IsOrderly (with_entry away 0 key (Some h))
  put_there own = subst IsOrderly (write_twice away 0 key None (Some h)) (orderly_with bare 0 key h orderly_bare (fits own))

  -- the rules but the one on absents stay
  pub promoted_orderly : keeps_data t fs ≡ true → IsOrderly (promoted t fs key)
  promoted_orderly keeps =
      subst (λ o. IsOrderly (with_entry away 0 key (present o))) (sym at) (
      elim h as (λ x. h ≡ x → IsOrderly (with_entry away 0 key (present (Some x)))) [
        | Absent ↦ λ _. orderly_bare
        | Plain stamp small ↦ λ is. subst (λ x. IsOrderly (with_entry away 0 key (Some x))) is (put_there (subst IsOwn (sym is) tt))
        | Extent stamp block ↦ λ is. subst (λ x. IsOrderly (with_entry away 0 key (Some x))) is (put_there (subst IsOwn (sym is) tt))
        | Mark stamp ↦ λ is. absurd (true≢false (sym keeps ∙ orderly.marks fs key stamp (at ∙ ap (λ (x : Held). Some x) is)))
      ] refl)

  other_columns : (q : Key) → eq_by_cmp key_cmp q key ≡ false → column (promoted t fs key) q ≡ column t q
  other_columns q other = column-with_entry_other away 0 key new q other ∙ column-with_entry_other t fs key None q other

  primary_new : column (promoted t fs key) key 0 ≡ new
  primary_new = column-with_entry away 0 key new 0 ∙ grind (arith, nat_tests)

  own_gone : column (promoted t fs key) key fs ≡ None
  own_gone =
      let apart : nat_eq fs 0 ≡ false = grind (arith, nat_tests) in
      column-with_entry away 0 key new fs ∙ ap (λ b. cond b new (column away key fs)) apart ∙ own_away

  between_same : (x : ℕ) → 0 < x → x < fs → column (promoted t fs key) key x ≡ column t key x
  between_same x positive lower =
      let first : nat_eq x 0 ≡ false = grind (arith, nat_tests) in
      let apart : nat_eq x fs ≡ false = grind (arith, nat_tests) in
      column-with_entry away 0 key new x ∙ ap (λ b. cond b new (column away key x)) first
      ∙ column-with_entry t fs key None x ∙ ap (λ b. cond b None (column t key x)) apart

  -- who reads the fileset or an older one sees what he saw
  pub promoted_reads : IsSome (map.get t.filesets fs) → newer t fs ≡ [] → (g : ℕ) (q : Key) → 0 < g → g ≤ fs → seen (promoted t fs key) g q ≡ seen t g q
  promoted_reads stands newest g q positive le = elim (same_or_other q key) [
    | inr other ↦ ap (λ (c : ℕ → Option Held). read_as (keeps_data t g) (first_entry c (g ∷ newer t g))) (other_columns q other)
    | inl same ↦
        let d = column (promoted t fs key) key in
        let b = keeps_data t g in
        let tail : read_as b (first_entry d (fs ∷ [])) ≡ read_as b (first_entry (column t key) (fs ∷ [])) =
        ap (λ o. read_as b (option_or o (d 0))) own_gone ∙ ap (read_as b) primary_new ∙ ap (λ o. read_as b (present o)) at
        ∙ ap (λ o. if b then o else option_map as_mark o) (present_twice (Some h))
        ∙ sym (ap (λ o. read_as b (option_or o (column t key 0))) at) in
        let at_key : seen (promoted t fs key) g key ≡ seen t g key = older_reads t d key b g fs positive le stands between_same
        (subst (λ ids. read_as b (first_entry d (fs ∷ ids)) ≡ read_as b (first_entry (column t key) (fs ∷ ids))) (sym newest) tail) in
        subst (λ k. seen (promoted t fs key) g k ≡ seen t g k) (sym same) at_key
  ]

  count_away : record_count away + 1 ≡ record_count t
  count_away =
      let one : one_of (column t key fs) ≡ 1 = ap one_of at in
      let less : record_count away + one_of (column t key fs) ≡ record_count t + 0 = record_count-with_entry t fs key None in
      omega (arith, one, less)

  promoted_shrinks : record_count (promoted t fs key) ≤ record_count t
  promoted_shrinks =
      let first = count_away in
      let more = record_count-with_entry away 0 key new in
      let few = one_at_most new in
      omega (arith, first, more, few)

  pub promoted_older : (id : ℕ) → id ≤ fs → IsTable t → IsSome (map.get t.filesets fs) → newer t fs ≡ [] → LeavesOlder id t (promoted t fs key)
  promoted_older id within lawful stands newest = record {
    seen = λ g q live le. let least = positive_id t g lawful (live_stands t g live) in promoted_reads stands newest g q (omega arith) (omega arith);
    filesets = λ g le. refl;
    counters = refl;
    blocks = refl;
    limit = refl;
    records = promoted_shrinks;
  }

  -- one entry fewer from there on
  pub promoted_entries : (id : ℕ) → 0 < id → id ≤ fs → entries_from (promoted t fs key) id + 1 ≡ entries_from t id
  promoted_entries id positive within =
      let same = entries_from-older away id 0 key new positive in
      let fewer = entries_from-without t id fs key within (ap is_some at) in
      omega (arith, same, fewer)

  -- ---- the data block that the primary named

  of_new : (block : ℕ) → block_of new ≡ Some block → IsNamed t block
  of_new block of = (fs, (key, sym (block_present (column t key fs)) ∙ of))

  named_away : (block : ℕ) → IsNamed away block → IsNamed t block
  named_away block named = elim (named_written t fs key None block named) [ inl was ↦ was | inr none ↦ absurd (none_some block none) ]

  two_blocks : (block : ℕ) → block_of (column t key 0) ≡ Some block → block_of new ≡ Some block → ⊥
  two_blocks block first second =
      let a = naming_of (column t key 0) block first in
      let b = naming_of (column t key fs) block (sym (block_present (column t key fs)) ∙ second) in
      let one = orderly.unshared 0 fs key key a.held b.held block a.stands b.stands a.names b.names in
      let same = one.0 in
      absurd (omega arith)

  no_longer : (block : ℕ) → block_of (column t key 0) ≡ Some block → IsNamed (promoted t fs key) block → ⊥
  no_longer block of named =
      elim (named_written bare 0 key new block (subst (λ u. IsNamed u block) (sym (write_twice away 0 key None new)) named)) [
        | inl still ↦ named_without away 0 key block orderly_away (ap block_of primary_away ∙ of) still
        | inr again ↦ two_blocks block of again
      ]

  pub promoted_released : AreReleased t (promoted t fs key) (listed (block_of (column t key 0)))
  promoted_released = record {
    parted = λ block named. elim (named_else t fs key None block named) [
      | inl first ↦ elim (named_else away 0 key new block first) [
        | inl still ↦ inl still
        | inr there ↦ inr (is_listed (block_of (column t key 0)) block (sym (ap block_of primary_away) ∙ there))
      ]
      | inr own ↦ inl (named_here away 0 key new block (block_present (column t key fs) ∙ own))
    ];
    gone = λ block among. let is = listed_is (block_of (column t key 0)) block among in ((0, (key, is)), no_longer block is);
    kept = λ block named. elim (named_written away 0 key new block named) [
      | inl first ↦ named_away block first
      | inr of ↦ of_new block of
    ];
    once = listed_once (block_of (column t key 0));
  }

-- ---- what a moved entry leaves

pub record LeavesPromoted (id : ℕ) (key : Key) (old new : Table) : Type 0 where
  pub older : LeavesOlder id old new
  pub orderly : IsOrderly new
  pub others : OthersNeeded new id key
  pub released : AreReleased old new (listed (block_of (column old key 0)))
  pub entries : entries_from new id + 1 ≡ entries_from old id

pub promoted_one : (t : Table) (id fs : ℕ) (key : Key) → IsTable t → IsOrderly t → OlderNeeded t id → is_live_data t id ≡ true → id ≤ fs → IsSome (map.get t.filesets fs) → newer t fs ≡ [] → IsSome (column t key fs)
    → LeavesPromoted id key t (promoted t fs key)
promoted_one t id fs key lawful orderly needed holds within stands newest held =
    let found = some_is (column t key fs) held in
    let least = positive_id t id lawful (data_stands t id holds) in
    let above : 0 < fs = omega arith in
    let keeps = keeps_newer t id fs within (own_data t id lawful holds) in
    record {
      older = promoted_older t fs key found.0 orderly above found.1 id within lawful stands newest;
      orderly = promoted_orderly t fs key found.0 orderly above found.1 keeps;
      others = others_needed t id fs key needed;
      released = promoted_released t fs key found.0 orderly above found.1;
      entries = promoted_entries t fs key found.0 orderly above found.1 id (omega arith) within;
    }
