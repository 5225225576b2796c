-- Up to where nothing is left to strip, after a change of the primary, after a new checkpoint, and after a checkpoint leaves or its flags change.
use Rattle.std.proofs.Common.{◌≡◌, ◌≢◌, ℕ, ◌<◌, ◌≤◌, Bool, true, false, not, ◌&&◌, ◌||◌, ◌⊎◌, inl, inr, List, [], ◌∷◌, ◌++◌, filter, Option, Some, None, IsSome, IfSome, is_some, if◌then◌else◌, nat_eq, nat_lt, nat_le, refl, sym, ap, ◌∙◌, arith}
use Rattle.std.specs.List.{list_any}
use Rattle.std.specs.Ordering.{eq_by_cmp, is_eq}
use Rattle.std.specs.Option.{option_map_or}
use Rattle.std.specs.FinMap as map
use Rattle.std.proofs.lemmas.Bool.{and_from, and_parts, cases_lt, eqb-true, false≢true}
use Rattle.std.proofs.lemmas.Bool.Decides.{nat_tests}
use Rattle.std.proofs.lemmas.List.Elements.{filter-append}
use Rattle.std.proofs.lemmas.Cmp.{tied_itself}
use Rattle.ck_model.specs.declared.change.Change.{Change}
use Rattle.ck_model.specs.declared.checkpoint.Fileset.{Fileset}
use Rattle.ck_model.specs.declared.held.Held.{Held}
use Rattle.ck_model.specs.declared.held.Held.TheVariants.{Absent, Plain, Extent, Mark}
use Rattle.ck_model.specs.declared.key.Key.{Key}
use Rattle.ck_model.specs.Key.{key_cmp, key_cmp_total}
use Rattle.ck_model.specs.World.{keeps_files}
use Rattle.ck_model.specs.Table.{Table, Filesets, IsTable, column, newer}
use Rattle.ck_model.specs.Chain.{is_covered, is_live, is_live_data, keeps_data, newest_live_of}
use Rattle.ck_model.specs.Rules.{IsOrderly, IsSound}
use Rattle.ck_model.proofs.CaseLaws.{and_left, and_right, none_some, not_true, true_or_false}
use Rattle.ck_chain.specs.Changes.{key_of, value_after}
use Rattle.ck_chain.specs.Kept.{pushed}
use Rattle.ck_chain.specs.Order.{is_behind}
use Rattle.ck_chain.proofs.ColumnLaws.{same_or_other}
use Rattle.ck_chain.proofs.OrderlyLaws.{positive_id}
use Rattle.ck_chain.proofs.ReadLaws.{live_stands}
use Rattle.ck_push.specs.Changed.{changed, push_into, push_of}
use Rattle.ck_push.specs.Changes.{IsChange, MayChangeAll, changed_all}
use Rattle.ck_push.proofs.ChangeLaws.{is_change, lawful_after, may_all_after, sound_after}
use Rattle.ck_table.specs.Added.{with_added}
use Rattle.ck_table.specs.Flags.{with_nodata, with_removable}
use Rattle.ck_table.specs.Gone.{with_gone}
use Rattle.ck_table.proofs.FlagLaws.{keeps-with_removable, live-with_nodata, live-with_removable}
use Rattle.ck_table.proofs.IdLaws.{get-recorded_other, keys-insert_last}
use Rattle.ck_table.proofs.KeepsLaws.{keeps_older-with_gone, keeps_older-with_nodata}
use Rattle.ck_table.proofs.LeaveLaws.{any_more, live-with_gone}
use Rattle.ck_nodata.specs.declared.item.StripItem.{StripItem}
use Rattle.ck_nodata.specs.StripItem.{IsStrippedTo, drops_data, is_extent, is_unstripped}

-- what is left to strip of the second table was left of the first one
abbrev pub LeftBefore : Table → Table → Type 0
LeftBefore old new = (fs : ℕ) (key : Key) → is_unstripped new fs key ≡ true → is_unstripped old fs key ≡ true

pub stripped_before : (old new : Table) (last : StripItem) → LeftBefore old new → IsStrippedTo old last → IsStrippedTo new last
stripped_before old new last before done fs key left = done fs key (before fs key left)

pub record IsLeft (t : Table) (fs : ℕ) (key : Key) : Type 0 where
  pub live : is_live t fs ≡ true
  pub drops : keeps_data t fs ≡ false
  pub extent : is_extent (column t key fs) ≡ true

pub left_is : (t : Table) (fs : ℕ) (key : Key) → is_unstripped t fs key ≡ true → IsLeft t fs key
left_is t fs key left =
    let drops = and_left (drops_data t fs) (is_extent (column t key fs)) left in
    record {
      live = and_left (is_live t fs) (not (keeps_data t fs)) drops;
      drops = not_true (keeps_data t fs) (and_right (is_live t fs) (not (keeps_data t fs)) drops);
      extent = and_right (drops_data t fs) (is_extent (column t key fs)) left;
    }

pub is_left : (t : Table) (fs : ℕ) (key : Key) → IsLeft t fs key → is_unstripped t fs key ≡ true
is_left t fs key left = and_from (drops_data t fs) (is_extent (column t key fs)) (and_from (is_live t fs) (not (keeps_data t fs)) left.live (ap not left.drops)) left.extent

-- nothing is left up to a place before all checkpoints
pub stripped_to_first : (t : Table) (last : StripItem) → IsTable t → last.id ≡ 0 → IsStrippedTo t last
stripped_to_first t last lawful zero fs key left =
    let some = positive_id t fs lawful (live_stands t fs (left_is t fs key left).live) in
    inl (omega (arith, some, zero))

-- ---- a change of the primary

-- what goes into a checkpoint that keeps no data is no data block
no_extent_pushed : (o : Option Held) → is_extent (Some (pushed false o)) ≡ false
no_extent_pushed None = refl
no_extent_pushed (Some Absent) = refl
no_extent_pushed (Some (Plain stamp small)) = refl
no_extent_pushed (Some (Extent stamp block)) = refl
no_extent_pushed (Some (Mark stamp)) = refl

-- what is pushed is what that checkpoint takes over
push_is : (t : Table) (key : Key) → IfSome (push_of t key) (λ entry. entry.1 ≡ pushed (keeps_data t entry.0) (column t key 0))
push_is t key = elim (newest_live_of t) as (λ o. IfSome (push_into t key o) (λ entry. entry.1 ≡ pushed (keeps_data t entry.0) (column t key 0))) [
  | None ↦ tt
  | Some n ↦ elim (is_covered t n key) as (λ b. IfSome (if b then None else Some (n, pushed (keeps_data t n) (column t key 0))) (λ (entry : ℕ × Held). entry.1 ≡ pushed (keeps_data t entry.0) (column t key 0))) [
    | true ↦ tt
    | false ↦ refl
  ]
]

extent_some : (o : Option Held) → is_extent o ≡ true → o ≡ None → ⊥
extent_some None h none = false≢true h
extent_some (Some held) h none = none_some held (sym none)

-- a checkpoint that keeps no data gets no data block
bare_still : (t u : Table) (key : Key) (fs : ℕ) → 0 < fs → keeps_data t fs ≡ false → column t key fs ≡ None → (push : Option (ℕ × Held))
    → IfSome push (λ entry. entry.1 ≡ pushed (keeps_data t entry.0) (column t key 0))
    → IfSome push (λ entry. column u key entry.0 ≡ Some entry.1)
    → (IfSome push (λ entry. entry.0 ≢ fs) → column u key fs ≡ None)
    → is_extent (column u key fs) ≡ false
bare_still t u key fs above drops none None is goes bare = ap is_extent (bare tt)
bare_still t u key fs above drops none (Some entry) is goes bare =
    elim (nat_eq entry.0 fs) as (λ b. nat_eq entry.0 fs ≡ b → is_extent (column u key fs) ≡ false) [
      | true ↦ λ same.
          let at : entry.0 ≡ fs = eqb-true entry.0 fs same in
          ap (λ x. is_extent (column u key x)) (sym at) ∙ ap is_extent (goes ∙ ap (λ (h : Held). Some h) (is ∙ ap (λ x. pushed (keeps_data t x) (column t key 0)) at ∙ ap (λ b. pushed b (column t key 0)) drops))
          ∙ no_extent_pushed (column t key 0)
      | false ↦ λ apart. ap is_extent (bare (λ at. false≢true (sym apart ∙ same_ids entry.0 fs at)))
    ] refl
  where
    same_ids : (x y : ℕ) → x ≡ y → nat_eq x y ≡ true
    same_ids x y same = grind (arith, nat_tests)

module _ (t u : Table) (item : Change) (stamp : ℕ) (is : IsChange t item stamp u) where
  live_alike : (fs : ℕ) → is_live u fs ≡ is_live t fs
  live_alike fs = ap (λ (m : Filesets). option_map_or (λ (f : Fileset). not f.gone) (map.get m fs) false) is.filesets

  keeps_alike : (fs : ℕ) → keeps_data u fs ≡ keeps_data t fs
  keeps_alike fs = ap (λ (m : Filesets). list_any (λ id. nat_le id fs && option_map_or (λ (f : Fileset). not f.gone && keeps_files f.kind) (map.get m id) false) (filter (λ id. nat_lt 0 id) (map.keys m))) is.filesets

  extent_before : (fs : ℕ) (q : Key) → 0 < fs → keeps_data t fs ≡ false → is_extent (column u q fs) ≡ true → is_extent (column t q fs) ≡ true
  extent_before fs q above drops extent =
      elim (same_or_other q (key_of item)) [
        | inr other ↦ ap (λ (c : ℕ → Option Held). is_extent (c fs)) (sym (is.others q (λ same. false≢true (sym other ∙ ties q (key_of item) same)))) ∙ extent
        | inl same ↦
            let here : is_extent (column u (key_of item) fs) ≡ true = ap (λ k. is_extent (column u k fs)) (sym same) ∙ extent in
            ap (λ k. is_extent (column t k fs)) same
            ∙ elim (column t (key_of item) fs) as (λ o. column t (key_of item) fs ≡ o → is_extent (column t (key_of item) fs) ≡ true) [
              | Some held ↦ λ there. elim (is.stays fs above (ap is_some there)) [
                | inl alike ↦ ap is_extent (sym alike) ∙ here
                | inr away ↦ absurd (extent_some (column u (key_of item) fs) here away.1)
              ]
              | None ↦ λ none. absurd (false≢true (sym (bare_still t u (key_of item) fs above drops none (push_of t (key_of item)) (push_is t (key_of item)) is.pushed (λ other. is.bare fs above other none)) ∙ here))
            ] refl
      ]
    where
      ties : (x y : Key) → x ≡ y → eq_by_cmp key_cmp x y ≡ true
      ties x y same = ap (λ k. eq_by_cmp key_cmp k y) same ∙ ap is_eq (tied_itself key_cmp_total y)

  pub left_before_change : LeftBefore t u
  left_before_change fs key left =
      let was = left_is u fs key left in
      let drops = sym (keeps_alike fs) ∙ was.drops in
      let some = positive_id u fs is.lawful (live_stands u fs was.live) in
      is_left t fs key (record {
        live = sym (live_alike fs) ∙ was.live;
        drops = drops;
        extent = extent_before fs key (omega (arith, some)) drops was.extent;
      })

  -- a place up to which nothing is left stays one
  pub stripped_changed : (last : StripItem) → IsStrippedTo t last → IsStrippedTo u last
  stripped_changed last done = stripped_before t u last left_before_change done

-- after several changes
pub stripped_changed_all : (t : Table) (items : List Change) (stamp : ℕ) (last : StripItem) → IsTable t → IsSound t → stamp < t.counters.stamp → MayChangeAll t items stamp → IsStrippedTo t last → IsStrippedTo (changed_all t items stamp) last
stripped_changed_all t [] stamp last lawful sound below may done = done
stripped_changed_all t (item ∷ items) stamp last lawful sound below may done =
    let u = changed t (key_of item) (value_after item stamp) in
    stripped_changed_all u items stamp last (lawful_after t item stamp lawful sound below may.0) (sound_after t item stamp lawful sound below may.0) below (may_all_after t item stamp lawful sound below may.0 items may.1 may.2)
    (stripped_changed t u item stamp (is_change t item stamp lawful sound below may.0) last done)

-- ---- a new checkpoint

no_entry : (t : Table) → IsTable t → IsOrderly t → (key : Key) → column t key t.counters.id ≡ None
no_entry t lawful orderly key =
    elim (column t key t.counters.id) as (λ o. column t key t.counters.id ≡ o → o ≡ None) [
      | None ↦ λ _. refl
      | Some held ↦ λ is. elim (orderly.homes t.counters.id key (ap is_some is)) [
        | inl zero ↦ let some = lawful.counters.some_id in absurd (omega (arith, zero, some))
        | inr stands ↦ let less = orderly.ids t.counters.id stands in absurd (omega (arith, less))
      ]
    ] refl

any_first : (p : ℕ → Bool) (xs ys : List ℕ) → list_any p xs ≡ true → list_any p (xs ++ ys) ≡ true
any_first p [] ys h = absurd (false≢true h)
any_first p (x ∷ xs) ys h = elim (p x) as (λ b. (b || list_any p xs) ≡ true → (b || list_any p (xs ++ ys)) ≡ true) [
  | true ↦ λ _. refl
  | false ↦ λ rest. any_first p xs ys rest
] h

module _ (t : Table) (fileset : Fileset) (lawful : IsTable t) (orderly : IsOrderly t) where
  abbrev added : Table
  added = with_added t fileset

  newer_added : newer added 0 ≡ newer t 0 ++ filter (λ x. nat_lt 0 x) (t.counters.id ∷ [])
  newer_added =
      ap (filter (λ x. nat_lt 0 x)) (keys-insert_last t.filesets t.counters.id fileset orderly.ids)
      ∙ filter-append (λ x. nat_lt 0 x) (map.keys t.filesets) (t.counters.id ∷ [])

  data_still : (x : ℕ) → is_live_data t x ≡ true → is_live_data added x ≡ true
  data_still x live =
      let below = orderly.ids x (data_stands (map.get t.filesets x) live) in
      let apart : nat_eq x t.counters.id ≡ false = grind (arith, nat_tests) in
      ap (λ o. option_map_or (λ (f : Fileset). not f.gone && keeps_files f.kind) o false) (get-recorded_other t.filesets t.counters.id (Some fileset) x apart) ∙ live
    where
      data_stands : (o : Option Fileset) → option_map_or (λ (f : Fileset). not f.gone && keeps_files f.kind) o false ≡ true → IsSome o
      data_stands None h = h
      data_stands (Some f) h = refl

  keeps_still : (fs : ℕ) → keeps_data t fs ≡ true → keeps_data added fs ≡ true
  keeps_still fs keeps =
      ap (list_any (λ x. nat_le x fs && is_live_data added x)) newer_added
      ∙ any_first (λ x. nat_le x fs && is_live_data added x) (newer t 0) (filter (λ x. nat_lt 0 x) (t.counters.id ∷ []))
      (any_more (λ x. nat_le x fs && is_live_data t x) (λ x. nat_le x fs && is_live_data added x)
      (λ x both. let parts = and_parts (nat_le x fs) (is_live_data t x) both in and_from (nat_le x fs) (is_live_data added x) parts.0 (data_still x parts.1))
      (newer t 0) keeps)

  pub left_before_added : LeftBefore t added
  left_before_added fs key left =
      let is = left_is added fs key left in
      let apart : nat_eq fs t.counters.id ≡ false = true_or_false (nat_eq fs t.counters.id) (λ same.
      extent_some (column t key fs) is.extent (ap (column t key) (eqb-true fs t.counters.id same) ∙ no_entry t lawful orderly key)) in
      is_left t fs key (record {
        live = sym (ap (λ o. option_map_or (λ (f : Fileset). not f.gone) o false) (get-recorded_other t.filesets t.counters.id (Some fileset) fs apart)) ∙ is.live;
        drops = true_or_false (keeps_data t fs) (λ keeps. false≢true (sym is.drops ∙ keeps_still fs keeps));
        extent = is.extent;
      })

  -- the new one has nothing that is stripped
  pub stripped_added : (last : StripItem) → IsStrippedTo t last → IsStrippedTo added last
  stripped_added last done = stripped_before t added last left_before_added done

-- ---- a checkpoint may be given up, or not

pub left_before_flagged : (t : Table) (id : ℕ) (on : Bool) → is_live t id ≡ true → LeftBefore t (with_removable t id on)
left_before_flagged t id on live fs key left =
    let is = left_is (with_removable t id on) fs key left in
    is_left t fs key (record {
      live = sym (live-with_removable t id on live fs) ∙ is.live;
      drops = sym (keeps-with_removable t id on live fs) ∙ is.drops;
      extent = is.extent;
    })

pub stripped_flagged : (t : Table) (id : ℕ) (on : Bool) (last : StripItem) → is_live t id ≡ true → IsStrippedTo t last → IsStrippedTo (with_removable t id on) last
stripped_flagged t id on last live done = stripped_before t (with_removable t id on) last (left_before_flagged t id on live) done

-- ---- one leaves, or keeps no data from now on

-- of what is older than one that leaves, nothing new is stripped
pub left_older_gone : (t : Table) (id : ℕ) → is_live t id ≡ true → (fs : ℕ) (key : Key) → fs < id → is_unstripped (with_gone t id) fs key ≡ true → is_unstripped t fs key ≡ true
left_older_gone t id live fs key less left =
    let is = left_is (with_gone t id) fs key left in
    is_left t fs key (record {
      live = and_left (is_live t fs) (not (nat_eq fs id)) (sym (live-with_gone t id live fs) ∙ is.live);
      drops = sym (keeps_older-with_gone t id live fs less) ∙ is.drops;
      extent = is.extent;
    })

-- nor of what is older than one that keeps no data
pub left_older_nodata : (t : Table) (id : ℕ) → is_live t id ≡ true → (fs : ℕ) (key : Key) → fs < id → is_unstripped (with_nodata t id) fs key ≡ true → is_unstripped t fs key ≡ true
left_older_nodata t id live fs key less left =
    let is = left_is (with_nodata t id) fs key left in
    is_left t fs key (record {
      live = sym (live-with_nodata t id live fs) ∙ is.live;
      drops = sym (keeps_older-with_nodata t id live fs less) ∙ is.drops;
      extent = is.extent;
    })

-- none of those up to the place is left
none_upto : (t : Table) (last : StripItem) (fs : ℕ) (key : Key) → IsStrippedTo t last → fs < last.id → is_unstripped t fs key ≡ true → ⊥
none_upto t last fs key done less left = elim (done fs key left) [
  | inl more ↦ omega (arith, more, less)
  | inr here ↦ let same = here.0 in omega (arith, same, less)
]

module _ (t : Table) (id : ℕ) (live : is_live t id ≡ true) (last : StripItem) (done : IsStrippedTo t last) where
  -- a place that is older stays one
  pub stripped_gone : last.id < id → IsStrippedTo (with_gone t id) last
  stripped_gone below fs key left = elim (cases_lt fs id) [
    | inl less ↦ done fs key (left_older_gone t id live fs key less left)
    | inr past ↦ inl (omega (arith, below, past))
  ]

  pub stripped_nodata : last.id < id → IsStrippedTo (with_nodata t id) last
  stripped_nodata below fs key left = elim (cases_lt fs id) [
    | inl less ↦ done fs key (left_older_nodata t id live fs key less left)
    | inr past ↦ inl (omega (arith, below, past))
  ]

  -- else it is set back: to the one that leaves, and before the one that keeps no data
  pub back_gone : (back : StripItem) → id ≤ last.id → back.id ≡ id → IsStrippedTo (with_gone t id) back
  back_gone back past same fs key left = elim (cases_lt fs id) [
    | inl less ↦ absurd (none_upto t last fs key done (omega (arith, less, past)) (left_older_gone t id live fs key less left))
    | inr most ↦ elim (nat_eq fs id) as (λ b. nat_eq fs id ≡ b → (back.id < fs) ⊎ ((fs ≡ back.id) × (is_behind back.key key ≡ true))) [
      | true ↦ λ this.
          let stands = sym (live-with_gone t id live fs) ∙ (left_is (with_gone t id) fs key left).live in
          absurd (false≢true (sym (ap not this) ∙ and_right (is_live t fs) (not (nat_eq fs id)) stands))
      | false ↦ λ apart. let more : id < fs = grind (arith, nat_tests) in inl (omega (arith, more, same))
    ] refl
  ]

  pub back_nodata : (back : StripItem) → id ≤ last.id → back.id < id → IsStrippedTo (with_nodata t id) back
  back_nodata back past before fs key left = elim (cases_lt fs id) [
    | inl less ↦ absurd (none_upto t last fs key done (omega (arith, less, past)) (left_older_nodata t id live fs key less left))
    | inr most ↦ inl (omega (arith, before, most))
  ]
