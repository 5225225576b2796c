-- What a checkpoint's reader sees, after a table is changed at one key.
use Rattle.std.proofs.Common.{◌≡◌, ℕ, ◌<◌, ◌≤◌, ◌≢◌, Bool, true, false, cond, ◌||◌, not, ◌⊎◌, List, [], ◌∷◌, ◌++◌, filter, Option, Some, None, is_some, IsSome, IfSome, IsSomeAnd, nat_lt, if◌then◌else◌, refl, sym, ap, subst, ◌∙◌, inl, inr, arith}
use Rattle.std.specs.Option.{option_or, option_map, option_map_or}
use Rattle.std.specs.List.{list_any, AllByRecursion}
use mathlib.Core.Bool.{false≢true}
use Rattle.std.specs.FinMap as map
use Rattle.std.proofs.lemmas.Bool.{cases_lt}
use Rattle.std.proofs.lemmas.Bool.Decides.{nat_tests}
use Rattle.ck_model.specs.declared.key.Key.{Key}
use Rattle.ck_model.specs.declared.held.Held.{Held}
use Rattle.ck_model.specs.declared.held.Held.TheVariants.{Absent, Plain, Extent, Mark}
use Rattle.ck_model.specs.Table.{Table, newer, column, with_entry}
use Rattle.ck_model.specs.Chain.{first_entry, present, keeps_data, as_mark, seen, is_live, last_of, newest_live_of}
use Rattle.ck_chain.specs.Kept.{pushed, read_as}
use Rattle.ck_chain.specs.Needless.{in_between}
use Rattle.ck_chain.proofs.NewerLaws.{newer_split}
use Rattle.ck_chain.proofs.ColumnLaws.{column-with_entry, column-with_entry_other, same_or_other}

-- filesets before the changed one answer alike, if the rest does
before_rest : (c d : ℕ → Option Held) (b : Bool) (fs f : ℕ) (ids rest : List ℕ) → ((x : ℕ) → fs < x → x < f → d x ≡ c x)
    → read_as b (first_entry d rest) ≡ read_as b (first_entry c rest)
    → read_as b (first_entry d (filter (in_between fs f) ids ++ rest)) ≡ read_as b (first_entry c (filter (in_between fs f) ids ++ rest))
before_rest c d b fs f [] rest same tail = tail
before_rest c d b fs f (x ∷ ids) rest same tail =
    let ih = before_rest c d b fs f ids rest same tail in
    elim (in_between fs f x) as (λ v. in_between fs f x ≡ v → read_as b (first_entry d (cond v (x ∷ filter (in_between fs f) ids) (filter (in_between fs f) ids) ++ rest)) ≡ read_as b (first_entry c (cond v (x ∷ filter (in_between fs f) ids) (filter (in_between fs f) ids) ++ rest))) [
      | true ↦ λ h.
          let low : fs < x = grind (arith, nat_tests) in
          let high : x < f = grind (arith, nat_tests) in
          let here = same x low high in
          ap (λ o. read_as b (option_or o (first_entry d (filter (in_between fs f) ids ++ rest)))) here
          ∙ elim (c x) as (λ o. read_as b (option_or o (first_entry d (filter (in_between fs f) ids ++ rest))) ≡ read_as b (option_or o (first_entry c (filter (in_between fs f) ids ++ rest)))) [ None ↦ ih | Some h ↦ refl ]
      | false ↦ λ h. ih
    ] refl

-- a reader of an older fileset sees what it saw, if a reader of fileset f does and no older column changed
pub older_reads : (t : Table) (d : ℕ → Option Held) (key : Key) (b : Bool) (fs f : ℕ) → 0 < fs → fs ≤ f → IsSome (map.get t.filesets f)
    → ((x : ℕ) → 0 < x → x < f → d x ≡ column t key x)
    → read_as b (first_entry d (f ∷ newer t f)) ≡ read_as b (first_entry (column t key) (f ∷ newer t f))
    → read_as b (first_entry d (fs ∷ newer t fs)) ≡ read_as b (first_entry (column t key) (fs ∷ newer t fs))
older_reads t d key b fs f positive le stands same tail = elim (cases_lt fs f) [
  | inl lt ↦
      let split = newer_split t fs f lt stands in
      let rest = before_rest (column t key) d b fs f (map.keys t.filesets) (f ∷ newer t f) (λ x low high. same x (omega arith) high) tail in
      let both = subst (λ ids. read_as b (first_entry d ids) ≡ read_as b (first_entry (column t key) ids)) (sym split) rest in
      ap (λ o. read_as b (option_or o (first_entry d (newer t fs)))) (same fs positive lt)
      ∙ elim (column t key fs) as (λ o. read_as b (option_or o (first_entry d (newer t fs))) ≡ read_as b (option_or o (first_entry (column t key) (newer t fs)))) [ None ↦ both | Some h ↦ refl ]
  | inr ge ↦ let e : fs ≡ f = omega arith in subst (λ n. read_as b (first_entry d (n ∷ newer t n)) ≡ read_as b (first_entry (column t key) (n ∷ newer t n))) (sym e) tail
]

-- a checkpoint keeps data where an older one does
list_any_more : {X : Type 0} (p q : X → Bool) (xs : List X) → ((x : X) → p x ≡ true → q x ≡ true) → list_any p xs ≡ true → list_any q xs ≡ true
list_any_more p q [] more h = cc
list_any_more p q (x ∷ xs) more h =
    elim (p x) as (λ b. p x ≡ b → (b || list_any p xs) ≡ true → (q x || list_any q xs) ≡ true) [
      | true ↦ λ px h. ap (λ b. b || list_any q xs) (more x px)
      | false ↦ λ px h. let rest = list_any_more p q xs more h in elim (q x) as (λ b. (b || list_any q xs) ≡ true) [ true ↦ refl | false ↦ rest ]
    ] refl h

pub keeps_newer : (t : Table) (fs f : ℕ) → fs ≤ f → keeps_data t fs ≡ true → keeps_data t f ≡ true
keeps_newer t fs f le h = list_any_more _ _ (newer t 0) (λ id here. grind (arith, nat_tests)) h

-- what is pushed reads as the old entry, for every reader that the checkpoint has
pub pushed_reads : (b k : Bool) (old : Option Held) → (b ≡ true → k ≡ true) → read_as b (Some (pushed k old)) ≡ read_as b old
pushed_reads b k None h = elim b as (λ b. read_as b (Some Absent) ≡ read_as b None) [ true ↦ refl | false ↦ refl ]
pushed_reads true true (Some held) h = refl
pushed_reads true false (Some held) h = cc (h refl)
pushed_reads false true (Some held) h = refl
pushed_reads false false (Some Absent) h = refl
pushed_reads false false (Some (Plain stamp small)) h = refl
pushed_reads false false (Some (Extent stamp block)) h = refl
pushed_reads false false (Some (Mark stamp)) h = refl

-- where no fileset of the list has an entry, the first one is the primary's
pub none_first : (c : ℕ → Option Held) (ids : List ℕ) → list_any (λ id. is_some (c id)) ids ≡ false → first_entry c ids ≡ c 0
none_first c [] h = refl
none_first c (x ∷ ids) h =
    elim (c x) as (λ o. (is_some o || list_any (λ id. is_some (c id)) ids) ≡ false → option_or o (first_entry c ids) ≡ c 0) [
      | None ↦ λ h. none_first c ids h
      | Some held ↦ λ h. cc
    ] h

-- where one has, the primary doesn't matter
pub some_first : (c d : ℕ → Option Held) (ids : List ℕ) → list_any (λ id. is_some (c id)) ids ≡ true → AllByRecursion (λ x. d x ≡ c x) ids → first_entry d ids ≡ first_entry c ids
some_first c d [] h same = cc
some_first c d (x ∷ ids) h same =
    ap (λ o. option_or o (first_entry d ids)) same.0
    ∙ elim (c x) as (λ o. (is_some o || list_any (λ id. is_some (c id)) ids) ≡ true → option_or o (first_entry d ids) ≡ option_or o (first_entry c ids)) [
      | None ↦ λ h. some_first c d ids h same.1
      | Some held ↦ λ h. refl
    ] h

-- what holds of each number above the bound holds of each newer fileset
pub each_above : (P : ℕ → Type 0) (fs : ℕ) (ids : List ℕ) → ((x : ℕ) → fs < x → P x) → AllByRecursion P (filter (λ id. nat_lt fs id) ids)
each_above P fs [] each = tt
each_above P fs (x ∷ ids) each =
    elim (nat_lt fs x) as (λ b. nat_lt fs x ≡ b → AllByRecursion P (cond b (x ∷ filter (λ id. nat_lt fs id) ids) (filter (λ id. nat_lt fs id) ids))) [
      | true ↦ λ h. (each x (grind (arith, nat_tests)), each_above P fs ids each)
      | false ↦ λ h. each_above P fs ids each
    ] refl

pub live_stands : (t : Table) (fs : ℕ) → is_live t fs ≡ true → IsSome (map.get t.filesets fs)
live_stands t fs h = elim (map.get t.filesets fs) as (λ o. option_map_or (λ f. not f.gone) o false ≡ true → IsSome o) [ None ↦ λ h. h | Some f ↦ λ h. refl ] h

-- the last that passes, of a list whose end has one
last-append : (test : ℕ → Bool) (xs zs : List ℕ) (m : ℕ) → last_of test zs ≡ Some m → last_of test (xs ++ zs) ≡ Some m
last-append test [] zs m h = h
last-append test (x ∷ xs) zs m h = ap (λ o. option_or o (if test x then Some x else None)) (last-append test xs zs m h)

pub last_passes : (test : ℕ → Bool) (ids : List ℕ) → IfSome (last_of test ids) (λ n. test n ≡ true)
last_passes test [] = tt
last_passes test (x ∷ ids) =
    elim (last_of test ids) as (λ o. IfSome o (λ n. test n ≡ true) → IfSome (option_or o (if test x then Some x else None)) (λ n. test n ≡ true)) [
      | Some m ↦ λ ih. ih
      | None ↦ λ ih. elim (test x) as (λ b. test x ≡ b → IfSome (if b then Some x else None) (λ n. test n ≡ true)) [ true ↦ λ p. p | false ↦ λ p. tt ] refl
    ] (last_passes test ids)

last_above : (test : ℕ → Bool) (fs : ℕ) (ids : List ℕ) → IfSome (last_of test (filter (λ id. nat_lt fs id) ids)) (λ n. fs < n)
last_above test fs [] = tt
last_above test fs (x ∷ ids) =
    let rest = last_above test fs ids in
    elim (nat_lt fs x) as (λ b. nat_lt fs x ≡ b → IfSome (last_of test (cond b (x ∷ filter (λ id. nat_lt fs id) ids) (filter (λ id. nat_lt fs id) ids))) (λ n. fs < n)) [
      | true ↦ λ p. let lt : fs < x = grind (arith, nat_tests) in
          elim (last_of test (filter (λ id. nat_lt fs id) ids)) as (λ o. IfSome o (λ n. fs < n) → IfSome (option_or o (if test x then Some x else None)) (λ n. fs < n)) [
            | Some m ↦ λ ih. ih
            | None ↦ λ ih. elim (test x) as (λ b. IfSome (if b then Some x else None) (λ n. fs < n)) [ true ↦ lt | false ↦ tt ]
          ] rest
      | false ↦ λ p. rest
    ] refl

-- no live checkpoint is newer than the newest one
pub newest_at_least : (t : Table) (fs : ℕ) → 0 < fs → is_live t fs ≡ true → IsSomeAnd (newest_live_of t) (λ n. fs ≤ n)
newest_at_least t fs positive live =
    let split = newer_split t 0 fs positive (live_stands t fs live) in
    elim (last_of (is_live t) (newer t fs)) as (λ o. last_of (is_live t) (newer t fs) ≡ o → IfSome o (λ n. fs < n) → IsSomeAnd (newest_live_of t) (λ n. fs ≤ n)) [
      | Some m ↦ λ e lt.
          let last = ap (last_of (is_live t)) split ∙ last-append (is_live t) (filter (in_between 0 fs) (map.keys t.filesets)) (fs ∷ newer t fs) m (ap (λ o. option_or o (if is_live t fs then Some fs else None)) e) in
          subst (λ o. IsSomeAnd o (λ n. fs ≤ n)) (sym last) (omega arith)
      | None ↦ λ e lt.
          let last = ap (last_of (is_live t)) split ∙ last-append (is_live t) (filter (in_between 0 fs) (map.keys t.filesets)) (fs ∷ newer t fs) fs (ap (λ o. option_or o (if is_live t fs then Some fs else None)) e ∙ ap (λ (b : Bool). if b then Some fs else None) live) in
          subst (λ o. IsSomeAnd o (λ n. fs ≤ n)) (sym last) (omega arith)
    ] refl (last_above (is_live t) fs (map.keys t.filesets))

-- where the columns agree at these filesets and in the primary, the first entries do
pub same_first : (c d : ℕ → Option Held) (ids : List ℕ) → d 0 ≡ c 0 → AllByRecursion (λ x. d x ≡ c x) ids → first_entry d ids ≡ first_entry c ids
same_first c d [] primary same = primary
same_first c d (x ∷ ids) primary same = λ i. option_or (same.0 i) (same_first c d ids primary same.1 i)

-- An entry written in a checkpoint leaves what every reader sees, if it leaves what a reader of that checkpoint sees.
pub entry_reads : (t : Table) (f : ℕ) (key : Key) (w : Option Held) → 0 < f → IsSome (map.get t.filesets f)
    → ((b : Bool) → (b ≡ true → keeps_data t f ≡ true) → read_as b (first_entry (column (with_entry t f key w) key) (f ∷ newer t f)) ≡ read_as b (first_entry (column t key) (f ∷ newer t f)))
    → (fs : ℕ) (q : Key) → 0 < fs → seen (with_entry t f key w) fs q ≡ seen t fs q
entry_reads t f key w above stands reads fs q positive = elim (same_or_other q key) [
  | inr other ↦ ap (λ (c : ℕ → Option Held). read_as (keeps_data t fs) (first_entry c (fs ∷ newer t fs))) (column-with_entry_other t f key w q other)
  | inl same ↦
      let at_key : seen (with_entry t f key w) fs key ≡ seen t fs key = elim (cases_lt f fs) [
        | inl newer_one ↦
            let agrees : (x : ℕ) → x ≢ f → column (with_entry t f key w) key x ≡ column t key x = λ x apart. column-with_entry t f key w x ∙ grind (arith, nat_tests) in
            ap (read_as (keeps_data t fs)) (same_first (column t key) (column (with_entry t f key w) key) (fs ∷ newer t fs) (agrees 0 (omega arith))
            (agrees fs (omega arith), each_above (λ x. column (with_entry t f key w) key x ≡ column t key x) fs (map.keys t.filesets) (λ x more. agrees x (omega arith))))
        | inr le ↦ older_reads t (column (with_entry t f key w) key) key (keeps_data t fs) fs f positive le stands
            (λ x low high. column-with_entry t f key w x ∙ grind (arith, nat_tests)) (reads (keeps_data t fs) (keeps_newer t fs f le))
      ] in
      subst (λ k. seen (with_entry t f key w) fs k ≡ seen t fs k) (sym same) at_key
]

-- An entry that says what the newer ones say may go.
pub tidy_reads : (t : Table) (f : ℕ) (key : Key) → 0 < f → IsSome (map.get t.filesets f) → IsSome (column t key f) → present (column t key f) ≡ present (first_entry (column t key) (newer t f))
    → (fs : ℕ) (q : Key) → 0 < fs → seen (with_entry t f key None) fs q ≡ seen t fs q
tidy_reads t f key above stands own same = entry_reads t f key None above stands (λ b keeps.
    let d = column (with_entry t f key None) key in
    let here : d f ≡ None = column-with_entry t f key None f ∙ grind (arith, nat_tests) in
    let rest = same_first (column t key) d (newer t f) (column-with_entry t f key None 0 ∙ grind (arith, nat_tests))
    (each_above (λ x. d x ≡ column t key x) f (map.keys t.filesets) (λ x more. column-with_entry t f key None x ∙ grind (arith, nat_tests))) in
    ap (λ o. read_as b (option_or o (first_entry d (newer t f)))) here
    ∙ ap (read_as b) rest
    ∙ ap (λ (o : Option Held). if b then o else option_map as_mark o) (sym same)
    ∙ elim (column t key f) as (λ o. IsSome o → read_as b o ≡ read_as b (option_or o (first_entry (column t key) (newer t f)))) [ None ↦ λ h. absurd (false≢true h) | Some h ↦ λ _. refl ] own)

-- An entry hidden by an older one may be written or go: readers up to the older one, and readers above it, see what they saw.
pub hidden_reads : (t : Table) (n f : ℕ) (key : Key) (h : Held) (w : Option Held) → 0 < n → n < f → IsSome (map.get t.filesets n) → column t key n ≡ Some h
    → (fs : ℕ) (q : Key) → 0 < fs → (fs ≤ n) ⊎ (f < fs) → seen (with_entry t f key w) fs q ≡ seen t fs q
hidden_reads t n f key h w above lower stands own fs q positive place = elim (same_or_other q key) [
  | inr other ↦ ap (λ (c : ℕ → Option Held). read_as (keeps_data t fs) (first_entry c (fs ∷ newer t fs))) (column-with_entry_other t f key w q other)
  | inl same ↦
      let d = column (with_entry t f key w) key in
      let agrees : (x : ℕ) → x ≢ f → d x ≡ column t key x = λ x apart. column-with_entry t f key w x ∙ grind (arith, nat_tests) in
      let here : d n ≡ Some h = agrees n (omega arith) ∙ own in
      let b = keeps_data t fs in
      let at_key : seen (with_entry t f key w) fs key ≡ seen t fs key = elim place [
        | inl le ↦ older_reads t d key b fs n positive le stands (λ x low high. agrees x (omega arith))
            (ap (λ o. read_as b (option_or o (first_entry d (newer t n)))) here ∙ sym (ap (λ o. read_as b (option_or o (first_entry (column t key) (newer t n)))) own))
        | inr more ↦ ap (read_as b) (same_first (column t key) d (fs ∷ newer t fs) (agrees 0 (omega arith))
            (agrees fs (omega arith), each_above (λ x. d x ≡ column t key x) fs (map.keys t.filesets) (λ x above. agrees x (omega arith))))
      ] in
      subst (λ k. seen (with_entry t f key w) fs k ≡ seen t fs k) (sym same) at_key
]

-- The next older fileset takes a gone one's entry, and its readers see what they saw.
pub moved_reads : (t : Table) (n g : ℕ) (key : Key) (h : Held) → 0 < n → IsSome (map.get t.filesets n) → newer t n ≡ g ∷ newer t g → column t key n ≡ None → column t key g ≡ Some h
    → (fs : ℕ) (q : Key) → 0 < fs → seen (with_entry t n key (Some (pushed (keeps_data t n) (Some h)))) fs q ≡ seen t fs q
moved_reads t n g key h above stands next none own = entry_reads t n key (Some (pushed (keeps_data t n) (Some h))) above stands (λ b keeps.
    let d = column (with_entry t n key (Some (pushed (keeps_data t n) (Some h)))) key in
    let here : d n ≡ Some (pushed (keeps_data t n) (Some h)) = column-with_entry t n key (Some (pushed (keeps_data t n) (Some h))) n ∙ grind (arith, nat_tests) in
    ap (λ o. read_as b (option_or o (first_entry d (newer t n)))) here
    ∙ pushed_reads b (keeps_data t n) (Some h) keeps
    ∙ sym (ap (λ o. read_as b (option_or o (first_entry (column t key) (newer t n)))) none
    ∙ ap (λ ids. read_as b (first_entry (column t key) ids)) next
    ∙ ap (λ o. read_as b (option_or o (first_entry (column t key) (newer t g)))) own))
