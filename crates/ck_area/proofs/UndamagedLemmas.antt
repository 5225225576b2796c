-- A table whose entries and filesets break no rule of the slots is one that every volume may have.
use Rattle.std.proofs.Common.{◌≡◌, ◌≢◌, ℕ, suc, ◌+◌, ◌<◌, ◌≤◌, Bool, true, false, cond, ◌&&◌, ◌||◌, not, nat_lt, nat_le, nat_eq, List, [], ◌∷◌, ◌++◌, map as list_map, filter, length, length-append, Option, Some, None, IsSome, IfSome, IsSomeAnd, is_some, refl, sym, ap, subst, ◌∙◌, ◌⊎◌, inl, inr, append_assoc, append-nil, arith}
use Rattle.std.specs.declared.cmp.Ordering.{Ordering}
use Rattle.std.specs.declared.cmp.Ordering.TheVariants.{Equal}
use Rattle.std.specs.Ordering.{nat_cmp, eq_by_cmp, is_eq}
use Rattle.std.specs.Cmp.{IsTotalOrder}
use Rattle.std.specs.Cmp.Lexicographic.{pointwise}
use Rattle.std.specs.Option.{option_map_or}
use Rattle.std.specs.List.{list_any}
use Rattle.std.specs.FinMap.{IsAntisymmetric, nat_cmp-IsAntisymmetric}
use Rattle.std.specs.FinMap.Entries.{find-where_key}
use Rattle.std.specs.FinMap as map
use Rattle.std.proofs.lemmas.Bool.Decides.{nat_tests}
use Rattle.std.proofs.lemmas.Cmp.{nat_cmp_total, nat_list_eq_equiv, tied_itself}
use Rattle.std.proofs.lemmas.List.Elements.{filter-append}
use mathlib.Core.Bool.{false≢true}
use Rattle.ck_model.specs.declared.key.Key.{Key}
use Rattle.ck_model.specs.declared.key.Key.TheVariants.{Name, Node, Block}
use Rattle.ck_model.specs.declared.held.Held.{Held}
use Rattle.ck_model.specs.declared.held.Held.TheVariants.{Absent, Plain, Extent, Mark}
use Rattle.ck_model.specs.declared.held.Small.TheVariants.{To, File, Dir}
use Rattle.ck_model.specs.declared.checkpoint.Counters.{Counters}
use Rattle.ck_model.specs.declared.checkpoint.Fileset.{Fileset}
use Rattle.ck_model.specs.Key.{key_cmp, key_cmp_total, entry_cmp_total, entry_cmp_exact}
use Rattle.ck_model.specs.Table.{Table, column, newer}
use Rattle.ck_model.specs.World.{keeps_files}
use Rattle.ck_model.specs.Chain.{is_live, is_gone, is_live_data, live_ids, keeps_data}
use Rattle.ck_model.specs.Rules.{IsOrderly, IsSound, IsOwn, KeyBelow, HeldBelow, first_holder, stamp_in, block_in}
use Rattle.ck_model.proofs.SizeLaws.{len-retain_keys, len-from_entries-le}
use Rattle.ck_area.specs.Damage.{is_alike, has_place, has_version, has_block, has_fileset, live_count, is_id_past, is_stamp_past, is_number_past, number_in, node_in, data_upto, is_absent, is_needed_by, is_misplaced}
use Rattle.ck_area.proofs.Fronts.{Each, Among, Before, neither, passes_none, none_passes, each_then, each_among, one_or_apart, found_among, among_found}
use Rattle.ck_area.proofs.SlotsLemmas.{EntryFine, FilesetFine}

-- ---- tests and what they tell

key_below : (limit : ℕ) (key : Key) → nat_le limit (number_in key) ≡ false → KeyBelow limit key
key_below limit (Name directory name) h = grind (arith, nat_tests)
key_below limit (Node number) h = grind (arith, nat_tests)
key_below limit (Block number index) h = grind (arith, nat_tests)

held_below : (limit : ℕ) (held : Held) → option_map_or (λ node. nat_le limit node) (node_in held) false ≡ false → HeldBelow limit held
held_below limit Absent h = tt
held_below limit (Plain stamp (To node)) h = grind (arith, nat_tests)
held_below limit (Plain stamp (File size)) h = tt
held_below limit (Plain stamp Dir) h = tt
held_below limit (Extent stamp block) h = tt
held_below limit (Mark stamp) h = tt

within : (limit : ℕ) (o : Option ℕ) → option_map_or (λ n. nat_le limit n) o false ≡ false → IfSome o (λ n. n < limit)
within limit None h = tt
within limit (Some n) h = grind (arith, nat_tests)

same_number : (n : ℕ) → nat_eq n n ≡ true
same_number n = grind (arith, nat_tests)

other_number : (n m : ℕ) → nat_eq n m ≡ false → eq_by_cmp nat_cmp n m ≡ false
other_number n m h = grind (arith, nat_tests)

alike : (o p : Option ℕ) (n : ℕ) → o ≡ Some n → p ≡ Some n → is_alike o p ≡ true
alike o p n one two = (λ i. is_alike (one i) (two i)) ∙ same_number n

home : (fs : ℕ) (o : Option Fileset) → (not (nat_eq fs 0) && not (is_some o)) ≡ false → (fs ≡ 0) ⊎ IsSome o
home fs (Some f) h = inr refl
home fs None h =
    elim (nat_eq fs 0) as (λ b. nat_eq fs 0 ≡ b → (not b && true) ≡ false → (fs ≡ 0) ⊎ IsSome {T = Fileset} None) [
      | true ↦ λ zero _. inl (grind (arith, nat_tests))
      | false ↦ λ _ clash. absurd (false≢true (sym clash))
    ] refl h

own : (t : Table) (filesets : List (ℕ × Fileset)) (key : Key) (held : Held) → is_misplaced t filesets 0 key held ≡ false → IsOwn held
own t filesets key Absent h = absurd (false≢true (sym h))
own t filesets key (Plain stamp small) h = tt
own t filesets key (Extent stamp block) h = tt
own t filesets key (Mark stamp) h = absurd (false≢true (sym h))

absent_is : (held : Held) → not (is_absent held) ≡ true → held ≢ Absent
absent_is held h same = false≢true (sym (ap (λ x. not (is_absent x)) same) ∙ h)

either : (a b : Bool) → (a || b) ≡ true → (a ≡ true) ⊎ (b ≡ true)
either true b h = inl refl
either false b h = inr h

needed : (t : Table) (o : Option (ℕ × Held)) → is_needed_by t o ≡ true → IsSomeAnd o (λ holder. (is_gone t holder.0 ≡ true) ⊎ (holder.1 ≢ Absent))
needed t None h = absurd (false≢true h)
needed t (Some holder) h =
    elim (either (is_gone t holder.0) (not (is_absent holder.1)) h) [ inl gone ↦ inl gone | inr other ↦ inr (absent_is holder.1 other) ]

opposite : (b : Bool) → not b ≡ false → b ≡ true
opposite true h = refl
opposite false h = absurd (false≢true (sym h))

-- ---- counting

pub filter_same : {X : Type 0} (p q : X → Bool) (xs : List X) → ((x : X) → Among x xs → p x ≡ q x) → filter p xs ≡ filter q xs
filter_same p q [] same = refl
filter_same p q (x ∷ xs) same = λ i. cond (same x (inl refl) i) (x ∷ filter_same p q xs (λ y h. same y (inr h)) i) (filter_same p q xs (λ y h. same y (inr h)) i)

filter_twice : {X : Type 0} (p r : X → Bool) (xs : List X) → length (filter p (filter r xs)) ≤ length (filter p xs)
filter_twice p r [] = omega arith
filter_twice p r (x ∷ xs) =
    let rest = filter_twice p r xs in
    elim (r x) as (λ b. length (filter p (cond b (x ∷ filter r xs) (filter r xs))) ≤ length (cond (p x) (x ∷ filter p xs) (filter p xs))) [
      | true ↦ elim (p x) as (λ c. length (cond c (x ∷ filter p (filter r xs)) (filter p (filter r xs))) ≤ length (cond c (x ∷ filter p xs) (filter p xs))) [ true ↦ omega (arith, rest) | false ↦ rest ]
      | false ↦ elim (p x) as (λ c. length (filter p (filter r xs)) ≤ length (cond c (x ∷ filter p xs) (filter p xs))) [ true ↦ omega (arith, rest) | false ↦ rest ]
    ]

pub filter_keys : {X : Type 0} (p : ℕ → Bool) (es : List (ℕ × X)) → length (filter p (list_map (λ e. e.0) es)) ≡ length (filter (λ e. p e.0) es)
filter_keys p [] = refl
filter_keys p (e ∷ es) =
    elim (p e.0) as (λ b. length (cond b (e.0 ∷ filter p (list_map (λ x. x.0) es)) (filter p (list_map (λ x. x.0) es))) ≡ length (cond b (e ∷ filter (λ x. p x.0) es) (filter (λ x. p x.0) es))) [
      | true ↦ ap suc (filter_keys p es)
      | false ↦ filter_keys p es
    ]

module _ {K X : Type 0} {R : K → K → Ordering} (total : IsTotalOrder R) (exact : IsAntisymmetric R) where
  -- to keep some keys of a map is to make it from the entries with those
  pub retain_keys-from_entries : (p : K → Bool) (es : List (K × X)) → map.retain_keys (map.from_entries {R = R} es) p ≡ map.from_entries (filter (λ e. p e.0) es)
  retain_keys-from_entries p es =
      let same = λ (q x : K) (tied : R q x ≡ Equal). ap p (sym (exact q x tied)) in
      map.same_map total exact _ _ (λ q.
      map.get-retain_keys (map.from_entries es) p q (same q)
      ∙ ap (λ o. cond (p q) o None) (map.get-from_entries total es q)
      ∙ sym (map.get-from_entries total (filter (λ e. p e.0) es) q ∙ find-where_key R p q (same q) es))

-- ---- the table

module _ (c : Counters) (blocks records : ℕ) (es : List ((ℕ × Key) × Held)) (fsx : List (ℕ × Fileset)) where
  -- the table with these counters, limits, entries and filesets
  abbrev pub made : Table
  made = record {
    entries = map.from_entries es;
    filesets = map.from_entries fsx;
    counters = c;
    blocks = blocks;
    records = records;
  }

  pub entry_among : (fs : ℕ) (key : Key) (held : Held) → column made key fs ≡ Some held → Among ((fs, key), held) es
  entry_among fs key held h = found_among entry_cmp_total entry_cmp_exact (fs, key) held es (sym (map.get-from_entries entry_cmp_total es (fs, key)) ∙ h)

  pub fileset_among : (id : ℕ) (f : Fileset) → map.get made.filesets id ≡ Some f → Among (id, f) fsx
  fileset_among id f h = found_among nat_cmp_total nat_cmp-IsAntisymmetric id f fsx (sym (map.get-from_entries nat_cmp_total fsx id) ∙ h)

  -- the rules on an entry, one by one
  record Kept (before : List ((ℕ × Key) × Held)) (e : (ℕ × Key) × Held) : Type 0 where
    place : has_place before e.0.0 e.0.1 ≡ false
    stamp : is_stamp_past (Some c) (stamp_in e.1) ≡ false
    number : is_number_past (Some c) e.0.1 e.1 ≡ false
    block : option_map_or (λ block. nat_le blocks block) (block_in e.1) false ≡ false
    unshared : has_block before (block_in e.1) ≡ false
    version : has_version before e.0.1 (stamp_in e.1) ≡ false
    home : (not (nat_eq e.0.0 0) && not (is_some (map.get made.filesets e.0.0))) ≡ false
    placed : is_misplaced made fsx e.0.0 e.0.1 e.1 ≡ false

  kept : (before : List ((ℕ × Key) × Held)) (e : (ℕ × Key) × Held) → EntryFine (Some c) blocks made fsx before e → Kept before e
  kept before e h =
      let six = neither _ _ h.0 in
      let five = neither _ _ six.0 in
      let four = neither _ _ five.0 in
      let three = neither _ _ four.0 in
      let two = neither _ _ three.0 in
      let whole = neither _ _ h.1 in
      record { place = two.0; stamp = two.1; number = three.1; block = four.1; unshared = five.1; version = six.1; home = whole.0; placed = whole.1 }

  record KeptFileset (before : List (ℕ × Fileset)) (e : ℕ × Fileset) : Type 0 where
    new : has_fileset before e.0 e.1 ≡ false
    id : is_id_past (Some c) e.0 ≡ false
    few : (not e.1.gone && nat_le 64 (live_count before)) ≡ false

  kept_fileset : (before : List (ℕ × Fileset)) (e : ℕ × Fileset) → FilesetFine (Some c) before e → KeptFileset before e
  kept_fileset before e h =
      let three = neither _ _ h in
      let two = neither _ _ three.0 in
      record { new = two.0; id = two.1; few = three.1 }

  module _ (entries : Each (EntryFine (Some c) blocks made fsx) [] es) (filesets : Each (FilesetFine (Some c)) [] fsx) where
    all_kept : Each Kept [] es
    all_kept = each_then (EntryFine (Some c) blocks made fsx) Kept [] es kept entries

    all_kept_filesets : Each KeptFileset [] fsx
    all_kept_filesets = each_then (FilesetFine (Some c)) KeptFileset [] fsx kept_fileset filesets

    rules : (fs : ℕ) (key : Key) (held : Held) → column made key fs ≡ Some held → Before Kept ((fs, key), held)
    rules fs key held h = each_among Kept ((fs, key), held) [] es all_kept (entry_among fs key held h)

    rules_of : (id : ℕ) (f : Fileset) → map.get made.filesets id ≡ Some f → Before KeptFileset (id, f)
    rules_of id f h = each_among KeptFileset (id, f) [] fsx all_kept_filesets (fileset_among id f h)

    -- ---- filesets

    no_id : (before : List (ℕ × Fileset)) (z : ℕ × Fileset) → KeptFileset before z → list_any (λ e. eq_by_cmp nat_cmp z.0 e.0) before ≡ false
    no_id before z k = none_passes (λ e. eq_by_cmp nat_cmp z.0 e.0) before (λ x h.
        let apart : nat_eq z.0 x.0 ≡ false = (neither (nat_eq z.0 x.0) (not z.1.gone && not x.1.gone && pointwise nat_eq z.1.name x.1.name)
        (passes_none (λ e. nat_eq z.0 e.0 || (not z.1.gone && not e.1.gone && pointwise nat_eq z.1.name e.1.name)) x before k.new h)).0 in
        other_number z.0 x.0 apart)

    -- each fileset of the list is found under its id
    pub fileset_found : (x : ℕ × Fileset) → Among x fsx → map.get made.filesets x.0 ≡ Some x.1
    fileset_found x h =
        map.get-from_entries nat_cmp_total fsx x.0
        ∙ among_found nat_cmp_total nat_cmp-IsAntisymmetric x fsx (each_then KeptFileset (λ before z. list_any (λ e. eq_by_cmp nat_cmp z.0 e.0) before ≡ false) [] fsx no_id all_kept_filesets) h

    same_name : (a b : ℕ × Fileset) → a.1.gone ≡ false → b.1.gone ≡ false → a.1.name ≡ b.1.name → (nat_eq a.0 b.0 || (not a.1.gone && not b.1.gone && pointwise nat_eq a.1.name b.1.name)) ≡ false → ⊥
    same_name a b one two same h =
        let rest = neither _ _ h in
        let passes : (not a.1.gone && not b.1.gone && pointwise nat_eq a.1.name b.1.name) ≡ true =
        (λ i. not (one i) && not (two i) && pointwise nat_eq (same i) b.1.name) ∙ nat_list_eq_equiv.refl b.1.name in
        false≢true (sym rest.1 ∙ passes)

    names : (a b : ℕ) (f g : Fileset) → map.get made.filesets a ≡ Some f → map.get made.filesets b ≡ Some g → f.gone ≡ false → g.gone ≡ false → f.name ≡ g.name → a ≡ b
    names a b f g one two live other same =
        let q = λ (z e : ℕ × Fileset). nat_eq z.0 e.0 || (not z.1.gone && not e.1.gone && pointwise nat_eq z.1.name e.1.name) in
        elim (one_or_apart q (a, f) (b, g) [] fsx (each_then KeptFileset (λ before z. list_any (q z) before ≡ false) [] fsx (λ before z k. k.new) all_kept_filesets) (fileset_among a f one) (fileset_among b g two)) [
          | inl is ↦ ap (λ (x : ℕ × Fileset). x.0) is
          | inr apart ↦ elim apart [
            | inl h ↦ absurd (same_name (a, f) (b, g) live other same h)
            | inr h ↦ absurd (same_name (b, g) (a, f) other live (sym same) h)
          ]
        ]

    ids : (id : ℕ) → IsSome (map.get made.filesets id) → id < c.id
    ids id some =
        elim (map.get made.filesets id) as (λ o. map.get made.filesets id ≡ o → IsSome o → id < c.id) [
          | None ↦ λ _ clash. absurd (false≢true clash)
          | Some f ↦ λ is _. let past = (rules_of id f is).keeps.id in grind (arith, nat_tests)
        ] refl some

    live_more : (front : List (ℕ × Fileset)) (x : ℕ × Fileset) → KeptFileset front x → live_count front ≤ 64 → live_count (front ++ x ∷ []) ≤ 64
    live_more front x k few =
        let joined : live_count (front ++ x ∷ []) ≡ live_count front + live_count (x ∷ []) = ap length (filter-append (λ (e : ℕ × Fileset). not e.1.gone) front (x ∷ [])) ∙ length-append (filter (λ e. not e.1.gone) front) (filter (λ e. not e.1.gone) (x ∷ [])) in
        elim x.1.gone as (λ b. (not b && nat_le 64 (live_count front)) ≡ false → live_count (front ++ x ∷ []) ≡ live_count front + length (cond (not b) (x ∷ []) []) → live_count (front ++ x ∷ []) ≤ 64) [
          | true ↦ λ _ joined. omega (arith, joined, few)
          | false ↦ λ room joined. let less : live_count front < 64 = grind (arith, nat_tests) in omega (arith, joined, less)
        ] k.few joined

    few_live : (front xs : List (ℕ × Fileset)) → Each KeptFileset front xs → live_count front ≤ 64 → live_count (front ++ xs) ≤ 64
    few_live front [] all few = subst (λ l. live_count l ≤ 64) (sym (append-nil front)) few
    few_live front (x ∷ xs) all few = subst (λ l. live_count l ≤ 64) (append_assoc front (x ∷ []) xs) (few_live (front ++ x ∷ []) xs all.1 (live_more front x all.0 few))

    live_alike : (e : ℕ × Fileset) → Among e fsx → is_live made e.0 ≡ not e.1.gone
    live_alike e h = ap (λ o. option_map_or (λ (fileset : Fileset). not fileset.gone) o false) (fileset_found e h)

    live : length (live_ids made) ≤ 64
    live =
        let p = is_live made in
        let m = made.filesets in
        let once : length (live_ids made) ≤ length (filter p (map.keys m)) = filter_twice p (λ id. nat_lt 0 id) (map.keys m) in
        let keys : length (filter p (map.keys m)) ≡ map.len (map.retain_keys m p) = filter_keys p (map.entries m) ∙ sym (len-retain_keys nat_cmp_total nat_cmp-IsAntisymmetric m p) in
        let again : map.len (map.retain_keys m p) ≡ map.len (map.from_entries {R = nat_cmp} (filter (λ e. p e.0) fsx)) = ap map.len (retain_keys-from_entries nat_cmp_total nat_cmp-IsAntisymmetric p fsx) in
        let no_more : map.len (map.from_entries {R = nat_cmp} (filter (λ e. p e.0) fsx)) ≤ length (filter (λ e. p e.0) fsx) = len-from_entries-le nat_cmp_total nat_cmp-IsAntisymmetric (filter (λ e. p e.0) fsx) in
        let counted : length (filter (λ e. p e.0) fsx) ≡ live_count fsx = ap length (filter_same (λ e. p e.0) (λ e. not e.1.gone) fsx live_alike) in
        let few : live_count fsx ≤ 64 = few_live [] fsx all_kept_filesets (omega arith) in
        omega (arith, once, keys, again, no_more, counted, few)

    -- ---- entries

    homes : (fs : ℕ) (key : Key) → IsSome (column made key fs) → (fs ≡ 0) ⊎ IsSome (map.get made.filesets fs)
    homes fs key some =
        elim (column made key fs) as (λ o. column made key fs ≡ o → IsSome o → (fs ≡ 0) ⊎ IsSome (map.get made.filesets fs)) [
          | None ↦ λ _ clash. absurd (false≢true clash)
          | Some held ↦ λ is _. home fs (map.get made.filesets fs) (rules fs key held is).keeps.home
        ] refl some

    unshared : (fs gs : ℕ) (key other : Key) (held again : Held) (block : ℕ) → column made key fs ≡ Some held → column made other gs ≡ Some again → block_in held ≡ Some block → block_in again ≡ Some block → (fs ≡ gs) × (key ≡ other)
    unshared fs gs key other held again block one two has also =
        let q = λ (z e : (ℕ × Key) × Held). is_alike (block_in z.1) (block_in e.1) in
        elim (one_or_apart q ((fs, key), held) ((gs, other), again) [] es (each_then Kept (λ before z. list_any (q z) before ≡ false) [] es (λ before z k. k.unshared) all_kept) (entry_among fs key held one) (entry_among gs other again two)) [
          | inl is ↦ (ap (λ (x : (ℕ × Key) × Held). x.0.0) is, ap (λ (x : (ℕ × Key) × Held). x.0.1) is)
          | inr apart ↦ elim apart [
            | inl h ↦ absurd (false≢true (sym h ∙ alike (block_in held) (block_in again) block has also))
            | inr h ↦ absurd (false≢true (sym h ∙ alike (block_in again) (block_in held) block also has))
          ]
        ]

    key_alike : (key : Key) → eq_by_cmp key_cmp key key ≡ true
    key_alike key = ap is_eq (tied_itself key_cmp_total key)

    versions : (fs gs : ℕ) (key : Key) (held again : Held) (stamp : ℕ) → column made key fs ≡ Some held → column made key gs ≡ Some again → stamp_in held ≡ Some stamp → stamp_in again ≡ Some stamp → fs ≡ gs
    versions fs gs key held again stamp one two has also =
        let q = λ (z e : (ℕ × Key) × Held). eq_by_cmp key_cmp z.0.1 e.0.1 && is_alike (stamp_in z.1) (stamp_in e.1) in
        elim (one_or_apart q ((fs, key), held) ((gs, key), again) [] es (each_then Kept (λ before z. list_any (q z) before ≡ false) [] es (λ before z k. k.version) all_kept) (entry_among fs key held one) (entry_among gs key again two)) [
          | inl is ↦ ap (λ (x : (ℕ × Key) × Held). x.0.0) is
          | inr apart ↦ elim apart [
            | inl h ↦ absurd (false≢true (sym h ∙ (λ i. key_alike key i && alike (stamp_in held) (stamp_in again) stamp has also i)))
            | inr h ↦ absurd (false≢true (sym h ∙ (λ i. key_alike key i && alike (stamp_in again) (stamp_in held) stamp also has i)))
          ]
        ]

    -- no checkpoint at this id or below keeps data
    no_data : (fs : ℕ) → data_upto fsx fs ≡ false → keeps_data made fs ≡ false
    no_data fs none = none_passes (λ id. nat_le id fs && is_live_data made id) (newer made 0) (λ id _.
        elim (map.get made.filesets id) as (λ o. map.get made.filesets id ≡ o → (nat_le id fs && option_map_or (λ fileset. not fileset.gone && keeps_files fileset.kind) o false) ≡ false) [
          | None ↦ λ _. never (nat_le id fs)
          | Some f ↦ λ is. passes_none (λ e. nat_le e.0 fs && (not e.1.gone && keeps_files e.1.kind)) (id, f) fsx none (fileset_among id f is)
        ] refl)
      where
        never : (b : Bool) → (b && false) ≡ false
        never true = refl
        never false = refl

    -- all rules but the one on needless absents
    pub orderly : IsOrderly made
    orderly = record {
      names = names;
      ids = ids;
      live = live;
      homes = homes;
      stamps = λ fs key held h. within c.stamp (stamp_in held) (rules fs key held h).keeps.stamp;
      numbers = λ fs key held h. let parts = neither _ _ (rules fs key held h).keeps.number in (key_below c.number key parts.0, held_below c.number held parts.1);
      blocks = λ fs key held h. within blocks (block_in held) (rules fs key held h).keeps.block;
      unshared = unshared;
      primary = λ key held h. own made fsx key held (rules 0 key held h).keeps.placed;
      marks = λ fs key stamp h. no_data fs (neither _ _ (rules fs key (Mark stamp) h).keeps.placed).1;
      versions = versions;
    }

    needless : (b : Bool) (d : Bool) → b ≡ true → (b && not d) ≡ false → d ≡ true
    needless true d is h = opposite d h
    needless false d is h = absurd (false≢true is)

    pub sound : IsSound made
    sound = record {
      orderly = orderly;
      absents = λ fs key is h. needed made (first_holder (column made key) (newer made fs))
          (needless (is_live made fs) (is_needed_by made (first_holder (column made key) (newer made fs))) is (neither _ _ (rules fs key Absent h).keeps.placed).1);
    }
