-- A tree stays one where bytes are written to a file or it gets another size.
use Rattle.std.proofs.Common.{◌≡◌, ◌≢◌, ◌⊎◌, inl, inr, ◌<◌, ◌≤◌, ◌*◌, ◌/◌, ◌%◌, ℕ, zero, suc, ◌+◌, ◌-◌, true, false, not, ◌&&◌, Some, None, is_some, List, [], ◌∷◌, cond, length, get_or, map as list_map, nat_eq, nat_le, nat_lt, if◌then◌else◌, refl, sym, ap, subst, ◌∙◌, arith, ne_eqb, eq-eqb}
use Rattle.std.specs.List.{range_with_len}
use Rattle.std.specs.Option.{option_and_then, option_or}
use Rattle.std.proofs.lemmas.Bool.{cases_eq, cases_lt, le-leb, lt-leb, le-ltb, and_right}
use Rattle.std.proofs.lemmas.Bool.Decides.{nat_tests}
use Rattle.std.proofs.lemmas.List.FromFn.{get_or-map-range_with_len}
use Rattle.std.specs.FinMap.{find}
use Rattle.std.specs.FinMap as map
use Rattle.ck_model.specs.declared.key.Key.{Key}
use Rattle.ck_model.specs.declared.key.Key.TheVariants.{Name, Node, Block}
use Rattle.ck_model.specs.declared.cell.Cell.{Cell}
use Rattle.ck_model.specs.declared.cell.Payload.TheVariants.{File, Bytes}
use Rattle.ck_model.specs.Key.{key_cmp, is_past}
use Rattle.ck_model.specs.Cells.{Cells, bytes_in, size_in, is_directory, is_directory_at, size_at, with_cells}
use Rattle.ck_model.specs.Contents.{block_byte, file_byte}
use Rattle.ck_model.specs.Changes.{cell_of, touched, byte_after, block_after, grown_to, written, cut_block, cut_at, cut_to, resized}
use Rattle.ck_laws.specs.Tree.{HasNode, IsGrown}
use Rattle.ck_model.proofs.CellLaws.{get-with_cells, get-retain_keys}
use Rattle.ck_laws.proofs.Lookups.{tied_with_itself, untied}
use Rattle.ck_laws.proofs.Grafts.{same_directory, same_stands}
use Rattle.ck_laws.proofs.FileBytes.{same_byte, no_byte, same_size, IsRewrite, rewritten}

-- ---- what is found in lists of cells

find_first : (q k : Key) (cell : Cell) (es : List (Key × Cell)) → q ≡ k → find key_cmp q ((k, cell) ∷ es) ≡ Some cell
find_first q k cell es same = subst (λ x. find key_cmp q ((x, cell) ∷ es) ≡ Some cell) same (ap (λ b. cond b (Some cell) (find key_cmp q es)) (tied_with_itself q))

find_behind : (q k : Key) (cell : Cell) (es : List (Key × Cell)) → q ≢ k → find key_cmp q ((k, cell) ∷ es) ≡ find key_cmp q es
find_behind q k cell es apart = ap (λ b. cond b (Some cell) (find key_cmp q es)) (untied q k apart)

module _ (f : ℕ) (cell_at : ℕ → Cell) where
  abbrev blocks_at : List ℕ → List (Key × Cell)
  blocks_at indexes = list_map (λ index. (Block f index, cell_at index)) indexes

  find_other : (q : Key) → ((i : ℕ) → q ≢ Block f i) → (indexes : List ℕ) → find key_cmp q (blocks_at indexes) ≡ None
  find_other q apart [] = refl
  find_other q apart (i ∷ indexes) = find_behind q (Block f i) (cell_at i) (blocks_at indexes) (apart i) ∙ find_other q apart indexes

  -- what is found at an index of blocks that are in a row
  data FoundIn (from count i : ℕ) : Type 0 where
    within : from ≤ i → i < from + count → find key_cmp (Block f i) (blocks_at (range_with_len from count)) ≡ Some (cell_at i) → FoundIn from count i
    outside : find key_cmp (Block f i) (blocks_at (range_with_len from count)) ≡ None → FoundIn from count i

  find_range : (from count i : ℕ) → FoundIn from count i
  find_range from zero i = outside refl
  find_range from (suc count) i = on (find_range (from + 1) count i) (cases_eq i from)
    where
      behind : i ≢ from → FoundIn (from + 1) count i → FoundIn from (suc count) i
      behind apart (within low high is) = within (omega arith) (omega arith) (find_behind (Block f i) (Block f from) (cell_at from) (blocks_at (range_with_len (from + 1) count)) (λ same. apart (cc)) ∙ is)
      behind apart (outside is) = outside (find_behind (Block f i) (Block f from) (cell_at from) (blocks_at (range_with_len (from + 1) count)) (λ same. apart (cc)) ∙ is)

      on : FoundIn (from + 1) count i → (i ≡ from) ⊎ (i ≢ from) → FoundIn from (suc count) i
      on _ (inl same) = within (omega arith) (omega arith) (find_first (Block f i) (Block f from) (cell_at from) (blocks_at (range_with_len (from + 1) count)) (ap (Block f) same) ∙ ap (λ x. Some (cell_at x)) (sym same))
      on rest (inr apart) = behind apart rest

-- ---- bytes that are written

bytes_of : (cells : Cells) (f i k : ℕ) (stamp : ℕ) (bytes : List ℕ) → map.get cells (Block f i) ≡ Some (cell_of stamp (Bytes bytes)) → block_byte cells f i k ≡ get_or bytes k 0
bytes_of cells f i k stamp bytes h = ap (λ o. get_or (bytes_in (option_and_then (λ (cell : Cell). cell.payload) o)) k 0) h

block_after_byte : (cells : Cells) (f at : ℕ) (bytes : List ℕ) (i k : ℕ) → k < 4096 → get_or (block_after cells f at bytes i) k 0 ≡ byte_after cells f at bytes i k
unfolding block_after
block_after_byte cells f at bytes i k low = get_or-map-range_with_len (byte_after cells f at bytes i) 0 4096 k k 0 low (omega arith)

-- behind the bytes stands what stood there
byte_behind : (cells : Cells) (f at : ℕ) (bytes : List ℕ) (i k : ℕ) → at + length bytes ≤ i * 4096 + k → byte_after cells f at bytes i k ≡ block_byte cells f i k
byte_behind cells f at bytes i k past =
    ap (λ b. if b then get_or bytes (i * 4096 + k - at) 0 else block_byte cells f i k) (and_right (nat_le at (i * 4096 + k)) (nat_lt (i * 4096 + k) (at + length bytes)) (le-ltb (i * 4096 + k) (at + length bytes) past))

module _ (next : ℕ) (cells : Cells) (before : IsGrown next cells) (stamp f at : ℕ) (bytes : List ℕ) (some : 0 < length bytes)
    (stood : HasNode cells f) (was_file : is_directory_at cells f ≡ false) where
  abbrev end_of : ℕ
  end_of = at + length bytes

  abbrev grown : Cells
  grown = with_cells cells (grown_to cells stamp f end_of)

  abbrev new_block : ℕ → Cell
  new_block index = cell_of stamp (Bytes (block_after cells f at bytes index))

  abbrev count_of : ℕ
  count_of = if nat_eq (length bytes) 0 then 0 else (end_of + 4095) / 4096 - at / 4096

  abbrev edited : Cells
  edited = with_cells grown (blocks_at f new_block (touched at (length bytes)))

  grown-other : (q : Key) → q ≢ Node f → map.get grown q ≡ map.get cells q
  grown-other q apart =
      elim (nat_lt (size_at cells f) end_of) as (λ b. map.get (with_cells cells (if b then (Node f, cell_of stamp (File end_of)) ∷ [] else [])) q ≡ map.get cells q) [
        | false ↦ refl
        | true ↦ get-with_cells cells ((Node f, cell_of stamp (File end_of)) ∷ []) q ∙ ap (λ o. option_or o (map.get cells q)) (find_behind q (Node f) (cell_of stamp (File end_of)) [] apart)
      ]

  -- what the file's node is afterwards
  record IsLarger (after : Cells) : Type 0 where
    stands : HasNode after f
    file : is_directory_at after f ≡ false
    old : size_at cells f ≤ size_at after f
    new : end_of ≤ size_at after f

  sized : (after : Cells) (size : ℕ) → map.get after (Node f) ≡ Some (cell_of stamp (File size)) → size_at after f ≡ size
  sized after size is = ap (λ o. size_in (option_and_then (λ (cell : Cell). cell.payload) o)) is

  grown-larger : IsLarger grown
  grown-larger =
      elim (nat_lt (size_at cells f) end_of) as (λ b. nat_lt (size_at cells f) end_of ≡ b → IsLarger (with_cells cells (if b then (Node f, cell_of stamp (File end_of)) ∷ [] else []))) [
        | false ↦ λ h. record { stands = stood; file = was_file; old = omega arith; new = grind (arith, nat_tests) }
        | true ↦ λ h.
            let after = with_cells cells ((Node f, cell_of stamp (File end_of)) ∷ []) in
            let is : map.get after (Node f) ≡ Some (cell_of stamp (File end_of)) = get-with_cells cells ((Node f, cell_of stamp (File end_of)) ∷ []) (Node f) ∙ ap (λ o. option_or o (map.get cells (Node f))) (find_first (Node f) (Node f) (cell_of stamp (File end_of)) [] refl) in
            let size : size_at after f ≡ end_of = sized after end_of is in
            let below : size_at cells f < end_of = grind (arith, nat_tests) in
            record {
              stands = ap is_some is;
              file = ap (λ o. is_directory (option_and_then (λ (cell : Cell). cell.payload) o)) is;
              old = omega (arith, size, below);
              new = omega (arith, size);
            }
      ] refl

  edited-other : (q : Key) → ((i : ℕ) → q ≢ Block f i) → map.get edited q ≡ map.get grown q
  edited-other q apart =
      get-with_cells grown (blocks_at f new_block (touched at (length bytes))) q
      ∙ ap (λ o. option_or o (map.get grown q)) (find_other f new_block q apart (touched at (length bytes)))

  edited-same : (q : Key) → q ≢ Node f → ((i : ℕ) → q ≢ Block f i) → map.get edited q ≡ map.get cells q
  edited-same q not_node not_block = edited-other q not_block ∙ grown-other q not_node

  edited-larger : IsLarger edited
  edited-larger =
      let same : map.get edited (Node f) ≡ map.get grown (Node f) = edited-other (Node f) (λ i clash. cc) in
      let size = same_size grown edited f same in record {
        stands = same_stands grown edited (Node f) same ∙ grown-larger.stands;
        file = same_directory grown edited f same ∙ grown-larger.file;
        old = subst (λ n. size_at cells f ≤ n) (sym size) grown-larger.old;
        new = subst (λ n. end_of ≤ n) (sym size) grown-larger.new;
      }

  -- a block of the file afterwards: written, or as it was
  data BlockAfter (i : ℕ) : Type 0 where
    put : i * 4096 < end_of → map.get edited (Block f i) ≡ Some (new_block i) → BlockAfter i
    left : map.get edited (Block f i) ≡ map.get cells (Block f i) → BlockAfter i

  count_is : count_of ≡ (end_of + 4095) / 4096 - at / 4096
  count_is = ap (λ b. if b then 0 else (end_of + 4095) / 4096 - at / 4096) (ne_eqb (length bytes) 0 (omega arith))

  below_end : (i : ℕ) → i < at / 4096 + count_of → i * 4096 < end_of
  below_end i high = omega (arith, high, count_is, some)

  block_of : (i : ℕ) → BlockAfter i
  block_of i = on (find_range f new_block (at / 4096) count_of i)
    where
      all : map.get edited (Block f i) ≡ option_or (find key_cmp (Block f i) (blocks_at f new_block (touched at (length bytes)))) (map.get grown (Block f i))
      all = get-with_cells grown (blocks_at f new_block (touched at (length bytes))) (Block f i)

      on : FoundIn f new_block (at / 4096) count_of i → BlockAfter i
      on (within low high is) = put (below_end i high) (all ∙ ap (λ o. option_or o (map.get grown (Block f i))) is)
      on (outside is) = left (all ∙ ap (λ o. option_or o (map.get grown (Block f i))) is ∙ grown-other (Block f i) (λ clash. cc))

  edited-rewrite : IsRewrite cells edited f
  edited-rewrite = record {
    names = λ d n. edited-same (Name d n) (λ clash. cc) (λ i clash. cc);
    nodes = λ m other. edited-same (Node m) (λ same. other (cc)) (λ i clash. cc);
    others = λ m other i. edited-same (Block m i) (λ clash. cc) (λ j same. other (cc));
    stood = stood;
    stands = edited-larger.stands;
    was_file = was_file;
    file = edited-larger.file;
    blocks = below;
    zeros = empty;
  }
    where
      below : (i : ℕ) → map.contains_key edited (Block f i) ≡ true → i * 4096 < size_at edited f
      below i stands = on (block_of i)
        where
          on : BlockAfter i → i * 4096 < size_at edited f
          on (put low _) = omega (arith, low, edited-larger.new)
          on (left same) =
              let under = before.tree.blocks f i (sym (same_stands cells edited (Block f i) same) ∙ stands) in
              omega (arith, under, edited-larger.old)

      empty : (place : ℕ) → size_at edited f ≤ place → file_byte edited f place ≡ 0
      empty place past = on (block_of (place / 4096))
        where
          was_zero : block_byte cells f (place / 4096) (place % 4096) ≡ 0
          was_zero = before.tree.zeros f place (omega (arith, past, edited-larger.old))

          on : BlockAfter (place / 4096) → file_byte edited f place ≡ 0
          on (put _ is) =
              bytes_of edited f (place / 4096) (place % 4096) stamp (block_after cells f at bytes (place / 4096)) is
              ∙ block_after_byte cells f at bytes (place / 4096) (place % 4096) (omega arith)
              ∙ byte_behind cells f at bytes (place / 4096) (place % 4096) (omega (arith, past, edited-larger.new))
              ∙ was_zero
          on (left same) = same_byte cells edited f (place / 4096) (place % 4096) same ∙ was_zero

  edited-grown : IsGrown next edited
  edited-grown = rewritten next cells edited f before edited-rewrite

pub written-grown : (next : ℕ) (cells : Cells) → IsGrown next cells → (stamp f at : ℕ) (bytes : List ℕ) → HasNode cells f → is_directory_at cells f ≡ false → IsGrown next (written cells stamp f at bytes)
written-grown next cells before stamp f at [] stood was_file = before
written-grown next cells before stamp f at (byte ∷ bytes) stood was_file = edited-grown next cells before stamp f at (byte ∷ bytes) (omega arith) stood was_file

-- ---- another size

cut_byte : (cells : Cells) (f i kept k : ℕ) → k < 4096 → kept ≤ k → get_or (cut_block cells f i kept) k 0 ≡ 0
unfolding cut_block
cut_byte cells f i kept k low past =
    get_or-map-range_with_len (λ place. if nat_lt place kept then block_byte cells f i place else 0) 0 4096 k k 0 low (omega arith)
    ∙ ap (λ b. if b then block_byte cells f i k else 0) (le-ltb k kept past)

module _ (next : ℕ) (cells : Cells) (before : IsGrown next cells) (stamp f size : ℕ)
    (stood : HasNode cells f) (was_file : is_directory_at cells f ≡ false) where
  -- the file's node has this size afterwards, and all but its blocks is as it was
  resize : (base : Cells) → ((q : Key) → ((i : ℕ) → q ≢ Block f i) → map.get base q ≡ map.get cells q)
      → ((i : ℕ) → map.contains_key base (Block f i) ≡ true → i * 4096 < size)
      → ((place : ℕ) → size ≤ place → block_byte base f (place / 4096) (place % 4096) ≡ 0)
      → IsGrown next (with_cells base ((Node f, cell_of stamp (File size)) ∷ []))
  resize base same below empty = rewritten next cells after f before (record {
    names = λ d n. as_before (Name d n) (λ clash. cc) (λ i clash. cc);
    nodes = λ m other. as_before (Node m) (λ is. other (cc)) (λ i clash. cc);
    others = λ m other i. as_before (Block m i) (λ clash. cc) (λ j is. other (cc));
    stood = stood;
    stands = ap is_some own;
    was_file = was_file;
    file = ap (λ o. is_directory (option_and_then (λ (cell : Cell). cell.payload) o)) own;
    blocks = λ i stands. subst (λ n. i * 4096 < n) (sym is_size) (below i (sym (same_stands base after (Block f i) (kept (Block f i) (λ clash. cc))) ∙ stands));
    zeros = λ place past. same_byte base after f (place / 4096) (place % 4096) (kept (Block f (place / 4096)) (λ clash. cc)) ∙ empty place (subst (λ n. n ≤ place) is_size past);
  })
    where
      after : Cells
      after = with_cells base ((Node f, cell_of stamp (File size)) ∷ [])

      own : map.get after (Node f) ≡ Some (cell_of stamp (File size))
      own = get-with_cells base ((Node f, cell_of stamp (File size)) ∷ []) (Node f) ∙ ap (λ o. option_or o (map.get base (Node f))) (find_first (Node f) (Node f) (cell_of stamp (File size)) [] refl)

      is_size : size_at after f ≡ size
      is_size = ap (λ o. size_in (option_and_then (λ (cell : Cell). cell.payload) o)) own

      kept : (q : Key) → q ≢ Node f → map.get after q ≡ map.get base q
      kept q apart = get-with_cells base ((Node f, cell_of stamp (File size)) ∷ []) q ∙ ap (λ o. option_or o (map.get base q)) (find_behind q (Node f) (cell_of stamp (File size)) [] apart)

      as_before : (q : Key) → q ≢ Node f → ((i : ℕ) → q ≢ Block f i) → map.get after q ≡ map.get cells q
      as_before q not_node not_block = kept q not_node ∙ same q not_block

  abbrev last : ℕ
  last = size / 4096

  abbrev cut_cell : Cell
  cut_cell = cell_of stamp (Bytes (cut_block cells f last (size % 4096)))

  abbrev retained : Cells
  retained = map.retain_keys cells (λ key. not (is_past f size key))

  -- what is put in place of the last block
  data CutAt (es : List (Key × Cell)) : Type 0 where
    cut : 0 < size % 4096 → es ≡ (Block f last, cut_cell) ∷ [] → CutAt es
    whole : (0 < size % 4096 → map.contains_key cells (Block f last) ≡ false) → es ≡ [] → CutAt es

  is_cut : CutAt (cut_at cells stamp f size)
  is_cut =
      elim (nat_eq (size % 4096) 0) as (λ b. nat_eq (size % 4096) 0 ≡ b → CutAt (if not b && map.contains_key cells (Block f last) then (Block f last, cut_cell) ∷ [] else [])) [
        | true ↦ λ even. whole (λ odd. absurd (let zero_left : size % 4096 ≡ 0 = grind (arith, nat_tests) in omega (arith, odd, zero_left))) refl
        | false ↦ λ odd. elim (map.contains_key cells (Block f last)) as (λ b. map.contains_key cells (Block f last) ≡ b → CutAt (if true && b then (Block f last, cut_cell) ∷ [] else [])) [
          | true ↦ λ _. cut (grind (arith, nat_tests)) refl
          | false ↦ λ none. whole (λ _. none) refl
        ] refl
      ] refl

  get-retained : (q : Key) → map.get retained q ≡ (if not (is_past f size q) then map.get cells q else None)
  get-retained q = get-retain_keys cells (λ key. not (is_past f size key)) q

  retained-other : (q : Key) → ((i : ℕ) → q ≢ Block f i) → map.get retained q ≡ map.get cells q
  retained-other (Name d n) apart = get-retained (Name d n)
  retained-other (Node m) apart = get-retained (Node m)
  retained-other (Block m i) apart = get-retained (Block m i) ∙ ap (λ b. if not (b && nat_le size (i * 4096)) then map.get cells (Block m i) else None) (ne_eqb m f (λ same. apart i (ap (λ x. Block x i) same)))

  -- a block of the file that stays is below the size
  data Retained (i : ℕ) : Type 0 where
    below : i * 4096 < size → map.get retained (Block f i) ≡ map.get cells (Block f i) → Retained i
    past : size ≤ i * 4096 → map.get retained (Block f i) ≡ None → Retained i

  retained_of : (i : ℕ) → Retained i
  retained_of i = on (cases_lt (i * 4096) size)
    where
      is : map.get retained (Block f i) ≡ (if not (nat_le size (i * 4096)) then map.get cells (Block f i) else None)
      is = get-retained (Block f i) ∙ ap (λ b. if not (b && nat_le size (i * 4096)) then map.get cells (Block f i) else None) (eq-eqb f f refl)

      on : (i * 4096 < size) ⊎ (size ≤ i * 4096) → Retained i
      on (inl low) = below low (is ∙ ap (λ b. if not b then map.get cells (Block f i) else None) (lt-leb size (i * 4096) low))
      on (inr high) = past high (is ∙ ap (λ b. if not b then map.get cells (Block f i) else None) (le-leb size (i * 4096) high))

  retained_below : (i : ℕ) → map.contains_key retained (Block f i) ≡ true → i * 4096 < size
  retained_below i stands = on (retained_of i)
    where
      on : Retained i → i * 4096 < size
      on (below low _) = low
      on (past _ gone) = let clash : map.contains_key retained (Block f i) ≡ false = ap is_some gone in cc

  no_cell_at : (i : ℕ) → map.contains_key cells (Block f i) ≡ false → map.get cells (Block f i) ≡ None
  no_cell_at i h = elim (map.get cells (Block f i)) as (λ o. is_some o ≡ false → o ≡ None) [ None ↦ λ _. refl | Some cell ↦ λ clash. cc ] h

  retained_zero : (place : ℕ) → size ≤ place → (0 < size % 4096 → map.contains_key cells (Block f last) ≡ false) → block_byte retained f (place / 4096) (place % 4096) ≡ 0
  retained_zero place far none = on (retained_of (place / 4096))
    where
      on : Retained (place / 4096) → block_byte retained f (place / 4096) (place % 4096) ≡ 0
      on (past _ gone) = no_byte retained f (place / 4096) (place % 4096) gone
      on (below low same) =
          let index : last ≡ place / 4096 = omega (arith, low, far) in
          let odd : 0 < size % 4096 = omega (arith, low, far) in
          no_byte retained f (place / 4096) (place % 4096) (same ∙ no_cell_at (place / 4096) (subst (λ i. map.contains_key cells (Block f i) ≡ false) index (none odd)))

  shorter_from : (es : List (Key × Cell)) → CutAt es → IsGrown next (with_cells (with_cells retained es) ((Node f, cell_of stamp (File size)) ∷ []))
  shorter_from es (whole none is) =
      subst (λ xs. IsGrown next (with_cells (with_cells retained xs) ((Node f, cell_of stamp (File size)) ∷ []))) (sym is)
      (resize retained retained-other retained_below (λ place far. retained_zero place far none))
  shorter_from es (cut odd is) =
      subst (λ xs. IsGrown next (with_cells (with_cells retained xs) ((Node f, cell_of stamp (File size)) ∷ []))) (sym is)
      (resize base (λ q apart. others q (apart last) ∙ retained-other q apart) low (λ place far. empty place far))
    where
      base : Cells
      base = with_cells retained ((Block f last, cut_cell) ∷ [])

      others : (q : Key) → q ≢ Block f last → map.get base q ≡ map.get retained q
      others q apart = get-with_cells retained ((Block f last, cut_cell) ∷ []) q ∙ ap (λ o. option_or o (map.get retained q)) (find_behind q (Block f last) cut_cell [] apart)

      own : map.get base (Block f last) ≡ Some cut_cell
      own = get-with_cells retained ((Block f last, cut_cell) ∷ []) (Block f last) ∙ ap (λ o. option_or o (map.get retained (Block f last))) (find_first (Block f last) (Block f last) cut_cell [] refl)

      low : (i : ℕ) → map.contains_key base (Block f i) ≡ true → i * 4096 < size
      low i stands = on (cases_eq i last)
        where
          on : (i ≡ last) ⊎ (i ≢ last) → i * 4096 < size
          on (inl same) = omega (arith, same, odd)
          on (inr apart) = retained_below i (sym (same_stands retained base (Block f i) (others (Block f i) (λ same. apart (cc)))) ∙ stands)

      empty : (place : ℕ) → size ≤ place → block_byte base f (place / 4096) (place % 4096) ≡ 0
      empty place far = on (cases_eq (place / 4096) last)
        where
          on : (place / 4096 ≡ last) ⊎ (place / 4096 ≢ last) → block_byte base f (place / 4096) (place % 4096) ≡ 0
          on (inl same) =
              bytes_of base f (place / 4096) (place % 4096) stamp (cut_block cells f last (size % 4096)) (ap (λ i. map.get base (Block f i)) same ∙ own)
              ∙ cut_byte cells f last (size % 4096) (place % 4096) (omega arith) (omega (arith, same, far))
          on (inr apart) = behind (retained_of (place / 4096))
            where
              still : map.get base (Block f (place / 4096)) ≡ map.get retained (Block f (place / 4096))
              still = others (Block f (place / 4096)) (λ same. apart (cc))

              behind : Retained (place / 4096) → block_byte base f (place / 4096) (place % 4096) ≡ 0
              behind (past _ gone) = no_byte base f (place / 4096) (place % 4096) (still ∙ gone)
              behind (below under _) = absurd (apart (omega (arith, under, far)))

  longer : size_at cells f < size → IsGrown next (with_cells cells ((Node f, cell_of stamp (File size)) ∷ []))
  longer more =
      resize cells (λ q _. refl)
      (λ i stands. (let under = before.tree.blocks f i stands in omega (arith, under, more)))
      (λ place far. before.tree.zeros f place (omega (arith, far, more)))

  pub resized-grown : IsGrown next (resized cells stamp f size)
  resized-grown =
      elim (nat_eq size (size_at cells f)) as (λ b. nat_eq size (size_at cells f) ≡ b → IsGrown next (if b then cells else with_cells (if nat_lt size (size_at cells f) then cut_to cells stamp f size else cells) ((Node f, cell_of stamp (File size)) ∷ []))) [
        | true ↦ λ _. before
        | false ↦ λ apart. elim (nat_lt size (size_at cells f)) as (λ b. nat_lt size (size_at cells f) ≡ b → IsGrown next (with_cells (if b then cut_to cells stamp f size else cells) ((Node f, cell_of stamp (File size)) ∷ []))) [
          | true ↦ λ _. shorter_from (cut_at cells stamp f size) is_cut
          | false ↦ λ over. longer (grind (arith, nat_tests))
        ] refl
      ] refl
