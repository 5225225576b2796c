-- The records that are read are those that were written, and what was written is read again.
use Rattle.std.proofs.Common.{◌≡◌, ◌≢◌, ℕ, zero, suc, ◌-◌, ◌<◌, ◌≤◌, Bool, true, false, ◌&&◌, List, [], ◌∷◌, ◌++◌, length, Option, Some, None, Result, Ok, Err, refl, sym, ap, subst, ◌∙◌, append_assoc, length-append, arith}
use Rattle.std.specs.declared.cmp.Ordering.{Ordering}
use Rattle.std.specs.declared.cmp.Ordering.TheVariants.{Less, Equal, Greater}
use Rattle.std.specs.Ordering.{is_lt}
use Rattle.std.specs.List.{AllByRecursion}
use Rattle.std.specs.FinMap.{is_sorted}
use Rattle.std.specs.FinMap.Entries.{below_all}
use Rattle.std.proofs.lemmas.List.Concat.{flat_map-cons}
use Rattle.ck_model.specs.declared.key.Key.{Key}
use Rattle.ck_model.specs.declared.key.Key.TheVariants.{Name, Node, Block}
use Rattle.ck_model.specs.declared.cell.Payload.TheVariants.{To, File, Dir, Bytes}
use Rattle.ck_model.specs.Cells.{Content}
use Rattle.ck_model.specs.Key.{key_cmp, key_cmp_total}
use Rattle.ck_stream.specs.declared.item.Item.{Item}
use Rattle.ck_stream.specs.declared.item.Item.TheVariants.{Put, Removed}
use Rattle.ck_stream.specs.declared.fault.Flaw.{Flaw}
use Rattle.ck_stream.specs.declared.fault.StreamFault.{StreamFault}
use Rattle.ck_stream.specs.Written.{item_text, items_text}
use Rattle.ck_stream.specs.Right.{key_of, change_of, changes, IsItem, IsPut}
use Rattle.ck_stream.specs.Parsed.{◌>>=◌, located, follows, record_at, items_at}
use Rattle.ck_stream.proofs.FieldLemmas.{IsBytes, IsBytes-rest, bind_ok, Takes, Takes-then}
use Rattle.ck_stream.proofs.RecordLemmas.{number_of, tag_of, record_takes, record_again}
use Rattle.ck_stream.proofs.Loop.{one_more}

-- ---- order

pub split : (a b : Bool) → (a && b) ≡ true → (a ≡ true) × (b ≡ true)
split true b h = (refl, h)
split false b h = absurd cc

less : (r : Ordering) → is_lt r ≡ true → r ≡ Less
less Less h = refl
less Equal h = absurd cc
less Greater h = absurd cc

pub key_of_change : (item : Item) → (change_of item).0 ≡ key_of item
key_of_change (Put key payload) = refl
key_of_change (Removed key) = refl

-- what is above a key is above each key below that one
pub below_less : {X : Type 0} (x y : Key) (es : List (Key × X)) → is_lt (key_cmp x y) ≡ true → below_all key_cmp y es ≡ true → below_all key_cmp x es ≡ true
below_less x y [] lt h = refl
below_less x y (e ∷ es) lt h =
    let parts = split (is_lt (key_cmp y e.0)) (below_all key_cmp y es) h in
    let first : is_lt (key_cmp x e.0) ≡ true = ap is_lt (key_cmp_total.trans x y e.0 (less (key_cmp x y) lt) (less (key_cmp y e.0) parts.0)) in
    rw (first, below_less x y es lt parts.1) refl

-- all these keys may stand behind the last one
abbrev pub above : Option Key → List (Key × Option Content) → Bool
above None es = true
above (Some last) es = below_all key_cmp last es

above_first : (last : Option Key) (item : Item) (items : List Item) → follows last (key_of item) ≡ true → above (Some (key_of item)) (changes items) ≡ true → above last (changes (item ∷ items)) ≡ true
above_first None item items order rest = refl
above_first (Some last) item items order rest =
    let first : is_lt (key_cmp last (change_of item).0) ≡ true = ap (λ (key : Key). is_lt (key_cmp last key)) (key_of_change item) ∙ order in
    rw (first, below_less last (key_of item) (changes items) order rest) refl

follows_first : (last : Option Key) (item : Item) (items : List Item) → above last (changes (item ∷ items)) ≡ true → follows last (key_of item) ≡ true
follows_first None item items h = refl
follows_first (Some last) item items h =
    ap (λ (key : Key). is_lt (key_cmp last key)) (sym (key_of_change item)) ∙ (split (is_lt (key_cmp last (change_of item).0)) (below_all key_cmp last (changes items)) h).0

-- ---- what is read

pub got : {A : Type 0} (x y : A) → ◌≡◌ {A = Result A StreamFault} (Ok x) (Ok y) → x ≡ y
got x y e = cc

pub located_ok : {A : Type 0} (total place : ℕ) (read : Result A Flaw) (x : A) → located total place read ≡ Ok x → read ≡ Ok x
located_ok total place (Ok y) x e = ap (λ v. Ok v) (got y x e)
located_ok total place (Err why) x e = absurd cc

pub record ItemsTaken (full : Bool) (last : Option Key) (bytes : List ℕ) (read : List Item × List ℕ) : Type 0 where
  pub takes : Takes bytes (items_text read.0 ++ 0 ∷ []) read.1
  pub each : AllByRecursion IsItem read.0
  pub puts : full ≡ true → AllByRecursion IsPut read.0
  pub sorted : is_sorted key_cmp (changes read.0) ≡ true
  pub order : above last (changes read.0) ≡ true

above_none : (last : Option Key) → above last [] ≡ true
above_none None = refl
above_none (Some last) = refl

pub items_take : (n total : ℕ) (full : Bool) (last : Option Key) (bytes : List ℕ) (read : List Item × List ℕ) → IsBytes bytes → items_at n total full last bytes ≡ Ok read → ItemsTaken full last bytes read
unfolding items_at
items_take zero total full last bytes read fits e = absurd cc
items_take (suc n) total full last [] read fits e = absurd cc
items_take (suc n) total full last (zero ∷ bytes) read fits e =
    let made : List Item × List ℕ = ([], bytes) in
    subst (λ (x : List Item × List ℕ). ItemsTaken full last (0 ∷ bytes) x) (got made read e) (record {
      takes = record { parts = refl; rest_fits = IsBytes-rest 0 bytes fits };
      each = tt;
      puts = λ _. tt;
      sorted = refl;
      order = above_none last;
    })
items_take (suc n) total full last (suc number ∷ bytes) read fits e =
    let a = bind_ok (located total (total - suc (length bytes)) (record_at full last (suc number) bytes)) (λ first. items_at n total full (Some (key_of first.0)) first.1 >>= λ others. Ok (first.0 ∷ others.0, others.1)) read e in
    let b = bind_ok (items_at n total full (Some (key_of a.0.0)) a.0.1) (λ others. Ok (a.0.0 ∷ others.0, others.1)) read a.2 in
    let first = record_takes full last (suc number) bytes a.0 (IsBytes-rest (suc number) bytes fits) (located_ok total (total - suc (length bytes)) (record_at full last (suc number) bytes) a.0 a.1) in
    let others = items_take n total full (Some (key_of a.0.0)) a.0.1 b.0 first.takes.rest_fits b.1 in
    let both = Takes-then (suc number ∷ bytes) (item_text a.0.0) a.0.1 (items_text b.0.0 ++ 0 ∷ []) b.0.1 first.takes others.takes in
    let made : List Item × List ℕ = (a.0.0 ∷ b.0.0, b.0.1) in
    let text : item_text a.0.0 ++ (items_text b.0.0 ++ 0 ∷ []) ≡ items_text (a.0.0 ∷ b.0.0) ++ 0 ∷ [] =
    sym (append_assoc (item_text a.0.0) (items_text b.0.0) (0 ∷ [])) ∙ ap (λ (x : List ℕ). x ++ 0 ∷ []) (sym (flat_map-cons item_text a.0.0 b.0.0)) in
    let first_below : below_all key_cmp (change_of a.0.0).0 (changes b.0.0) ≡ true = ap (λ (key : Key). below_all key_cmp key (changes b.0.0)) (key_of_change a.0.0) ∙ others.order in
    subst (λ (x : List Item × List ℕ). ItemsTaken full last (suc number ∷ bytes) x) (got made read b.2) (record {
      takes = record { parts = both.parts ∙ ap (λ (x : List ℕ). x ++ b.0.1) text; rest_fits = both.rest_fits };
      each = (first.right, others.each);
      puts = λ h. (first.puts h, others.puts h);
      sorted = rw (first_below, others.sorted) refl;
      order = above_first last a.0.0 b.0.0 first.order others.order;
    })

-- ---- what is read again

number_some : (item : Item) → number_of (tag_of item) ≢ 0
number_some (Put key (To node)) e = absurd (omega arith)
number_some (Put key (File size)) e = absurd (omega arith)
number_some (Put key Dir) e = absurd (omega arith)
number_some (Put key (Bytes bytes)) e = absurd (omega arith)
number_some (Removed (Name directory name)) e = absurd (omega arith)
number_some (Removed (Node node)) e = absurd (omega arith)
number_some (Removed (Block node index)) e = absurd (omega arith)

some_text : (item : Item) → 1 ≤ length (item_text item)
some_text (Put key payload) = omega arith
some_text (Removed key) = omega arith

pub few_items : (items : List Item) → length items ≤ length (items_text items)
few_items [] = omega arith
few_items (item ∷ items) =
    let rest = few_items items in
    let some = some_text item in
    rw flat_map-cons (omega (arith, length-append (item_text item) (items_text items), rest, some))

pub items_again : (items : List Item) (n total : ℕ) (full : Bool) (last : Option Key) (rest : List ℕ) → AllByRecursion IsItem items → (full ≡ true → AllByRecursion IsPut items) → is_sorted key_cmp (changes items) ≡ true → above last (changes items) ≡ true → length items < n
    → items_at n total full last (items_text items ++ 0 ∷ rest) ≡ Ok (items, rest)
unfolding items_at
items_again [] zero total full last rest each puts sorted order lt = absurd (omega arith)
items_again [] (suc n) total full last rest each puts sorted order lt = refl
items_again (item ∷ items) zero total full last rest each puts sorted order lt = absurd (omega arith)
items_again (item ∷ items) (suc n) total full last rest each puts sorted order lt =
    let more = items_text items ++ 0 ∷ rest in
    let regrouped : items_text (item ∷ items) ++ 0 ∷ rest ≡ item_text item ++ more =
    ap (λ (x : List ℕ). x ++ 0 ∷ rest) (flat_map-cons item_text item items) ∙ append_assoc (item_text item) (items_text items) (0 ∷ rest) in
    let parts = split (below_all key_cmp (change_of item).0 (changes items)) (is_sorted key_cmp (changes items)) sorted in
    let next : below_all key_cmp (key_of item) (changes items) ≡ true = ap (λ (key : Key). below_all key_cmp key (changes items)) (sym (key_of_change item)) ∙ parts.0 in
    let again = record_again full last item more each.0 (λ h. (puts h).0) (follows_first last item items order) in
    let others = items_again items n total full (Some (key_of item)) rest each.1 (λ h. (puts h).1) parts.1 next (omega arith) in
    ap (items_at (suc n) total full last) (regrouped ∙ again.text)
    ∙ one_more n total full last (number_of (tag_of item)) again.after (number_some item)
    ∙ rw (again.read, others) refl
