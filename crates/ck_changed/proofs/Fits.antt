-- The next difference is the next of the keys that changed from the one checkpoint's map to the other's.
use Rattle.std.proofs.Common.{◌≡◌, ℕ, Bool, true, false, cond, not, T, Option, Some, None, MatchOption, List, [], ◌∷◌, nat_eq, if◌then◌else◌, refl, sym, ap, subst, ◌∙◌, inl, inr}
use Rattle.std.specs.Ordering.{eq_by_cmp, is_eq}
use Rattle.std.specs.Option.{option_map}
use Rattle.std.specs.FinMap.{find, is_sorted}
use Rattle.std.specs.FinMap.Entries.{below_all, same_entries, find-where_key, is_sorted-where_key}
use Rattle.std.specs.FinMap as map
use Rattle.std.proofs.lemmas.Cmp.{tied_itself}
use mathlib.Core.Bool.{false≢true}
use Rattle.ck_model.specs.declared.key.Key.{Key}
use Rattle.ck_model.specs.declared.cell.Cell.{Cell}
use Rattle.ck_model.specs.declared.held.Held.{Held}
use Rattle.ck_model.specs.declared.held.Held.TheVariants.{Absent, Plain, Extent, Mark}
use Rattle.ck_model.specs.Key.{key_cmp, key_cmp_total, key_cmp_exact}
use Rattle.ck_model.specs.Cells.{differs}
use Rattle.ck_model.specs.Table.{Table, column}
use Rattle.ck_model.specs.Chain.{present, value_of}
use Rattle.ck_model.specs.Values.{Store, cell_on, cells_on}
use Rattle.ck_model.specs.TableWorld.{values_of}
use Rattle.ck_model.specs.Streams.{changed}
use Rattle.ck_model.proofs.CaseLaws.{both_of}
use Rattle.ck_model.proofs.ValueLaws.{get-values_of, get-cells_on}
use Rattle.ck_model.proofs.StreamLaws.{find-changed, is_sorted-changed}
use Rattle.ck_chain.specs.Order.{is_after, is_before, is_behind}
use Rattle.ck_chain.proofs.ColumnLaws.{same_or_other}
use Rattle.ck_chain.proofs.KeyOrderLaws.{after-trans, same_or_before}
use Rattle.ck_changed.specs.Difference.{version, values_differ, value_from, differs_at, IsNextDifference}
use Rattle.ck_changed.specs.Compare.{cells_from, content_on, rest_after}

of_true : (b : Bool) → b ≡ true → T b
of_true true h = tt
of_true false h = cc

-- ---- lists in order, from a key on

find-rest : {X : Type 0} (after : Option Key) (q : Key) (es : List (Key × X)) → find key_cmp q (rest_after after es) ≡ cond (is_after after q) (find key_cmp q es) None
find-rest after q es = find-where_key key_cmp (is_after after) q (λ x tied. ap (is_after after) (sym (key_cmp_exact q x tied))) es

sorted-rest : {X : Type 0} (after : Option Key) (es : List (Key × X)) → T (is_sorted key_cmp es) → T (is_sorted key_cmp (rest_after after es))
sorted-rest after es sorted = is_sorted-where_key key_cmp (is_after after) es sorted

below-rest : {X : Type 0} (k : Key) (es : List (Key × X)) → T (below_all key_cmp k (rest_after (Some k) es))
below-rest k [] = tt
below-rest k (e ∷ es) =
    let rest = below-rest k es in
    elim (is_behind k e.0) as (λ b. is_behind k e.0 ≡ b → T (below_all key_cmp k (cond b (e ∷ rest_after (Some k) es) (rest_after (Some k) es)))) [
      | true ↦ λ h. both_of (is_behind k e.0) (below_all key_cmp k (rest_after (Some k) es)) (of_true (is_behind k e.0) h) rest
      | false ↦ λ h. rest
    ] refl

nothing : {Y : Type 0} (b : Bool) (o : Option Y) → (b ≡ true → o ≡ None) → cond b o None ≡ None
nothing true o h = h refl
nothing false o h = refl

-- no entry is behind the key
pub rest-none : {X : Type 0} (after : Option Key) (es : List (Key × X)) → T (is_sorted key_cmp es) → ((q : Key) → is_after after q ≡ true → find key_cmp q es ≡ None) → rest_after after es ≡ []
rest-none after es sorted none =
    same_entries key_cmp key_cmp_total key_cmp_exact (rest_after after es) [] (sorted-rest after es sorted) tt (λ q.
    find-rest after q es ∙ nothing (is_after after q) (find key_cmp q es) (none q))

tied : (k : Key) → eq_by_cmp key_cmp k k ≡ true
tied k = ap is_eq (tied_itself key_cmp_total k)

-- this entry is the first one behind it
pub rest-next : {X : Type 0} (after : Option Key) (k : Key) (x : X) (es : List (Key × X)) → T (is_sorted key_cmp es) → find key_cmp k es ≡ Some x → is_after after k ≡ true
    → ((q : Key) → is_after after q ≡ true → is_before (Some k) q ≡ true → find key_cmp q es ≡ None)
    → rest_after after es ≡ (k, x) ∷ rest_after (Some k) es
rest-next {X} after k x es sorted found at none =
    same_entries key_cmp key_cmp_total key_cmp_exact (rest_after after es) ((k, x) ∷ rest_after (Some k) es) (sorted-rest after es sorted)
    (both_of (below_all key_cmp k (rest_after (Some k) es)) (is_sorted key_cmp (rest_after (Some k) es)) (below-rest k es) (sorted-rest (Some k) es sorted))
    (λ q. find-rest after q es ∙ here q)
  where
    itself : cond (is_after after k) (find key_cmp k es) None ≡ cond (eq_by_cmp key_cmp k k) (Some x) (find key_cmp k (rest_after (Some k) es))
    itself = ap (λ b. cond b (find key_cmp k es) None) at ∙ found ∙ sym (ap (λ (b : Bool). cond b (Some x) (find key_cmp k (rest_after (Some k) es))) (tied k))

    before : (q : Key) → eq_by_cmp key_cmp q k ≡ false → is_behind k q ≡ false → is_after after q ≡ true → find key_cmp q es ≡ None
    before q other level behind =
        elim (is_behind q k) as (λ b. is_behind q k ≡ b → find key_cmp q es ≡ None) [
          | true ↦ λ low. none q behind low
          | false ↦ λ high. absurd (false≢true (sym other ∙ ap (λ z. eq_by_cmp key_cmp z k) (same_or_before q k high level) ∙ tied k))
        ] refl

    later : (q : Key) → eq_by_cmp key_cmp q k ≡ false → cond (is_after after q) (find key_cmp q es) None ≡ cond (is_behind k q) (find key_cmp q es) None
    later q other =
        elim (is_behind k q) as (λ b. is_behind k q ≡ b → cond (is_after after q) (find key_cmp q es) None ≡ cond b (find key_cmp q es) None) [
          | true ↦ λ high. ap (λ b. cond b (find key_cmp q es) None) (after-trans after k q at high)
          | false ↦ λ level. nothing (is_after after q) (find key_cmp q es) (before q other level)
        ] refl

    here : (q : Key) → cond (is_after after q) (find key_cmp q es) None ≡ cond (eq_by_cmp key_cmp q k) (Some x) (find key_cmp q (rest_after (Some k) es))
    here q = elim (same_or_other q k) [
      | inl same ↦ subst (λ z. cond (is_after after z) (find key_cmp z es) None ≡ cond (eq_by_cmp key_cmp z k) (Some x) (find key_cmp z (rest_after (Some k) es))) (sym same) itself
      | inr other ↦ later q other ∙ sym (find-rest (Some k) q es) ∙ sym (ap (λ (b : Bool). cond b (Some x) (find key_cmp q (rest_after (Some k) es))) other)
    ]

-- ---- the checkpoints' maps

stamp_is : (store : Store) (h : Held) → (cell_on store h).stamp ≡ version h
stamp_is store Absent = refl
stamp_is store (Plain stamp small) = refl
stamp_is store (Extent stamp block) = refl
stamp_is store (Mark stamp) = refl

-- cells differ where the values do, whatever the data blocks hold
pub differs_on : (s r : Store) (x y : Option Held) → differs (option_map (cell_on s) x) (option_map (cell_on r) y) ≡ values_differ x y
differs_on s r None None = refl
differs_on s r None (Some y) = refl
differs_on s r (Some x) None = refl
differs_on s r (Some x) (Some y) = λ i. not (nat_eq (stamp_is s x i) (stamp_is r y i))

get_checkpoint : (s : Store) (t : Table) (fs : ℕ) (q : Key) → nat_eq fs 0 ≡ false → map.get (cells_on s (values_of t fs)) q ≡ option_map (cell_on s) (value_of t fs q)
get_checkpoint s t fs q some =
    get-cells_on s (values_of t fs) q
    ∙ ap (option_map (cell_on s)) (get-values_of t fs q ∙ ap (λ (b : Bool). cond b (present (column t q 0)) (value_of t fs q)) some)

get_from : (s : Store) (t : Table) (from : ℕ) (q : Key) → map.get (cells_from s t from) q ≡ option_map (cell_on s) (value_from t from q)
get_from s t from q =
    elim (nat_eq from 0) as (λ b. nat_eq from 0 ≡ b → map.get (cond b map.empty (cells_on s (values_of t from))) q ≡ option_map (cell_on s) (cond b None (value_of t from q))) [
      | true ↦ λ _. map.get-empty key_cmp q
      | false ↦ λ some. get_checkpoint s t from q some
    ] refl

differs_is : (s r : Store) (t : Table) (from to : ℕ) (q : Key) → nat_eq to 0 ≡ false → differs (map.get (cells_from s t from) q) (map.get (cells_on r (values_of t to)) q) ≡ differs_at t from to q
differs_is s r t from to q some =
    (λ i. differs (get_from s t from q i) (get_checkpoint r t to q some i)) ∙ differs_on s r (value_from t from q) (value_of t to q)

find_changed_at : (s r : Store) (t : Table) (from to : ℕ) (q : Key) (d : Bool) → nat_eq to 0 ≡ false → differs_at t from to q ≡ d
    → find key_cmp q (changed (cells_from s t from) (cells_on r (values_of t to))) ≡ (if d then Some (content_on r (value_of t to q)) else None)
find_changed_at s r t from to q d some is =
    find-changed (cells_from s t from) (cells_on r (values_of t to)) q
    ∙ (λ i. if (differs_is s r t from to q some ∙ is) i then Some (option_map (λ (cell : Cell). cell.payload) (get_checkpoint r t to q some i)) else None)

-- The next difference is the head of what changed, behind the key.
pub next_changed : (s r : Store) (t : Table) (from to : ℕ) (after : Option Key) (next : Option (Key × Option Held)) → nat_eq to 0 ≡ false → IsNextDifference t from to after next
    → MatchOption next (rest_after after (changed (cells_from s t from) (cells_on r (values_of t to))) ≡ [])
    (λ d. rest_after after (changed (cells_from s t from) (cells_on r (values_of t to))) ≡ (d.0, content_on r d.1) ∷ rest_after (Some d.0) (changed (cells_from s t from) (cells_on r (values_of t to))))
next_changed s r t from to after None some is =
    rest-none after (changed (cells_from s t from) (cells_on r (values_of t to))) (is_sorted-changed (cells_from s t from) (cells_on r (values_of t to))) (λ q behind.
    find_changed_at s r t from to q false some (is.between q behind refl))
next_changed s r t from to after (Some d) some is =
    rest-next after d.0 (content_on r d.1) (changed (cells_from s t from) (cells_on r (values_of t to))) (is_sorted-changed (cells_from s t from) (cells_on r (values_of t to)))
    (find_changed_at s r t from to d.0 true some is.differs ∙ ap (λ o. Some (content_on r o)) (sym is.value))
    is.behind (λ q behind before. find_changed_at s r t from to q false some (is.between q behind before))
