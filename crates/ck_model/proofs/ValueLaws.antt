-- What a fileset's map of values has at each key.
use Rattle.std.proofs.Common.{◌≡◌, ℕ, Bool, true, false, cond, ◌||◌, Option, Some, None, List, [], ◌∷◌, map as list_map, nat_eq, refl, sym, ap, ◌∙◌}
use Rattle.std.specs.Ordering.{eq_by_cmp, is_eq}
use Rattle.std.specs.Option.{option_or, option_map}
use Rattle.std.specs.FinMap.{find}
use Rattle.std.specs.FinMap as map
use mathlib.Core.Bool.{false≢true}
use Rattle.std.proofs.lemmas.Cmp.{tied_itself}
use Rattle.ck_model.specs.declared.key.Key.{Key}
use Rattle.ck_model.specs.declared.held.Held.{Held}
use Rattle.ck_model.specs.Key.{key_cmp, entry_cmp, key_cmp_total, entry_cmp_exact}
use Rattle.ck_model.specs.Table.{Table, column, newer}
use Rattle.ck_model.specs.Chain.{first_entry, present, value_of, value_at}
use Rattle.ck_model.specs.Values.{Store, Values, cell_on, cells_on}
use Rattle.ck_model.specs.TableWorld.{keys_of, with_value, valued, values_of, is_among}
use Rattle.ck_model.proofs.CellLaws.{tied-is, equal, find-values}

-- entries whose filesets and keys tie are one
pub tied_entry : (x y : ℕ × Key) → eq_by_cmp entry_cmp x y ≡ true → x ≡ y
tied_entry x y h = entry_cmp_exact x y (equal (entry_cmp x y) h)

true_or_rest : {X : Type 0} (b c : Bool) (o : Option X) → o ≡ None → cond c o None ≡ cond (b || c) o None
true_or_rest true true o h = refl
true_or_rest true false o h = sym h
true_or_rest false c o h = refl

find-with_value : (value : Key → Option Held) (q key : Key) (o : Option Held) (c : Bool) (rest : List (Key × Held)) → value key ≡ o → find key_cmp q rest ≡ cond c (value q) None
    → find key_cmp q (with_value key o rest) ≡ cond (eq_by_cmp key_cmp q key || c) (value q) None
find-with_value value q key None c rest none ih =
    elim (eq_by_cmp key_cmp q key) as (λ b. eq_by_cmp key_cmp q key ≡ b → find key_cmp q rest ≡ cond (b || c) (value q) None) [
      | true ↦ λ tied. ih ∙ true_or_rest true c (value q) (ap value (tied-is q key tied) ∙ none)
      | false ↦ λ _. ih
    ] refl
find-with_value value q key (Some held) c rest some ih =
    elim (eq_by_cmp key_cmp q key) as (λ b. eq_by_cmp key_cmp q key ≡ b → cond b (Some held) (find key_cmp q rest) ≡ cond (b || c) (value q) None) [
      | true ↦ λ tied. sym (ap value (tied-is q key tied) ∙ some)
      | false ↦ λ _. ih
    ] refl

pub find-valued : (value : Key → Option Held) (q : Key) (keys : List Key) → find key_cmp q (valued value keys) ≡ cond (is_among q keys) (value q) None
find-valued value q [] = refl
find-valued value q (key ∷ keys) = find-with_value value q key (value key) (is_among q keys) (valued value keys) refl (find-valued value q keys)

apart_or : (b c : Bool) → (b || c) ≡ false → (b ≡ false) × (c ≡ false)
apart_or true c h = cc
apart_or false c h = (refl, h)

key_apart : (fs : ℕ) (q : Key) (e : ℕ × Key) → eq_by_cmp key_cmp q e.1 ≡ false → eq_by_cmp entry_cmp (fs, q) e ≡ false
key_apart fs q e apart =
    elim (eq_by_cmp entry_cmp (fs, q) e) as (λ b. eq_by_cmp entry_cmp (fs, q) e ≡ b → b ≡ false) [
      | true ↦ λ tied. let same : q ≡ e.1 = ap (λ x. x.1) (tied_entry (fs, q) e tied) in
          absurd (false≢true (sym apart ∙ ap (λ k. eq_by_cmp key_cmp k e.1) same ∙ ties e.1))
      | false ↦ λ _. refl
    ] refl
  where
    ties : (k : Key) → eq_by_cmp key_cmp k k ≡ true
    ties k = ap is_eq (tied_itself key_cmp_total k)

-- a key that no entry has is held nowhere
pub not_among : (fs : ℕ) (q : Key) (es : List ((ℕ × Key) × Held)) → is_among q (list_map (λ e. e.0.1) es) ≡ false → find entry_cmp (fs, q) es ≡ None
not_among fs q [] h = refl
not_among fs q (e ∷ es) h =
    let parts = apart_or (eq_by_cmp key_cmp q e.0.1) (is_among q (list_map (λ e. e.0.1) es)) h in
    ap (λ b. cond b (Some e.1) (find entry_cmp (fs, q) es)) (key_apart fs q e.0 parts.0) ∙ not_among fs q es parts.1

-- where no fileset has an entry there is no value
pub no_first_entry : (held : ℕ → Option Held) → ((fs : ℕ) → held fs ≡ None) → (ids : List ℕ) → first_entry held ids ≡ None
no_first_entry held none [] = none 0
no_first_entry held none (id ∷ ids) = ap (λ o. option_or o (first_entry held ids)) (none id) ∙ no_first_entry held none ids

no_value : (t : Table) (fs : ℕ) (q : Key) → ((g : ℕ) → column t q g ≡ None) → value_at t fs q ≡ None
no_value t fs q none =
    elim (nat_eq fs 0) as (λ b. cond b (present (column t q 0)) (value_of t fs q) ≡ None) [
      | true ↦ ap present (none 0)
      | false ↦ ap present (no_first_entry (column t q) none (fs ∷ newer t fs))
    ]

-- a fileset's map has the fileset's value at each key
pub get-values_of : (t : Table) (fs : ℕ) (q : Key) → map.get (values_of t fs) q ≡ value_at t fs q
get-values_of t fs q =
    map.get-from_entries key_cmp_total (valued (value_at t fs) (keys_of t)) q
    ∙ find-valued (value_at t fs) q (keys_of t)
    ∙ elim (is_among q (keys_of t)) as (λ b. is_among q (keys_of t) ≡ b → cond b (value_at t fs q) None ≡ value_at t fs q) [
      | true ↦ λ _. refl
      | false ↦ λ apart. sym (no_value t fs q (λ g. map.get-entries t.entries (g, q) ∙ not_among g q (map.entries t.entries) apart))
    ] refl

-- the cells that a map of values stands for
pub get-cells_on : (store : Store) (values : Values) (q : Key) → map.get (cells_on store values) q ≡ option_map (cell_on store) (map.get values q)
get-cells_on store values q =
    map.get-from_entries key_cmp_total (list_map (λ e. (e.0, cell_on store e.1)) (map.entries values)) q
    ∙ find-values (λ key held. cell_on store held) q (map.entries values)
    ∙ ap (option_map (cell_on store)) (sym (map.get-entries values q))
