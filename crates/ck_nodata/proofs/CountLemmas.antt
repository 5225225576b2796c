-- How many data blocks are left to strip, once one of them is a mark.
use Rattle.std.proofs.Common.{◌≡◌, ℕ, ◌+◌, ◌-◌, Bool, true, false, cond, ◌&&◌, Option, None, IsSome, refl, sym, ap, subst, ◌∙◌, arith}
use Rattle.std.specs.Ordering.{eq_by_cmp}
use Rattle.std.specs.FinMap as map
use Rattle.ck_model.specs.declared.key.Key.{Key}
use Rattle.ck_model.specs.declared.held.Held.{Held}
use Rattle.ck_model.specs.Key.{entry_cmp, entry_cmp_exact, entry_cmp_total}
use Rattle.ck_model.specs.Table.{Table, Entries, column, with_entry}
use Rattle.ck_chain.proofs.ColumnLaws.{get-with_entry}
use Rattle.ck_chain.proofs.CountLaws.{some_entry}
use Rattle.ck_nodata.specs.StripItem.{drops_data, is_extent, is_unstripped, unstripped_count}

-- the entries that are left to strip
abbrev pub unstripped : Table → Entries
unstripped t = map.retain_keys t.entries (λ entry. is_unstripped t entry.0 entry.1)

pub get-unstripped : (t : Table) (e : ℕ × Key) → map.get (unstripped t) e ≡ cond (is_unstripped t e.0 e.1) (map.get t.entries e) None
get-unstripped t e = map.get-retain_keys t.entries (λ entry. is_unstripped t entry.0 entry.1) e (λ x tied. ap (λ (entry : ℕ × Key). is_unstripped t entry.0 entry.1) (sym (entry_cmp_exact e x tied)))

-- of an entry that is no data block
one_left_out : (drops b : Bool) (w o : Option Held) → is_extent w ≡ false → cond (drops && is_extent (cond b w o)) (cond b w o) None ≡ cond b None (cond (drops && is_extent o) o None)
one_left_out true true w o none = ap (λ (x : Bool). cond x w None) none
one_left_out false true w o none = refl
one_left_out drops false w o none = refl

unstripped-with_entry : (t : Table) (f : ℕ) (key : Key) (w : Option Held) → is_extent w ≡ false → unstripped (with_entry t f key w) ≡ map.remove (unstripped t) (f, key)
unstripped-with_entry t f key w none =
    let u = with_entry t f key w in
    map.same_map entry_cmp_total entry_cmp_exact (unstripped u) (map.remove (unstripped t) (f, key)) (λ e.
    get-unstripped u e
    ∙ ap (λ (o : Option Held). cond (drops_data t e.0 && is_extent o) o None) (get-with_entry t f key w e)
    ∙ one_left_out (drops_data t e.0) (eq_by_cmp entry_cmp e (f, key)) w (map.get t.entries e) none
    ∙ sym (map.get-remove entry_cmp_total (unstripped t) (f, key) e ∙ ap (λ (o : Option Held). cond (eq_by_cmp entry_cmp e (f, key)) None o) (get-unstripped t e)))

-- where the entry of one is no data block any more, one fewer is left
pub one_fewer : (t : Table) (f : ℕ) (key : Key) (w : Option Held) → is_unstripped t f key ≡ true → IsSome (column t key f) → is_extent w ≡ false → unstripped_count (with_entry t f key w) + 1 ≡ unstripped_count t
one_fewer t f key w left held none =
    let m = unstripped t in
    let some : IsSome (map.get m (f, key)) = subst IsSome (sym (get-unstripped t (f, key) ∙ ap (λ (b : Bool). cond b (column t key f) None) left)) held in
    let least = some_entry m (f, key) some in
    let less : map.len (map.remove m (f, key)) ≡ map.len m - 1 = map.len-remove entry_cmp_total m (f, key) ∙ ap (λ (b : Bool). cond b (map.len m - 1) (map.len m)) some in
    let new : unstripped_count (with_entry t f key w) ≡ map.len (map.remove m (f, key)) = ap (λ (m : Entries). map.len m) (unstripped-with_entry t f key w none) in
    omega (arith, least, less, new)
