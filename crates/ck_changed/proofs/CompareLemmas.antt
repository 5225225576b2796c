-- A turn's answers, from the next difference.
use Rattle.std.proofs.Common.{◌≡◌, ◌<◌, ◌≤◌, ◌+◌, ℕ, Bool, true, false, ◌&&◌, not, Option, Some, None, IfSome, [], ◌∷◌, nat_eq, if◌then◌else◌, refl, sym, subst, ◌∙◌, arith}
use Rattle.std.proofs.lemmas.Bool.Decides.{nat_tests}
use Rattle.ck_model.specs.declared.key.Key.{Key}
use Rattle.ck_model.specs.declared.held.Held.{Held}
use Rattle.ck_model.specs.Chain.{is_live, is_live_data}
use Rattle.ck_model.specs.Rules.{IsOrderly, IsOwn, block_in}
use Rattle.ck_model.specs.TableWorld.{values_of}
use Rattle.ck_model.specs.Streams.{changed}
use Rattle.ck_model.specs.Table.{Table, IsTable}
use Rattle.ck_model.specs.Values.{Store, cells_on}
use Rattle.ck_model.proofs.CaseLaws.{not_false}
use Rattle.ck_chain.proofs.OrderlyLaws.{positive_id}
use Rattle.ck_changed.specs.declared.compare.Next.{Next}
use Rattle.ck_changed.specs.declared.compare.Next.TheVariants.{Gone, NoData}
use Rattle.ck_changed.specs.Difference.{IsNextDifference}
use Rattle.ck_changed.specs.Compare.{refusal_of, cells_from, content_on, rest_after}
use Rattle.ck_changed.proofs.Fits.{next_changed}
use Rattle.ck_changed.proofs.Kept.{data_stands, own_value}

last_none : (a b c : Bool) (x y z : Next) → (if a then Some x else (if b then Some y else (if c then Some z else None))) ≡ None → c ≡ false
last_none true b c x y z h = cc
last_none false true c x y z h = cc
last_none false false true x y z h = cc
last_none false false false x y z h = refl

-- where nothing is refused the second checkpoint keeps its files
pub goes_on : (t : Table) (from to : ℕ) → refusal_of t from to ≡ None → is_live_data t to ≡ true
goes_on t from to h = not_false (is_live_data t to) (last_none (not (nat_eq from 0) && not (is_live t from)) (not (is_live t to)) (not (is_live_data t to)) (Gone from) (Gone to) (NoData to) h)

some_id : (t : Table) (to : ℕ) → IsTable t → is_live_data t to ≡ true → nat_eq to 0 ≡ false
some_id t to lawful live =
    let above : 0 < to = positive_id t to lawful (data_stands t to live) in
    grind (arith, nat_tests, above)

pub ends : (s r : Store) (t : Table) (from to : ℕ) (after : Option Key) (next : Option (Key × Option Held)) → IsTable t → refusal_of t from to ≡ None → IsNextDifference t from to after next → next ≡ None
    → rest_after after (changed (cells_from s t from) (cells_on r (values_of t to))) ≡ []
ends s r t from to after next lawful goes is none =
    next_changed s r t from to after None (some_id t to lawful (goes_on t from to goes)) (subst (IsNextDifference t from to after) none is)

pub gives : (s r : Store) (t : Table) (from to : ℕ) (after : Option Key) (next : Option (Key × Option Held)) (key : Key) (new : Option Held) → IsTable t → refusal_of t from to ≡ None → IsNextDifference t from to after next → next ≡ Some (key, new)
    → rest_after after (changed (cells_from s t from) (cells_on r (values_of t to))) ≡ (key, content_on r new) ∷ rest_after (Some key) (changed (cells_from s t from) (cells_on r (values_of t to)))
gives s r t from to after next key new lawful goes is some =
    next_changed s r t from to after (Some (key, new)) (some_id t to lawful (goes_on t from to goes)) (subst (IsNextDifference t from to after) some is)

-- what is given can be read
pub readable : (t : Table) (from to : ℕ) (after : Option Key) (next : Option (Key × Option Held)) (key : Key) (new : Option Held) (held : Held) → IsTable t → IsOrderly t → refusal_of t from to ≡ None → IsNextDifference t from to after next → next ≡ Some (key, new) → new ≡ Some held
    → IsOwn held × IfSome (block_in held) (λ block. block < t.blocks)
readable t from to after next key new held lawful orderly goes is some there =
    let given = subst (IsNextDifference t from to after) some is in
    own_value t to key held lawful orderly (goes_on t from to goes) (sym given.value ∙ there)

pub within : (t : Table) (o : Option ℕ) (base size : ℕ) → base + t.blocks ≤ size → IfSome o (λ block. block < t.blocks) → IfSome o (λ block. base + block < size)
within t None base size fits low = tt
within t (Some block) base size fits low = omega arith
