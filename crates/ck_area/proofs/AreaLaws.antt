-- The slots of the same blocks are the same.
use Rattle.std.proofs.Common.{◌≡◌, ℕ, ◌<◌, List, length, Option, Some, None, refl, sym, ap, subst, ◌∙◌}
use Rattle.std.proofs.lemmas.List.{same_lists, get_or_default}
use Rattle.ck_record.specs.declared.records.Record.{Record}
use Rattle.ck_record.proofs.RecordLaws.{same_records}
use Rattle.ck_area.specs.Area.{Blocks, Area, IsReadAs, AreSlots, slot_at, slot_bytes}

-- bytes are read as one thing
pub same_reading : (bytes : List ℕ) (a b : Option Record) → IsReadAs bytes a → IsReadAs bytes b → a ≡ b
same_reading bytes None None is other = refl
same_reading bytes None (Some y) is other = absurd (is y other.1 other.0)
same_reading bytes (Some x) None is other = absurd (other x is.1 is.0)
same_reading bytes (Some x) (Some y) is other = ap Some (same_records x y is.1 other.1 (is.0 ∙ sym other.0))

pub slots_unique : (blocks : Blocks) (a b : Area) → AreSlots blocks a → AreSlots blocks b → a ≡ b
slots_unique blocks a b is other =
    same_lists a b (is.count ∙ sym other.count) (λ slot d within.
    let there : slot < length b = subst (λ n. slot < n) (is.count ∙ sym other.count) within in
    get_or_default a slot d None within
    ∙ same_reading (slot_bytes blocks slot) (slot_at a slot) (slot_at b slot) (is.each slot within) (other.each slot there)
    ∙ sym (get_or_default b slot d None there))
