-- An edit of the slots and their order is the edit of the entries.
use Rattle.std.proofs.Common.{◌≡◌, ℕ, ◌+◌, ◌<◌, true, List, [], ◌∷◌, ◌++◌, length, length-append, get_or, set, sym, ap, subst, ◌∙◌, arith, inl, inr, Some}
use Rattle.std.proofs.lemmas.List.{length-set}
use Rattle.std.specs.List.{insert, remove}
use Rattle.std.specs.FinMap.{is_sorted}
use Rattle.std.specs.FinMap as map
use Rattle.ck_model.specs.declared.key.Key.{Key}
use Rattle.ck_model.specs.declared.held.Held.{Held}
use Rattle.ck_model.specs.Key.{entry_cmp, entry_cmp_total, entry_cmp_exact}
use Rattle.ck_model.specs.Ordered.{IsFoundAt, IsGapAt, Edits}
use Rattle.ck_model.proofs.PlaceLaws.{set_found, set_gap, unset_found, get_found}
use Rattle.ck_slots.specs.declared.slot.Slot.{Slot}
use Rattle.ck_slots.specs.Arranged.{arranged, entries_of, entry_of, entry_in, no_slot, StandOnce, IsStored}
use Rattle.ck_slots.proofs.ArrangedLemmas.{length-arranged, get_or-arranged, arranged-insert, arranged-remove, arranged-set_absent, arranged-set_once, arranged-push, entry_in-set, entry_in-pushed}
use Rattle.ck_slots.proofs.OnceLemmas.{in_range, never_twice, free_is_apart, free_is_below, once_taken, once_new, once_freed}

module _ (slots : List Slot) (order free : List ℕ) (sorted : is_sorted entry_cmp (arranged slots order) ≡ true) (once : StandOnce (length slots) order free) where
  -- the slot that a search came to, as it is read
  module _ (key : ℕ × Key) (at number : ℕ) (found : IsFoundAt entry_cmp key (arranged slots order) at) (number_is : number ≡ get_or order at 0) where
    within : at < length order
    within = omega (arith, found.within, length-arranged slots order)

    number_at : number ≡ get_or order at 0
    number_at = number_is

    pub number_in_range : number < length slots
    number_in_range = subst (λ n. n < length slots) (sym number_at) (in_range (length slots) order free once at within)

    module _ (slot : Slot) (slot_is : slot ≡ get_or slots number slot) where
      read : (d : (ℕ × Key) × Held) → get_or (arranged slots order) at d ≡ entry_of slot
      read d = get_or-arranged slots order at d slot within (in_range (length slots) order free once at within) (subst (λ n. slot ≡ get_or slots n slot) number_at slot_is)

      pub held_there : Some slot.held ≡ map.get (entries_of slots order) key
      held_there = get_found entry_cmp_total entry_cmp_exact key (arranged slots order) at (entry_of slot) found (sym (read (entry_of slot))) sorted

      pub put_in_place : (held : Held) → Edits entry_cmp (arranged (set slots number (record { fileset = slot.fileset; key = slot.key; held = held })) order) (map.insert (entries_of slots order) key held)
      put_in_place held =
          let new : Slot = record { fileset = slot.fileset; key = slot.key; held = held } in
          let inside = in_range (length slots) order free once at within in
          let few = never_twice (length slots) order free once (get_or order at 0) in
          let is : arranged (set slots number new) order ≡ set (arranged slots order) at (entry_of new) =
          ap (λ n. arranged (set slots n new) order) number_at ∙ arranged-set_once slots order at new within inside few in
          subst (λ es. Edits entry_cmp es (map.insert (entries_of slots order) key held)) (sym is) (set_found entry_cmp_total entry_cmp_exact key held (arranged slots order) at (entry_of slot) found (sym (read (entry_of slot))) sorted)

  pub taken_out : (key : ℕ × Key) (at : ℕ) → IsFoundAt entry_cmp key (arranged slots order) at → Edits entry_cmp (arranged slots (remove order at)) (map.remove (entries_of slots order) key)
  taken_out key at found =
      subst (λ es. Edits entry_cmp es (map.remove (entries_of slots order) key)) (sym (arranged-remove slots order at))
      (unset_found entry_cmp_total entry_cmp_exact key (arranged slots order) at (entry_of no_slot) found sorted)

  pub once_taken_out : (key : ℕ × Key) (at number : ℕ) → IsFoundAt entry_cmp key (arranged slots order) at → number ≡ get_or order at 0 → StandOnce (length slots) (remove order at) (free ++ number ∷ [])
  once_taken_out key at number found is =
      let inside : at < length order = omega (arith, found.within, length-arranged slots order) in
      subst (λ n. StandOnce (length slots) (remove order at) (free ++ n ∷ [])) (sym is) (once_freed (length slots) order free at inside once)

  module _ (new_slots : List Slot) (new_free : List ℕ) (number at : ℕ) (slot : Slot) (stored : IsStored slots free new_slots new_free number slot) where
    kept : arranged new_slots order ≡ arranged slots order
    kept = elim stored [
      | inl again ↦ ap (λ ss. arranged ss order) again.1 ∙ arranged-set_absent slots order number slot (free_is_apart (length slots) order free new_free number once again.0)
      | inr fresh ↦ ap (λ ss. arranged ss order) fresh.3 ∙ arranged-push slots order slot (in_range (length slots) order free once)
    ]

    there : entry_in new_slots number ≡ entry_of slot
    there = elim stored [
      | inl again ↦ ap (λ ss. entry_in ss number) again.1 ∙ entry_in-set slots number slot (free_is_below (length slots) order free new_free number once again.0)
      | inr fresh ↦ ap (λ ss. entry_in ss number) fresh.3 ∙ ap (entry_in (slots ++ slot ∷ [])) fresh.2 ∙ entry_in-pushed slots slot
    ]

    pub put_new : IsGapAt entry_cmp (slot.fileset, slot.key) (arranged slots order) at → Edits entry_cmp (arranged new_slots (insert order at number)) (map.insert (entries_of slots order) (slot.fileset, slot.key) slot.held)
    put_new gap =
        let key : ℕ × Key = (slot.fileset, slot.key) in
        let is : arranged new_slots (insert order at number) ≡ insert (arranged slots order) at (key, slot.held) =
        arranged-insert new_slots order at number ∙ ap (λ es. insert es at (entry_in new_slots number)) kept ∙ ap (insert (arranged slots order) at) there in
        subst (λ es. Edits entry_cmp es (map.insert (entries_of slots order) key slot.held)) (sym is) (set_gap entry_cmp_total entry_cmp_exact key slot.held (arranged slots order) at gap sorted)

    pub once_put : StandOnce (length new_slots) (insert order at number) new_free
    once_put = elim stored [
      | inl again ↦ subst (λ n. StandOnce n (insert order at number) new_free) (sym (ap length again.1 ∙ length-set slots number slot)) (once_taken (length slots) order free new_free number at once again.0)
      | inr fresh ↦
          let longer : length new_slots ≡ length slots + 1 = ap length fresh.3 ∙ length-append slots (slot ∷ []) in
          subst (λ n. StandOnce n (insert order at number) new_free) (sym longer)
          (subst (λ n. StandOnce (length slots + 1) (insert order at n) new_free) (sym fresh.2)
          (subst (λ fs. StandOnce (length slots + 1) (insert order at (length slots)) fs) (fresh.0 ∙ sym fresh.1) (once_new (length slots) order free at once)))
    ]
