-- The rule holds as the table is made; splitting a pass and joining one keep it; and what it gives at the end.
use Rattle.std.proofs.Common.{◌≡◌, ◌≢◌, ℕ, ◌+◌, ◌^◌, ◌<◌, ◌≤◌, ◌⊎◌, true, false, List, [], ◌∷◌, ◌++◌, length, set, sym, refl, ap, ◌∙◌, subst, inl, inr, ⊎_elim, arith, length-set, length-append, Option, Some, None}
use mathlib.Core.Logic.{dite}
use mathlib.Core.Option.{some, some-injective}
use mathlib.Core.Option as maybe
use mathlib.Core.List.{IsPrefix}
use native.Mathlib.Decide.{ℕ_discrete}
use lib.ListN.{get_elem?}
use Rattle.atomic_table.specs.Table.{State, opening, Splits, Joins, Final, Seen}
use Rattle.atomic_table.proofs.Lists.{at_set, set_here, set_else, at_longer}
use Rattle.ck_turn.specs.declared.view.View.{View}
use Rattle.ck_turn.specs.declared.view.Opening.{Opening}
use Rattle.ck_turn.specs.declared.view.Phase.TheVariants.{Out}
use Rattle.ck_turn.specs.Phase.{has_ticket, is_away, has_all, is_live, is_inside}
use Rattle.ck_turn.specs.Pass.{IsAtRest, longer}
use Rattle.ck_turn.specs.Rule.{bit, how_many, Fits, IsSeen, Role, Slot, Kept, first_view}
use Rattle.ck_turn.specs.Steps.{Mine, after_split, split_off, after_join, spent}
use Rattle.ck_turn.proofs.Lists.{not_both, longer_has, longer_left, longer_right, at_below, at_end, lone}
use Rattle.ck_turn.proofs.Phases.{away_is_live}
use Rattle.ck_turn.proofs.Views.{count_at, count_end, count_two, one_view, holds_set, seen_set}
use Rattle.ck_turn.proofs.Rests.{rests_outside}
use Rattle.ck_turn.proofs.Turns.{slot_set}

module _ {E O : Type 0} where
  module _ {T : Type 0} (entries : T → List E) (origin_of : T → O) (key : Opening T) where
    abbrev St : Type 0
    St = State (Option T) (View E O)

    abbrev K : St → Type 0
    K s = Kept entries origin_of key s

    abbrev from : O
    from = origin_of key.value

    abbrev Homes : Type 0
    Homes = List (maybe.Option (Option T))

    -- one view more, which does not have the value out
    slot_snoc : (homes : Homes) (longest : List E) (l : List (View E O)) (w : View E O) → is_away w.phase ≡ false
        → Slot entries origin_of from homes longest l → Slot entries origin_of from homes longest (l ++ w ∷ [])
    slot_snoc homes longest l w a = ⊎_elim
        (λ h. inl (h.0, h.1, h.2, h.3, λ j u e. ⊎_elim (λ t. h.4 j u t) (λ t. ap (λ (y : View E O). is_away y.phase) (sym t.1) ∙ a) (at_end l w u j e)))
        (λ o. inr (o.0, o.1, at_longer l (w ∷ []) o.0 o.1 o.2, o.3, o.4))

    -- the first pass is the one with the number 0
    first_is : (s : St) (r : K s) (id : ℕ) (v : View E O) → get_elem? s.views id ≡ some v → v.first ≡ true → id ≡ 0
    first_is s r id v at f = dite (ℕ_discrete id 0) (λ e. e) (λ ne. absurd (not_both v.first f ((r.roles id v at).other_pass ne)))

    pub splits : (id : ℕ) (v : View E O) → v.first ≡ true → v.phase ≡ Out → v.splits < key.callers → Splits K id v (after_split v) (split_off v)
    splits id v one st room s r at =
        let w : View E O = after_split v in
        let g : View E O = split_off v in
        let l : List (View E O) = set s.views id w in
        let f = r.each id v at in
        let zero_is = first_is s r id v at one in
        let b = (r.roles id v at).first_pass zero_is in
        let made : ℕ = length s.views in
        let live : ℕ = how_many is_live s.views in
        let made_is : made ≡ 1 + v.splits = b.2 in
        let live_is : live + v.joins ≡ made = b.3 in
        let long : length (l ++ g ∷ []) ≡ made + 1 = length-append l (g ∷ []) ∙ ap (λ (k : ℕ). k + 1) (length-set s.views id w) in
        let lives : how_many is_live (l ++ g ∷ []) ≡ live + 1 = (let a = count_end is_live l g in let c = count_at is_live s.views id v w at in omega arith) in
        let F : ℕ → (View E O) → Type 0 = Fits r.served r.queue r.longest from in
        let fits : F id w = record { queued = f.queued; turn = f.turn; begins = f.begins; whole = f.whole; from = f.from } in
        let new_fits : (j : ℕ) → F j g = λ j. record {
          queued = λ h. absurd (not_both false h refl);
          turn = λ h. absurd (not_both false h refl);
          begins = f.begins;
          whole = λ h. absurd (not_both false h refl);
          from = λ _. f.from (ap is_live st);
        } in
        let role : Role (made + 1) (live + 1) id w = record {
          first_pass = λ _. (one, b.1, (let e : made + 1 ≡ 1 + (v.splits + 1) = omega arith in e), (let e : live + 1 + v.joins ≡ made + 1 = omega arith in e));
          other_pass = λ n. absurd (n zero_is);
        } in
        let seen = seen_set r.longest s.views id v w at (λ e. (b.1, e)) r.is_seen in
        record {
          served = r.served;
          queue = r.queue;
          longest = r.longest;
          words_are = r.words_are;
          as_many = (let a = count_end has_ticket l g in let c = count_at has_ticket s.views id v w at in let d = r.as_many in omega arith);
          few = omega arith;
          small = r.small;
          held_by = (λ d j e. let h = holds_set r.served s.views id v w d j at (λ t. (t, refl)) (r.held_by d j e) in (h.0, at_longer l (g ∷ []) j h.0 h.1, h.2, h.3));
          each = (λ j u e. ⊎_elim
              (λ t. ⊎_elim (λ y. subst (λ (z : ℕ × (View E O)). F z.0 z.1) (λ k. (sym y.0 k, y.1 k)) fits) (λ y. r.each j u y.1) (at_set s.views id j w u t))
              (λ t. subst (F j) t.1 (new_fits j))
              (at_end l g u j e));
          is_seen = (seen.0, seen.1, at_longer l (g ∷ []) seen.0 seen.1 seen.2, seen.3, seen.4);
          some_view = omega arith;
          roles = (λ j u e. subst (λ (z : ℕ × ℕ). Role z.0 z.1 j u) (λ k. (sym long k, sym lives k)) (⊎_elim
              (λ t. ⊎_elim (λ y. subst (λ (z : ℕ × (View E O)). Role (made + 1) (live + 1) z.0 z.1) (λ k. (sym y.0 k, y.1 k)) role)
              (λ y. record { first_pass = λ z. absurd (y.0 (z ∙ sym zero_is)); other_pass = (r.roles j u y.1).other_pass }) (at_set s.views id j w u t))
              (λ t. record {
                first_pass = λ z. let some_view = r.some_view in let there : j ≡ made = t.0 ∙ length-set s.views id w in absurd (omega arith);
                other_pass = λ _. ap (λ (y : View E O). y.first) (sym t.1);
              })
              (at_end l g u j e)));
          slot = slot_snoc s.homes r.longest l g refl (slot_set entries origin_of key s.homes r.longest s.views id v w at (ap is_away st) (ap is_away st) r.slot);
        }

    -- the longest list is still seen: whoever had seen it is the first pass, or was joined into it, or is as before
    still_seen : (longest : List E) (l : List (View E O)) (id : ℕ) (v : View E O) (other : ℕ) (u : View E O) → get_elem? l id ≡ some v → is_live v.phase ≡ true → other ≢ id
        → get_elem? l other ≡ some u → IsPrefix v.seen longest → IsPrefix u.seen longest → IsSeen longest l → IsSeen longest (set (set l id (after_join v u)) other spent)
    still_seen longest l id v other u at live apart was left right h =
        let w : View E O = after_join v u in
        let here : get_elem? (set (set l id w) other spent) id ≡ some w = set_else (set l id w) other id spent (λ e. apart (sym e)) ∙ set_here l id w (at_below l id v at) in
        dite (ℕ_discrete h.0 id)
        (λ e. let sees : v.seen ≡ longest = ap (λ (y : View E O). y.seen) (one_view l id h.0 v h.1 (sym e) at h.2) ∙ h.4 in
        (id, w, here, live, subst (λ xs. longer xs u.seen ≡ longest) (sym sees) (longer_left u.seen longest right)))
        (λ ne. dite (ℕ_discrete h.0 other)
        (λ e. let sees : u.seen ≡ longest = ap (λ (y : View E O). y.seen) (one_view l other h.0 u h.1 (sym e) was h.2) ∙ h.4 in
        (id, w, here, live, subst (λ xs. longer v.seen xs ≡ longest) (sym sees) (longer_right v.seen longest left)))
        (λ no. (h.0, h.1, set_else (set l id w) other h.0 spent no ∙ (set_else l id h.0 w ne ∙ h.2), h.3, h.4)))

    pub joins : (id : ℕ) (v : View E O) (other : ℕ) (u : View E O) → v.first ≡ true → v.phase ≡ Out → u.first ≡ false → u.phase ≡ Out
        → Joins K id v other u (after_join v u) spent
    joins id v other u one st two su s r at apart at_other =
        let w : View E O = after_join v u in
        let l : List (View E O) = set s.views id w in
        let l2 : List (View E O) = set l other spent in
        let was : get_elem? s.views other ≡ some u = sym (set_else s.views id other w apart) ∙ at_other in
        let f = r.each id v at in
        let fo = r.each other u was in
        let zero_is = first_is s r id v at one in
        let b = (r.roles id v at).first_pass zero_is in
        let made : ℕ = length s.views in
        let live : ℕ = how_many is_live s.views in
        let made_is : made ≡ 1 + v.splits = b.2 in
        let live_is : live + v.joins ≡ made = b.3 in
        let long : length l2 ≡ made = length-set l other spent ∙ length-set s.views id w in
        let less : ℕ = how_many is_live l2 in
        let lives : less + 1 ≡ live =
        (let a = count_at is_live l other u spent at_other in
        let c = count_at is_live s.views id v w at in
        let d : bit (is_live u.phase) ≡ 1 = ap (λ p. bit (is_live p)) su in
        omega arith) in
        let F : ℕ → (View E O) → Type 0 = Fits r.served r.queue r.longest from in
        let fits : F id w = record {
          queued = f.queued;
          turn = f.turn;
          begins = longer_has (λ xs. IsPrefix xs r.longest) v.seen u.seen f.begins fo.begins;
          whole = λ h. absurd (not_both (has_all v.phase) h (ap has_all st));
          from = f.from;
        } in
        let no_more : F other spent = record {
          queued = λ h. absurd (not_both false h refl);
          turn = λ h. absurd (not_both false h refl);
          begins = (r.longest, refl);
          whole = λ h. absurd (not_both false h refl);
          from = λ h. absurd (not_both false h refl);
        } in
        let role : Role made less id w = record {
          first_pass = λ _. (one, b.1, made_is, (let e : less + (v.joins + 1) ≡ made = omega arith in e));
          other_pass = λ n. absurd (n zero_is);
        } in
        let gone : Role made less other spent = record { first_pass = λ z. absurd (apart (z ∙ sym zero_is)); other_pass = λ _. refl } in
        record {
          served = r.served;
          queue = r.queue;
          longest = r.longest;
          words_are = r.words_are;
          as_many =
              (let a = count_at has_ticket l other u spent at_other in
              let c = count_at has_ticket s.views id v w at in
              let d : bit (has_ticket u.phase) ≡ 0 = ap (λ p. bit (has_ticket p)) su in
              let e = r.as_many in
              omega arith);
          few = (let a = r.few in omega arith);
          small = r.small;
          held_by = (λ d j e. holds_set r.served l other u spent d j at_other (λ t. absurd (not_both (has_ticket u.phase) t (ap has_ticket su)))
              (holds_set r.served s.views id v w d j at (λ t. (t, refl)) (r.held_by d j e)));
          each = (λ j x e. ⊎_elim
              (λ y. subst (λ (z : ℕ × (View E O)). F z.0 z.1) (λ k. (sym y.0 k, y.1 k)) no_more)
              (λ y. ⊎_elim (λ z. subst (λ (z : ℕ × (View E O)). F z.0 z.1) (λ k. (sym z.0 k, z.1 k)) fits) (λ z. r.each j x z.1) (at_set s.views id j w x y.1))
              (at_set l other j spent x e));
          is_seen = still_seen r.longest s.views id v other u at b.1 apart was f.begins fo.begins r.is_seen;
          some_view = (let a = r.some_view in omega arith);
          roles = (λ j x e. subst (λ (z : ℕ). Role z less j x) (sym long) (⊎_elim
              (λ y. subst (λ (z : ℕ × (View E O)). Role made less z.0 z.1) (λ k. (sym y.0 k, y.1 k)) gone)
              (λ y. ⊎_elim (λ z. subst (λ (z : ℕ × (View E O)). Role made less z.0 z.1) (λ k. (sym z.0 k, z.1 k)) role)
              (λ z. record { first_pass = λ h. absurd (z.0 (h ∙ sym zero_is)); other_pass = (r.roles j x z.1).other_pass }) (at_set s.views id j w x y.1))
              (at_set l other j spent x e)));
          slot = slot_set entries origin_of key s.homes r.longest l other u spent at_other (ap is_away su) refl
              (slot_set entries origin_of key s.homes r.longest s.views id v w at (ap is_away st) (ap is_away st) r.slot);
        }

    -- once the first pass is the only one left, what was taken out of the slot is a value whose entries it has seen
    pub ends : (id : ℕ) (me : Mine E O T) (ws : List ℕ) (xs : List (Option T)) (taken : Option T) → IsAtRest me → is_inside me.0.phase ≡ false
        → me.0.first ≡ true → me.0.joins ≡ me.0.splits → Final (Seen K id me.0) ws xs → get_elem? xs 0 ≡ some taken
        → (x : T) × (taken ≡ Some x) × (origin_of x ∷ [] ≡ me.0.origin) × (entries x ≡ me.0.seen)
    ends id me ws xs taken rest out one even fin found =
        let v : View E O = me.0 in
        let st = (rests_outside me rest out).0 in
        let s = fin.0 in
        let r = fin.1.0 in
        let at = fin.1.1 in
        let f = r.each id v at in
        let zero_is = first_is s r id v at one in
        let b = (r.roles id v at).first_pass zero_is in
        let live : ℕ = how_many is_live s.views in
        let made : ℕ = length s.views in
        let made_is : made ≡ 1 + v.splits = b.2 in
        let live_is : live + v.joins ≡ made = b.3 in
        let only : (j : ℕ) (u : View E O) → get_elem? s.views j ≡ some u → is_live u.phase ≡ true → v ≡ u = λ j u e t. dite (ℕ_discrete id j)
        (λ same. one_view s.views id j v u same at e)
        (λ ne. let two = count_two is_live s.views id j v u ne at e (ap is_live st) t in absurd (omega arith)) in
        let h = r.is_seen in
        let sees : v.seen ≡ r.longest = ap (λ (y : View E O). y.seen) (only h.0 h.1 h.2 h.3) ∙ h.4 in
        ⊎_elim
        (λ h. let lies = fin.4 0 (Some h.0) (ap (λ (hs : Homes). get_elem? hs 0) h.1) in
        (h.0, some-injective taken (Some h.0) (sym found ∙ lies), ap (λ (o : O). o ∷ []) h.3 ∙ sym (f.from (ap is_live st)), h.2 ∙ sym sees))
        (λ o. let same : v ≡ o.1 = only o.0 o.1 o.2 (away_is_live o.1.phase o.3) in
        absurd (not_both (is_away v.phase) (ap (λ (y : View E O). is_away y.phase) same ∙ o.3) (ap is_away st)))
        r.slot

  -- the table as it is made, with no value in the slot
  pub opens : {T : Type 0} (entries : T → List E) (origin_of : T → O) (value : T) (callers : ℕ) → callers < 2 ^ 32
      → Kept entries origin_of record { value = value; callers = callers } (opening (1 ∷ 0 ∷ 0 ∷ []) (None ∷ []) (first_view (origin_of value)))
  opens {T} entries origin_of value callers small =
      let w : View E O = first_view (origin_of value) in
      let mine : Fits 0 (0 ∷ []) [] (origin_of value) 0 w = record { queued = λ _. (0, refl, refl); turn = λ _. refl; begins = ([], refl); whole = λ _. refl; from = λ _. refl } in
      record {
        served = 0;
        queue = 0 ∷ [];
        longest = [];
        words_are = refl;
        as_many = refl;
        few = omega arith;
        small = small;
        held_by = (λ d j e. let y = lone 0 j d e in (w, ap (λ (k : ℕ). get_elem? (w ∷ []) k) (sym y.1), refl, (let a : d ≡ 0 = y.0 in let b : 0 ≡ 0 + d = omega arith in b)));
        each = (λ j v e. let is = lone w v j e in subst (λ (z : ℕ × (View E O)). Fits 0 (0 ∷ []) [] (origin_of value) z.0 z.1) (λ k. (sym is.0 k, is.1 k)) mine);
        is_seen = (0, w, refl, refl, refl);
        some_view = omega arith;
        roles = (λ j v e. let is = lone w v j e in
            subst (λ (z : ℕ × (View E O)). Role 1 1 z.0 z.1) (λ k. (sym is.0 k, is.1 k)) (record { first_pass = λ _. (refl, refl, refl, refl); other_pass = λ n. absurd (n refl) }));
        slot = inr (0, w, refl, refl, refl);
      }
