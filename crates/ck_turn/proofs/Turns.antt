-- Each step of a turn keeps the rule: drawing a ticket, looking at the ticket that is served, taking the value, raising the length, giving the value back, and raising the ticket that is served.
use Rattle.std.proofs.Common.{◌≡◌, ◌≢◌, ℕ, zero, suc, ◌+◌, ◌%◌, ◌^◌, ◌<◌, ◌≤◌, ◌⊎◌, Bool, true, false, List, [], ◌∷◌, ◌++◌, length, get_or, set, drop, sym, refl, ap, ◌∙◌, subst, inl, inr, ⊎_elim, arith, length-set, length-append, Option, Some, None}
use mathlib.Core.Logic.{dite}
use mathlib.Core.Option.{none, some, some-injective}
use mathlib.Core.Option as maybe
use mathlib.Core.List.{IsPrefix}
use native.Mathlib.Decide.{ℕ_discrete}
use lib.ListN.{get_elem?}
use Rattle.atomic_table.specs.Table.{put_back, State, keeps, takes, gives, Allows}
use Rattle.atomic_table.proofs.Lists.{at_set, set_here, set_else, at_longer, at_last, drop_at}
use Rattle.ck_turn.specs.declared.view.View.{View}
use Rattle.ck_turn.specs.declared.view.Opening.{Opening}
use Rattle.ck_turn.specs.declared.view.Phase.TheVariants.{Out, Waiting, Called, Fresh, Inside, Wrote, Gave}
use Rattle.ck_turn.specs.Phase.{has_ticket, has_turn, is_away, has_all, is_live, left_behind}
use Rattle.ck_turn.specs.Rule.{bit, how_many, Fits, Holds, IsSeen, Role, IsHome, Slot, Kept}
use Rattle.ck_turn.specs.Steps.{Mine, held, at_phase, seeing, waiting, DrawsTicket, LooksAtServing, TakesValue, VacatesSlot, RaisesLength, GivesBack, RaisesServing}
use Rattle.ck_turn.proofs.Lists.{head_is, not_both, true_or_false, prefix_self, prefix_trans, at_below, at_end}
use Rattle.ck_turn.proofs.Phases.{turn_has_ticket, away_has_turn, all_has_turn}
use Rattle.ck_turn.proofs.Views.{count_at, count_most, one_view, holds_set, seen_set}

module _ {E O : Type 0} where
  -- who has the turn is the first of the queue
  pub first_of_queue : (served : ℕ) (queue : List ℕ) (longest : List E) (origin : O) (j : ℕ) (v : View E O)
      → Fits served queue longest origin j v → has_turn v.phase ≡ true → get_elem? queue 0 ≡ some j
  first_of_queue served queue longest origin j v f t =
      let q = f.queued (turn_has_ticket v.phase t) in
      let same : v.ticket ≡ served = f.turn t in
      let at : v.ticket ≡ served + q.0 = q.1 in
      let d : ℕ = q.0 in
      let zero_is : d ≡ 0 = omega arith in
      subst (λ (k : ℕ). get_elem? queue k ≡ some j) zero_is q.2

  module _ {T : Type 0} (entries : T → List E) (origin_of : T → O) (key : Opening T) where
    abbrev St : Type 0
    St = State (Option T) (View E O)

    abbrev K : St → Type 0
    K s = Kept entries origin_of key s

    abbrev from : O
    from = origin_of key.value

    abbrev Homes : Type 0
    Homes = List (maybe.Option (Option T))

    -- two that have the turn are one
    one_turn_only : (s : St) (r : K s) (i j : ℕ) (v u : View E O) → get_elem? s.views i ≡ some v → get_elem? s.views j ≡ some u
        → has_turn v.phase ≡ true → has_turn u.phase ≡ true → i ≡ j
    one_turn_only s r i j v u a b tv tu = some-injective i j
        (sym (first_of_queue r.served r.queue r.longest from i v (r.each i v a) tv) ∙ first_of_queue r.served r.queue r.longest from j u (r.each j u b) tu)

    queue_small : (s : St) (r : K s) → length r.queue < 2 ^ 33
    queue_small s r = let a = count_most has_ticket s.views in let b = r.as_many in let c = r.few in let d = r.small in omega arith

    -- what stays of a view at a step of a turn
    abbrev SameRole : View E O → View E O → Type 0
    SameRole v w = (w.first ≡ v.first) × (w.splits ≡ v.splits) × (w.joins ≡ v.joins) × (is_live v.phase ≡ true) × (is_live w.phase ≡ true)

    roles_kept : (s : St) (r : K s) (id : ℕ) (v w : View E O) → get_elem? s.views id ≡ some v → SameRole v w
        → (j : ℕ) (u : View E O) → get_elem? (set s.views id w) j ≡ some u → Role (length (set s.views id w)) (how_many is_live (set s.views id w)) j u
    roles_kept s r id v w at role j u e =
        let made : ℕ = length s.views in
        let live : ℕ = how_many is_live s.views in
        let same_live : how_many is_live (set s.views id w) ≡ live =
        (let a = count_at is_live s.views id v w at in
        let b : bit (is_live v.phase) ≡ 1 = ap bit role.3 in
        let c : bit (is_live w.phase) ≡ 1 = ap bit role.4 in
        omega arith) in
        let o = r.roles id v at in
        let mine : Role made live id w = record {
          first_pass = λ z. let b = o.first_pass z in (role.0 ∙ b.0, role.4, b.2 ∙ ap (λ (k : ℕ). 1 + k) (sym role.1), ap (λ (k : ℕ). live + k) role.2 ∙ b.3);
          other_pass = λ n. role.0 ∙ o.other_pass n;
        } in
        subst (λ (z : ℕ × ℕ). Role z.0 z.1 j u) (λ k. (sym (length-set s.views id w) k, sym same_live k))
        (⊎_elim (λ t. subst (λ (z : ℕ × (View E O)). Role made live z.0 z.1) (λ k. (sym t.0 k, t.1 k)) mine) (λ t. r.roles j u t.1) (at_set s.views id j w u e))

    -- the pass id goes from v to w, and the word i becomes n
    moved : (s : St) (r : K s) (i n id : ℕ) (v w : View E O) (homes : Homes) (served : ℕ) (queue : List ℕ) (longest : List E)
        → get_elem? s.views id ≡ some v → SameRole v w
        → set s.words i n ≡ (served + length queue) % 2 ^ 64 ∷ served % 2 ^ 64 ∷ length longest ∷ []
        → length queue + bit (has_ticket v.phase) ≡ length r.queue + bit (has_ticket w.phase)
        → ((j : ℕ) (u : View E O) → j ≢ id → get_elem? s.views j ≡ some u → Fits r.served r.queue r.longest from j u → Fits served queue longest from j u)
        → Fits served queue longest from id w
        → ((d j : ℕ) → get_elem? queue d ≡ some j → Holds served (set s.views id w) d j)
        → IsSeen longest (set s.views id w)
        → Slot entries origin_of from homes longest (set s.views id w)
        → K record { words = set s.words i n; homes = homes; views = set s.views id w }
    moved s r i n id v w homes served queue longest at role words count others mine holders is_seen slot = record {
      served = served;
      queue = queue;
      longest = longest;
      words_are = words;
      as_many = (let a = count_at has_ticket s.views id v w at in let b = r.as_many in omega arith);
      few = (let a = length-set s.views id w in let b = r.few in omega arith);
      small = r.small;
      held_by = holders;
      each = (λ j u e. ⊎_elim
          (λ t. subst (λ (z : ℕ × (View E O)). Fits served queue longest from z.0 z.1) (λ k. (sym t.0 k, t.1 k)) mine)
          (λ t. others j u t.0 t.1 (r.each j u t.1))
          (at_set s.views id j w u e));
      is_seen = is_seen;
      some_view = (let a = length-set s.views id w in let b = r.some_view in omega arith);
      roles = roles_kept s r id v w at role;
      slot = slot;
    }

    -- a view that changes, and has the value out neither before nor after
    pub slot_set : (homes : Homes) (longest : List E) (l : List (View E O)) (id : ℕ) (v w : View E O) → get_elem? l id ≡ some v
        → is_away v.phase ≡ false → is_away w.phase ≡ false → Slot entries origin_of from homes longest l → Slot entries origin_of from homes longest (set l id w)
    slot_set homes longest l id v w at a b = ⊎_elim
        (λ h. inl (h.0, h.1, h.2, h.3, λ j u e. ⊎_elim (λ t. ap (λ (y : View E O). is_away y.phase) (sym t.1) ∙ b) (λ t. h.4 j u t.1) (at_set l id j w u e)))
        (λ o. let apart : o.0 ≢ id = λ e. not_both (is_away v.phase) (ap (λ (y : View E O). is_away y.phase) (one_view l id o.0 v o.1 (sym e) at o.2) ∙ o.3) a in
        inr (o.0, o.1, set_else l id o.0 w apart ∙ o.2, o.3, o.4))

    -- the value is out with the pass that has the turn, if with any
    slot_mine : (s : St) (r : K s) (id : ℕ) (v : View E O) → get_elem? s.views id ≡ some v
        → has_turn v.phase ≡ true → is_away v.phase ≡ true → s.homes ≡ left_behind v.phase ∷ []
    slot_mine s r id v at t a = ⊎_elim
        (λ h. absurd (not_both (is_away v.phase) a (h.4 id v at)))
        (λ o. let same : id ≡ o.0 = one_turn_only s r id o.0 v o.1 at o.2 t (away_has_turn o.1.phase o.3) in
        o.4 ∙ ap (λ (y : View E O). left_behind y.phase ∷ []) (sym (one_view s.views id o.0 v o.1 same at o.2)))
        r.slot

    slot_home : (s : St) (r : K s) (id : ℕ) (v : View E O) → get_elem? s.views id ≡ some v
        → has_turn v.phase ≡ true → is_away v.phase ≡ false → IsHome entries origin_of from s.homes r.longest s.views
    slot_home s r id v at t a = ⊎_elim
        (λ h. h)
        (λ o. let same : id ≡ o.0 = one_turn_only s r id o.0 v o.1 at o.2 t (away_has_turn o.1.phase o.3) in
        absurd (not_both (is_away v.phase) (ap (λ (y : View E O). is_away y.phase) (one_view s.views id o.0 v o.1 same at o.2) ∙ o.3) a))
        r.slot

    -- nobody else has the value out
    others_home : (s : St) (r : K s) (id : ℕ) (v : View E O) → get_elem? s.views id ≡ some v → has_turn v.phase ≡ true
        → (j : ℕ) (u : View E O) → j ≢ id → get_elem? s.views j ≡ some u → is_away u.phase ≡ false
    others_home s r id v at t j u ne e = true_or_false (is_away u.phase) (λ a. absurd (ne (one_turn_only s r j id u v e at (away_has_turn u.phase a) t)))

    -- as `moved`, where no word changes, and no pass draws a ticket or ends one
    still : (s : St) (r : K s) (id : ℕ) (v w : View E O) (homes : Homes) → get_elem? s.views id ≡ some v → SameRole v w
        → has_ticket v.phase ≡ has_ticket w.phase → w.ticket ≡ v.ticket → Fits r.served r.queue r.longest from id w
        → (v.seen ≡ r.longest → w.seen ≡ r.longest)
        → Slot entries origin_of from homes r.longest (set s.views id w)
        → K record { words = set s.words 1 (get_or s.words 1 0); homes = homes; views = set s.views id w }
    still s r id v w homes at role same kept mine sees slot =
        moved s r 1 (get_or s.words 1 0) id v w homes r.served r.queue r.longest at role
        (ap (λ ws. set ws 1 (get_or ws 1 0)) r.words_are)
        (let e : bit (has_ticket v.phase) ≡ bit (has_ticket w.phase) = ap bit same in omega arith)
        (λ j u _ _ f. f)
        mine
        (λ d j e. holds_set r.served s.views id v w d j at (λ h. (sym same ∙ h, kept)) (r.held_by d j e))
        (seen_set r.longest s.views id v w at (λ e. (role.4, sees e)) r.is_seen)
        slot

    pub draws : (n id : ℕ) (me : Mine E O T) (k : ℕ) → k ≡ 1 → me.0.phase ≡ Out → Allows K n id me 0 (λ x. (x + k) % 2 ^ 64) (DrawsTicket me)
    draws n id me k by st s r _ at _ =
        let t : ℕ = r.served + length r.queue in
        let w : View E O = waiting t me.0 in
        let f = r.each id me.0 at in
        let longer = length-append r.queue (id ∷ []) in
        let next : (t % 2 ^ 64 + k) % 2 ^ 64 ≡ (r.served + length (r.queue ++ id ∷ [])) % 2 ^ 64 = omega arith in (
          w,
          keeps,
          tt,
          moved s r 0 ((get_or s.words 0 0 + k) % 2 ^ 64) id me.0 w s.homes r.served (r.queue ++ id ∷ []) r.longest at (refl, refl, refl, ap is_live st, refl)
              (ap (λ ws. set ws 0 ((get_or ws 0 0 + k) % 2 ^ 64)) r.words_are ∙ ap (λ (z : ℕ). z ∷ r.served % 2 ^ 64 ∷ length r.longest ∷ []) next)
              (let e : bit (has_ticket me.0.phase) ≡ 0 = ap (λ p. bit (has_ticket p)) st in omega arith)
              (λ j u _ _ g. record { queued = λ h. let q = g.queued h in (q.0, q.1, at_longer r.queue (id ∷ []) q.0 j q.2); turn = g.turn; begins = g.begins; whole = g.whole; from = g.from })
              record {
                queued = λ _. (length r.queue, refl, at_last r.queue id (length r.queue) refl);
                turn = λ h. absurd (not_both false h refl);
                begins = f.begins;
                whole = λ h. absurd (not_both false h refl);
                from = λ _. f.from (ap is_live st);
              }
              (λ d j e. ⊎_elim
              (λ y. holds_set r.served s.views id me.0 w d j at (λ h. absurd (not_both (has_ticket me.0.phase) h (ap has_ticket st))) (r.held_by d j y))
              (λ y. (w, ap (λ (k : ℕ). get_elem? (set s.views id w) k) (sym y.1) ∙ set_here s.views id w (at_below s.views id me.0 at), refl, ap (λ (k : ℕ). r.served + k) (sym y.0)))
              (at_end r.queue id j d e))
              (seen_set r.longest s.views id me.0 w at (λ e. (refl, e)) r.is_seen)
              (slot_set s.homes r.longest s.views id me.0 w at (ap is_away st) refl r.slot),
          (refl, (t, ap (λ ws. get_or ws 0 0) r.words_are, refl)),
        )

    pub looks : (n id : ℕ) (me : Mine E O T) → me.0.phase ≡ Waiting → Allows K n id me 1 (λ x. x) (LooksAtServing me)
    looks n id me st s r _ at _ =
        let f = r.each id me.0 at in
        let q = f.queued (ap has_ticket st) in
        let found : get_or s.words 1 0 ≡ r.served % 2 ^ 64 = ap (λ ws. get_or ws 1 0) r.words_are in
        dite (ℕ_discrete (get_or s.words 1 0) (me.0.ticket % 2 ^ 64))
        (λ hit.
        let w : View E O = at_phase Called me.0 in
        let d : ℕ = q.0 in
        let is : me.0.ticket ≡ r.served + d = q.1 in
        let near : d < length r.queue = at_below r.queue d id q.2 in
        let few = queue_small s r in
        let now : me.0.ticket ≡ r.served = omega arith in (
          w,
          keeps,
          tt,
          still s r id me.0 w s.homes at (refl, refl, refl, ap is_live st, refl) (ap has_ticket st) refl
              record { queued = λ _. q; turn = λ _. now; begins = f.begins; whole = λ h. absurd (not_both false h refl); from = λ _. f.from (ap is_live st) }
              (λ e. e)
              (slot_set s.homes r.longest s.views id me.0 w at (ap is_away st) refl r.slot),
          (refl, (λ _. refl), λ miss. absurd (miss hit)),
        ))
        (λ miss. (
          me.0,
          keeps,
          tt,
          still s r id me.0 me.0 s.homes at (refl, refl, refl, ap is_live st, ap is_live st) refl refl f (λ e. e)
              (slot_set s.homes r.longest s.views id me.0 me.0 at (ap is_away st) (ap is_away st) r.slot),
          (refl, (λ hit. absurd (miss hit)), λ _. refl),
        ))

    pub takes_it : (n id : ℕ) (me : Mine E O T) → me.0.phase ≡ Called → Allows K n id me 1 (λ x. x) (λ _ m. TakesValue entries origin_of me m)
    takes_it n id me st s r _ at _ =
        let f = r.each id me.0 at in
        let h = slot_home s r id me.0 at (ap has_turn st) (ap is_away st) in
        let w : View E O = seeing Inside (entries h.0) me.0 in (
          w,
          takes 0 (Some h.0),
          ap (λ (hs : Homes). get_elem? hs 0) h.1,
          still s r id me.0 w (set s.homes 0 none) at (refl, refl, refl, ap is_live st, refl) (ap has_ticket st) refl
              record {
                queued = λ _. f.queued (ap has_ticket st);
                turn = λ _. f.turn (ap has_turn st);
                begins = subst (λ l. IsPrefix (entries h.0) l) h.2 (prefix_self (entries h.0));
                whole = λ _. h.2;
                from = λ _. f.from (ap is_live st);
              }
              (λ _. h.2)
              (inr (id, w, set_here s.views id w (at_below s.views id me.0 at), refl, ap (λ (hs : Homes). set hs 0 none) h.1)),
          (h.0, refl, refl, subst (λ l. IsPrefix me.0.seen l) (sym h.2) f.begins, ap (λ (o : O). o ∷ []) h.3 ∙ sym (f.from (ap is_live st))),
        )

    pub vacates : (n id : ℕ) (me : Mine E O T) → me.0.phase ≡ Fresh → Allows K n id me 1 (λ x. x) (λ _ m. VacatesSlot me m)
    vacates n id me st s r _ at _ =
        let f = r.each id me.0 at in
        let w : View E O = at_phase Wrote me.0 in
        let h : s.homes ≡ some None ∷ [] = slot_mine s r id me.0 at (ap has_turn st) (ap is_away st) ∙ ap (λ p. left_behind p ∷ []) st in (
          w,
          takes 0 None,
          ap (λ (hs : Homes). get_elem? hs 0) h,
          still s r id me.0 w (set s.homes 0 none) at (refl, refl, refl, ap is_live st, refl) (ap has_ticket st) refl
              record {
                queued = λ _. f.queued (ap has_ticket st);
                turn = λ _. f.turn (ap has_turn st);
                begins = f.begins;
                whole = λ _. f.whole (ap has_all st);
                from = λ _. f.from (ap is_live st);
              }
              (λ e. e)
              (inr (id, w, set_here s.views id w (at_below s.views id me.0 at), refl, ap (λ (hs : Homes). set hs 0 none) h)),
          (refl, refl),
        )

    pub grows : (n id : ℕ) (me : Mine E O T) (long : ℕ) → me.0.phase ≡ Inside → long ≡ length (held entries me.1) → IsPrefix me.0.seen (held entries me.1)
        → Allows K n id me 2 (λ _. long) (λ _ m. RaisesLength entries me m)
    grows n id me long st is more s r _ at _ =
        let f = r.each id me.0 at in
        let all : List E = held entries me.1 in
        let w : View E O = seeing Wrote all me.0 in
        let pre : IsPrefix r.longest all = subst (λ l. IsPrefix l all) (f.whole (ap has_all st)) more in
        let h : s.homes ≡ none ∷ [] = slot_mine s r id me.0 at (ap has_turn st) (ap is_away st) ∙ ap (λ p. left_behind p ∷ []) st in
        let here = set_here s.views id w (at_below s.views id me.0 at) in (
          w,
          keeps,
          tt,
          moved s r 2 long id me.0 w s.homes r.served r.queue all at (refl, refl, refl, ap is_live st, refl)
              (ap (λ ws. set ws 2 long) r.words_are ∙ ap (λ (z : ℕ). (r.served + length r.queue) % 2 ^ 64 ∷ r.served % 2 ^ 64 ∷ z ∷ []) is)
              (let e : bit (has_ticket me.0.phase) ≡ 1 = ap (λ p. bit (has_ticket p)) st in omega arith)
              (λ j u ne e g. record {
                queued = g.queued;
                turn = g.turn;
                begins = prefix_trans u.seen r.longest all g.begins pre;
                whole = λ a. absurd (ne (one_turn_only s r j id u me.0 e at (all_has_turn u.phase a) (ap has_turn st)));
                from = g.from;
              })
              record {
                queued = λ _. f.queued (ap has_ticket st);
                turn = λ _. f.turn (ap has_turn st);
                begins = prefix_self all;
                whole = λ _. refl;
                from = λ _. f.from (ap is_live st);
              }
              (λ d j e. holds_set r.served s.views id me.0 w d j at (λ _. (refl, refl)) (r.held_by d j e))
              (id, w, here, refl, refl)
              (inr (id, w, here, refl, h)),
          (refl, refl),
        )

    pub gives_back : (n id : ℕ) (me : Mine E O T) (x : T) → me.0.phase ≡ Wrote → me.1 ≡ (0, Some x) ∷ [] → entries x ≡ me.0.seen → origin_of x ∷ [] ≡ me.0.origin
        → Allows K n id me 1 (λ x. x) (λ _ m. GivesBack me m)
    gives_back n id me x st has same of s r _ at _ =
        let f = r.each id me.0 at in
        let w : View E O = at_phase Gave me.0 in
        let h : s.homes ≡ none ∷ [] = slot_mine s r id me.0 at (ap has_turn st) (ap is_away st) ∙ ap (λ p. left_behind p ∷ []) st in (
          w,
          gives,
          tt,
          still s r id me.0 w (put_back s.homes me.1) at (refl, refl, refl, ap is_live st, refl) (ap has_ticket st) refl
              record {
                queued = λ _. f.queued (ap has_ticket st);
                turn = λ _. f.turn (ap has_turn st);
                begins = f.begins;
                whole = λ _. f.whole (ap has_all st);
                from = λ _. f.from (ap is_live st);
              }
              (λ e. e)
              (inl (
                x,
                ap (put_back s.homes) has ∙ ap (λ (hs : Homes). set hs 0 (some (Some x))) h,
                same ∙ f.whole (ap has_all st),
                head_is (origin_of x) from (of ∙ f.from (ap is_live st)),
                λ j u e. ⊎_elim (λ t. ap (λ (y : View E O). is_away y.phase) (sym t.1)) (λ t. others_home s r id me.0 at (ap has_turn st) j u t.0 t.1) (at_set s.views id j w u e),
              )),
          (refl, refl),
        )

    -- what holds of another view once the next ticket is served
    later : (served : ℕ) (queue more : List ℕ) (longest : List E) (o : O) (id j : ℕ) (u : View E O) → queue ≡ id ∷ more → j ≢ id
        → Fits served queue longest o j u → Fits (served + 1) more longest o j u
    later served queue more longest o id j u is ne f =
        let shift : (d : ℕ) → u.ticket ≡ served + d → get_elem? (id ∷ more) d ≡ some j → (e : ℕ) × (u.ticket ≡ served + 1 + e) × (get_elem? more e ≡ some j) =
        elim [ zero ↦ (λ a b. absurd (ne (sym (some-injective id j b)))) | suc d ↦ (λ a b. (d, omega arith, b)) ] in
        record {
          queued = (λ h. let q = f.queued h in shift q.0 q.1 (subst (λ (l : List ℕ). get_elem? l q.0 ≡ some j) is q.2));
          turn = (λ h. let a = first_of_queue served queue longest o j u f h in absurd (ne (sym (some-injective id j (sym (ap (λ (l : List ℕ). get_elem? l 0) is) ∙ a)))));
          begins = f.begins;
          whole = f.whole;
          from = f.from;
        }

    pub raises : (n id : ℕ) (me : Mine E O T) (k : ℕ) → k ≡ 1 → me.0.phase ≡ Gave → Allows K n id me 1 (λ x. (x + k) % 2 ^ 64) (λ _ m. RaisesServing me m)
    raises n id me k by st s r _ at _ =
        let f = r.each id me.0 at in
        let w : View E O = at_phase Out me.0 in
        let more : List ℕ = drop 1 r.queue in
        let is : r.queue ≡ id ∷ more = drop_at r.queue 0 id (first_of_queue r.served r.queue r.longest from id me.0 f (ap has_turn st)) in
        let long : length r.queue ≡ suc (length more) = ap length is in
        let next : (r.served + length r.queue) % 2 ^ 64 ≡ (r.served + 1 + length more) % 2 ^ 64 = ap (λ (z : ℕ). z % 2 ^ 64) (omega arith) in
        let now : (r.served % 2 ^ 64 + k) % 2 ^ 64 ≡ (r.served + 1) % 2 ^ 64 = omega arith in (
          w,
          keeps,
          tt,
          moved s r 1 ((get_or s.words 1 0 + k) % 2 ^ 64) id me.0 w s.homes (r.served + 1) more r.longest at (refl, refl, refl, ap is_live st, refl)
              (ap (λ ws. set ws 1 ((get_or ws 1 0 + k) % 2 ^ 64)) r.words_are ∙ (λ k. next k ∷ now k ∷ length r.longest ∷ []))
              (let e : bit (has_ticket me.0.phase) ≡ 1 = ap (λ p. bit (has_ticket p)) st in omega arith)
              (λ j u ne _ g. later r.served r.queue more r.longest from id j u is ne g)
              record {
                queued = λ h. absurd (not_both false h refl);
                turn = λ h. absurd (not_both false h refl);
                begins = f.begins;
                whole = λ h. absurd (not_both false h refl);
                from = λ _. f.from (ap is_live st);
              }
              (λ d j e.
              let y = r.held_by (suc d) j (subst (λ (l : List ℕ). get_elem? l (suc d) ≡ some j) (sym is) e) in
              let ne : j ≢ id = λ z.
              let g = f.queued (ap has_ticket st) in
              let now : me.0.ticket ≡ r.served = f.turn (ap has_turn st) in
              let same : me.0 ≡ y.0 = one_view s.views id j me.0 y.0 (sym z) at y.1 in
              let tick : me.0.ticket ≡ r.served + suc d = ap (λ (v : View E O). v.ticket) same ∙ y.3 in
              omega arith in
              (y.0, set_else s.views id j w ne ∙ y.1, y.2, y.3 ∙ (let e : r.served + suc d ≡ r.served + 1 + d = omega arith in e)))
              (seen_set r.longest s.views id me.0 w at (λ e. (refl, e)) r.is_seen)
              (slot_set s.homes r.longest s.views id me.0 w at (ap is_away st) refl r.slot),
          (refl, refl),
        )
