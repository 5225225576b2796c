-- The plans of the calls that change names.
use Rattle.std.proofs.Common.{◌≡◌, ◌≢◌, ℕ, ◌+◌, ◌-◌, ◌<◌, ◌≤◌, ◌^◌, Bool, true, false, IsSome, is_some, Option, Some, None, Result, Ok, Err, List, [], ◌∷◌, All, length, take, if◌then◌else◌, nat_eq, refl, sym, ap, subst, ◌∙◌, ◌⊎◌, inl, inr, arith, ◌/◌, ◌%◌, append-nil, not, ◌++◌, ◌&&◌, nat_lt, nat_le, IfOk, IfErr, replicate}
use Rattle.std.specs.List.{slice_index_or, range_with_len}
use Rattle.std.proofs.lemmas.Bool.Decides.{nat_tests}
use Rattle.std.specs.FinMap as map
use Rattle.std.proofs.lemmas.List.Elements.{All-nil, All-cons, All-get_or, All-map, All-weaker, All-append}
use mathlib.Core.Bool.{false≢true}
use Rattle.ck_model.specs.declared.key.Key.{Key}
use Rattle.ck_model.specs.declared.key.Key.TheVariants.{Name, Node, Block}
use Rattle.ck_model.specs.declared.held.Held.{Held}
use Rattle.ck_model.specs.declared.held.Held.TheVariants.{Plain}
use Rattle.ck_model.specs.declared.held.Small.{Small}
use Rattle.ck_model.specs.declared.held.Small.TheVariants.{To, File, Dir}
use Rattle.ck_model.specs.declared.change.Change.{Change}
use Rattle.ck_model.specs.declared.change.Change.TheVariants.{Put, Write, Del}
use Rattle.ck_model.specs.declared.checkpoint.Counters.{Counters}
use Rattle.ck_model.specs.declared.call.Call.TheVariants as call
use Rattle.ck_model.specs.declared.reply.Reply.{Reply}
use Rattle.ck_model.specs.declared.reply.Reply.TheVariants as reply
use Rattle.ck_model.specs.declared.cell.Payload.TheVariants as payload
use Rattle.ck_model.specs.Name.{IsFileName}
use Rattle.ck_model.specs.Path.{IsPath}
use Rattle.ck_model.specs.Held.{IsKey, IsWord, IsEntry, IsStamp, BelongsTo}
use Rattle.ck_model.specs.Cells.{Cells, size_at}
use Rattle.ck_model.specs.Changes.{touched, with_node}
use Rattle.ck_model.specs.FileCalls.{with_primary, has_names, is_spent}
use Rattle.ck_model.specs.Limits.{file_limit}
use Rattle.ck_model.specs.Rules.{IsOrderly, KeyBelow, SmallBelow}
use Rattle.ck_model.specs.Table.{Table, IsTable, IsSized, column}
use Rattle.ck_model.specs.Chain.{present, value_at}
use Rattle.ck_model.specs.Values.{cells_on}
use Rattle.ck_model.specs.TableWorld.{values_of}
use Rattle.ck_model.specs.Walk.{node_at, file_at, directory_at, name_at, new_name_at}
use Rattle.ck_model.specs.World.{World}
use Rattle.ck_chain.specs.Changes.{key_of}
use Rattle.ck_tree.specs.declared.fault.TreeFault.{TreeFault}
use Rattle.ck_tree.specs.Deletions.{is_block_from, blocks_from, deletions, file_keys}
use Rattle.ck_tree.specs.Sizes.{first_past, cut_write, cut_changes, size_put, size_changes}
use Rattle.ck_tree.specs.Plan.{block_by, numbers_after, StandsForPrimary, MayBeMade, Differ, IsPlan, making}
use Rattle.ck_tree.specs.Map.{StandsFor}
use Rattle.ck_tree.specs.Writes.{grown_put, block_writes, write_changes}
use Rattle.ck_tree.proofs.ResizeLemmas.{Fit, fit-none, fit-push, fit-weaker, resized_is}
use Rattle.ck_tree.proofs.PathLemmas.{node_stands, file_node, directory_node, IsNameIn, name_in, new_name_is, name_stands}
use Rattle.ck_tree.proofs.WriteLemmas.{in_range, written_is, writes_first, grown_differ, grown_few}
use Rattle.ck_tree.proofs.MapLaws.{stands_on, value_held}
use Rattle.ck_tree.proofs.DeletionLemmas.{all_deletions, file_deleted, file_differs, blocks_stand, file_few, IsNoBlock, node_no_block, blocks_differ, blocks_apart, blocks_few}

-- ---- what stands has an entry in the primary

present_some : (o : Option Held) → is_some (present o) ≡ true → IsSome o
present_some None h = absurd (false≢true h)
present_some (Some held) h = refl

-- a key with a cell has an entry
pub entry_stands : (t : Table) (cells : Cells) → StandsFor t 0 cells → (key : Key) → map.contains_key cells key ≡ true → IsSome (column t key 0)
entry_stands t cells stands key there = present_some (column t key 0) (sym (stands.present key) ∙ there)

key_raised : (a b : ℕ) (key : Key) → a ≤ b → KeyBelow a key → KeyBelow b key
key_raised a b (Name directory name) le h = omega (arith, le, h)
key_raised a b (Node number) le h = omega (arith, le, h)
key_raised a b (Block number index) le h = omega (arith, le, h)

module _ (t : Table) (lawful : IsTable t) (orderly : IsOrderly t) where
  -- the key of an entry of the primary
  entry_key : (key : Key) → IsSome (column t key 0) → IsKey key × KeyBelow t.counters.number key
  entry_key key some = on (column t key 0) refl some
    where
      on : (o : Option Held) → column t key 0 ≡ o → IsSome o → IsKey key × KeyBelow t.counters.number key
      on None is clash = absurd (false≢true clash)
      on (Some held) is _ = ((lawful.entries 0 key held is).1.place, (orderly.numbers 0 key held is).0)

  -- a key of the primary may be deleted
  pub may_delete : (next : Counters) → t.counters.number ≤ next.number → (key : Key) → IsSome (column t key 0) → MayBeMade t next (Del key)
  may_delete next le key some = record {
    key = (entry_key key some).0;
    below = key_raised t.counters.number next.number key le (entry_key key some).1;
    deleted = λ _. some;
    value = λ stamp is. tt;
  }

  -- a node that stands has a number that was given
  pub number_given : (cells : Cells) → StandsFor t 0 cells → (node : ℕ) → map.contains_key cells (Node node) ≡ true → IsWord node × (node < t.counters.number)
  number_given cells stands node there = entry_key (Node node) (entry_stands t cells stands (Node node) there)

last_name : (path : List (List ℕ)) → IsPath path → 0 < length path → IsFileName (slice_index_or path (length path - 1) [])
last_name path is some = All-get_or IsFileName path (length path - 1) [] (omega (arith, some)) is.each

-- a stamp is left where it isn't refused
pub some_left : {A : Type 0} (b : Bool) (x y : A) (fault : TreeFault) → Ok x ≡ (if b then Err fault else Ok y) → b ≡ false
some_left true x y fault clash = cc
some_left false x y fault h = refl

-- a number is drawn where some are left
pub drawn_is : (b : Bool) (x y : ℕ) → Some x ≡ (if b then None else Some y) → (b ≡ false) × (x ≡ y)
drawn_is true x y clash = cc
drawn_is false x y h = (refl, cc)

two_differ : (a b : Change) → key_of b ≢ key_of a → Differ (a ∷ b ∷ [])
two_differ a b apart = (All-cons (λ (other : Change). key_of other ≢ key_of a) b [] apart (All-nil (λ (other : Change). key_of other ≢ key_of a)), (All-nil (λ (other : Change). key_of other ≢ key_of b), tt))

both_may : (t : Table) (next : Counters) (a b : Change) → MayBeMade t next a → MayBeMade t next b → All (MayBeMade t next) (a ∷ b ∷ [])
both_may t next a b first second = All-cons (MayBeMade t next) a (b ∷ []) first (All-cons (MayBeMade t next) b [] second (All-nil (MayBeMade t next)))

-- what a finding of all maps that the table stands for says
abbrev pub Finds : Table → {A : Type 0} → (Cells → Result A Reply) → A → Type 0
Finds t find found = (cells : Cells) → StandsFor t 0 cells → Ok found ≡ find cells

module _ (t : Table) (lawful : IsTable t) (orderly : IsOrderly t) (stamp : nat_eq t.counters.stamp (2 ^ 63) ≡ false) where
  abbrev some_cells : Cells
  some_cells = cells_on (λ _. []) (values_of t 0)

  some_stands : StandsFor t 0 some_cells
  some_stands = stands_on (λ _. []) t 0

  left : (w : World) → StandsForPrimary t w → is_spent w ≡ false
  left w s = ap (λ (next : Counters). nat_eq next.stamp (2 ^ 63)) s.next ∙ stamp

  -- what a path leads to, and its name, may go
  gone_node : (path : List (List ℕ)) (node : ℕ) → node_at some_cells path ≡ Ok node → (next : Counters) → t.counters.number ≤ next.number → MayBeMade t next (Del (Node node))
  gone_node path node leads next le = may_delete t lawful orderly next le (Node node) (entry_stands t some_cells some_stands (Node node) (node_stands some_cells path node leads))

  gone_name : (path : List (List ℕ)) (node : ℕ) → node_at some_cells path ≡ Ok node → (of_slash : Reply) (name : Key) → name_at some_cells of_slash path ≡ Ok name → (next : Counters) → t.counters.number ≤ next.number → MayBeMade t next (Del name)
  gone_name path node leads of_slash name named next le = may_delete t lawful orderly next le name (entry_stands t some_cells some_stands name (name_stands some_cells of_slash path node name leads named))

  -- a name may be put in a directory, for a node that was given
  put_name : (path : List (List ℕ)) → IsPath path → (key : Key) → IsNameIn some_cells path key → (node : ℕ) → IsWord node → (next : Counters) → node < next.number → t.counters.number ≤ next.number → MayBeMade t next (Put key (To node))
  put_name path is_path key n node word next given le =
      let last = slice_index_or path (length path - 1) [] in
      let at = number_given t lawful orderly some_cells some_stands n.directory (node_stands some_cells (take (length path - 1) path) n.directory (directory_node some_cells (take (length path - 1) path) n.directory n.leads)) in
      let is_key : IsKey (Name n.directory last) = (at.0, last_name path is_path n.some) in
      let low = at.1 in
      record {
        key = subst IsKey (sym n.is) is_key;
        below = subst (KeyBelow next.number) (sym n.is) (omega (arith, low, le));
        deleted = λ clash. absurd (false≢true clash);
        value = λ stamp is. (subst (λ k. IsEntry k (Plain stamp (To node))) (sym n.is) (record { place = is_key; value = (is, word) }), given);
      }

  -- ---- rmdir

  pub directory_removal : (path : List (List ℕ)) (name : Key) (node : ℕ) → Finds t (λ cells. name_at cells reply.Root path) name → Finds t (λ cells. directory_at cells path) node
      → ((cells : Cells) → StandsFor t 0 cells → false ≡ has_names cells node) → IsPlan t (call.Rmdir path) (Del (Node node) ∷ Del name ∷ [])
  directory_removal path name node named found empty =
      let leads = directory_node some_cells path node (sym (found some_cells some_stands)) in
      let n = name_in some_cells reply.Root path name (sym (named some_cells some_stands)) in
      let next = numbers_after (call.Rmdir path) t.counters in
      record {
        first = refl;
        once = two_differ (Del (Node node)) (Del name) (λ same. let clash : Name n.directory (slice_index_or path (length path - 1) []) ≡ Node node = sym n.is ∙ same in cc);
        each = both_may t next (Del (Node node)) (Del name) (gone_node path node leads next (omega arith)) (gone_name path node leads reply.Root name (sym (named some_cells some_stands)) next (omega arith));
        few = omega arith;
        leads = λ w s. rw (← named w.primary s.cells) (rw (← found w.primary s.cells) (rw (← empty w.primary s.cells) (rw (left w s) refl)));
      }

  -- ---- mv

  pub move : (path new_path : List (List ℕ)) → IsPath new_path → (node : ℕ) (from to : Key) → Finds t (λ cells. file_at cells path) node → Finds t (λ cells. new_name_at cells new_path) to → Finds t (λ cells. name_at cells reply.IsDir path) from
      → IsPlan t (call.Mv path new_path) (Del from ∷ Put to (To node) ∷ [])
  move path new_path is_path node from to found new named =
      let leads = file_node some_cells path node (sym (found some_cells some_stands)) in
      let is_new = new_name_is some_cells new_path to (sym (new some_cells some_stands)) in
      let n = name_in some_cells reply.Exists new_path to is_new.0 in
      let next = numbers_after (call.Mv path new_path) t.counters in
      let number = number_given t lawful orderly some_cells some_stands node (node_stands some_cells path node leads) in
      let old = sym (named some_cells some_stands) in
      let stands = name_stands some_cells reply.IsDir path node from leads old in
      record {
        first = refl;
        once = two_differ (Del from) (Put to (To node)) (λ same. false≢true (sym is_new.1 ∙ ap (map.contains_key some_cells) same ∙ stands));
        each = both_may t next (Del from) (Put to (To node)) (gone_name path node leads reply.IsDir from old next (omega arith)) (put_name new_path is_path to n node number.0 next number.1 (omega arith));
        few = omega arith;
        leads = λ w s. rw (← found w.primary s.cells) (rw (← new w.primary s.cells) (rw (left w s) (rw (← named w.primary s.cells) refl)));
      }

  -- ---- rm

  pub removal : (path : List (List ℕ)) → IsSized t → (name : Key) (node : ℕ) → Finds t (λ cells. file_at cells path) node → Finds t (λ cells. name_at cells reply.IsDir path) name → IsPlan t (call.Rm path) (deletions (file_keys t name node))
  removal path sized name node found named =
      let leads = file_node some_cells path node (sym (found some_cells some_stands)) in
      let old = sym (named some_cells some_stands) in
      let n = name_in some_cells reply.IsDir path name old in
      let next = numbers_after (call.Rm path) t.counters in
      record {
        first = all_deletions (file_keys t name node);
        once = file_differs t n.directory (slice_index_or path (length path - 1) []) name n.is node;
        each = All-cons (MayBeMade t next) (Del name) (deletions (Node node ∷ blocks_from t node 0)) (gone_name path node leads reply.IsDir name old next (omega arith))
            (All-cons (MayBeMade t next) (Del (Node node)) (deletions (blocks_from t node 0)) (gone_node path node leads next (omega arith))
            (All-map (MayBeMade t next) (λ key. Del key) (blocks_from t node 0)
            (All-weaker (λ key. IsSome (column t key 0)) (λ key. MayBeMade t next (Del key)) (may_delete t lawful orderly next (omega arith)) (blocks_from t node 0) (blocks_stand t node 0))));
        few = file_few t sized name node;
        leads = λ w s. rw (← found w.primary s.cells) (rw (← named w.primary s.cells) (rw (left w s) (ap (λ cells. Ok (with_primary w cells)) (sym (file_deleted t w.primary s.cells name node (block_by w (call.Rm path)) w.next.stamp)))));
      }

  -- ---- make and mkdir

  abbrev one_more : Counters
  one_more = record (t.counters) { stamp = t.counters.stamp + 1; number = t.counters.number + 1 }

  -- a new node may be put
  put_node : (kind : Small) → ((stamp : ℕ) → IsStamp stamp → BelongsTo (Node t.counters.number) (Plain stamp kind)) → SmallBelow (t.counters.number + 1) kind → IsWord t.counters.number → MayBeMade t one_more (Put (Node t.counters.number) kind)
  put_node kind belongs below word = record {
    key = word;
    below = omega arith;
    deleted = λ clash. absurd (false≢true clash);
    value = λ stamp is. (record { place = word; value = belongs stamp is }, below);
  }

  -- all but the world
  new_changes : (path : List (List ℕ)) → IsPath path → (name : Key) → Finds t (λ cells. new_name_at cells path) name → (kind : Small) → ((stamp : ℕ) → IsStamp stamp → BelongsTo (Node t.counters.number) (Plain stamp kind)) → SmallBelow (t.counters.number + 1) kind
      → Differ (Put (Node t.counters.number) kind ∷ Put name (To t.counters.number) ∷ []) × All (MayBeMade t one_more) (Put (Node t.counters.number) kind ∷ Put name (To t.counters.number) ∷ [])
  new_changes path is_path name new kind belongs below =
      let number = t.counters.number in
      let word : IsWord number = lawful.counters.number in
      let n = name_in some_cells reply.Exists path name (new_name_is some_cells path name (sym (new some_cells some_stands))).0 in (
        two_differ (Put (Node number) kind) (Put name (To number)) (λ same. let clash : Name n.directory (slice_index_or path (length path - 1) []) ≡ Node number = sym n.is ∙ same in cc),
        both_may t one_more (Put (Node number) kind) (Put name (To number)) (put_node kind belongs below word) (put_name path is_path name n number word one_more (omega arith) (omega arith)),
      )

  same_number : (w : World) → StandsForPrimary t w → w.next.number ≡ t.counters.number
  same_number w s = ap (λ (next : Counters). next.number) s.next

  number_left : nat_eq t.counters.number 4294967295 ≡ false → (w : World) → StandsForPrimary t w → nat_eq w.next.number 4294967295 ≡ false
  number_left some w s = ap (λ number. nat_eq number 4294967295) (same_number w s) ∙ some

  pub new_node : (path : List (List ℕ)) → IsPath path → (kind : Small) → (kind ≡ File 0) ⊎ (kind ≡ Dir) → (name : Key) → Finds t (λ cells. new_name_at cells path) name → nat_eq t.counters.number 4294967295 ≡ false
      → IsPlan t (making kind path) (Put (Node t.counters.number) kind ∷ Put name (To t.counters.number) ∷ [])
  new_node path is_path kind (inl is) name new some =
      let all = new_changes path is_path name new (File 0) (λ stamp is_stamp. (is_stamp, omega arith)) tt in
      subst (λ k. IsPlan t (making k path) (Put (Node t.counters.number) k ∷ Put name (To t.counters.number) ∷ [])) (sym is) (record {
        first = refl;
        once = all.0;
        each = all.1;
        few = omega arith;
        leads = λ w s. rw (← new w.primary s.cells) (rw (left w s) (rw (number_left some w s)
            (ap (λ number. Ok (record w { primary = with_node w.primary w.next.stamp name number (payload.File 0); next = record (w.next) { stamp = w.next.stamp + 1; number = w.next.number + 1 } })) (same_number w s))));
      })
  new_node path is_path kind (inr is) name new some =
      let all = new_changes path is_path name new Dir (λ stamp is_stamp. is_stamp) tt in
      subst (λ k. IsPlan t (making k path) (Put (Node t.counters.number) k ∷ Put name (To t.counters.number) ∷ [])) (sym is) (record {
        first = refl;
        once = all.0;
        each = all.1;
        few = omega arith;
        leads = λ w s. rw (← new w.primary s.cells) (rw (left w s) (rw (number_left some w s)
            (ap (λ number. Ok (record w { primary = with_node w.primary w.next.stamp name number payload.Dir; next = record (w.next) { stamp = w.next.stamp + 1; number = w.next.number + 1 } })) (same_number w s))));
      })

  -- ---- trunc

  module _ (node size : ℕ) (sized : IsSized t) (stands : map.contains_key some_cells (Node node) ≡ true) (limit : size ≤ file_limit) where
    abbrev after : Counters
    after = record (t.counters) { stamp = t.counters.stamp + 1 }

    abbrev last : ℕ
    last = size / 4096

    blocks_fit : Fit t after 262144 (deletions (blocks_from t node (first_past size)))
    blocks_fit = record {
      first = all_deletions (blocks_from t node (first_past size));
      once = blocks_differ t node (first_past size);
      each = All-map (MayBeMade t after) (λ key. Del key) (blocks_from t node (first_past size))
          (All-weaker (λ key. IsSome (column t key 0)) (λ key. MayBeMade t after (Del key)) (may_delete t lawful orderly after (omega arith)) (blocks_from t node (first_past size)) (blocks_stand t node (first_past size)));
      few = blocks_few t sized node (first_past size);
    }

    -- a block that stands may be written
    may_write : is_some (value_at t 0 (Block node last)) ≡ true → MayBeMade t after (Write node last 0)
    may_write some = on (value_at t 0 (Block node last)) refl some
      where
        on : (o : Option Held) → value_at t 0 (Block node last) ≡ o → is_some o ≡ true → MayBeMade t after (Write node last 0)
        on None is clash = absurd (false≢true clash)
        on (Some held) is _ =
            let at = value_held t 0 (Block node last) held is in
            let place = (lawful.entries at.0 (Block node last) held at.1).1.place in
            record {
              key = place;
              below = (orderly.numbers at.0 (Block node last) held at.1).0;
              deleted = λ clash. absurd (false≢true clash);
              value = λ stamp is_stamp. (record { place = place; value = (is_stamp, omega arith) }, tt);
            }

    -- a block that the size cuts isn't behind it
    not_past : nat_eq (size % 4096) 0 ≡ false → IsNoBlock node (first_past size) (Block node last)
    not_past cut q block same =
        let there : (nat_eq node node && nat_le (first_past size) last) ≡ true = ap (is_block_from node (first_past size)) (sym same) ∙ block in
        let past : first_past size ≤ last = grind (arith, nat_tests) in
        let some : size % 4096 ≢ 0 = grind (arith, nat_tests) in
        omega (arith, past, some)

    cut_fit : Fit t after 262145 (cut_changes t node size)
    cut_fit =
        elim (nat_eq (size % 4096) 0) as (λ b. nat_eq (size % 4096) 0 ≡ b → Fit t after 262145 (deletions (blocks_from t node (first_past size)) ++ (if not b && is_some (value_at t 0 (Block node last)) then Write node last 0 ∷ [] else []))) [
          | true ↦ λ _. subst (Fit t after 262145) (sym (append-nil (deletions (blocks_from t node (first_past size))))) (fit-weaker t after 262144 262145 (deletions (blocks_from t node (first_past size))) (omega arith) blocks_fit)
          | false ↦ λ cut. elim (is_some (value_at t 0 (Block node last))) as (λ b. is_some (value_at t 0 (Block node last)) ≡ b → Fit t after 262145 (deletions (blocks_from t node (first_past size)) ++ (if b then Write node last 0 ∷ [] else []))) [
            | true ↦ λ some. fit-push t after 262144 (deletions (blocks_from t node (first_past size))) (Write node last 0) blocks_fit refl (blocks_apart t node (first_past size) (Block node last) (not_past cut)) (may_write some)
            | false ↦ λ _. subst (Fit t after 262145) (sym (append-nil (deletions (blocks_from t node (first_past size))))) (fit-weaker t after 262144 262145 (deletions (blocks_from t node (first_past size))) (omega arith) blocks_fit)
          ] refl
        ] refl

    node_apart : All (λ other. key_of other ≢ Node node) (cut_changes t node size)
    node_apart =
        All-append (λ (other : Change). key_of other ≢ Node node) (deletions (blocks_from t node (first_past size))) (cut_write t node size) (blocks_apart t node (first_past size) (Node node) (node_no_block node (first_past size)))
        (elim (not (nat_eq (size % 4096) 0) && is_some (value_at t 0 (Block node last))) as (λ b. All (λ (other : Change). key_of other ≢ Node node) (if b then Write node last 0 ∷ [] else [])) [
          | true ↦ All-cons (λ (other : Change). key_of other ≢ Node node) (Write node last 0) [] (λ clash. cc) (All-nil (λ (other : Change). key_of other ≢ Node node))
          | false ↦ All-nil (λ (other : Change). key_of other ≢ Node node)
        ])

    may_size : MayBeMade t after (Put (Node node) (File size))
    may_size =
        let number = number_given t lawful orderly some_cells some_stands node stands in
        record {
          key = number.0;
          below = number.1;
          deleted = λ clash. absurd (false≢true clash);
          value = λ stamp is_stamp. (record { place = number.0; value = (is_stamp, limit) }, tt);
        }

    put_fit : (old : ℕ) (xs : List Change) → Fit t after 262145 xs → All (λ other. key_of other ≢ Node node) xs → Fit t after 262146 (xs ++ size_put node old size)
    put_fit old xs fit apart =
        elim (nat_eq size old) as (λ b. Fit t after 262146 (xs ++ (if b then [] else Put (Node node) (File size) ∷ []))) [
          | true ↦ subst (Fit t after 262146) (sym (append-nil xs)) (fit-weaker t after 262145 262146 xs (omega arith) fit)
          | false ↦ fit-push t after 262145 xs (Put (Node node) (File size)) fit refl apart may_size
        ]

    size_fit : (old : ℕ) → Fit t after 262146 (size_changes t node old size)
    size_fit old =
        elim (nat_lt size old) as (λ b. Fit t after 262146 ((if b then cut_changes t node size else []) ++ size_put node old size)) [
          | true ↦ put_fit old (cut_changes t node size) cut_fit node_apart
          | false ↦ put_fit old [] (fit-weaker t after 0 262145 [] (omega arith) (fit-none t after)) (All-nil (λ (other : Change). key_of other ≢ Node node))
        ]

  pub resizing : (path : List (List ℕ)) (size : ℕ) → size ≤ file_limit → IsSized t → (node old : ℕ) → Finds t (λ cells. file_at cells path) node → ((cells : Cells) → StandsFor t 0 cells → old ≡ size_at cells node)
      → IsPlan t (call.Trunc path size) (size_changes t node old size)
  resizing path size limit sized node old found is =
      let stands = node_stands some_cells path node (file_node some_cells path node (sym (found some_cells some_stands))) in
      let fit = size_fit node size sized stands limit old in
      record {
        first = fit.first;
        once = fit.once;
        each = fit.each;
        few = fit.few;
        leads = λ w s. rw (← found w.primary s.cells) (rw (left w s) (ap (λ cells. Ok (with_primary w cells)) (sym (resized_is t w.primary s.cells node size (block_by w (call.Trunc path size)) w.next.stamp refl old (is w.primary s.cells)))));
      }

  -- ---- write and fill

  abbrev later : Counters
  later = record (t.counters) { stamp = t.counters.stamp + 1 }

  module _ (node : ℕ) (stands : map.contains_key some_cells (Node node) ≡ true) where
    may_write_block : (index : ℕ) → index < 262144 → MayBeMade t later (Write node index 0)
    may_write_block index low =
        let number = number_given t lawful orderly some_cells some_stands node stands in
        record {
          key = (number.0, low);
          below = number.1;
          deleted = λ clash. absurd (false≢true clash);
          value = λ stamp is_stamp. (record { place = (number.0, low); value = (is_stamp, omega arith) }, tt);
        }

    may_grow : (end : ℕ) → end ≤ file_limit → MayBeMade t later (Put (Node node) (File end))
    may_grow end limit =
        let number = number_given t lawful orderly some_cells some_stands node stands in
        record {
          key = number.0;
          below = number.1;
          deleted = λ clash. absurd (false≢true clash);
          value = λ stamp is_stamp. (record { place = number.0; value = (is_stamp, limit) }, tt);
        }

    each_written : (old end from count : ℕ) → end ≤ file_limit → from + count ≤ 262144 → All (MayBeMade t later) (grown_put node old end ++ block_writes node (range_with_len from count))
    each_written old end from count limit within =
        All-append (MayBeMade t later) (grown_put node old end) (block_writes node (range_with_len from count))
        (elim (nat_lt old end) as (λ b. All (MayBeMade t later) (if b then Put (Node node) (File end) ∷ [] else [])) [
          | true ↦ All-cons (MayBeMade t later) (Put (Node node) (File end)) [] (may_grow end limit) (All-nil (MayBeMade t later))
          | false ↦ All-nil (MayBeMade t later)
        ])
        (All-map (MayBeMade t later) (λ i. Write node i 0) (range_with_len from count) (in_range (λ i. MayBeMade t later (Write node i 0)) from count (λ i low high. may_write_block i (omega (arith, high, within)))))

  never : (b : Bool) → (b && false) ≡ false
  never true = refl
  never false = refl

  pub writing : (path : List (List ℕ)) (at node old : ℕ) → Finds t (λ cells. file_at cells path) node → ((cells : Cells) → StandsFor t 0 cells → old ≡ size_at cells node)
      → (bytes : List ℕ) → 0 < length bytes → at + length bytes ≤ file_limit → IsPlan t (call.Write path at bytes) (write_changes node old at (length bytes))
  writing path at node old found is [] none limit = absurd (omega (arith, none))
  writing path at node old found is (byte ∷ bytes) some limit =
      let len = length (byte ∷ bytes) in
      let from = at / 4096 in
      let count = (at + len + 4095) / 4096 - at / 4096 in
      let within : from + count ≤ 262144 = omega (arith, limit) in
      let few = grown_few node old (at + len) from count in
      let stands = node_stands some_cells path node (file_node some_cells path node (sym (found some_cells some_stands))) in
      let small : (nat_lt 0 len && nat_lt file_limit (at + len)) ≡ false = let low : nat_lt file_limit (at + len) ≡ false = grind (arith, nat_tests) in ap (λ b. nat_lt 0 len && b) low ∙ never (nat_lt 0 len) in
      let bytes_come : nat_eq len 0 ≡ false = grind (arith, nat_tests) in
      let range : touched at len ≡ range_with_len from count = ap (λ b. range_with_len from (if b then 0 else count)) bytes_come in
      subst (IsPlan t (call.Write path at (byte ∷ bytes))) (sym (ap (λ b. if b then [] else grown_put node old (at + len) ++ block_writes node (touched at len)) bytes_come)) (record {
        first = writes_first node old (at + len) (touched at len);
        once = subst (λ indexes. Differ (grown_put node old (at + len) ++ block_writes node indexes)) (sym range) (grown_differ node old (at + len) from count);
        each = subst (λ indexes. All (MayBeMade t later) (grown_put node old (at + len) ++ block_writes node indexes)) (sym range) (each_written node stands old (at + len) from count limit within);
        few = subst (λ indexes. length (grown_put node old (at + len) ++ block_writes node indexes) ≤ 262146) (sym range) (omega (arith, few, within));
        leads = λ w s. rw (← found w.primary s.cells) (rw small (rw (left w s) (ap (λ cells. Ok (with_primary w cells)) (sym (written_is w.next.stamp node at w.primary byte bytes old (is w.primary s.cells))))));
      })

-- so many times one byte is written as those bytes are
pub filling : (t : Table) (path : List (List ℕ)) (at len byte : ℕ) (changes : List Change) → IsPlan t (call.Write path at (replicate len byte)) changes → IsPlan t (call.Fill path at len byte) changes
filling t path at len byte changes plan = record {
  first = plan.first;
  once = plan.once;
  each = plan.each;
  few = plan.few;
  leads = plan.leads;
}

pub if_ok : {A E : Type 0} (P Q : A → Type 0) → ((x : A) → P x → Q x) → (r : Result A E) → IfOk r P → IfOk r Q
if_ok P Q follows (Ok x) h = follows x h
if_ok P Q follows (Err e) h = tt

pub if_err : {A E : Type 0} (P Q : E → Type 0) → ((e : E) → P e → Q e) → (r : Result A E) → IfErr r P → IfErr r Q
if_err P Q follows (Ok x) h = tt
if_err P Q follows (Err e) h = follows e h
