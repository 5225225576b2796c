-- A call's planned changes, once the data blocks that they write are given: they may be made, and lead to the model's world.
use Rattle.std.proofs.Common.{◌≡◌, ◌≢◌, ℕ, suc, ◌+◌, ◌-◌, ◌*◌, ◌<◌, ◌≤◌, ◌^◌, Bool, is_some, nat_le, true, false, not, ◌&&◌, ◌||◌, Result, Ok, Err, Some, None, List, [], ◌∷◌, length, nat_eq, nat_lt, replicate, if◌then◌else◌, IfSome, inl, inr, refl, sym, ap, subst, ◌∙◌, arith}
use Rattle.std.specs.List.{list_any, AllByRecursion}
use Rattle.std.specs.FinMap as map
use Rattle.std.proofs.lemmas.Bool.{cases_lt}
use Rattle.std.proofs.lemmas.Bool.Decides.{nat_tests}
use Rattle.std.proofs.lemmas.List.Elements.{recursion_from_All}
use mathlib.Core.Bool.{false≢true}
use Rattle.ck_model.specs.declared.call.Call.{Call}
use Rattle.ck_model.specs.declared.call.Call.TheVariants as call
use Rattle.ck_model.specs.declared.cell.Payload.{Payload}
use Rattle.ck_model.specs.declared.cell.Payload.TheVariants.{File, Dir, Bytes}
use Rattle.ck_model.specs.declared.change.Change.{Change}
use Rattle.ck_model.specs.declared.change.Change.TheVariants.{Put, Write, Del}
use Rattle.ck_model.specs.declared.checkpoint.Counters.{Counters}
use Rattle.ck_model.specs.declared.held.Held.{Held}
use Rattle.ck_model.specs.declared.held.Held.TheVariants.{Extent}
use Rattle.ck_model.specs.declared.held.Small.{Small}
use Rattle.ck_model.specs.declared.key.Key.{Key}
use Rattle.ck_model.specs.declared.key.Key.TheVariants.{Block}
use Rattle.ck_model.specs.declared.reply.Reply.{Reply}
use Rattle.ck_model.specs.declared.reply.Reply.TheVariants.{Done, IsDir, NotEmpty, Root, TooBig, Spent, NoSpace}
use Rattle.ck_model.specs.declared.reply.SpaceOf.TheVariants.{Blocks, Records}
use Rattle.ck_model.specs.History.{is_fault}
use Rattle.ck_model.specs.Cells.{Cells}
use Rattle.ck_model.specs.Changes.{cell_of, with_node, without_file, without_directory, renamed, written, resized}
use Rattle.ck_model.specs.FileCalls.{is_spent, has_names, with_primary, changed_by}
use Rattle.ck_model.specs.Limits.{file_limit}
use Rattle.ck_model.specs.Held.{IsCounters}
use Rattle.ck_model.specs.Refusals.{and_then, refuse_if}
use Rattle.ck_model.specs.Rules.{IsSound, stamp_in}
use Rattle.ck_model.specs.Step.{changing}
use Rattle.ck_model.specs.Table.{Table, column, record_count, spare_count}
use Rattle.ck_model.specs.Values.{Store, payload_of}
use Rattle.ck_model.specs.Walk.{file_at, directory_at, name_at, new_name_at}
use Rattle.ck_model.specs.World.{World, Checkpoint, Mounts}
use Rattle.ck_model.specs.TableWorld.{world_on, extent_count}
use Rattle.ck_chain.specs.Named.{block_of, IsNamed}
use Rattle.ck_chain.specs.Changes.{deletions_first, is_deletion, key_of, value_after}
use Rattle.ck_push.specs.Changed.{push_of}
use Rattle.ck_push.specs.Growth.{gain, gains, loss, losses, one_if, write_count}
use Rattle.ck_tree.specs.declared.fault.TreeFault.{TreeFault}
use Rattle.ck_tree.specs.declared.fault.TreeFault.TheVariants.{NotFound, NotDir, IsDir as IsDirectory, Exists as Existing, NotEmpty as NotEmptied, Root as AtRoot, TooBig as TooLong, Spent as AllSpent, NoMemory}
use Rattle.ck_tree.specs.Faults.{reply_of}
use Rattle.ck_tree.specs.Plan.{IsPlan, IsRefusal, Differ, MayBeMade, block_by, numbers_after, world_after, with_changes as planned_cells}
use Rattle.ck_reclaim.specs.Removable.{pick_of}
use Rattle.ck_table.specs.Gone.{with_gone}
use Rattle.ck_files.specs.Allocated.{is_taken, SameNamed}
use Rattle.ck_files.specs.Changes.{raised, IsRaised, with_changes, written_by}
use Rattle.ck_push.specs.Changes.{MayChangeAll, AllApart, MayChange, changed_all}
use Rattle.ck_files.specs.Places.{with_places, AreDistinct, AreHeld}
use Rattle.ck_files.specs.Drained.{IsDrained}
use Rattle.ck_files.specs.Files.{IsOurs}
use Rattle.ck_files.specs.Room.{has_room, lack_of_room, answered_with, given_before}
use Rattle.ck_tree.proofs.MapLaws.{stands_on as stands}
use Rattle.ck_files.proofs.NamedLaws.{extent_is, is-named}
use Rattle.ck_files.proofs.ChangeLemmas.{changing-full, changing-fits, changing-given}

-- ---- what doesn't depend on the data blocks

pub placed_gains : (t : Table) (changes : List Change) (places : List ℕ) → gains t (with_places changes places) ≡ gains t changes
placed_gains t [] places = refl
placed_gains t (Put key small ∷ changes) places = ap (λ n. gain t (Put key small) + n) (placed_gains t changes places)
placed_gains t (Del key ∷ changes) places = ap (λ n. gain t (Del key) + n) (placed_gains t changes places)
placed_gains t (Write node index block ∷ changes) [] = ap (λ n. gain t (Write node index block) + n) (placed_gains t changes [])
placed_gains t (Write node index block ∷ changes) (place ∷ places) = ap (λ n. gain t (Write node index block) + n) (placed_gains t changes places)

pub placed_losses : (t : Table) (changes : List Change) (places : List ℕ) → losses t (with_places changes places) ≡ losses t changes
placed_losses t [] places = refl
placed_losses t (Put key small ∷ changes) places = ap (λ n. loss t (Put key small) + n) (placed_losses t changes places)
placed_losses t (Del key ∷ changes) places = ap (λ n. loss t (Del key) + n) (placed_losses t changes places)
placed_losses t (Write node index block ∷ changes) [] = ap (λ n. loss t (Write node index block) + n) (placed_losses t changes [])
placed_losses t (Write node index block ∷ changes) (place ∷ places) = ap (λ n. loss t (Write node index block) + n) (placed_losses t changes places)

pub placed_writes : (changes : List Change) (places : List ℕ) → write_count (with_places changes places) ≡ write_count changes
placed_writes [] places = refl
placed_writes (Put key small ∷ changes) places = ap (λ n. 0 + n) (placed_writes changes places)
placed_writes (Del key ∷ changes) places = ap (λ n. 0 + n) (placed_writes changes places)
placed_writes (Write node index block ∷ changes) [] = ap (λ n. 1 + n) (placed_writes changes [])
placed_writes (Write node index block ∷ changes) (place ∷ places) = ap (λ n. 1 + n) (placed_writes changes places)

placed_any : (changes : List Change) (places : List ℕ) → list_any is_deletion (with_places changes places) ≡ list_any is_deletion changes
placed_any [] places = refl
placed_any (Put key small ∷ changes) places = placed_any changes places
placed_any (Del key ∷ changes) places = refl
placed_any (Write node index block ∷ changes) [] = placed_any changes []
placed_any (Write node index block ∷ changes) (place ∷ places) = placed_any changes places

pub placed_first : (changes : List Change) (places : List ℕ) → deletions_first (with_places changes places) ≡ deletions_first changes
placed_first [] places = refl
placed_first (Put key small ∷ changes) places = λ i. not (placed_any changes places i) && placed_first changes places i
placed_first (Del key ∷ changes) places = placed_first changes places
placed_first (Write node index block ∷ changes) [] = λ i. not (placed_any changes [] i) && placed_first changes [] i
placed_first (Write node index block ∷ changes) (place ∷ places) = λ i. not (placed_any changes places i) && placed_first changes places i

-- they write these data blocks
pub placed_blocks : (changes : List Change) (places : List ℕ) (stamp : ℕ) → length places ≡ write_count changes → written_by (with_places changes places) stamp ≡ places
placed_blocks [] [] stamp many = refl
placed_blocks [] (place ∷ places) stamp many = absurd (omega (arith, many))
placed_blocks (Put key small ∷ changes) places stamp many = placed_blocks changes places stamp (omega (arith, many))
placed_blocks (Del key ∷ changes) places stamp many = placed_blocks changes places stamp (omega (arith, many))
placed_blocks (Write node index block ∷ changes) [] stamp many = absurd (omega (arith, many))
placed_blocks (Write node index block ∷ changes) (place ∷ places) stamp many = ap (λ xs. place ∷ xs) (placed_blocks changes places stamp (omega (arith, many)))

-- over data blocks that hold the call's bytes they lead where the plan does
pub placed_cells : (bytes : ℕ → ℕ → List ℕ) (store : Store) (stamp : ℕ) (cells : Cells) (changes : List Change) (places : List ℕ) → AreHeld bytes store (with_places changes places)
    → with_changes store cells (with_places changes places) stamp ≡ planned_cells bytes stamp cells changes
placed_cells bytes store stamp cells [] places held = refl
placed_cells bytes store stamp cells (Put key small ∷ changes) places held = placed_cells bytes store stamp (map.insert cells key (cell_of stamp (payload_of small))) changes places held
placed_cells bytes store stamp cells (Del key ∷ changes) places held = placed_cells bytes store stamp (map.remove cells key) changes places held
placed_cells bytes store stamp cells (Write node index block ∷ changes) [] held =
    ap (λ b. with_changes store (map.insert cells (Block node index) (cell_of stamp (Bytes b))) (with_places changes []) stamp) held.0
    ∙ placed_cells bytes store stamp (map.insert cells (Block node index) (cell_of stamp (Bytes (bytes node index)))) changes [] held.1
placed_cells bytes store stamp cells (Write node index block ∷ changes) (place ∷ places) held =
    ap (λ b. with_changes store (map.insert cells (Block node index) (cell_of stamp (Bytes b))) (with_places changes places) stamp) held.0
    ∙ placed_cells bytes store stamp (map.insert cells (Block node index) (cell_of stamp (Bytes (bytes node index)))) changes places held.1

-- ---- they may be made

-- no entry has the call's stamp
pub no_version : (t : Table) → IsSound t → (fs : ℕ) (key : Key) (held : Held) → column t key fs ≡ Some held → stamp_in held ≢ Some t.counters.stamp
no_version t sound fs key held has same =
    let low = subst (λ o. IfSome o (λ stamp. stamp < t.counters.stamp)) same (sound.orderly.stamps fs key held has) in
    omega (arith, low)

-- a number that isn't below the limit names no data block
pub past_unnamed : (t : Table) → IsSound t → (block : ℕ) → t.blocks ≤ block → IsNamed t block → ⊥
past_unnamed t sound block past named =
    let e = extent_is (column t named.1.0 named.0) block named.1.1 in
    let low : block < t.blocks = sound.orderly.blocks named.0 named.1.0 (Extent e.0 block) e.1 in
    omega (arith, past, low)

-- a data block below this limit, which no entry names
abbrev pub IsPlace : Table → ℕ → ℕ → Type 0
IsPlace t blocks place = (place < blocks) × (IsNamed t place → ⊥)

other_false : (a b : Bool) → (a || b) ≡ false → b ≡ false
other_false true b h = cc
other_false false b h = h

taken_here : (place block : ℕ) (places : List ℕ) → place ≡ block → is_taken (place ∷ places) block ≡ true
taken_here place block places same = let here : nat_eq block place ≡ true = grind (arith, nat_tests) in ap (λ b. b || is_taken places block) here

module _ (t : Table) (next : Counters) (blocks : ℕ) (ours : IsOurs t) (stamp : t.counters.stamp < 2 ^ 63) (most : blocks ≤ 2 ^ 31) where
  abbrev up : Table
  up = raised t next blocks

  may_put : (key : Key) (small : Small) → MayBeMade t next (Put key small) → MayChange up (Put key small) t.counters.stamp
  may_put key small may =
      let value = may.value t.counters.stamp stamp in
      record {
        key = may.key;
        below = may.below;
        deleted = λ clash. absurd (false≢true clash);
        entry = value.0;
        version = λ fs held has. no_version t ours.sound fs key held has;
        numbers = (may.below, value.1);
        block = tt;
      }

  may_delete : (key : Key) → MayBeMade t next (Del key) → MayChange up (Del key) t.counters.stamp
  may_delete key may = record {
    key = may.key;
    below = may.below;
    deleted = may.deleted;
    entry = tt;
    version = λ fs held has. no_version t ours.sound fs key held has;
    numbers = tt;
    block = tt;
  }

  may_write : (node index block place : ℕ) → MayBeMade t next (Write node index block) → IsPlace t blocks place → MayChange up (Write node index place) t.counters.stamp
  may_write node index block place may is = record {
    key = may.key;
    below = may.below;
    deleted = λ clash. absurd (false≢true clash);
    entry = record { place = may.key; value = (stamp, let low = is.0 in omega (arith, low, most)) };
    version = λ fs held has. no_version t ours.sound fs (Block node index) held has;
    numbers = (may.below, tt);
    block = is;
  }

  -- a change with another key, which writes none of these data blocks
  apart_all : (item : Change) (changes : List Change) (places : List ℕ) → AllByRecursion (λ other. key_of other ≢ key_of item) changes
      → ((block : ℕ) → block_of (value_after item t.counters.stamp) ≡ Some block → is_taken places block ≡ false) → length places ≡ write_count changes
      → AllApart t.counters.stamp item (with_places changes places)
  apart_all item [] places keys free many = tt
  apart_all item (Put key small ∷ changes) places keys free many = (record { key = keys.0; block = λ block is clash. cc }, apart_all item changes places keys.1 free (omega (arith, many)))
  apart_all item (Del key ∷ changes) places keys free many = (record { key = keys.0; block = λ block is clash. cc }, apart_all item changes places keys.1 free (omega (arith, many)))
  apart_all item (Write node index block ∷ changes) [] keys free many = absurd (omega (arith, many))
  apart_all item (Write node index block ∷ changes) (place ∷ places) keys free many = (
    record {
      key = keys.0;
      block = λ other is same. let one : place ≡ other = cc in false≢true (sym (free other is) ∙ taken_here place other places one);
    },
    apart_all item changes places keys.1 (λ other is. other_false (nat_eq other place) (is_taken places other) (free other is)) (omega (arith, many)),
  )

  pub may_all : (changes : List Change) (places : List ℕ) → AllByRecursion (MayBeMade t next) changes → Differ changes → length places ≡ write_count changes → AreDistinct places → AllByRecursion (IsPlace t blocks) places
      → MayChangeAll up (with_places changes places) t.counters.stamp
  may_all [] places may differ many distinct are = tt
  may_all (Put key small ∷ changes) places may differ many distinct are = (
    may_put key small may.0,
    apart_all (Put key small) changes places (recursion_from_All (λ other. key_of other ≢ key) changes differ.0) (λ block is. cc) (omega (arith, many)),
    may_all changes places may.1 differ.1 (omega (arith, many)) distinct are,
  )
  may_all (Del key ∷ changes) places may differ many distinct are = (
    may_delete key may.0,
    apart_all (Del key) changes places (recursion_from_All (λ other. key_of other ≢ key) changes differ.0) (λ block is. cc) (omega (arith, many)),
    may_all changes places may.1 differ.1 (omega (arith, many)) distinct are,
  )
  may_all (Write node index block ∷ changes) [] may differ many distinct are = absurd (omega (arith, many))
  may_all (Write node index block ∷ changes) (place ∷ places) may differ many distinct are = (
    may_write node index block place may.0 are.0,
    apart_all (Write node index place) changes places (recursion_from_All (λ other. key_of other ≢ Block node index) changes differ.0)
        (λ other is. let one : place ≡ other = cc in subst (λ b. is_taken places b ≡ false) one distinct.0) (omega (arith, many)),
    may_all changes places may.1 differ.1 (omega (arith, many)) distinct.1 are.1,
  )

-- ---- a call that isn't refused has a stamp left, and a number where it gives one

asked_for : {A B : Type 0} (r : Result A Reply) (f : A → Result B Reply) (x : B) → and_then r f ≡ Ok x → (a : A) × (f a ≡ Ok x)
asked_for (Ok a) f x h = (a, h)
asked_for (Err e) f x h = cc

not_refused : {A : Type 0} (b : Bool) (reply : Reply) (rest : Result A Reply) (x : A) → refuse_if b reply rest ≡ Ok x → (b ≡ false) × (rest ≡ Ok x)
not_refused true reply rest x h = cc
not_refused false reply rest x h = (refl, h)

neither : (a b : Bool) → (a || b) ≡ false → (a ≡ false) × (b ≡ false)
neither true b h = cc
neither false b h = (refl, h)

stamp_left : (next : Counters) → IsCounters next → nat_eq next.stamp (2 ^ 63) ≡ false → next.stamp < 2 ^ 63
stamp_left next lawful left = let most = lawful.stamp in grind (arith, nat_tests)

-- the numbers that are given next, before a call that leads to a world and after it
pub record GoesUp (next after : Counters) : Type 0 where
  pub left : next.stamp < 2 ^ 63
  pub lawful : IsCounters after
  pub stamp : next.stamp < after.stamp
  pub id : next.id ≤ after.id
  pub number : next.number ≤ after.number

next_stamp : (next : Counters) → IsCounters next → nat_eq next.stamp (2 ^ 63) ≡ false → GoesUp next (record next { stamp = next.stamp + 1 })
next_stamp next lawful left =
    let low = stamp_left next lawful left in
    record {
      left = low;
      lawful = record { some_stamp = omega arith; stamp = omega (arith, low); some_id = lawful.some_id; id = lawful.id; some_number = lawful.some_number; number = lawful.number };
      stamp = omega arith;
      id = omega arith;
      number = omega arith;
    }

next_number : (next : Counters) → IsCounters next → (nat_eq next.stamp (2 ^ 63) || nat_eq next.number 4294967295) ≡ false → GoesUp next (record next { stamp = next.stamp + 1; number = next.number + 1 })
next_number next lawful left =
    let parts = neither (nat_eq next.stamp (2 ^ 63)) (nat_eq next.number 4294967295) left in
    let low = stamp_left next lawful parts.0 in
    let word = lawful.number in
    let more : next.number < 4294967295 = grind (arith, nat_tests, parts.1, word) in
    record {
      left = low;
      lawful = record { some_stamp = omega arith; stamp = omega (arith, low); some_id = lawful.some_id; id = lawful.id; some_number = omega arith; number = omega (arith, more) };
      stamp = omega arith;
      id = omega arith;
      number = omega arith;
    }

-- what is asked last, behind these refusals
abbrev new_one : World → Payload → Key → Result World Reply
new_one w payload name =
    refuse_if (is_spent w || nat_eq w.next.number 4294967295) Spent
    (Ok (record w {
      primary = with_node w.primary w.next.stamp name w.next.number payload;
      next = record (w.next) { stamp = w.next.stamp + 1; number = w.next.number + 1 };
    }))

abbrev with_cells_of : World → Cells → Result World Reply
with_cells_of w cells = refuse_if (is_spent w) Spent (Ok (with_primary w cells))

abbrev bytes_put : World → ℕ → List ℕ → ℕ → Result World Reply
bytes_put w place bytes node =
    refuse_if (nat_lt 0 (length bytes) && nat_lt file_limit (place + length bytes)) (TooBig (place + length bytes) file_limit)
    (with_cells_of w (written w.primary w.next.stamp node place bytes))

up_by_bytes : (w : World) (path : List (List ℕ)) (place : ℕ) (bytes : List ℕ) (x : World) → IsCounters w.next → and_then (file_at w.primary path) (bytes_put w place bytes) ≡ Ok x → GoesUp w.next (record w.next { stamp = w.next.stamp + 1 })
up_by_bytes w path place bytes x lawful h =
    let node = asked_for (file_at w.primary path) (bytes_put w place bytes) x h in
    let rest = with_cells_of w (written w.primary w.next.stamp node.0 place bytes) in
    let fits = not_refused (nat_lt 0 (length bytes) && nat_lt file_limit (place + length bytes)) (TooBig (place + length bytes) file_limit) rest x node.1 in
    next_stamp w.next lawful (not_refused (is_spent w) Spent (Ok (with_primary w (written w.primary w.next.stamp node.0 place bytes))) x fits.1).0

up_by_new : (w : World) (path : List (List ℕ)) (payload : Payload) (x : World) → IsCounters w.next → and_then (new_name_at w.primary path) (new_one w payload) ≡ Ok x
    → GoesUp w.next (record w.next { stamp = w.next.stamp + 1; number = w.next.number + 1 })
up_by_new w path payload x lawful h =
    let name = asked_for (new_name_at w.primary path) (new_one w payload) x h in
    next_number w.next lawful (not_refused (is_spent w || nat_eq w.next.number 4294967295) Spent (Ok (record w {
      primary = with_node w.primary w.next.stamp name.0 w.next.number payload;
      next = record (w.next) { stamp = w.next.stamp + 1; number = w.next.number + 1 };
    })) x name.1).0

pub goes_up : (w : World) (c : Call) (x : World) → IsCounters w.next → changed_by w c ≡ Ok x → GoesUp w.next (numbers_after c w.next)
goes_up w (call.Make path) x lawful h = up_by_new w path (File 0) x lawful h
goes_up w (call.Mkdir path) x lawful h = up_by_new w path Dir x lawful h
goes_up w (call.Rm path) x lawful h =
    let node = asked_for (file_at w.primary path) (λ node. and_then (name_at w.primary IsDir path) (λ name. with_cells_of w (without_file w.primary name node))) x h in
    let name = asked_for (name_at w.primary IsDir path) (λ name. with_cells_of w (without_file w.primary name node.0)) x node.1 in
    next_stamp w.next lawful (not_refused (is_spent w) Spent (Ok (with_primary w (without_file w.primary name.0 node.0))) x name.1).0
goes_up w (call.Rmdir path) x lawful h =
    let name = asked_for (name_at w.primary Root path) (λ name. and_then (directory_at w.primary path) (λ node. refuse_if (has_names w.primary node) NotEmpty (with_cells_of w (without_directory w.primary name node)))) x h in
    let node = asked_for (directory_at w.primary path) (λ node. refuse_if (has_names w.primary node) NotEmpty (with_cells_of w (without_directory w.primary name.0 node))) x name.1 in
    let empty = not_refused (has_names w.primary node.0) NotEmpty (with_cells_of w (without_directory w.primary name.0 node.0)) x node.1 in
    next_stamp w.next lawful (not_refused (is_spent w) Spent (Ok (with_primary w (without_directory w.primary name.0 node.0))) x empty.1).0
goes_up w (call.Mv path new_path) x lawful h =
    let last = λ (to : Key) (node : ℕ). and_then (name_at w.primary IsDir path) (λ from. Ok (with_primary w (renamed w.primary w.next.stamp from to node))) in
    let node = asked_for (file_at w.primary path) (λ node. and_then (new_name_at w.primary new_path) (λ to. refuse_if (is_spent w) Spent (last to node))) x h in
    let to = asked_for (new_name_at w.primary new_path) (λ to. refuse_if (is_spent w) Spent (last to node.0)) x node.1 in
    next_stamp w.next lawful (not_refused (is_spent w) Spent (last to.0 node.0) x to.1).0
goes_up w (call.Write path place bytes) x lawful h = up_by_bytes w path place bytes x lawful h
goes_up w (call.Fill path place len byte) x lawful h = up_by_bytes w path place (replicate len byte) x lawful h
goes_up w (call.Trunc path size) x lawful h =
    let node = asked_for (file_at w.primary path) (λ node. with_cells_of w (resized w.primary w.next.stamp node size)) x h in
    next_stamp w.next lawful (not_refused (is_spent w) Spent (Ok (with_primary w (resized w.primary w.next.stamp node.0 size))) x node.1).0
goes_up w (call.Read path place len) x lawful h = cc
goes_up w (call.List path) x lawful h = cc
goes_up w (call.Stat path) x lawful h = cc
goes_up w (call.Create name nodata removable) x lawful h = cc
goes_up w (call.Remove name) x lawful h = cc
goes_up w (call.Nodata name synchronous) x lawful h = cc
goes_up w (call.Removable name on) x lawful h = cc
goes_up w call.Ckpts x lawful h = cc
goes_up w (call.Mount letter name) x lawful h = cc
goes_up w (call.Umount letter) x lawful h = cc
goes_up w (call.Cread letter path place len) x lawful h = cc
goes_up w (call.Clist letter path) x lawful h = cc
goes_up w (call.Restore name) x lawful h = cc
goes_up w (call.Backup letter later_letter) x lawful h = cc
goes_up w (call.Full letter) x lawful h = cc
goes_up w call.Info x lawful h = cc
goes_up w call.Sync x lawful h = cc

-- ---- data blocks behind the limit, where there is no room for them

-- so many numbers from this one on as the changes write blocks
abbrev places_from : ℕ → List Change → List ℕ
places_from first [] = []
places_from first (Put key small ∷ changes) = places_from first changes
places_from first (Del key ∷ changes) = places_from first changes
places_from first (Write node index block ∷ changes) = first ∷ places_from (suc first) changes

-- the data blocks, with those bytes at these numbers
abbrev holding : (ℕ → ℕ → List ℕ) → Store → ℕ → List Change → Store
holding bytes store first [] = store
holding bytes store first (Put key small ∷ changes) = holding bytes store first changes
holding bytes store first (Del key ∷ changes) = holding bytes store first changes
holding bytes store first (Write node index block ∷ changes) = λ other. if nat_eq other first then bytes node index else holding bytes store (suc first) changes other

many_from : (first : ℕ) (changes : List Change) → length (places_from first changes) ≡ write_count changes
many_from first [] = refl
many_from first (Put key small ∷ changes) = let rest = many_from first changes in omega (arith, rest)
many_from first (Del key ∷ changes) = let rest = many_from first changes in omega (arith, rest)
many_from first (Write node index block ∷ changes) = let rest = many_from (suc first) changes in omega (arith, rest)

-- none stands below the first of them
fresh_from : (first : ℕ) (changes : List Change) (place : ℕ) → place < first → list_any (nat_eq place) (places_from first changes) ≡ false
fresh_from first [] place low = refl
fresh_from first (Put key small ∷ changes) place low = fresh_from first changes place low
fresh_from first (Del key ∷ changes) place low = fresh_from first changes place low
fresh_from first (Write node index block ∷ changes) place low =
    let apart : nat_eq place first ≡ false = grind (arith, nat_tests) in
    (λ i. apart i || fresh_from (suc first) changes place (omega (arith, low)) i)

distinct_from : (first : ℕ) (changes : List Change) → AreDistinct (places_from first changes)
distinct_from first [] = tt
distinct_from first (Put key small ∷ changes) = distinct_from first changes
distinct_from first (Del key ∷ changes) = distinct_from first changes
distinct_from first (Write node index block ∷ changes) = (fresh_from (suc first) changes first (omega arith), distinct_from (suc first) changes)

places_are : (t : Table) → IsSound t → (first blocks : ℕ) (changes : List Change) → t.blocks ≤ first → first + write_count changes ≤ blocks → AllByRecursion (IsPlace t blocks) (places_from first changes)
places_are t sound first blocks [] past within = tt
places_are t sound first blocks (Put key small ∷ changes) past within = places_are t sound first blocks changes past (omega (arith, within))
places_are t sound first blocks (Del key ∷ changes) past within = places_are t sound first blocks changes past (omega (arith, within))
places_are t sound first blocks (Write node index block ∷ changes) past within =
    ((omega (arith, within), past_unnamed t sound first past), places_are t sound (suc first) blocks changes (omega (arith, past)) (omega (arith, within)))

-- what stands below them stays
holding_below : (bytes : ℕ → ℕ → List ℕ) (store : Store) (first : ℕ) (changes : List Change) (block : ℕ) → block < first → holding bytes store first changes block ≡ store block
holding_below bytes store first [] block low = refl
holding_below bytes store first (Put key small ∷ changes) block low = holding_below bytes store first changes block low
holding_below bytes store first (Del key ∷ changes) block low = holding_below bytes store first changes block low
holding_below bytes store first (Write node index other ∷ changes) block low =
    let apart : nat_eq block first ≡ false = grind (arith, nat_tests) in
    ap (λ b. if b then bytes node index else holding bytes store (suc first) changes block) apart ∙ holding_below bytes store (suc first) changes block (omega (arith, low))

-- what holds there holds where the same stands there
held_alike : (bytes : ℕ → ℕ → List ℕ) (one other : Store) (first : ℕ) (changes : List Change) → ((block : ℕ) → first ≤ block → other block ≡ one block)
    → AreHeld bytes one (with_places changes (places_from first changes)) → AreHeld bytes other (with_places changes (places_from first changes))
held_alike bytes one other first [] same held = tt
held_alike bytes one other first (Put key small ∷ changes) same held = held_alike bytes one other first changes same held
held_alike bytes one other first (Del key ∷ changes) same held = held_alike bytes one other first changes same held
held_alike bytes one other first (Write node index block ∷ changes) same held =
    (same first (omega arith) ∙ held.0, held_alike bytes one other (suc first) changes (λ b past. same b (omega (arith, past))) held.1)

held_from : (bytes : ℕ → ℕ → List ℕ) (store : Store) (first : ℕ) (changes : List Change) → AreHeld bytes (holding bytes store first changes) (with_places changes (places_from first changes))
held_from bytes store first [] = tt
held_from bytes store first (Put key small ∷ changes) = held_from bytes store first changes
held_from bytes store first (Del key ∷ changes) = held_from bytes store first changes
held_from bytes store first (Write node index block ∷ changes) =
    let here : nat_eq first first ≡ true = grind (arith, nat_tests) in (
      ap (λ b. if b then bytes node index else holding bytes store (suc first) changes first) here,
      held_alike bytes (holding bytes store (suc first) changes) (holding bytes store first (Write node index block ∷ changes)) (suc first) changes
          (λ b past. let apart : nat_eq b first ≡ false = grind (arith, nat_tests, past) in ap (λ e. if e then bytes node index else holding bytes store (suc first) changes b) apart)
          (held_from bytes store (suc first) changes),
    )

few_writes : (changes : List Change) → write_count changes ≤ length changes
few_writes [] = omega arith
few_writes (Put key small ∷ changes) = let rest = few_writes changes in omega (arith, rest)
few_writes (Del key ∷ changes) = let rest = few_writes changes in omega (arith, rest)
few_writes (Write node index block ∷ changes) = let rest = few_writes changes in omega (arith, rest)

one_at_most : (b : Bool) → one_if b ≤ 1
one_at_most true = omega arith
one_at_most false = omega arith

gain_few : (t : Table) (change : Change) → gain t change ≤ 2
gain_few t change =
    let a = one_at_most (is_some (push_of t (key_of change))) in
    let b = one_at_most (not (is_deletion change) && not (is_some (column t (key_of change) 0))) in
    omega (arith, a, b)

few_gains : (t : Table) (changes : List Change) → gains t changes ≤ 2 * length changes
few_gains t [] = omega arith
few_gains t (change ∷ changes) = let here = gain_few t change in let rest = few_gains t changes in omega (arith, here, rest)

-- what they take is counted in 32 bits
pub few_of_plan : (t : Table) (changes : List Change) → length changes ≤ 262146 → (length changes < 2 ^ 31) × (write_count changes < 2 ^ 31) × (gains t changes - losses t changes < 2 ^ 31)
few_of_plan t changes few =
    let writes = few_writes changes in
    let more = few_gains t changes in
    (omega (arith, few), omega (arith, few, writes), omega (arith, few, more))

-- want of room is no fault
pub lack-ordinary : (t : Table) (blocks records : ℕ) (reply : Reply) → reply ≡ lack_of_room t blocks records → is_fault reply ≡ false
lack-ordinary t blocks records reply is =
    ap is_fault is
    ∙ elim (nat_le (extent_count t + blocks) t.blocks) as (λ b. is_fault (if b then NoSpace Records (record_count t) records t.records else NoSpace Blocks (extent_count t) blocks t.blocks) ≡ false) [ true ↦ refl | false ↦ refl ]

-- room for the records
pub room_records : (t : Table) (blocks records : ℕ) → has_room t blocks records ≡ true → records ≤ spare_count t
room_records t blocks records room =
    let fits : nat_le (record_count t + records) t.records ≡ true = last (nat_le (extent_count t + blocks) t.blocks) (nat_le (record_count t + records) t.records) room in
    let low : record_count t + records ≤ t.records = grind (arith, nat_tests) in
    omega (arith, low)
  where
    last : (a b : Bool) → (a && b) ≡ true → b ≡ true
    last true b h = h
    last false b h = cc

-- the bytes that a call writes don't depend on the checkpoints
same_blocks : (w : World) (checkpoints : List Checkpoint) (c : Call) → block_by w c ≡ block_by (record w { checkpoints = checkpoints }) c
same_blocks w checkpoints (call.Make path) = refl
same_blocks w checkpoints (call.Mkdir path) = refl
same_blocks w checkpoints (call.Rm path) = refl
same_blocks w checkpoints (call.Rmdir path) = refl
same_blocks w checkpoints (call.Mv path new_path) = refl
same_blocks w checkpoints (call.Write path place bytes) = refl
same_blocks w checkpoints (call.Fill path place len byte) = refl
same_blocks w checkpoints (call.Trunc path size) = refl
same_blocks w checkpoints (call.Read path place len) = refl
same_blocks w checkpoints (call.List path) = refl
same_blocks w checkpoints (call.Stat path) = refl
same_blocks w checkpoints (call.Create name nodata removable) = refl
same_blocks w checkpoints (call.Remove name) = refl
same_blocks w checkpoints (call.Nodata name synchronous) = refl
same_blocks w checkpoints (call.Removable name on) = refl
same_blocks w checkpoints call.Ckpts = refl
same_blocks w checkpoints (call.Mount letter name) = refl
same_blocks w checkpoints (call.Umount letter) = refl
same_blocks w checkpoints (call.Cread letter path place len) = refl
same_blocks w checkpoints (call.Clist letter path) = refl
same_blocks w checkpoints (call.Restore name) = refl
same_blocks w checkpoints (call.Backup letter later_letter) = refl
same_blocks w checkpoints (call.Full letter) = refl
same_blocks w checkpoints call.Info = refl
same_blocks w checkpoints call.Sync = refl

-- ---- what the call is answered

module _ (store : Store) (mounts : Mounts) (t : Table) (c : Call) (changes : List Change) (ours : IsOurs t) (plan : IsPlan t c changes) where
  abbrev w : World
  w = world_on store mounts t

  abbrev next : Counters
  next = numbers_after c t.counters

  asked : changed_by w c ≡ Ok (world_after w c changes)
  asked = plan.leads w (record { cells = stands store t 0; next = refl })

  pub planned_up : GoesUp t.counters next
  planned_up = goes_up w c (world_after w c changes) ours.lawful.counters asked

  pub planned_raised : (blocks : ℕ) → t.blocks ≤ blocks → IsRaised t next blocks
  planned_raised blocks limit = let up = planned_up in let stamp = up.stamp in record { lawful = up.lawful; stamp = omega (arith, stamp); id = up.id; number = up.number; limit = limit }

  pub planned_may : (places : List ℕ) (blocks : ℕ) → length places ≡ write_count changes → AreDistinct places → AllByRecursion (IsPlace t blocks) places → blocks ≤ 2 ^ 31
      → MayChangeAll (raised t next blocks) (with_places changes places) t.counters.stamp
  planned_may places blocks many distinct are most = may_all t next blocks ours planned_up.left most changes places (recursion_from_All (MayBeMade t next) changes plan.each) plan.once many distinct are

  module _ (other : Store) (places : List ℕ) (blocks : ℕ) (many : length places ≡ write_count changes) (distinct : AreDistinct places) (are : AllByRecursion (IsPlace t blocks) places)
      (limit : t.blocks ≤ blocks) (most : blocks ≤ 2 ^ 31) (same : SameNamed t store other) (held : AreHeld (block_by w c) other (with_places changes places)) where
    abbrev items : List Change
    items = with_places changes places

    leads : (x : World) → changing x (changed_by w c) ≡ changing x (Ok (record w { primary = with_changes other w.primary items t.counters.stamp; next = next }))
    leads x = ap (changing x) (asked ∙ ap (λ cells. Ok (record w { primary = cells; next = next })) (sym (placed_cells (block_by w c) other t.counters.stamp w.primary changes places held)))

    counted : (b r : ℕ) → b ≡ write_count changes → r ≡ gains t changes - losses t changes → (b ≡ write_count items) × (r ≡ gains t items - losses t items)
    counted b r bs rs = (bs ∙ sym (placed_writes changes places), rs ∙ (λ i. sym (placed_gains t changes places) i - sym (placed_losses t changes places) i))

    full_with : IsDrained t → pick_of t ≡ None → (b r : ℕ) (reply : Reply) → b ≡ write_count changes → r ≡ gains t changes - losses t changes → has_room t b r ≡ false → reply ≡ lack_of_room t b r → changing w (changed_by w c) ≡ answered_with reply w
    full_with drained none b r reply bs rs full is =
        let n = counted b r bs rs in
        leads w ∙ changing-full store other mounts t next blocks items ours (planned_raised blocks limit) planned_up.stamp same (planned_may places blocks many distinct are most) drained none b r reply n.0 n.1 full is

    given_with : IsDrained t → (id : ℕ) → pick_of t ≡ Some id → has_room t (write_count changes) (gains t changes - losses t changes) ≡ false → changing w (changed_by w c) ≡ given_before 1 (changing (world_on store mounts (with_gone t id)) (changed_by w c))
    given_with drained id picked full =
        let n = counted (write_count changes) (gains t changes - losses t changes) refl refl in
        leads w
        ∙ changing-given store other mounts t next blocks items ours (planned_raised blocks limit) planned_up.stamp same (planned_may places blocks many distinct are most) drained id picked ((λ i. has_room t (sym n.0 i) (sym n.1 i)) ∙ full)
        ∙ ap (given_before 1) (sym (leads (world_on store mounts (with_gone t id))))

    -- it has room, and its changes are made
    pub planned-fits : has_room t (write_count changes) (gains t changes - losses t changes) ≡ true → blocks ≡ t.blocks → (after : Table) → after ≡ changed_all (raised t next blocks) items t.counters.stamp
        → changing w (changed_by w c) ≡ answered_with Done (world_on other mounts after)
    planned-fits room fixed after is =
        let n = counted (write_count changes) (gains t changes - losses t changes) refl refl in
        leads w ∙ changing-fits store other mounts t next blocks items ours (planned_raised blocks limit) planned_up.stamp same (planned_may places blocks many distinct are most)
        (write_count changes) (gains t changes - losses t changes) after n.0 n.1 room fixed is

  -- behind the limit its changes have data blocks that hold what it writes
  behind : {P : Type 0} → ((other : Store) (places : List ℕ) (blocks : ℕ) → length places ≡ write_count changes → AreDistinct places → AllByRecursion (IsPlace t blocks) places
      → t.blocks ≤ blocks → blocks ≤ 2 ^ 31 → SameNamed t store other → AreHeld (block_by w c) other (with_places changes places) → P) → P
  behind found =
      let blocks = t.blocks + write_count changes in
      let few = few_writes changes in
      let at_most = plan.few in
      let sized = ours.sized.blocks in
      found (holding (block_by w c) store t.blocks changes) (places_from t.blocks changes) blocks (many_from t.blocks changes) (distinct_from t.blocks changes)
      (places_are t ours.sound t.blocks blocks changes (omega arith) (omega arith)) (omega arith) (omega (arith, few, at_most, sized))
      (λ block named. holding_below (block_by w c) store t.blocks changes block (below block (is-named t block named)))
      (held_from (block_by w c) store t.blocks changes)
    where
      below : (block : ℕ) → IsNamed t block → block < t.blocks
      below block named = elim (cases_lt block t.blocks) [
        | inl low ↦ low
        | inr past ↦ absurd (past_unnamed t ours.sound block (omega (arith, past)) named)
      ]

  -- it has no room, and nothing is left to give up
  pub planned-full : IsDrained t → pick_of t ≡ None → (b r : ℕ) (reply : Reply) → b ≡ write_count changes → r ≡ gains t changes - losses t changes → has_room t b r ≡ false → reply ≡ lack_of_room t b r
      → changing w (changed_by w c) ≡ answered_with reply w
  planned-full drained none b r reply bs rs full is =
      behind (λ other places blocks many distinct are limit most same held.
      full_with other places blocks many distinct are limit most same held drained none b r reply bs rs full is)

  -- where one is left to give up, it comes to what it does once that one is gone
  pub planned-given : IsDrained t → (id : ℕ) → pick_of t ≡ Some id → has_room t (write_count changes) (gains t changes - losses t changes) ≡ false
      → let left = world_on store mounts (with_gone t id) in changing w (changed_by w c) ≡ given_before 1 (changing left (changed_by left c))
  planned-given drained id picked full =
      behind (λ other places blocks many distinct are limit most same held.
      given_with other places blocks many distinct are limit most same held drained id picked full)
      ∙ ap (given_before 1) (asked_left (world_on store mounts (with_gone t id)).checkpoints)
    where
      -- it asks for the same whatever the checkpoints are
      asked_left : (checkpoints : List Checkpoint) → let left = record w { checkpoints = checkpoints } in changing left (changed_by w c) ≡ changing left (changed_by left c)
      asked_left checkpoints =
          let left = record w { checkpoints = checkpoints } in
          ap (changing left) asked
          ∙ ap (λ bytes. changing left (Ok (record w { primary = planned_cells bytes t.counters.stamp w.primary changes; next = next }))) (same_blocks w checkpoints c)
          ∙ ap (changing left) (sym (plan.leads left (record { cells = stands store t 0; next = refl })))

-- it is refused
pub planned-refused : (store : Store) (mounts : Mounts) (t : Table) (c : Call) (fault : TreeFault) → IsRefusal t c fault → fault ≢ NoMemory → changing (world_on store mounts t) (changed_by (world_on store mounts t) c) ≡ answered_with (reply_of fault) (world_on store mounts t)
planned-refused store mounts t c fault refusal some = elim refusal [
  | inl none ↦ absurd (some none)
  | inr refused ↦ ap (changing (world_on store mounts t)) (refused (world_on store mounts t) (record { cells = stands store t 0; next = refl }))
]

pub ordinary_refusal : (fault : TreeFault) → fault ≢ NoMemory → is_fault (reply_of fault) ≡ false
ordinary_refusal NotFound some = refl
ordinary_refusal NotDir some = refl
ordinary_refusal IsDirectory some = refl
ordinary_refusal Existing some = refl
ordinary_refusal NotEmptied some = refl
ordinary_refusal AtRoot some = refl
ordinary_refusal (TooLong size limit) some = refl
ordinary_refusal AllSpent some = refl
ordinary_refusal NoMemory some = absurd (some refl)
