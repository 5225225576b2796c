-- Histories that follow their scripts, and some that don't.
use Rattle.std.proofs.Common.{◌≡◌, ℕ, ◌+◌, ◌&&◌, true, false, cond, List, [], ◌∷◌, ◌++◌, length, nat_eq, codes, refl, ap, arith}
use Rattle.std.specs.Prelude.{replicate}
use Rattle.std.specs.List.{AllByRecursion, slice_index_or}
use Rattle.ck_laws.specs.Laws.{frozen}
use Rattle.ck_model.specs.declared.call.Call.{Call}
use Rattle.ck_model.specs.declared.call.Call.TheVariants.{Make, Rm, Write, Fill, Create, Remove, Nodata, Ckpts, Mount, Cread, Info as Counted, Sync}
use Rattle.ck_model.specs.declared.checkpoint.State.TheVariants as state
use Rattle.ck_model.specs.declared.entry.Entry.{Entry}
use Rattle.ck_model.specs.declared.reply.Reply.{Reply}
use Rattle.ck_model.specs.declared.reply.Reply.TheVariants.{Done, Bytes, Created, Listing, Info}
use Rattle.ck_model.specs.History.{begun, call_at}
use Rattle.ck_model.specs.Streams.{Texts}
use Rattle.ck_model.specs.World.{World}
use Rattle.ck_script.specs.declared.line.Line.{Line}
use Rattle.ck_script.specs.Numbered.{calls_in}
use Rattle.ck_script.specs.Parsed.{Parsed, line_of}
use Rattle.ck_actor.specs.Counts.{TurnCounts}
use Rattle.ck_actor.specs.Turns.{Follows, at_first, answered_by}
use Rattle.ck_actor.proofs.CountLemmas.{TakesAnywhere, take_anywhere}

-- these calls behind the lines before them
abbrev lines_with : List Line → List (ℕ × Call) → List Line
lines_with lines [] = lines
lines_with lines (it ∷ calls) = lines_with (lines ++ line_of lines (length lines + 1) it.0 it.1 ∷ []) calls

abbrev script_of : List (ℕ × Call) → List ℕ → Parsed
script_of calls turns = record { calls = lines_with [] calls; turns = turns }

abbrev entry : ℕ → ℕ → Reply → Entry
entry actor seq reply = record { actor = actor; seq = seq; at = 100; given = 0; reply = reply }

-- the path `/` and this name
abbrev file : List ℕ → List (List ℕ)
file name = name ∷ []

-- each call takes one turn
abbrev one : TurnCounts
one actor seq = 1

-- ---- two actors: one writes and removes a checkpoint, the other one reads an older one while it is moved

abbrev two_actors : Parsed
two_actors =
    script_of
    ((1, Make (file (codes "a"))) ∷ (1, Write (file (codes "a")) 0 (codes "one")) ∷ (1, Make (file (codes "b"))) ∷ (1, Write (file (codes "b")) 0 (codes "bee"))
    ∷ (1, Create (codes "c1") false false) ∷ (1, Create (codes "c2") false false) ∷ (1, Write (file (codes "a")) 0 (codes "two"))
    ∷ (1, Write (file (codes "b")) 0 (codes "cow")) ∷ (1, Create (codes "c3") false false) ∷ (1, Remove (codes "c2"))
    ∷ (2, Mount 120 (codes "c1")) ∷ (2, Cread 120 (file (codes "a")) 0 3) ∷ (2, Cread 120 (file (codes "b")) 0 3) ∷ (2, Counted) ∷ [])
    (1 ∷ 1 ∷ 1 ∷ 1 ∷ 1 ∷ 1 ∷ 1 ∷ 1 ∷ 1 ∷ 1 ∷ 0 ∷ 2 ∷ 2 ∷ 2 ∷ 2 ∷ [])

abbrev by_two_actors : List Entry
by_two_actors =
    entry 1 1 Done ∷ entry 1 2 Done ∷ entry 1 3 Done ∷ entry 1 4 Done ∷ entry 1 5 (Created 1) ∷ entry 1 6 (Created 2) ∷ entry 1 7 Done ∷ entry 1 8 Done
    ∷ entry 1 9 (Created 3) ∷ entry 1 10 Done ∷ entry 2 1 Done ∷ entry 2 2 (Bytes (codes "one")) ∷ entry 2 3 (Bytes (codes "bee")) ∷ entry 2 4 (Info 4 64 11 256 2) ∷ []

pub two_actors_follow : (texts : Texts) (w : World) → Follows texts two_actors w by_two_actors
two_actors_follow texts w =
    let calls = call_at (calls_in two_actors.calls) in
    let maps = frozen texts calls w by_two_actors in
    let once : AllByRecursion (TakesAnywhere calls maps one) by_two_actors = search arith in
    record {
      counts = one;
      taken = take_anywhere texts calls maps one (begun w) by_two_actors once;
      order = refl;
    }

-- ---- a checkpoint that is removed step by step, with a turn of the background in between

abbrev moved : Parsed
moved =
    script_of
    ((1, Create (codes "c1") false false) ∷ (1, Make (file (codes "a"))) ∷ (1, Create (codes "c2") false false) ∷ (1, Rm (file (codes "a"))) ∷ (1, Remove (codes "c2")) ∷ (1, Sync) ∷ [])
    (1 ∷ 1 ∷ 1 ∷ 1 ∷ 1 ∷ 0 ∷ 1 ∷ [])

abbrev by_moved : List Entry
by_moved = entry 1 1 (Created 1) ∷ entry 1 2 Done ∷ entry 1 3 (Created 2) ∷ entry 1 4 Done ∷ entry 1 5 Done ∷ entry 1 6 Done ∷ []

pub moved_follows : (texts : Texts) (w : World) → Follows texts moved w by_moved
moved_follows texts w =
    let calls = call_at (calls_in moved.calls) in
    let maps = frozen texts calls w by_moved in
    let once : AllByRecursion (TakesAnywhere calls maps one) by_moved = search arith in
    record {
      counts = one;
      taken = take_anywhere texts calls maps one (begun w) by_moved once;
      order = refl;
    }

-- ---- a read of three blocks, which is answered at its third turn

abbrev long_read : Parsed
long_read =
    script_of
    ((1, Make (file (codes "a"))) ∷ (1, Fill (file (codes "a")) 0 12289 97) ∷ (1, Create (codes "c1") false false) ∷ (1, Sync) ∷ (1, Sync)
    ∷ (2, Mount 120 (codes "c1")) ∷ (2, Cread 120 (file (codes "a")) 4095 4098) ∷ [])
    (1 ∷ 1 ∷ 1 ∷ 2 ∷ 2 ∷ 1 ∷ 2 ∷ 1 ∷ 2 ∷ 2 ∷ [])

abbrev by_long_read : List Entry
by_long_read =
    entry 1 1 Done ∷ entry 1 2 Done ∷ entry 1 3 (Created 1) ∷ entry 2 1 Done ∷ entry 1 4 Done ∷ entry 1 5 Done ∷ entry 2 2 (Bytes (replicate 4098 97)) ∷ []

abbrev three_for_it : TurnCounts
three_for_it actor seq = cond (nat_eq actor 2 && nat_eq seq 2) 3 1

pub long_read_follows : (texts : Texts) (w : World) → Follows texts long_read w by_long_read
long_read_follows texts w =
    let calls = call_at (calls_in long_read.calls) in
    let maps = frozen texts calls w by_long_read in
    let each : AllByRecursion (TakesAnywhere calls maps three_for_it) by_long_read = search arith in
    record {
      counts = three_for_it;
      taken = take_anywhere texts calls maps three_for_it (begun w) by_long_read each;
      order = refl;
    }

-- ---- a checkpoint that is stripped step by step: its call is answered at the first turn, and the turns end while it strips

abbrev stripped : Parsed
stripped =
    script_of
    ((1, Make (file (codes "a"))) ∷ (1, Fill (file (codes "a")) 0 8192 97) ∷ (1, Create (codes "c1") false false) ∷ (1, Fill (file (codes "a")) 0 8192 98)
    ∷ (1, Nodata (codes "c1") true) ∷ (1, Counted) ∷ (2, Ckpts) ∷ [])
    (1 ∷ 1 ∷ 1 ∷ 1 ∷ 1 ∷ 2 ∷ [])

abbrev by_stripped : List Entry
by_stripped =
    entry 1 1 Done ∷ entry 1 2 Done ∷ entry 1 3 (Created 1) ∷ entry 1 4 Done ∷ entry 1 5 Done
    ∷ entry 2 1 (Listing (record { id = 1; state = state.Nodata; removable = false; ctime = 100; name = codes "c1" } ∷ [])) ∷ entry 1 6 (Info 2 64 8 256 1) ∷ []

-- the conversion has two blocks to strip
abbrev two_for_it : TurnCounts
two_for_it actor seq = cond (nat_eq actor 1 && nat_eq seq 5) 2 1

pub stripped_follows : (texts : Texts) (w : World) → Follows texts stripped w by_stripped
stripped_follows texts w =
    let calls = call_at (calls_in stripped.calls) in
    let maps = frozen texts calls w by_stripped in
    let each : AllByRecursion (TakesAnywhere calls maps two_for_it) by_stripped = search arith in
    record {
      counts = two_for_it;
      taken = take_anywhere texts calls maps two_for_it (begun w) by_stripped each;
      order = refl;
    }

-- ---- what doesn't follow

-- the actor of the call at a place
abbrev actor_at : ℕ → List (ℕ × ℕ) → ℕ
actor_at place calls = (slice_index_or calls place (0, 0)).0

-- the calls in the order of their lines, where the turns have another
abbrev crossed : Parsed
crossed = script_of ((1, Sync) ∷ (2, Sync) ∷ []) (2 ∷ 1 ∷ [])

pub lines_do_not_follow : (texts : Texts) (w : World) → Follows texts crossed w (entry 1 1 Done ∷ entry 2 1 Done ∷ []) → ⊥
lines_do_not_follow texts w follows = refused follows.counts (follows.taken.1.0.told refl) follows.order
  where
    refused : (counts : TurnCounts) → counts 2 1 ≡ 1 → (1, 1) ∷ (2, 1) ∷ [] ≡ answered_by crossed.calls counts at_first crossed.turns → ⊥
    refused counts two = rw two (λ same. let actors : ◌≡◌ {A = ℕ} 1 2 = ap (actor_at 0) same in omega (arith, actors))

-- a read of three blocks that is answered at its first turn
abbrev crossed_read : Parsed
crossed_read = script_of ((1, Cread 120 (file (codes "a")) 4095 4098) ∷ (2, Sync) ∷ []) (1 ∷ 2 ∷ [])

pub whole_read_does_not_follow : (texts : Texts) (w : World) → Follows texts crossed_read w (entry 1 1 (Bytes (replicate 4098 97)) ∷ entry 2 1 Done ∷ []) → ⊥
whole_read_does_not_follow texts w follows = refused follows.counts (follows.taken.0.told refl) (follows.taken.1.0.told refl) follows.order
  where
    refused : (counts : TurnCounts) → counts 1 1 ≡ 3 → counts 2 1 ≡ 1 → (1, 1) ∷ (2, 1) ∷ [] ≡ answered_by crossed_read.calls counts at_first crossed_read.turns → ⊥
    refused counts three one = rw (three, one) (λ same. let actors : ◌≡◌ {A = ℕ} 1 2 = ap (actor_at 0) same in omega (arith, actors))

-- a conversion step by step that is answered once all is stripped
abbrev crossed_strip : Parsed
crossed_strip = script_of ((1, Nodata (codes "c1") true) ∷ (2, Sync) ∷ []) (1 ∷ 2 ∷ 1 ∷ [])

pub strip_before_its_entry_does_not_follow : (texts : Texts) (w : World) → Follows texts crossed_strip w (entry 2 1 Done ∷ entry 1 1 Done ∷ []) → ⊥
strip_before_its_entry_does_not_follow texts w follows = refused follows.counts follows.order
  where
    refused : (counts : TurnCounts) → (2, 1) ∷ (1, 1) ∷ [] ≡ answered_by crossed_strip.calls counts at_first crossed_strip.turns → ⊥
    refused counts same = let actors : ◌≡◌ {A = ℕ} 2 1 = ap (actor_at 0) same in omega (arith, actors)
