-- A read of a checkpoint's file, and the model's reply to it.
use Rattle.std.proofs.Common.{◌≡◌, ℕ, ◌+◌, ◌-◌, true, false, cond, not, Bool, Result, Ok, Err, Some, List, [], ◌∷◌, length, min, map as list_map, refl, sym, ap, ◌∙◌, arith}
use Rattle.std.specs.List.{range_with_len}
use Rattle.std.specs.Option.{ok_or}
use Rattle.std.specs.FinMap as map
use Rattle.ck_model.specs.declared.path.WalkFault.{WalkFault}
use Rattle.ck_model.specs.declared.path.WalkFault.TheVariants as walk_fault
use Rattle.ck_model.specs.declared.reply.Reply.{Reply}
use Rattle.ck_model.specs.declared.reply.Reply.TheVariants.{Bytes, IsDir, NotMounted}
use Rattle.ck_model.specs.declared.reply.Reply.TheVariants as reply
use Rattle.ck_model.specs.Cells.{Cells, size_at, is_directory_at}
use Rattle.ck_model.specs.Chain.{is_live, is_live_data}
use Rattle.ck_model.specs.CheckpointCalls.{standing, with_data}
use Rattle.ck_model.specs.Contents.{file_byte, file_range}
use Rattle.ck_model.specs.ReadCalls.{range_read, checkpoint_read}
use Rattle.ck_model.specs.Refusals.{and_then, or_refused, refuse_if}
use Rattle.ck_model.specs.Table.{Table}
use Rattle.ck_model.specs.TableWorld.{world_on}
use Rattle.ck_model.specs.Values.{Store}
use Rattle.ck_model.specs.Walk.{walk, file_at}
use Rattle.ck_model.specs.World.{Mounts}
use Rattle.ck_read.specs.declared.fault.StartFault.{StartFault}
use Rattle.ck_read.specs.declared.fault.StartFault.TheVariants as fault
use Rattle.ck_read.specs.declared.progress.ReadProgress.{ReadProgress}
use Rattle.ck_read.specs.Block.{map_on}
use Rattle.ck_read.specs.Progress.{is_through, turns_left, turns_of, ReadFits, IsReadOf}
use Rattle.ck_read.specs.StartFault.{file_in, file_read, reply_of}
use Rattle.ck_read.proofs.ProgressLaws.{all_read, turns_begun}
use Rattle.ck_read.proofs.StandingLemmas.{answer_if, standing_is}

-- ---- the file

-- the file of a walk along a path is the one that the path leads to
file_found : (cells : Cells) (path : List (List ℕ)) (node : ℕ) → file_in cells (walk cells path) ≡ Ok node → file_at cells path ≡ Ok node
file_found cells path node is = on (walk cells path) is
  where
    here : (directory : Bool) (n : ℕ) → ◌≡◌ {A = Result ℕ StartFault} (cond directory (Err fault.IsDir) (Ok n)) (Ok node) → refuse_if directory IsDir (Ok n) ≡ Ok node
    here true n is = cc
    here false n is = cc

    on : (found : Result ℕ WalkFault) → file_in cells found ≡ Ok node → and_then (or_refused found) (λ n. refuse_if (is_directory_at cells n) IsDir (Ok n)) ≡ Ok node
    on (Ok n) is = here (is_directory_at cells n) n is
    on (Err walk_fault.NotFound) is = cc
    on (Err walk_fault.NotDir) is = cc

same_fault : (x y : StartFault) → ◌≡◌ {A = Result ℕ StartFault} (Err x) (Err y) → x ≡ y
same_fault x y is = cc

-- where it is refused, it is with the refusal's reply
file_refused : (cells : Cells) (path : List (List ℕ)) (ckpt : ℕ) (why : StartFault) → file_in cells (walk cells path) ≡ Err why → file_at cells path ≡ Err (reply_of ckpt why)
file_refused cells path ckpt why is = on (walk cells path) is
  where
    here : (directory : Bool) (n : ℕ) → ◌≡◌ {A = Result ℕ StartFault} (cond directory (Err fault.IsDir) (Ok n)) (Err why) → refuse_if directory IsDir (Ok n) ≡ Err (reply_of ckpt why)
    here true n is = ap (λ x. Err (reply_of ckpt x)) (same_fault fault.IsDir why is)
    here false n is = cc

    on : (found : Result ℕ WalkFault) → file_in cells found ≡ Err why → and_then (or_refused found) (λ n. refuse_if (is_directory_at cells n) IsDir (Ok n)) ≡ Err (reply_of ckpt why)
    on (Ok n) is = here (is_directory_at cells n) n is
    on (Err walk_fault.NotFound) is = ap (λ x. Err (reply_of ckpt x)) (same_fault fault.NotFound why is)
    on (Err walk_fault.NotDir) is = ap (λ x. Err (reply_of ckpt x)) (same_fault fault.NotDir why is)

-- ---- from the first turn to the last

-- a read that began is of the path's file
pub read_begun : (t : Table) (cells : Cells) (path : List (List ℕ)) (at len : ℕ) (p : ReadProgress) → file_read t cells p.ckpt (walk cells path) ≡ Ok p.node
    → p.from ≡ at → p.to ≡ min (at + len) (size_at cells p.node) → ReadFits cells p → IsReadOf cells path at len p
read_begun t cells path at len p node from to fits = record {
  file = file_found cells path p.node (of_data (is_live t p.ckpt) (is_live_data t p.ckpt) node);
  from = from;
  to = to;
  fits = fits;
}
  where
    of_data : (live keeps : Bool) → cond (not live) (Err fault.Gone) (cond (not keeps) (Err fault.NoData) (file_in cells (walk cells path))) ≡ Ok p.node → file_in cells (walk cells path) ≡ Ok p.node
    of_data true true is = is
    of_data true false is = cc
    of_data false keeps is = cc

-- a turn leaves the file and the range
pub read_on : (cells : Cells) (path : List (List ℕ)) (at len : ℕ) (p q : ReadProgress) → q ≡ record p { bytes = q.bytes } → ReadFits cells q → IsReadOf cells path at len p → IsReadOf cells path at len q
read_on cells path at len p q others fits is =
    let node : q.node ≡ p.node = ap (λ (r : ReadProgress). r.node) others in
    record {
      file = is.file ∙ ap Ok (sym node);
      from = ap (λ (r : ReadProgress). r.from) others ∙ is.from;
      to = ap (λ (r : ReadProgress). r.to) others ∙ is.to ∙ ap (λ n. min (at + len) (size_at cells n)) (sym node);
      fits = fits;
    }

-- once it is through, its bytes are the reply's
range_is : (cells : Cells) (path : List (List ℕ)) (at len : ℕ) (p : ReadProgress) → IsReadOf cells path at len p → is_through p ≡ true → range_read cells path at len ≡ Ok (Bytes p.bytes)
range_is cells path at len p is through =
    let to : p.to ≡ min (p.from + len) (size_at cells p.node) = is.to ∙ ap (λ n. min (n + len) (size_at cells p.node)) (sym is.from) in
    ap (λ found. and_then found (λ node. Ok (Bytes (file_range cells node at len)))) is.file
    ∙ ap (λ n. Ok (Bytes (file_range cells p.node n len))) (sym is.from)
    ∙ ap (λ bytes. Ok (Bytes bytes)) (sym (all_read cells p len is.fits to through))

-- it takes a turn for each block that the reply's bytes touch, and at least one
pub read_turns : (cells : Cells) (path : List (List ℕ)) (at len : ℕ) (p : ReadProgress) → IsReadOf cells path at len p → p.bytes ≡ [] → turns_left p ≡ turns_of at (length (file_range cells p.node at len))
read_turns cells path at len p is none =
    let to : p.to ≡ min (p.from + len) (size_at cells p.node) = is.to ∙ ap (λ n. min (n + len) (size_at cells p.node)) (sym is.from) in
    turns_begun cells p len none to ∙ ap (λ n. turns_of n (length (file_range cells p.node n len))) is.from

-- ---- while others go on

-- what is read of a file depends on its size and its bytes alone
pub fits_still : (a b : Cells) (p : ReadProgress) → size_at b p.node ≡ size_at a p.node → ((place : ℕ) → file_byte b p.node place ≡ file_byte a p.node place) → ReadFits a p → ReadFits b p
fits_still a b p size bytes fits = record {
  under_way = fits.under_way;
  end = omega (arith, fits.end, size);
  bytes = fits.bytes
      ∙ ap (λ n. list_map (file_byte a p.node) (range_with_len p.from (min (length p.bytes) (n - p.from)))) (sym size)
      ∙ same (range_with_len p.from (min (length p.bytes) (size_at b p.node - p.from)));
}
  where
    same : (places : List ℕ) → list_map (file_byte a p.node) places ≡ list_map (file_byte b p.node) places
    same [] = refl
    same (x ∷ places) = ap (λ byte. byte ∷ list_map (file_byte a p.node) places) (sym (bytes x)) ∙ ap (λ xs. file_byte b p.node x ∷ xs) (same places)

-- ---- the model's reply to the read of a mounted checkpoint

module _ (store : Store) (mounts : Mounts) (t : Table) (actor letter ckpt : ℕ) (mounted : map.get mounts (actor, letter) ≡ Some ckpt) (path : List (List ℕ)) (at len : ℕ) where
  abbrev answer : Result Reply Reply
  answer = checkpoint_read (world_on store mounts t) actor letter path at len

  abbrev cells : Cells
  cells = map_on store t ckpt

  abbrev read : Cells → Result Reply Reply
  read files = range_read files path at len

  is_answer : answer ≡ answer_if store t ckpt read (is_live t ckpt) (is_live_data t ckpt)
  is_answer =
      ap (λ o. and_then (and_then (ok_or o NotMounted) (standing (world_on store mounts t))) (λ found. and_then (with_data found) (λ checkpoint. read checkpoint.cells))) mounted
      ∙ standing_is store t ckpt read mounts

  -- a gone checkpoint
  pub cread_gone : is_live t ckpt ≡ false → answer ≡ Err (reply.Gone ckpt)
  cread_gone gone = is_answer ∙ ap (λ live. answer_if store t ckpt read live (is_live_data t ckpt)) gone

  -- one that keeps no data
  pub cread_without_data : is_live t ckpt ≡ true → is_live_data t ckpt ≡ false → answer ≡ Err (reply.NoData ckpt)
  cread_without_data live without = is_answer ∙ (λ i. answer_if store t ckpt read (live i) (without i))

  -- a read that is refused before it begins
  pub cread_refused : (why : StartFault) → file_read t cells ckpt (walk cells path) ≡ Err why → answer ≡ Err (reply_of ckpt why)
  cread_refused why refused = is_answer ∙ on (is_live t ckpt) (is_live_data t ckpt) refused
    where
      on : (live keeps : Bool) → cond (not live) (Err fault.Gone) (cond (not keeps) (Err fault.NoData) (file_in cells (walk cells path))) ≡ Err why → answer_if store t ckpt read live keeps ≡ Err (reply_of ckpt why)
      on false keeps is = ap (λ x. Err (reply_of ckpt x)) (same_fault fault.Gone why is)
      on true false is = ap (λ x. Err (reply_of ckpt x)) (same_fault fault.NoData why is)
      on true true is = ap (λ found. and_then found (λ node. Ok (Bytes (file_range cells node at len)))) (file_refused cells path ckpt why is)

  -- one that is through
  pub cread_read : (p : ReadProgress) → is_live t ckpt ≡ true → is_live_data t ckpt ≡ true → IsReadOf cells path at len p → is_through p ≡ true → answer ≡ Ok (Bytes p.bytes)
  cread_read p live keeps is through = is_answer ∙ (λ i. answer_if store t ckpt read (live i) (keeps i)) ∙ range_is cells path at len p is through
