-- A read of a mounted checkpoint's file in the world that a table stands for.
use Rattle.std.proofs.Common.{◌≡◌, ℕ, ◌+◌, Bool, true, false, ◌&&◌, cond, not, min, Option, Some, None, Result, Ok, Err, List, find, refl, sym, ap, subst, ◌∙◌}
use Rattle.std.specs.Option.{option_and_then, option_map_or}
use Rattle.std.specs.FinMap as map
use mathlib.Core.Bool.{false≢true}
use Rattle.ck_model.specs.declared.checkpoint.Fileset.{Fileset}
use Rattle.ck_model.specs.declared.checkpoint.Kind.{Kind}
use Rattle.ck_model.specs.declared.checkpoint.Kind.TheVariants.{Keeping, Nodata}
use Rattle.ck_model.specs.declared.path.WalkFault.{WalkFault}
use Rattle.ck_model.specs.declared.reply.Reply.{Reply}
use Rattle.ck_model.specs.declared.reply.Reply.TheVariants as reply
use Rattle.ck_model.specs.Cells.{Cells, size_at}
use Rattle.ck_model.specs.Chain.{is_live, is_live_data}
use Rattle.ck_model.specs.ReadCalls.{checkpoint_read}
use Rattle.ck_model.specs.Table.{Table}
use Rattle.ck_model.specs.TableWorld.{checkpoint_on, checkpoints_on, world_on}
use Rattle.ck_model.specs.Values.{Store}
use Rattle.ck_model.specs.Walk.{walk}
use Rattle.ck_model.specs.World.{World, Checkpoint, Mounts, has_id, keeps_files, shown_by}
use Rattle.ck_model.proofs.CaseLaws.{some_same, and_left, and_right, not_true}
use Rattle.ck_read.specs.declared.fault.StartFault.TheVariants.{Gone, NoData}
use Rattle.ck_read.specs.declared.progress.ReadProgress.{ReadProgress}
use Rattle.ck_read.specs.Block.{map_on}
use Rattle.ck_read.specs.Mounted.{IsReadIn, IsReadNow}
use Rattle.ck_read.specs.Progress.{is_through, IsReadOf, ReadFits}
use Rattle.ck_read.specs.StartFault.{file_in, file_read}
use Rattle.ck_read.proofs.ReplyLaws.{read_begun, read_on, cread_gone, cread_without_data, cread_read}
use Rattle.ck_read.proofs.StandingLemmas.{shown, found}

-- what keeps its files isn't gone
pub live_of_data : (t : Table) (ckpt : ℕ) → is_live_data t ckpt ≡ true → is_live t ckpt ≡ true
live_of_data t ckpt kept =
    elim (map.get t.filesets ckpt) as (λ o. option_map_or (λ (f : Fileset). not f.gone && keeps_files f.kind) o false ≡ true → option_map_or (λ (f : Fileset). not f.gone) o false ≡ true) [
      | None ↦ λ h. h
      | Some f ↦ and_left (not f.gone) (keeps_files f.kind)
    ] kept

-- where its checkpoint stands with its data, the read that fits what stands is the file's
pub read_in_now : (w : World) (actor letter : ℕ) (path : List (List ℕ)) (at len : ℕ) (p : ReadProgress) → IsReadNow w actor letter path at len p → IsReadIn w actor letter path at len p
read_in_now w actor letter path at len p now = record {
  mounted = now.mounted;
  reads = λ checkpoint stands keeps.
      let same : now.checkpoint ≡ checkpoint = some_same now.checkpoint checkpoint (sym now.stands ∙ stands) in
      subst (λ (c : Checkpoint). IsReadOf c.cells path at len p) same now.reads;
}

kind_is : (kind : Kind) → keeps_files kind ≡ true → kind ≡ Keeping
kind_is Keeping keeps = refl
kind_is Nodata keeps = absurd (false≢true keeps)

module _ (store : Store) (t : Table) (ckpt : ℕ) where
  -- a checkpoint that stands with its data, and its map
  record HasMap (o : Option Checkpoint) : Type 0 where
    checkpoint : Checkpoint
    stands : o ≡ Some checkpoint
    keeps : checkpoint.kind ≡ Keeping
    cells : checkpoint.cells ≡ map_on store t ckpt

  of_fileset : (o : Option Fileset) → option_map_or (λ (f : Fileset). not f.gone && keeps_files f.kind) o false ≡ true → HasMap (option_and_then (shown store t ckpt) o)
  of_fileset None kept = absurd (false≢true kept)
  of_fileset (Some f) kept =
      let kind : f.kind ≡ Keeping = kind_is f.kind (and_right (not f.gone) (keeps_files f.kind) kept) in
      record {
        checkpoint = checkpoint_on store t ckpt f;
        stands = ap (λ b. cond b None (Some (checkpoint_on store t ckpt f))) (not_true f.gone (and_left (not f.gone) (keeps_files f.kind) kept));
        keeps = kind;
        cells = ap (λ k. shown_by k (map_on store t ckpt)) kind;
      }

  has_map : is_live_data t ckpt ≡ true → HasMap (find (has_id ckpt) (checkpoints_on store t))
  has_map kept = subst HasMap (sym (found store t ckpt)) (of_fileset (map.get t.filesets ckpt) kept)

module _ (store : Store) (mounts : Mounts) (t : Table) (actor letter : ℕ) (path : List (List ℕ)) (at len : ℕ) where
  abbrev here : World
  here = world_on store mounts t

  -- what is read of the checkpoint's map is read in the world
  read_now : (p : ReadProgress) → is_live_data t p.ckpt ≡ true → map.get mounts (actor, letter) ≡ Some p.ckpt → IsReadOf (map_on store t p.ckpt) path at len p → IsReadNow here actor letter path at len p
  read_now p kept mounted reads =
      let there = has_map store t p.ckpt kept in
      record {
        mounted = mounted;
        checkpoint = there.checkpoint;
        stands = there.stands;
        keeps = there.keeps;
        reads = subst (λ cells. IsReadOf cells path at len p) (sym there.cells) reads;
      }

  -- ---- a read that began

  data_stands : (cells : Cells) (ckpt node : ℕ) (found : Result ℕ WalkFault) → file_read t cells ckpt found ≡ Ok node → is_live_data t ckpt ≡ true
  data_stands cells ckpt node found is = on (is_live t ckpt) (is_live_data t ckpt) is
    where
      on : (live keeps : Bool) → cond (not live) (Err Gone) (cond (not keeps) (Err NoData) (file_in cells found)) ≡ Ok node → keeps ≡ true
      on true true is = refl
      on true false is = cc
      on false keeps is = cc

  pub begun_now : (ckpt : ℕ) (p : ReadProgress) → map.get mounts (actor, letter) ≡ Some ckpt → p.ckpt ≡ ckpt → file_read t (map_on store t ckpt) ckpt (walk (map_on store t ckpt) path) ≡ Ok p.node
      → p.from ≡ at → p.to ≡ min (at + len) (size_at (map_on store t ckpt) p.node) → ReadFits (map_on store t ckpt) p → IsReadNow here actor letter path at len p
  begun_now ckpt p mounted is node from to fits =
      let cells = map_on store t ckpt in
      let same : map_on store t p.ckpt ≡ cells = ap (map_on store t) is in
      let reads = read_begun t cells path at len p (ap (λ id. file_read t cells id (walk cells path)) is ∙ node) from to fits in
      read_now p (ap (is_live_data t) is ∙ data_stands cells ckpt p.node (walk cells path) node) (mounted ∙ ap Some (sym is)) (subst (λ cells. IsReadOf cells path at len p) (sym same) reads)

  -- ---- a turn of it

  module _ (p : ReadProgress) (is : IsReadIn here actor letter path at len p) where
    abbrev cells : Cells
    cells = map_on store t p.ckpt

    abbrev answer : Result Reply Reply
    answer = checkpoint_read here actor letter path at len

    pub replied_gone : is_live t p.ckpt ≡ false → answer ≡ Err (reply.Gone p.ckpt)
    replied_gone gone = cread_gone store mounts t actor letter p.ckpt is.mounted path at len gone

    pub replied_without_data : is_live t p.ckpt ≡ true → is_live_data t p.ckpt ≡ false → answer ≡ Err (reply.NoData p.ckpt)
    replied_without_data live without = cread_without_data store mounts t actor letter p.ckpt is.mounted path at len live without

    module _ (q : ReadProgress) (kept : is_live_data t p.ckpt ≡ true) (others : q ≡ record p { bytes = q.bytes }) (fits : ReadFits cells p → ReadFits cells q) where
      reads : IsReadOf cells path at len q
      reads =
          let there = has_map store t p.ckpt kept in
          let was : IsReadOf cells path at len p = subst (λ cells. IsReadOf cells path at len p) there.cells (is.reads there.checkpoint there.stands there.keeps) in
          read_on cells path at len p q others (fits was.fits) was

      -- its bytes are the reply's where it is through
      pub replied_bytes : is_through q ≡ true → answer ≡ Ok (reply.Bytes q.bytes)
      replied_bytes through = cread_read store mounts t actor letter p.ckpt is.mounted path at len q (live_of_data t p.ckpt kept) kept reads through

      -- and it fits the world else
      pub later_now : IsReadNow here actor letter path at len q
      later_now =
          let ckpt : q.ckpt ≡ p.ckpt = ap (λ (r : ReadProgress). r.ckpt) others in
          read_now q (ap (is_live_data t) ckpt ∙ kept) (is.mounted ∙ ap Some (sym ckpt)) (subst (λ id. IsReadOf (map_on store t id) path at len q) (sym ckpt) reads)
