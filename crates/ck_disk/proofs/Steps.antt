-- One step more in the record of a disk in memory.
use Rattle.std.proofs.Common.{◌≡◌, ◌≢◌, inl, inr, ⊎_elim, ◌≤◌, ◌<◌, ◌+◌, ◌||◌, ◌++◌, ℕ, Bool, true, false, nat_eq, List, [], ◌∷◌, length, get_or, set, take, drop, refl, sym, ◌∙◌, ap, subst, arith, get_or-set_same, get_or-set_other, ext_get_or, set-set}
use Rattle.std.proofs.lemmas.List.{length-set, set-get_or, take-append-le, drop-append-le, length_push}
use Rattle.std.proofs.lemmas.List.Elements.{All-get_or, All-set}
use Rattle.std.proofs.lemmas.Bool.{cases_eq, cases_lt}
use Rattle.std.proofs.lemmas.Bool.Decides.{nat_tests}
use Rattle.ck_disk.specs.Disk.{Image, IsBlock, AreBlocks, Step, TearsAt, Within, Only, KeepsCleanBut}
use Rattle.ck_disk.proofs.MomentLaws.{torn_same}
use Rattle.ck_disk.specs.declared.mem_disk.MemStep.{MemStep}
use Rattle.ck_disk.specs.declared.mem_disk.MemStep.TheVariants.{Write, Sync}
use Rattle.ck_disk.specs.MemRecord.{undone, is_written, IsLeft, mem_means}
use Rattle.ck_disk.specs.MemLaws.{left_at_end}

written_push : (steps : List MemStep) (s : MemStep) (k : ℕ) (b : Bool) → is_written (steps ++ s ∷ []) k b ≡ is_written (s ∷ []) k (is_written steps k b)
written_push [] s k b = refl
written_push (Write at was ∷ steps) s k b = written_push steps s k (nat_eq at k || b)
written_push (Sync ∷ steps) s k b = written_push steps s k false

undone_push : (steps : List MemStep) (s : MemStep) (blocks : Image) → undone (steps ++ s ∷ []) blocks ≡ undone steps (undone (s ∷ []) blocks)
undone_push [] s blocks = refl
undone_push (Write at was ∷ steps) s blocks = ap (λ (b : Image). set b at was) (undone_push steps s blocks)
undone_push (Sync ∷ steps) s blocks = undone_push steps s blocks

module _ (steps : List MemStep) (s : MemStep) (old new : Image) (undo : undone (s ∷ []) new ≡ old) where
  front : (k : ℕ) → k ≤ length steps → take k (steps ++ s ∷ []) ≡ take k steps
  front k le = take-append-le k steps (s ∷ []) le

  back : (k : ℕ) → k ≤ length steps → undone (drop k (steps ++ s ∷ [])) new ≡ undone (drop k steps) old
  back k le = ap (λ (l : List MemStep). undone l new) (drop-append-le k steps (s ∷ []) le) ∙ undone_push (drop k steps) s new ∙ ap (λ (b : Image). undone (drop k steps) b) undo

  earlier : (k : ℕ) (c : Image) → k ≤ length steps → IsLeft (take k (steps ++ s ∷ [])) (undone (drop k (steps ++ s ∷ [])) new) c → IsLeft (take k steps) (undone (drop k steps) old) c
  earlier k c le left = subst (λ (l : List MemStep). IsLeft l (undone (drop k steps) old) c) (front k le) (subst (λ (b : Image). IsLeft (take k (steps ++ s ∷ [])) b c) (back k le) left)

  later : (k : ℕ) (c : Image) → k ≤ length steps → IsLeft (take k steps) (undone (drop k steps) old) c → IsLeft (take k (steps ++ s ∷ [])) (undone (drop k (steps ++ s ∷ [])) new) c
  later k c le left = subst (λ (l : List MemStep). IsLeft l (undone (drop k (steps ++ s ∷ [])) new) c) (sym (front k le)) (subst (λ (b : Image). IsLeft (take k steps) b c) (sym (back k le)) left)

  longer : length (steps ++ s ∷ []) ≡ length steps + 1
  longer = length_push steps s

  pub pushed : (r w r' w' : ℕ) → length new ≡ length old → r ≤ r' → w ≤ w' → Step (mem_means steps old r w) (mem_means (steps ++ s ∷ []) new r' w')
  pushed r w r' w' size reads writes = record {
    size = size;
    tells = refl;
    reads = reads;
    writes = writes;
    later = omega (arith, longer);
    nothing_else = λ t c le from. ⊎_elim
        (λ (end : length steps < from.0). inr (left_at_end (steps ++ s ∷ []) new from.0 c (omega (arith, longer, end)) from.1.image))
        (λ (was : from.0 ≤ length steps). inl (from.0, record { since = from.1.since; till = was; image = earlier from.0 c was from.1.image }))
        (cases_lt (length steps) from.0);
    keeps = λ t c le from. (from.0, record { since = from.1.since; till = omega (arith, longer, from.1.till); image = later from.0 c from.1.till from.1.image });
  }

other_block : (at k : ℕ) → k ≢ at → (nat_eq at k || false) ≡ false
other_block at k ne = grind (arith, nat_tests)

pub write_torn : (steps : List MemStep) (blocks : Image) (at : ℕ) (b : List ℕ) → at < length blocks → AreBlocks blocks → TearsAt at (IsLeft steps blocks) (IsLeft (steps ++ Write at (get_or blocks at []) ∷ []) (set blocks at b))
write_torn steps blocks at b lt consists c left = (set c at (get_or blocks at []), get_or c at [], image, sym (set-set c at (get_or blocks at []) (get_or c at []) ∙ set-get_or c at []))
  where
    size : length c ≡ length blocks
    size = left.size ∙ length-set blocks at b

    clean : (k : ℕ) → k ≢ at → is_written steps k false ≡ false → is_written (steps ++ Write at (get_or blocks at []) ∷ []) k false ≡ false
    clean k ne is = written_push steps (Write at (get_or blocks at [])) k false ∙ ap (λ (w : Bool). nat_eq at k || w) is ∙ other_block at k ne

    here : get_or (set c at (get_or blocks at [])) at [] ≡ get_or blocks at []
    here = get_or-set_same c at (get_or blocks at []) [] (omega (arith, size, lt))

    image : IsLeft steps blocks (set c at (get_or blocks at []))
    image = record {
      size = length-set c at (get_or blocks at []) ∙ size;
      consists = All-set IsBlock c at (get_or blocks at []) (All-get_or IsBlock blocks at [] lt consists) left.consists;
      same = λ k is. ⊎_elim
          (λ (e : k ≡ at). subst (λ (j : ℕ). get_or (set c at (get_or blocks at [])) j [] ≡ get_or blocks j []) (sym e) here)
          (λ (ne : k ≢ at). get_or-set_other c at k (get_or blocks at []) [] ne ∙ left.same k (clean k ne is) ∙ get_or-set_other blocks at k b [] ne)
          (cases_eq k at);
    }

pub sync_only : (steps : List MemStep) (blocks : Image) → Only blocks (IsLeft (steps ++ Sync ∷ []) blocks)
sync_only steps blocks c left = ext_get_or [] c blocks left.size (λ k lt. left.same k (written_push steps Sync k false))

pub sync_within : (steps : List MemStep) (blocks : Image) → Within (IsLeft (steps ++ Sync ∷ []) blocks) (IsLeft steps blocks)
sync_within steps blocks c left = subst (λ (x : Image). IsLeft steps blocks x) (sym (sync_only steps blocks c left)) (record { size = refl; consists = subst AreBlocks (sync_only steps blocks c left) left.consists; same = λ k is. refl })

pub pushed_to : (steps steps' : List MemStep) (s : MemStep) (old new : Image) (r w r' w' : ℕ) → steps' ≡ steps ++ s ∷ [] → undone (s ∷ []) new ≡ old → length new ≡ length old → r ≤ r' → w ≤ w'
    → Step (mem_means steps old r w) (mem_means steps' new r' w')
pushed_to steps steps' s old new r w r' w' is undo size reads writes =
    subst (λ (l : List MemStep). Step (mem_means steps old r w) (mem_means l new r' w')) (sym is) (pushed steps s old new undo r w r' w' size reads writes)

pub torn_to : (steps steps' : List MemStep) (blocks : Image) (at : ℕ) (was b : List ℕ) → steps' ≡ steps ++ Write at was ∷ [] → was ≡ get_or blocks at [] → at < length blocks → AreBlocks blocks
    → TearsAt at (IsLeft steps blocks) (IsLeft steps' (set blocks at b))
torn_to steps steps' blocks at was b is same lt consists =
    subst (λ (l : List MemStep). TearsAt at (IsLeft steps blocks) (IsLeft l (set blocks at b))) (sym (is ∙ ap (λ (x : List ℕ). steps ++ Write at x ∷ []) same)) (write_torn steps blocks at b lt consists)

-- a write that failed counts as written
pub torn_failed : (steps steps' : List MemStep) (blocks : Image) (at : ℕ) (was : List ℕ) → steps' ≡ steps ++ Write at was ∷ [] → was ≡ get_or blocks at [] → at < length blocks → AreBlocks blocks
    → TearsAt at (IsLeft steps blocks) (IsLeft steps' blocks)
torn_failed steps steps' blocks at was is same lt consists =
    subst (λ (x : Image). TearsAt at (IsLeft steps blocks) (IsLeft steps' x)) (set-get_or blocks at []) (torn_to steps steps' blocks at was (get_or blocks at []) is same lt consists)

pub torn_none : (steps steps' : List MemStep) (blocks : Image) (at : ℕ) → steps' ≡ steps → TearsAt at (IsLeft steps blocks) (IsLeft steps' blocks)
torn_none steps steps' blocks at is = subst (λ (l : List MemStep). TearsAt at (IsLeft steps blocks) (IsLeft l blocks)) (sym is) (torn_same at (IsLeft steps blocks))

pub undo_write : (blocks : Image) (at : ℕ) (was b : List ℕ) → was ≡ get_or blocks at [] → set (set blocks at b) at was ≡ blocks
undo_write blocks at was b same = set-set blocks at b was ∙ ap (λ (x : List ℕ). set blocks at x) same ∙ set-get_or blocks at []

pub undo_failed : (blocks : Image) (at : ℕ) (was : List ℕ) → was ≡ get_or blocks at [] → set blocks at was ≡ blocks
undo_failed blocks at was same = ap (λ (x : List ℕ). set blocks at x) same ∙ set-get_or blocks at []

pub only_to : (steps steps' : List MemStep) (blocks : Image) → steps' ≡ steps ++ Sync ∷ [] → Only blocks (IsLeft steps' blocks)
only_to steps steps' blocks is = subst (λ (l : List MemStep). Only blocks (IsLeft l blocks)) (sym is) (sync_only steps blocks)

pub within_to : (steps steps' : List MemStep) (blocks : Image) → steps' ≡ steps ++ Sync ∷ [] → Within (IsLeft steps' blocks) (IsLeft steps blocks)
within_to steps steps' blocks is = subst (λ (l : List MemStep). Within (IsLeft l blocks) (IsLeft steps blocks)) (sym is) (sync_within steps blocks)

pub marks_write : (steps steps' : List MemStep) (at : ℕ) (was : List ℕ) → steps' ≡ steps ++ Write at was ∷ [] → (k : ℕ) → k ≢ at → is_written steps k false ≡ false → is_written steps' k false ≡ false
marks_write steps steps' at was is k ne clean =
    ap (λ (l : List MemStep). is_written l k false) is ∙ written_push steps (Write at was) k false ∙ ap (λ (w : Bool). nat_eq at k || w) clean ∙ other_block at k ne

pub marks_sync : (steps steps' : List MemStep) → steps' ≡ steps ++ Sync ∷ [] → (k : ℕ) → is_written steps' k false ≡ false
marks_sync steps steps' is k = ap (λ (l : List MemStep). is_written l k false) is ∙ written_push steps Sync k false

pub marks_same : (steps steps' : List MemStep) → steps' ≡ steps → (k : ℕ) → is_written steps k false ≡ false → is_written steps' k false ≡ false
marks_same steps steps' is k clean = ap (λ (l : List MemStep). is_written l k false) is ∙ clean

-- the record as it was
pub stayed : (steps steps' : List MemStep) (blocks : Image) (r w r' w' : ℕ) → steps' ≡ steps → r ≤ r' → w ≤ w' → Step (mem_means steps blocks r w) (mem_means steps' blocks r' w')
stayed steps steps' blocks r w r' w' is reads writes =
    subst (λ (l : List MemStep). Step (mem_means steps blocks r w) (mem_means l blocks r' w')) (sym is) (record {
      size = refl;
      tells = refl;
      reads = reads;
      writes = writes;
      later = omega arith;
      nothing_else = λ t c le from. inl from;
      keeps = λ t c le from. from;
    })

-- a write that failed, whether the record has it or not
module _ (steps steps' : List MemStep) (blocks : Image) (at : ℕ) (was : List ℕ) (stood : was ≡ get_or blocks at []) (lt : at < length blocks) where
  pub failed_torn : AreBlocks blocks → (noted : Bool) → (noted ≡ true → steps' ≡ steps ++ Write at was ∷ []) → (noted ≡ false → steps' ≡ steps) → TearsAt at (IsLeft steps blocks) (IsLeft steps' blocks)
  failed_torn consists true pushed same = torn_failed steps steps' blocks at was (pushed refl) stood lt consists
  failed_torn consists false pushed same = torn_none steps steps' blocks at (same refl)

  pub failed_marks : (noted : Bool) → (noted ≡ true → steps' ≡ steps ++ Write at was ∷ []) → (noted ≡ false → steps' ≡ steps) → KeepsCleanBut at (λ k. is_written steps k false) (λ k. is_written steps' k false)
  failed_marks true pushed same = marks_write steps steps' at was (pushed refl)
  failed_marks false pushed same = λ k ne clean. marks_same steps steps' (same refl) k clean

  pub failed_step : (noted : Bool) (r w r' w' : ℕ) → (noted ≡ true → steps' ≡ steps ++ Write at was ∷ []) → (noted ≡ false → steps' ≡ steps) → r ≤ r' → w ≤ w' → Step (mem_means steps blocks r w) (mem_means steps' blocks r' w')
  failed_step true r w r' w' pushed same reads writes =
      pushed_to steps steps' (Write at was) blocks blocks r w r' w' (pushed refl) (undo_failed blocks at was stood) refl reads writes
  failed_step false r w r' w' pushed same reads writes = stayed steps steps' blocks r w r' w' (same refl) reads writes
