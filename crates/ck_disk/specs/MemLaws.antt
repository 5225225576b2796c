-- The laws of a disk, of one in memory.
use Rattle.std.proofs.Common.{◌≤◌, ◌<◌, ◌^◌, ℕ, List, length, take, drop, refl, sym, ap, subst, arith}
use Rattle.std.proofs.lemmas.List.{take_all, drop_all}
use Rattle.ck_disk.specs.Disk.{Image, AreBlocks, Lawful}
use Rattle.ck_disk.specs.declared.mem_disk.MemStep.{MemStep}
use Rattle.ck_disk.specs.MemRecord.{undone, IsLeft, mem_means}

pub left_at_end : (steps : List MemStep) (blocks : Image) (k : ℕ) (c : Image) → length steps ≤ k → IsLeft (take k steps) (undone (drop k steps) blocks) c → IsLeft steps blocks c
left_at_end steps blocks k c le left =
    subst (λ (b : Image). IsLeft steps b c) (ap (λ (s : List MemStep). undone s blocks) (drop_all k steps le)) (subst (λ (s : List MemStep). IsLeft s (undone (drop k steps) blocks) c) (take_all k steps le) left)

pub end_is_left : (steps : List MemStep) (blocks : Image) (k : ℕ) (c : Image) → length steps ≤ k → IsLeft steps blocks c → IsLeft (take k steps) (undone (drop k steps) blocks) c
end_is_left steps blocks k c le left =
    subst (λ (s : List MemStep). IsLeft s (undone (drop k steps) blocks) c) (sym (take_all k steps le)) (subst (λ (b : Image). IsLeft steps b c) (sym (ap (λ (s : List MemStep). undone s blocks) (drop_all k steps le))) left)

pub mem_lawful : (steps : List MemStep) (blocks : Image) (reads writes : ℕ) → length blocks < 2 ^ 32 → AreBlocks blocks → Lawful (mem_means steps blocks reads writes)
mem_lawful steps blocks reads writes fits consists = record {
  counts_now = λ t c le left. (length steps, record { since = le; till = omega arith; image = end_is_left steps blocks (length steps) c (omega arith) left });
  only_now = λ c from. left_at_end steps blocks from.0 c from.1.since from.1.image;
  blocks = λ t c from. from.1.image.consists;
  shown = λ told. record { size = refl; consists = consists; same = λ k clean. refl };
  clean = λ told c left. record { size = left.size; at = left.same };
  torn = λ told c blocks same. record { size = same.size; consists = blocks; same = same.at };
  whole = λ told. refl;
  fits = fits;
}
