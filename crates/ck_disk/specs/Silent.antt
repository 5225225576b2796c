-- A disk that tells nothing of its content, as one over a real file.
use Rattle.std.specs.Prelude.{◌<◌, ◌^◌, ℕ, false, []}
use Rattle.std.proofs.lemmas.Bool.{false≢true}
use Rattle.ck_disk.specs.Disk.{Meaning, Lawful}

-- its size and its faults, and nothing of what reads give or a crash leaves
abbrev pub silent : ℕ → ℕ → ℕ → Meaning
silent size reads writes = record {
  tells = false;
  shows = [];
  may_leave = λ c. ⊥;
  written = λ k. false;
  moment = 0;
  left_since = λ t c. ⊥;
  size = size;
  read_faults = reads;
  write_faults = writes;
}

pub silent_lawful : (size reads writes : ℕ) → size < 2 ^ 32 → Lawful (silent size reads writes)
silent_lawful size reads writes fits = record {
  counts_now = λ t c le left. left;
  only_now = λ c left. left;
  blocks = λ t c left. absurd left;
  shown = λ told. absurd (false≢true told);
  clean = λ told c left. absurd left;
  torn = λ told. absurd (false≢true told);
  whole = λ told. absurd (false≢true told);
  fits = fits;
}
