-- Names of files, directories and checkpoints.
use Rattle.std.specs.Prelude.{◌≡◌, ◌≤◌, ◌≢◌, ◌-◌, ◌++◌, ℕ, List, [], ◌∷◌, length, All, take, drop, replicate, slice_get, Some}
use Rattle.std.proofs.Common.{arith, length-take-le, length-append, length-drop}
use Rattle.std.proofs.lemmas.List.{take-append-drop, drop-replicate}
use Rattle.std.proofs.Math.Seq.{take-append_seam, drop-append_seam}

-- a printable ASCII byte that is no space and no slash
pub record IsNameByte (byte : ℕ) : Type 0 where
  pub low : 33 ≤ byte
  pub high : byte ≤ 126
  pub no_slash : byte ≢ 47

-- 1 to 40 such bytes
pub record IsName (bytes : List ℕ) : Type 0 where
  pub some : 1 ≤ length bytes
  pub few : length bytes ≤ 40
  pub each : All IsNameByte bytes

-- a name in a directory: neither `.` nor `..`
pub record IsFileName (bytes : List ℕ) : Type 0 where
  pub name : IsName bytes
  pub not_dot : bytes ≢ 46 ∷ []
  pub not_dots : bytes ≢ 46 ∷ 46 ∷ []

-- a checkpoint's name: it doesn't begin with `-`
pub record IsCheckpointName (bytes : List ℕ) : Type 0 where
  pub name : IsName bytes
  pub no_dash : slice_get bytes 0 ≢ Some 45

-- the bytes, with zeros behind
abbrev pub padded : List ℕ → List ℕ
padded bytes = bytes ++ replicate (40 - length bytes) 0

-- the first count bytes are a name, and zeros stand behind
pub record Stored (bytes : List ℕ) (count : ℕ) : Type 0 where
  pub name : IsName (take count bytes)
  pub few : count ≤ 40
  pub whole : length bytes ≡ 40
  pub rest : drop count bytes ≡ replicate (40 - count) 0

pub stored_count : (bytes : List ℕ) (count : ℕ) → Stored bytes count → length (take count bytes) ≡ count
stored_count bytes count h = length-take-le count bytes (omega (arith, h.few, h.whole))

pub stored_bytes : (bytes : List ℕ) (count : ℕ) → Stored bytes count → padded (take count bytes) ≡ bytes
stored_bytes bytes count h =
    rw (stored_count bytes count h, ← h.rest) (take-append-drop count bytes)

-- a name and zeros behind it, as they are stored
pub stored_name : (bytes : List ℕ) → IsName bytes → Stored (bytes ++ drop (length bytes) (replicate 40 0)) (length bytes)
stored_name bytes name = record {
  name = rw (take-append_seam bytes (drop (length bytes) (replicate 40 0))) name;
  few = name.few;
  whole = simp (length-append, length-drop) (omega (arith, name.few));
  rest = rw (drop-append_seam bytes (drop (length bytes) (replicate 40 0))) (drop-replicate (length bytes) 40 0);
}
