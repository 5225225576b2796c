-- A crash of a disk in memory, one torn block after the other.
use Rattle.std.proofs.Common.{◌≡◌, ◌≢◌, ⊎_elim, ◌<◌, ◌+◌, ◌++◌, ℕ, Bool, true, false, nat_eq, if◌then◌else◌, List, [], ◌∷◌, length, get_or, set, take, refl, sym, ◌∙◌, ap, subst, arith, get_or-set_same, get_or-set_other}
use Rattle.std.proofs.lemmas.List.{length-set, take_more}
use Rattle.std.proofs.lemmas.Bool.{cases_eq}
use Rattle.std.proofs.lemmas.Bool.Decides.{nat_tests}
use Rattle.ck_disk.specs.Disk.{Image, Meaning, IsClean}
use Rattle.ck_disk.specs.MemDisk.{torn_bytes, IsTornBy}
use Rattle.ck_disk.specs.declared.mem_disk.Torn.{Torn}

-- one more is the last
torn_bytes-push : (torn : List Torn) (one : Torn) (k : ℕ) (stood : List ℕ) → torn_bytes (torn ++ one ∷ []) k stood ≡ (if nat_eq one.at k then one.bytes else torn_bytes torn k stood)
torn_bytes-push [] one k stood = refl
torn_bytes-push (first ∷ rest) one k stood = torn_bytes-push rest one k (if nat_eq first.at k then first.bytes else stood)

eq_at : (at k : ℕ) → k ≡ at → nat_eq at k ≡ true
eq_at at k e = grind (arith, nat_tests)

eq_other : (at k : ℕ) → k ≢ at → nat_eq at k ≡ false
eq_other at k ne = grind (arith, nat_tests)

-- one more for another block
passed : (torn : List Torn) (one : Torn) (k : ℕ) (stood : List ℕ) → nat_eq one.at k ≡ false → torn_bytes (torn ++ one ∷ []) k stood ≡ torn_bytes torn k stood
passed torn one k stood apart = torn_bytes-push torn one k stood ∙ ap (λ (b : Bool). if b then one.bytes else torn_bytes torn k stood) apart

-- one more for this block
hit : (torn : List Torn) (one : Torn) (k : ℕ) (stood : List ℕ) → nat_eq one.at k ≡ true → torn_bytes (torn ++ one ∷ []) k stood ≡ one.bytes
hit torn one k stood same = torn_bytes-push torn one k stood ∙ ap (λ (b : Bool). if b then one.bytes else torn_bytes torn k stood) same

module _ (torn : List Torn) (one : Torn) (m : Meaning) (c : Image) (so_far : IsTornBy torn m c) where
  put : m.written one.at ≡ true → IsTornBy (torn ++ one ∷ []) m (set c one.at one.bytes)
  put dirty = record {
    size = length-set c one.at one.bytes ∙ so_far.size;
    written = λ k lt is. torn_block k lt is;
    clean = λ k is. get_or-set_other c one.at k one.bytes [] (apart k is) ∙ so_far.clean k is;
  }
    where
      apart : (k : ℕ) → IsClean m k → k ≢ one.at
      apart k is e = let clean : IsClean m one.at = subst (λ (j : ℕ). IsClean m j) e is in cc

      torn_block : (k : ℕ) → k < length (set c one.at one.bytes) → m.written k ≡ true → get_or (set c one.at one.bytes) k [] ≡ torn_bytes (torn ++ one ∷ []) k (get_or m.shows k [])
      torn_block k lt is = ⊎_elim
          (λ (e : k ≡ one.at). let within : one.at < length c = omega (arith, lt, e, length-set c one.at one.bytes) in
          ap (λ (j : ℕ). get_or (set c one.at one.bytes) j []) e ∙ get_or-set_same c one.at one.bytes [] within ∙ sym (hit torn one k (get_or m.shows k []) (eq_at one.at k e)))
          (λ (ne : k ≢ one.at). let within : k < length c = omega (arith, lt, length-set c one.at one.bytes) in
          get_or-set_other c one.at k one.bytes [] ne ∙ so_far.written k within is ∙ sym (passed torn one k (get_or m.shows k []) (eq_other one.at k ne)))
          (cases_eq k one.at)

  skip : m.written one.at ≡ false → IsTornBy (torn ++ one ∷ []) m c
  skip clean = record {
    size = so_far.size;
    written = λ k lt is. so_far.written k lt is ∙ sym (passed torn one k (get_or m.shows k []) (eq_other one.at k (apart k is)));
    clean = so_far.clean;
  }
    where
      apart : (k : ℕ) → m.written k ≡ true → k ≢ one.at
      apart k is e = let dirty : m.written one.at ≡ true = subst (λ (j : ℕ). m.written j ≡ true) e is in cc

  torn_more : (new : Image) → new ≡ (if m.written one.at then set c one.at one.bytes else c) → IsTornBy (torn ++ one ∷ []) m new
  torn_more new is = by_test (m.written one.at) refl is
    where
      by_test : (w : Bool) → m.written one.at ≡ w → new ≡ (if w then set c one.at one.bytes else c) → IsTornBy (torn ++ one ∷ []) m new
      by_test true dirty is = subst (λ (x : Image). IsTornBy (torn ++ one ∷ []) m x) (sym is) (put dirty)
      by_test false clean is = subst (λ (x : Image). IsTornBy (torn ++ one ∷ []) m x) (sym is) (skip clean)

-- a step of the loop over them
pub torn_next : (torn : List Torn) (i : ℕ) (d : Torn) (m : Meaning) (old new : Image) → i < length torn → IsTornBy (take i torn) m old
    → new ≡ (if m.written (get_or torn i d).at then set old (get_or torn i d).at (get_or torn i d).bytes else old) → IsTornBy (take (i + 1) torn) m new
torn_next torn i d m old new lt so_far is =
    subst (λ (l : List Torn). IsTornBy l m new) (sym (take_more torn i d lt)) (torn_more (take i torn) (get_or torn i d) m old so_far new is)
