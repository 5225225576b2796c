-- The order of mounts is total, and only equal ones tie.
use Rattle.std.proofs.Common.{◌≡◌, ℕ, List, [], ◌∷◌}
use Rattle.std.specs.Cmp.{IsTotalOrder}
use Rattle.std.specs.Cmp.Lexicographic.{nat_list_cmp_total}
use Rattle.std.specs.FinMap.{IsAntisymmetric, nat_cmp-IsAntisymmetric, slice_cmp-IsAntisymmetric}
use Rattle.std.proofs.lemmas.Cmp.{on_total}
use Rattle.ck_model.specs.World.{mount_cmp}

abbrev spelled : ℕ × ℕ → List ℕ
spelled mount = mount.0 ∷ mount.1 ∷ []

pub mount_cmp_total : IsTotalOrder mount_cmp
mount_cmp_total = on_total spelled nat_list_cmp_total

spelled_alike : (x y : ℕ × ℕ) → spelled x ≡ spelled y → x ≡ y
spelled_alike x y h =
    let actors : x.0 ≡ y.0 = cc in
    let letters : x.1 ≡ y.1 = cc in
    λ i. (actors i, letters i)

pub mount_cmp_exact : IsAntisymmetric mount_cmp
mount_cmp_exact x y h =
    spelled_alike x y (slice_cmp-IsAntisymmetric nat_cmp-IsAntisymmetric (spelled x) (spelled y) h)
