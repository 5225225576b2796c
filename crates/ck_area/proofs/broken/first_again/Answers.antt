use Rattle.std.proofs.Common.{ℕ, Bool, ◌||◌, nat_eq, length, take, refl}
use Rattle.std.specs.Ordering.{eq_by_cmp}
use Rattle.std.specs.Cmp.Lexicographic.{pointwise}
use Rattle.ck_model.specs.Key.{entry_cmp}
use Rattle.ck_area.specs.Area.{slot_at}
use Rattle.ck_area.specs.Parts.{place_in, version_in, named_in, id_in, live_name_in}
use Rattle.ck_area.specs.Split.{stands_below}
use Rattle.ck_area.proofs.FirstLemmas.{first_alike}
use Rattle.ck_area.proofs.SplitLemmas.{repeat_is, same_version}
use Rattle.ck_area.proofs.broken.first_again.Goals as goal

pub returns : goal.returns
returns c =
    let area = c.args.area.now in
    let n : ℕ = length area in
    let place : ℕ → Bool = λ k. stands_below (eq_by_cmp entry_cmp) place_in (take k area) (slot_at area k) in
    let version : ℕ → Bool = λ k. stands_below same_version version_in (take k area) (slot_at area k) in
    let block : ℕ → Bool = λ k. stands_below nat_eq named_in (take k area) (slot_at area k) in
    let id : ℕ → Bool = λ k. stands_below nat_eq id_in (take k area) (slot_at area k) in
    let name : ℕ → Bool = λ k. stands_below (pointwise nat_eq) live_name_in (take k area) (slot_at area k) in
    let places = first_alike _ place n _ (repeat_is (eq_by_cmp entry_cmp) place_in refl area) c.in_ok-place.ensures in
    let versions = first_alike _ version n _ (repeat_is same_version version_in refl area) c.in_ok-version.ensures in
    let blocks = first_alike _ block n _ (repeat_is nat_eq named_in refl area) c.in_ok-block.ensures in
    let ids = first_alike _ id n _ (repeat_is nat_eq id_in refl area) c.in_ok-id.ensures in
    let names = first_alike _ name n _ (repeat_is (pointwise nat_eq) live_name_in refl area) c.in_ok-name.ensures in
    c.earlier-4.ensures (λ k. ((place k || version k) || block k) || id k) name n
    (c.earlier-3.ensures (λ k. (place k || version k) || block k) id n
    (c.earlier-2.ensures (λ k. place k || version k) block n (c.earlier.ensures place version n places versions) blocks) ids) names
