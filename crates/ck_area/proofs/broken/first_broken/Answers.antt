use Rattle.std.proofs.Common.{ℕ, Bool, ◌||◌, length, take, refl, sym}
use Rattle.ck_area.specs.Area.{slot_at, counters_in, filesets_in, table_of}
use Rattle.ck_area.specs.Damage.{breaks}
use Rattle.ck_area.specs.Split.{breaks_alone, breaks_crowd, breaks_again, breaks_table}
use Rattle.ck_area.proofs.FirstLemmas.{first_alike}
use Rattle.ck_area.proofs.SplitLemmas.{breaks_parts}
use Rattle.ck_area.proofs.broken.first_broken.Goals as goal

pub returns : goal.returns
returns c =
    let area = c.args.area.now in
    let blocks = c.args.blocks in
    let records = c.args.records in
    let n : ℕ = length area in
    let alone : ℕ → Bool = λ k. breaks_alone blocks records (counters_in area) k (slot_at area k) in
    let crowd : ℕ → Bool = breaks_crowd area in
    let again : ℕ → Bool = λ k. breaks_again (take k area) (slot_at area k) in
    let whole : ℕ → Bool = λ k. breaks_table (table_of blocks records area) (filesets_in area) (slot_at area k) in
    first_alike (λ k. (alone k || crowd k) || (again k || whole k)) (breaks blocks records area) n c.earlier-3.result (λ k. sym (breaks_parts blocks records area k (slot_at area k) refl))
    (c.earlier-3.ensures (λ k. alone k || crowd k) (λ k. again k || whole k) n
    (c.earlier.ensures alone crowd n c.first_alone-alone.ensures c.first_crowd-crowd.ensures)
    (c.earlier-2.ensures again whole n c.in_ok-again.ensures (c.first_whole-whole.ensures (table_of blocks records area) (filesets_in area) (c.in_ok-known.ensures blocks records))))
