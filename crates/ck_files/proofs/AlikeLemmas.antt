-- Tables that stand for one world, or for that world without what was given up, one after the other.
use Rattle.std.proofs.Common.{◌≡◌, ℕ, ◌+◌, Some, length, refl, sym, ap, subst, ◌∙◌, arith}
use Rattle.std.specs.FinMap as map
use Rattle.ck_model.specs.Chain.{live_ids}
use Rattle.ck_model.specs.Space.{without_picks}
use Rattle.ck_model.specs.Table.{Table, IsTable}
use Rattle.ck_model.specs.TableWorld.{checkpoints_on, world_on}
use Rattle.ck_model.specs.Values.{no_store}
use Rattle.ck_model.specs.World.{World}
use Rattle.ck_reclaim.proofs.GivenLaws.{given-more, given-one, picked_live}
use Rattle.ck_reclaim.specs.Removable.{pick_of}
use Rattle.ck_table.proofs.WorldLaws.{length-with_gone}
use Rattle.ck_table.specs.Gone.{with_gone}
use Rattle.ck_files.specs.Picks.{IsGivenUp}
use Rattle.ck_files.proofs.Listed.{length-is}
use Rattle.ck_files.specs.Worlds.{StandAlike, StandsWithout}

pub alike_itself : (t : Table) → StandAlike t t
alike_itself t = record { worlds = λ store mounts. refl; primary = λ key. refl; counters = refl; blocks = refl; records = refl }

-- some are given up, and then more
pub without_both : (first more : ℕ) (t u v : Table) → StandsWithout first t u → StandsWithout more u v → StandsWithout (first + more) t v
without_both first more t u v one two = record {
  worlds = λ store mounts. two.worlds store mounts ∙ ap (without_picks more) (one.worlds store mounts) ∙ sym (given-more first more (world_on store mounts t));
  primary = λ key. two.primary key ∙ one.primary key;
  counters = two.counters ∙ one.counters;
  blocks = two.blocks ∙ one.blocks;
  records = two.records ∙ one.records;
}

-- some are given up, and then none
pub without_alike : (given : ℕ) (t u v : Table) → StandsWithout given t u → StandAlike u v → StandsWithout given t v
without_alike given t u v without alike = let same : given + 0 ≡ given = omega arith in subst (λ n. StandsWithout n t v) same (without_both given 0 t u v without alike)

pub alike_both : (t u v : Table) → StandAlike t u → StandAlike u v → StandAlike t v
alike_both t u v first second = without_both 0 0 t u v first second

-- the table with the pick gone stands for the world without it
gone_stands : (t : Table) → IsTable t → (id : ℕ) → pick_of t ≡ Some id → StandsWithout 1 t (with_gone t id)
gone_stands t lawful id picked = record {
  worlds = λ store mounts. sym (given-one store mounts t lawful id picked);
  primary = λ key. refl;
  counters = refl;
  blocks = refl;
  records = refl;
}

pub given_up_stands : (t u : Table) → IsTable t → IsGivenUp t u → StandsWithout 1 t u
given_up_stands t u lawful given = subst (StandsWithout 1 t) (sym given.table) (gone_stands t lawful given.id given.picked)

-- ---- how many checkpoints stand

-- once the pick is gone and what is left to remove went, one fewer stands
pub fewer_live : (t u v : Table) → IsTable t → IsTable v → IsGivenUp t u → StandAlike u v → length (live_ids v) + 1 ≡ length (live_ids t)
fewer_live t u v lawful lawful_v given alike =
    let before = length-is no_store t lawful in
    let after = length-is no_store v lawful_v in
    let same : length (checkpoints_on no_store v) ≡ length (checkpoints_on no_store u) = ap (λ (w : World). length w.checkpoints) (alike.worlds no_store map.empty) in
    let gone : length (checkpoints_on no_store u) ≡ length (checkpoints_on no_store (with_gone t given.id)) = ap (λ x. length (checkpoints_on no_store x)) given.table in
    let fewer = length-with_gone no_store t given.id (picked_live t given.id given.picked) in
    omega (arith, before, after, same, gone, fewer)
