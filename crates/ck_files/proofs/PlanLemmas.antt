-- A plan for a table is one for each table that stands for the same world, or for it without what was given up.
use Rattle.std.proofs.Common.{◌≡◌, ℕ, List, is_some, sym, ap, subst, ◌∙◌}
use Rattle.std.specs.List.{All}
use Rattle.std.specs.Option.{option_map}
use Rattle.std.proofs.lemmas.List.Elements.{All-weaker}
use Rattle.ck_model.specs.declared.call.Call.{Call}
use Rattle.ck_model.specs.declared.change.Change.{Change}
use Rattle.ck_model.specs.declared.key.Key.{Key}
use Rattle.ck_model.specs.Chain.{present, value_at}
use Rattle.ck_model.specs.Table.{Table}
use Rattle.ck_model.specs.Values.{payload_of}
use Rattle.ck_model.specs.World.{World}
use Rattle.ck_chain.specs.Changes.{key_of}
use Rattle.ck_tree.specs.Map.{small_in}
use Rattle.ck_tree.specs.Plan.{IsPlan, MayBeMade, StandsForPrimary, numbers_after}
use Rattle.ck_files.specs.Worlds.{StandsWithout}

module _ (given : ℕ) (old new : Table) (alike : StandsWithout given old new) where
  value_alike : (key : Key) → value_at new 0 key ≡ value_at old 0 key
  value_alike key = ap present (alike.primary key)

  primary_alike : (w : World) → StandsForPrimary new w → StandsForPrimary old w
  primary_alike w is = record {
    cells = record {
      present = λ key. is.cells.present key ∙ ap is_some (value_alike key);
      small = λ key. is.cells.small key ∙ ap (λ o. option_map payload_of (small_in o)) (value_alike key);
    };
    next = is.next ∙ alike.counters;
  }

  pub plan_alike : (call : Call) (changes : List Change) → IsPlan old call changes → IsPlan new call changes
  plan_alike call changes plan = record {
    first = plan.first;
    once = plan.once;
    each = subst (λ next. All (MayBeMade new (numbers_after call next)) changes) (sym alike.counters)
        (All-weaker (MayBeMade old (numbers_after call old.counters)) (MayBeMade new (numbers_after call old.counters))
        (λ change may. record {
          key = may.key;
          below = may.below;
          deleted = λ deletes. ap is_some (alike.primary (key_of change)) ∙ may.deleted deletes;
          value = may.value;
        })
        changes plan.each);
    few = plan.few;
    leads = λ w is. plan.leads w (primary_alike w is);
  }
