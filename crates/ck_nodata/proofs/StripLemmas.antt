-- What a strip makes of a table.
use Rattle.std.proofs.Common.{◌≡◌, ℕ, true, not, Option, Some, is_some, refl, sym, ap, ◌∙◌, arith}
use Rattle.std.specs.Option.{option_map}
use Rattle.ck_model.specs.declared.key.Key.{Key}
use Rattle.ck_model.specs.declared.held.Held.{Held}
use Rattle.ck_model.specs.declared.held.Held.TheVariants.{Absent, Plain, Extent, Mark}
use Rattle.ck_model.specs.Table.{Table, IsTable, column, with_entry}
use Rattle.ck_model.specs.Chain.{as_mark, is_live, keeps_data}
use Rattle.ck_model.specs.Rules.{IsSound, block_in}
use Rattle.ck_model.proofs.CaseLaws.{and_left, and_right, not_true}
use Rattle.ck_chain.proofs.OrderlyLaws.{positive_id}
use Rattle.ck_chain.proofs.ReadLaws.{live_stands}
use Rattle.ck_remove.proofs.WorldLaws.{unseen_world}
use Rattle.ck_nodata.specs.declared.item.StripItem.{StripItem}
use Rattle.ck_nodata.specs.StripItem.{drops_data, is_extent, is_unstripped}
use Rattle.ck_nodata.specs.Stripped.{IsStrip}
use Rattle.ck_nodata.proofs.CountLemmas.{one_fewer}
use Rattle.ck_nodata.proofs.MarkLemmas.{IsExtent, marked_freed, marked_sound, marked_unseen}

-- what is left to strip is a data block of a checkpoint that keeps none
left_is : (t : Table) (fs : ℕ) (key : Key) (stamp block : ℕ) → IsTable t → is_unstripped t fs key ≡ true → column t key fs ≡ Some (Extent stamp block) → IsExtent t fs key stamp block
left_is t fs key stamp block lawful left at =
    let drops = and_left (drops_data t fs) (is_extent (column t key fs)) left in
    let live = and_left (is_live t fs) (not (keeps_data t fs)) drops in
    let least = positive_id t fs lawful (live_stands t fs live) in
    record {
      at = at;
      live = live;
      drops = not_true (keeps_data t fs) (and_right (is_live t fs) (not (keeps_data t fs)) drops);
      above = omega (arith, least);
    }

pub strip_is : (t : Table) (item : StripItem) (held : Held) → IsTable t → IsTable (with_entry t item.id item.key (Some (as_mark held))) → IsSound t → is_unstripped t item.id item.key ≡ true → column t item.key item.id ≡ Some held
    → IsStrip t (with_entry t item.id item.key (Some (as_mark held))) item (record { block = block_in held })
strip_is t item held lawful again sound left at = cases held at again (sym (ap is_extent at) ∙ and_right (drops_data t item.id) (is_extent (column t item.key item.id)) left)
  where
    extent : (stamp block : ℕ) → column t item.key item.id ≡ Some (Extent stamp block) → IsTable (with_entry t item.id item.key (Some (Mark stamp))) → IsStrip t (with_entry t item.id item.key (Some (Mark stamp))) item (record { block = Some block })
    extent stamp block at after =
        let is = left_is t item.id item.key stamp block lawful left at in
        record {
          table = ap (λ (o : Option Held). with_entry t item.id item.key (option_map as_mark o)) (sym at);
          world = unseen_world t (with_entry t item.id item.key (Some (Mark stamp))) lawful after (marked_unseen t item.id item.key stamp block is lawful);
          unseen = marked_unseen t item.id item.key stamp block is lawful;
          sound = marked_sound t item.id item.key stamp block is sound;
          left = one_fewer t item.id item.key (Some (Mark stamp)) left (ap is_some at) refl;
          freed = marked_freed t item.id item.key stamp block is sound.orderly;
        }

    cases : (held : Held) → column t item.key item.id ≡ Some held → IsTable (with_entry t item.id item.key (Some (as_mark held))) → is_extent (Some held) ≡ true → IsStrip t (with_entry t item.id item.key (Some (as_mark held))) item (record { block = block_in held })
    cases Absent at after h = cc
    cases (Plain stamp small) at after h = cc
    cases (Extent stamp block) at after h = extent stamp block at after
    cases (Mark stamp) at after h = cc
