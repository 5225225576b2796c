-- What the images of a commit have, before its gate is written and after.
use Rattle.std.proofs.Common.{◌≡◌, ◌⊎◌, inl, inr, ⊎_elim, ◌<◌, ◌==◌, ℕ, Bool, true, false, not, List, [], length, get_or, set, refl, sym, ◌∙◌, ap, arith, get_or-set_same}
use Rattle.ck_disk.specs.Disk.{Image, Agrees, Outside, Reaches}
use Rattle.ck_disk.proofs.MomentLaws.{agrees_on, agrees_less, agrees_set}
use Rattle.ck_log.specs.Layout.{Layout, OutsideGateAndAreas, table_blocks, area_at}
use Rattle.ck_log.specs.Images.{part, names_second, HasTable, HasBefore, HasAfter}
use Rattle.ck_log.proofs.Parts.{part_agrees, apart_run}
use Rattle.ck_log.proofs.AreaLaws.{area_low, other_area, others_area, others_gate, table_at}

one_or_other : (x a : Bool) → (x ≡ a) ⊎ (x ≡ not a)
one_or_other true true = inl refl
one_or_other true false = inr refl
one_or_other false true = inr refl
one_or_other false false = inl refl

pub apart_gate : (k : ℕ) → Outside 1 1 k → k ≡ 1 → ⊥
apart_gate = apart_run 1 1 0 1 (omega arith) (omega arith)

-- a write elsewhere leaves the gate
pub same_gate : (K : ℕ → Type 0) (d c : Image) → K 1 → Agrees K d c → names_second c ≡ names_second d
same_gate K d c kept same = ap (λ (b : List ℕ). get_or b 0 0 == 71) (same.at 1 kept)

-- a gate that was written
pub put_gate : (s : Image) (gate : List ℕ) (second : Bool) → 1 < length s → (get_or gate 0 0 == 71) ≡ second → names_second (set s 1 gate) ≡ second
put_gate s gate second long byte = ap (λ (b : List ℕ). get_or b 0 0 == 71) (get_or-set_same s 1 gate [] long) ∙ byte

module _ (layout : Layout) where
  -- the area that the gate doesn't name
  abbrev Unnamed : ℕ → Type 0
  Unnamed = Outside (area_at layout.records (not layout.second)) (table_blocks layout.records)

  abbrev in_area : Bool → Image → Image
  in_area second c = part (area_at layout.records second) (table_blocks layout.records) c

  -- an area lies behind the gate
  behind : (s c : Image) (b : Bool) → Agrees (Outside 1 1) s c → in_area b c ≡ in_area b s
  behind s c b same = part_agrees (Outside 1 1) s c (area_at layout.records b) (table_blocks layout.records) same (λ i lt. inr (omega (arith, area_low layout.records b)))

  module _ (before table : Image) (all : Image → Type 0) (settled : (c : Image) → all c → HasTable layout before c) where
    kept_gate : (c : Image) → Reaches Unnamed all c → names_second c ≡ layout.second
    kept_gate c from = same_gate Unnamed from.0 c (inl (omega (arith, area_low layout.records (not layout.second)))) from.2 ∙ (settled from.0 from.1).gate

    kept_table : (c : Image) → Reaches Unnamed all c → in_area layout.second c ≡ before
    kept_table c from =
        part_agrees Unnamed from.0 c (area_at layout.records layout.second) (table_blocks layout.records) from.2 (other_area layout.records layout.second)
        ∙ sym (table_at layout from.0 layout.second (settled from.0 from.1).gate) ∙ (settled from.0 from.1).table

    abbrev Others : ℕ → Type 0
    Others = OutsideGateAndAreas layout.records

    -- while the other area is written
    pub staged : (c : Image) → Reaches Unnamed all c → HasBefore layout before all c
    staged c from = record {
      table = table_at layout c layout.second (kept_gate c from) ∙ kept_table c from;
      others = (from.0, from.1, agrees_less Unnamed Others from.0 c (others_area layout.records (not layout.second)) from.2);
    }

    -- while the gate is written, whatever it holds
    pub opened : (shows s c : Image) → Reaches Unnamed all s → Agrees Others shows s → in_area (not layout.second) s ≡ table → Agrees (Outside 1 1) s c
        → HasBefore layout before all c ⊎ HasAfter layout table shows c
    opened shows s c from stands written same = ⊎_elim
        (λ (is : names_second c ≡ layout.second). inl (record {
          table = table_at layout c layout.second is ∙ behind s c layout.second same ∙ kept_table s from;
          others = (from.0, from.1, agrees_on Others from.0 s c (agrees_less Unnamed Others from.0 s (others_area layout.records (not layout.second)) from.2) gated);
        }))
        (λ (is : names_second c ≡ not layout.second). inr (record {
          table = table_at layout c (not layout.second) is ∙ behind s c (not layout.second) same ∙ written;
          others = agrees_on Others shows s c stands gated;
        }))
        (one_or_other (names_second c) layout.second)
      where
        gated : Agrees Others s c
        gated = agrees_less (Outside 1 1) Others s c (others_gate layout.records) same

  -- once the gate is written
  pub committed : (s : Image) (gate : List ℕ) (table c : Image) → 1 < length s → (get_or gate 0 0 == 71) ≡ layout.second → in_area layout.second s ≡ table → c ≡ set s 1 gate → HasTable layout table c
  committed s gate table c long byte written is = record {
    gate = named;
    table = table_at layout c layout.second named ∙ ap (in_area layout.second) is ∙ behind s (set s 1 gate) layout.second (agrees_set (Outside 1 1) s 1 gate apart_gate) ∙ written;
  }
    where
      named : names_second c ≡ layout.second
      named = ap names_second is ∙ put_gate s gate layout.second long byte
