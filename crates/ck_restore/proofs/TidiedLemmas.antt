-- What tidying older checkpoints leaves, one after the other.
use Rattle.std.proofs.Common.{◌≡◌, ◌≢◌, ℕ, ◌<◌, ◌≤◌, true, false, not, inl, inr, Some, None, refl, sym, ap, subst, ◌∙◌, arith}
use Rattle.std.specs.Ordering.{eq_by_cmp, is_eq}
use Rattle.std.specs.Option.{option_map_or}
use Rattle.std.specs.FinMap as map
use Rattle.std.proofs.lemmas.Bool.{cases_lt, false≢true}
use Rattle.std.proofs.lemmas.Cmp.{tied_itself}
use Rattle.ck_model.specs.declared.key.Key.{Key}
use Rattle.ck_model.specs.Key.{key_cmp, key_cmp_total}
use Rattle.ck_model.specs.declared.held.Held.TheVariants.{Absent}
use Rattle.ck_model.specs.declared.checkpoint.Fileset.{Fileset}
use Rattle.ck_model.specs.Table.{Table, Filesets, IsTable}
use Rattle.ck_model.specs.Chain.{is_live}
use Rattle.ck_model.specs.Rules.{IsOrderly}
use Rattle.ck_model.proofs.CaseLaws.{none_some}
use Rattle.ck_chain.specs.Needless.{tidied}
use Rattle.ck_chain.proofs.ColumnLaws.{same_or_other}
use Rattle.ck_chain.proofs.ReadLaws.{live_stands}
use Rattle.ck_chain.proofs.OrderlyLaws.{positive_id}
use Rattle.ck_chain.proofs.HolderLaws.{needed_tidied, orderly_tidied}
use Rattle.ck_chain.proofs.TidyLaws.{column-tidied, tidied_reads, tidied_shrinks}
use Rattle.ck_chain.proofs.NameLaws.{named_before_tidied, named_tidied}
use Rattle.ck_restore.specs.Entries.{IsNextBelow}
use Rattle.ck_restore.specs.Older.{LeavesOlder, LeavesTidied, NeededAt, OlderNeeded, OthersNeeded}
use Rattle.ck_restore.proofs.EntriesLemmas.{entries_from-tidied}

-- one that isn't gone has the same record
pub still_live : (t u : Table) (fs : ℕ) → map.get u.filesets fs ≡ map.get t.filesets fs → is_live t fs ≡ true → is_live u fs ≡ true
still_live t u fs same live = ap (λ o. option_map_or (λ (f : Fileset). not f.gone) o false) same ∙ live

pub older_none : (id : ℕ) (t : Table) → LeavesOlder id t t
older_none id t = record { seen = λ fs key live le. refl; filesets = λ fs le. refl; counters = refl; blocks = refl; limit = refl; records = omega arith }

pub older_then : (id : ℕ) (a b c : Table) → LeavesOlder id a b → LeavesOlder id b c → LeavesOlder id a c
older_then id a b c one two = record {
  seen = λ fs key live le. two.seen fs key (still_live a b fs (one.filesets fs le) live) le ∙ one.seen fs key live le;
  filesets = λ fs le. two.filesets fs le ∙ one.filesets fs le;
  counters = two.counters ∙ one.counters;
  blocks = two.blocks ∙ one.blocks;
  limit = two.limit ∙ one.limit;
  records = let first = one.records in let second = two.records in omega (arith, first, second);
}

pub tidied_none : (id : ℕ) (t : Table) → IsOrderly t → LeavesTidied id t t
tidied_none id t orderly = record {
  older = older_none id t;
  filesets = refl;
  orderly = orderly;
  named = λ block. (λ h. h, λ h. h);
  entries = refl;
  newer = λ fs key le. refl;
  needed = λ fs key before. before;
}

pub tidied_then : (id : ℕ) (a b c : Table) → LeavesTidied id a b → LeavesTidied id b c → LeavesTidied id a c
tidied_then id a b c one two = record {
  older = older_then id a b c one.older two.older;
  filesets = two.filesets ∙ one.filesets;
  orderly = two.orderly;
  named = λ block. (λ h. (one.named block).0 ((two.named block).0 h), λ h. (two.named block).1 ((one.named block).1 h));
  entries = two.entries ∙ one.entries;
  newer = λ fs key le. two.newer fs key le ∙ one.newer fs key le;
  needed = λ fs key before. two.needed fs key (one.needed fs key before);
}

-- one older checkpoint is tidied at a key
pub tidied_one : (t : Table) (id fs : ℕ) (key : Key) → IsTable t → IsOrderly t → is_live t fs ≡ true → fs < id → LeavesTidied id t (tidied t fs key)
tidied_one t id fs key lawful orderly live lower =
    let stands = live_stands t fs live in
    let positive = positive_id t fs lawful stands in
    record {
      older = record {
        seen = λ g q alive le. tidied_reads t fs key positive stands g q (positive_id t g lawful (live_stands t g alive));
        filesets = λ g le. refl;
        counters = refl;
        blocks = refl;
        limit = refl;
        records = tidied_shrinks t fs key;
      };
      filesets = refl;
      orderly = orderly_tidied t fs key orderly;
      named = λ block. (named_tidied t fs key block, named_before_tidied t fs key block);
      entries = entries_from-tidied t id fs key lower;
      newer = λ g q le. elim (column-tidied t fs key g q) [
        | inl same ↦ same
        | inr gone ↦ let e = gone.0 in absurd (omega arith)
      ];
      needed = λ g q before at. elim (column-tidied t fs key g q) [
        | inl same ↦ needed_tidied t fs key positive live g q (before (sym same ∙ at))
        | inr gone ↦ absurd (none_some Absent (sym gone.3 ∙ at))
      ];
    }

-- ---- all of them, the oldest first

-- those up to here are tidied at the key
pub record TidiedUpTo (id : ℕ) (key : Key) (at : ℕ) (old new : Table) : Type 0 where
  pub tidied : LeavesTidied id old new
  pub done : (fs : ℕ) → is_live new fs ≡ true → 0 < fs → fs ≤ at → fs < id → NeededAt new key fs

pub upto_first : (id : ℕ) (key : Key) (t : Table) → IsOrderly t → TidiedUpTo id key 0 t t
upto_first id key t orderly = record {
  tidied = tidied_none id t orderly;
  done = λ fs live positive low lower. absurd (omega arith);
}

pub upto_next : (id : ℕ) (key : Key) (at fs : ℕ) (old mid new : Table) → TidiedUpTo id key at old mid → IsNextBelow mid at id (Some fs) → LeavesTidied id mid new → (is_live mid fs ≡ true → NeededAt new key fs) → TidiedUpTo id key fs old new
upto_next id key at fs old mid new before next one here = record {
  tidied = tidied_then id old mid new before.tidied one;
  done = λ g live positive low lower.
      let was = still_live new mid g (ap (λ (m : Filesets). map.get m g) (sym one.filesets)) live in
      elim (cases_lt at g) [
        | inl more ↦
            let least = next.least g more lower (live_stands mid g was) in
            let same : fs ≡ g = omega arith in
            subst (NeededAt new key) same (here (subst (λ x. is_live mid x ≡ true) (sym same) was))
        | inr le ↦ one.needed g key (before.done g was positive le lower)
      ];
}

pub upto_all : (id : ℕ) (key : Key) (at : ℕ) (old new : Table) → IsTable new → TidiedUpTo id key at old new → IsNextBelow new at id None → OthersNeeded old id key → OlderNeeded new id
upto_all id key at old new lawful upto last others fs q live lower = elim (same_or_other q key) [
  | inl same ↦ subst (λ k. NeededAt new k fs) (sym same) (
      elim (cases_lt at fs) [
        | inl more ↦ absurd (last.least fs more lower (live_stands new fs live))
        | inr le ↦
            let least = positive_id new fs lawful (live_stands new fs live) in
            upto.done fs live (omega arith) le lower
      ])
  | inr other ↦
      let apart : q ≢ key = λ same. false≢true (sym other ∙ ap (λ k. eq_by_cmp key_cmp k key) same ∙ ap is_eq (tied_itself key_cmp_total key)) in
      upto.tidied.needed fs q (others fs q apart (still_live new old fs (ap (λ (m : Filesets). map.get m fs) (sym upto.tidied.filesets)) live) lower)
]
