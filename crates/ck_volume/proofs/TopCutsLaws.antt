-- From what a volume keeps to what a caller tells.
use Rattle.std.proofs.Common.{◌≡◌, ℕ, ◌+◌, ◌≤◌, Bool, true, false, Some, List, [], ◌∷◌, ◌++◌, length, if◌then◌else◌, sym, ap, ◌∙◌, subst, arith}
use Rattle.std.specs.Option.{option_map_or}
use Rattle.ck_disk.specs.Disk.{Image, Meaning}
use Rattle.ck_model.specs.declared.call.Call.{Call}
use Rattle.ck_model.specs.declared.entry.Entry.{Entry}
use Rattle.ck_model.specs.World.{World}
use Rattle.ck_model.specs.History.{CallsBy}
use Rattle.ck_volume.specs.Causes.{acknowledges}
use Rattle.ck_volume.specs.Cuts.{OpensToCut}
use Rattle.ck_engine.specs.Recovery.{Recovers}
use Rattle.ck_volume.specs.Told.{AreAnswered}
use Rattle.ck_volume.specs.TopCuts.{is_synced, synced_from, synced_count, RecoversCut}

-- ---- how many entries a caller knows to be committed

synced-more : (calls : CallsBy) (number synced : ℕ) (history : List Entry) (entry : Entry)
    → synced_from calls number synced (history ++ entry ∷ []) ≡ (if is_synced calls entry then number + length history + 1 else synced_from calls number synced history)
synced-more calls number synced [] entry = ap (λ n. if is_synced calls entry then n else synced) (one number)
  where
    one : (n : ℕ) → n + 1 ≡ n + 0 + 1
    one n = omega arith
synced-more calls number synced (first ∷ history) entry =
    let next = if is_synced calls first then number + 1 else synced in
    let shifted : number + 1 + length history + 1 ≡ number + length (first ∷ history) + 1 = omega arith in
    synced-more calls (number + 1) next history entry
    ∙ ap (λ n. if is_synced calls entry then n else synced_from calls (number + 1) next history) shifted

-- the loop's step: what an event says of `committed` keeps this
pub synced-step : (calls : CallsBy) (history after : List Entry) (entry : Entry) (call : Call) (before now : ℕ) → calls entry.actor entry.seq ≡ Some call → after ≡ history ++ entry ∷ []
    → length after ≡ length history + 1 → now ≡ (if acknowledges call entry.reply then length after else before) → synced_count calls history ≤ before → synced_count calls after ≤ now
synced-step calls history after entry call before now is added longer counted low =
    let same : is_synced calls entry ≡ acknowledges call entry.reply = ap (λ o. option_map_or (λ call. acknowledges call entry.reply) o false) is in
    let more : synced_count calls after ≡ (if acknowledges call entry.reply then 0 + length history + 1 else synced_count calls history) =
    ap (λ (es : List Entry). synced_count calls es) added ∙ synced-more calls 0 0 history entry ∙ ap (λ b. if b then 0 + length history + 1 else synced_count calls history) same in
    by (acknowledges call entry.reply) more counted
  where
    by : (b : Bool) → synced_count calls after ≡ (if b then 0 + length history + 1 else synced_count calls history) → now ≡ (if b then length after else before) → synced_count calls after ≤ now
    by true more counted = omega (arith, more, counted, longer)
    by false more counted = omega (arith, more, counted, low)

-- ---- cuts

module _ (origin : Meaning) (calls : CallsBy) (w : World) (told : List Call) (history : List Entry) (least fewer : ℕ) (answered : AreAnswered calls told history) (low : fewer ≤ least) where
  pub opens-recovers : Recovers origin.shows w → (image : Image) → OpensToCut origin told history least image → RecoversCut calls w history fewer image
  opens-recovers found image opens = record {
    count = opens.cut.count;
    given = opens.cut.given;
    least_is = omega (arith, low, opens.cut.least_is);
    within = opens.cut.within;
    few = opens.cut.few;
    recovers = λ texts. subst (Recovers image) (sym (opens.cut.is w found texts calls answered)) opens.recovers;
  }
