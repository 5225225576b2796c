use Rattle.std.proofs.Common.{◌≡◌, ◌++◌, drop}
use Rattle.std.specs.List.{flat_map}
use Rattle.ck_model.specs.History.{call_at}
use Rattle.ck_script.specs.Numbered.{calls_in}
use Rattle.ck_report.specs.Printed.{AreProper}
use Rattle.ck_report.specs.Transcript.{entry_text}
use Rattle.ck_report.proofs.history.transcript.Given as goal

abbrev pub invariant-loop-entry : goal.invariant-loop-entry
invariant-loop-entry l = record {
  text : l.text.items ++ flat_map (entry_text (call_at (calls_in l.lines))) (drop l.entry-index l.history) ≡ flat_map (entry_text (call_at (calls_in l.lines))) l.history;
  each : AreProper (call_at (calls_in l.lines)) (drop l.entry-index l.history) → AreProper (call_at (calls_in l.lines)) l.history;
}
