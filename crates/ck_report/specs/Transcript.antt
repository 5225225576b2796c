-- The text of a history.
use Rattle.std.specs.Prelude.{ℕ, List, [], ◌++◌, codes}
use Rattle.std.specs.List.{flat_map}
use Rattle.std.specs.Option.{option_map_or}
use Rattle.std.specs.Fmt.{decimal}
use Rattle.ck_model.specs.declared.call.Call.{Call}
use Rattle.ck_model.specs.declared.entry.Entry.{Entry}
use Rattle.ck_model.specs.declared.reply.Reply.{Reply}
use Rattle.ck_model.specs.History.{CallsBy}
use Rattle.ck_report.specs.Words.{call_words, reply_words, number_words}

-- whose call an entry answers, when it began, and what was given up for it
unfoldable pub entry_head : Entry → List ℕ
entry_head entry = decimal entry.actor ++ codes "." ++ decimal entry.seq ++ number_words entry.at ++ number_words entry.given

-- a call and its reply, to the end of the line
unfoldable pub answer_text : Call → Reply → List ℕ
answer_text call reply = codes " " ++ call_words call ++ codes " = " ++ reply_words reply ++ codes "\n"

-- the line of an entry that answers this call
abbrev pub entry_line : Entry → Call → List ℕ
entry_line entry call = entry_head entry ++ answer_text call entry.reply

-- the line of an entry, whose call is the one with its actor and number
abbrev pub entry_text : CallsBy → Entry → List ℕ
entry_text calls entry = option_map_or (entry_line entry) (calls entry.actor entry.seq) []

-- one line for each entry, in order
abbrev pub transcript_text : CallsBy → List Entry → List ℕ
transcript_text calls history = flat_map (entry_text calls) history
