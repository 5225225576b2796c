-- How much a script may ask for.
use Rattle.std.specs.Prelude.{◌≤◌, ℕ, ◌&&◌, Bool, List, All, length, nat_le}
use Rattle.std.specs.List.{sum_by}
use Rattle.ck_model.specs.declared.call.Call.{Call}
use Rattle.ck_model.specs.declared.call.Call.TheVariants.{Read, Cread, Backup, Full}
use Rattle.ck_script.specs.declared.line.Line.{Line}

-- how many calls it has at the most
abbrev pub call_limit : ℕ
call_limit = 65536

-- how many bytes its reads ask for together at the most
abbrev pub length_limit : ℕ
length_limit = 268435456

-- how many streams its calls give at the most
abbrev pub stream_limit : ℕ
stream_limit = 16

-- how many bytes a call asks for
abbrev pub asked_by : Call → ℕ
asked_by (Read path at len) = len
asked_by (Cread letter path at len) = len
asked_by _ = 0

-- how many streams it gives
abbrev pub streams_by : Call → ℕ
streams_by (Backup letter later) = 1
streams_by (Full letter) = 1
streams_by _ = 0

-- no limit is passed: of the calls, of the bytes that they ask for together, and of the streams that they give
abbrev pub are_within_limits : List Line → Bool
are_within_limits lines =
    nat_le (length lines) call_limit && nat_le (sum_by (λ line. asked_by line.call) lines) length_limit
    && nat_le (sum_by (λ line. streams_by line.call) lines) stream_limit

-- the same as facts, with actors from 1 to 64
pub record IsWithinLimits (lines : List Line) : Type 0 where
  pub calls : length lines ≤ call_limit
  pub lengths : sum_by (λ line. asked_by line.call) lines ≤ length_limit
  pub streams : sum_by (λ line. streams_by line.call) lines ≤ stream_limit
  pub actors : All (λ line. (1 ≤ line.actor) × (line.actor ≤ 64)) lines

-- each turn is the background's, which is 0, or that of an actor from 1 to 64
abbrev pub AreTurns : List ℕ → Type 0
AreTurns turns = All (λ turn. turn ≤ 64) turns
