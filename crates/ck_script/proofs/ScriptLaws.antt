-- A script that is cut off behind its limit.
use Rattle.std.proofs.Common.{◌≡◌, ℕ, ◌+◌, List, take}
use Rattle.ck_model.specs.Limits.{script_limit}
use Rattle.ck_script.specs.Parsed.{read_script}
use Rattle.ck_script.proofs.ParsedLemmas.{read_at-take}

-- no byte but the first one behind the limit is looked at
pub read_script-take : (text : List ℕ) → read_script (take (script_limit + 1) text) ≡ read_script text
read_script-take text = read_at-take script_limit text
