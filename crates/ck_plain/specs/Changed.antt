-- What answers a call that changes files.
use Rattle.std.specs.Prelude.{◌≡◌, Result, Ok, Err, MatchResult}
use Rattle.ck_model.specs.declared.reply.Reply.{Reply}
use Rattle.ck_model.specs.World.{World}
use Rattle.ck_plain.specs.declared.changes.Next.{Next}

-- the world with these files and numbers
abbrev pub with_next : World → Next → World
with_next w next = record w { primary = next.primary; next = next.next }

-- the answer is this result of a call on a world
abbrev pub Answers : World → Result World Reply → Result Next Reply → Type 0
Answers w expected answer = MatchResult answer (λ next. expected ≡ Ok (with_next w next)) (λ reply. expected ≡ Err reply)
