-- What a commit's answer says of a volume.
use Rattle.std.specs.Prelude.{ℕ, Option, Some}
use Rattle.ck_volume.specs.declared.commit.CommitAnswer.{CommitAnswer}
use Rattle.ck_volume.specs.declared.commit.CommitAnswer.TheVariants as answer

-- a failed write breaks the volume after so many entries, and nothing else does
abbrev pub broken_after : ℕ → Option ℕ → CommitAnswer → Option ℕ
broken_after length broken answer.Done = broken
broken_after length broken answer.WriteFault = Some length
broken_after length broken (answer.Broken number) = broken
broken_after length broken answer.NoMemory = broken

-- a commit that is done has committed all entries up to now
abbrev pub committed_after : ℕ → ℕ → CommitAnswer → ℕ
committed_after length committed answer.Done = length
committed_after length committed answer.WriteFault = committed
committed_after length committed (answer.Broken number) = committed
committed_after length committed answer.NoMemory = committed

-- after how many entries a commit broke the volume
abbrev pub spoilt_after : ℕ → Option ℕ → CommitAnswer → Option ℕ
spoilt_after length spoilt answer.Done = spoilt
spoilt_after length spoilt answer.WriteFault = Some length
spoilt_after length spoilt (answer.Broken number) = spoilt
spoilt_after length spoilt answer.NoMemory = spoilt
