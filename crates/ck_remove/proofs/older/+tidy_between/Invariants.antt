use Rattle.std.proofs.Common.{◌-◌, ◌^◌}
use Rattle.ck_remove.proofs.older.+tidy_between.Given as goal

abbrev pub decreases-tidy_between : goal.decreases-tidy_between
decreases-tidy_between g l = 2 ^ 32 - l.at
