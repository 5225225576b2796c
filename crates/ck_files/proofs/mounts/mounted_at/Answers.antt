use Rattle.std.proofs.Common.{sym}
use Rattle.ck_files.proofs.MountLemmas.{mounted_at-gone, mounted_at-some}
use Rattle.ck_files.proofs.mounts.mounted_at.Goals as goal

pub returns-in-Some-standing-clause-value : goal.returns-in-Some-standing-clause-value
returns-in-Some-standing-clause-value g c store =
    mounted_at-some store c.args.mounts.now (g.M.Meta.table c.args.meta.now) c.requires c.args.actor c.args.letter c.in-Some.id (sym c.in-Some.ensures)
    c.in-Some-standing.field-0 (sym c.in-Some-standing.ensures)

pub returns-in-None-clause-value : goal.returns-in-None-clause-value
returns-in-None-clause-value g c store =
    mounted_at-gone store c.args.mounts.now (g.M.Meta.table c.args.meta.now) c.requires c.args.actor c.args.letter c.in-Some.id (sym c.in-Some.ensures) (sym c.in-None.ensures)
