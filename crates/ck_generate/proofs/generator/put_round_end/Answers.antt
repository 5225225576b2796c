use Rattle.ck_text.proofs.AppendLaws.{appended_five}
use Rattle.std.proofs.lemmas.Result.{on_ok_weaker}
use Rattle.ck_generate.proofs.generator.put_round_end.Goals as goal

pub returns : goal.returns
returns c = on_ok_weaker c.put_umount.result (appended_five _ _ _ _ _ _ _ _ _ _ _ c.in_ok-put_named.ensures c.in_ok-put_mount.ensures c.in_ok-put_backup.ensures c.in_ok-put_named-2.ensures) c.put_umount.ensures
