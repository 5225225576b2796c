use Rattle.std.proofs.Common.{◌≡◌, ℕ, Option, Some, None, sym, ap, ◌∙◌}
use Rattle.ck_words.specs.declared.command.Command.{Command}
use Rattle.ck_words.specs.declared.command.Command.TheVariants.{Play, Mkfs}
use Rattle.ck_admin.proofs.command.run_words.Goals as goal

mkfs_not_play : (blocks records : ℕ) → ◌≡◌ {A = Option Command} (Some (Mkfs blocks records)) (Some Play) → ⊥
mkfs_not_play blocks records h = cc

-- words of mkfs are none of play
not_play : (o : Option Command) (command : Command) (blocks records : ℕ) → o ≡ Some command → command ≡ Mkfs blocks records → o ≡ Some Play → ⊥
not_play o command blocks records some mkfs play = mkfs_not_play blocks records (ap (λ (x : Command). Some x) (sym mkfs) ∙ sym some ∙ play)

nor_none : (o : Option Command) → o ≡ None → o ≡ Some Play → ⊥
nor_none o none play = cc

pub returns-in-Some-Play-clause-bad_script : goal.returns-in-Some-Play-clause-bad_script
returns-in-Some-Play-clause-bad_script g c = λ line is_play refused. c.play_script.ensures.bad_script line refused

pub returns-in-Some-Play-clause-bad_script_device : goal.returns-in-Some-Play-clause-bad_script_device
returns-in-Some-Play-clause-bad_script_device g c = λ line is_play refused. c.play_script.ensures.bad_script_device line refused

pub returns-in-Some-Mkfs-clause-bad_script : goal.returns-in-Some-Mkfs-clause-bad_script
returns-in-Some-Mkfs-clause-bad_script g c = λ line is_play refused.
    absurd (not_play c.match_words.result c.in-Some-Mkfs.field-0 c.in-Some-Mkfs.blocks c.in-Some-Mkfs.records c.in-Some-Mkfs.is c.in-Some-Mkfs.field-0-is (c.match_words.ensures.command ∙ is_play))

pub returns-in-Some-Mkfs-clause-bad_script_device : goal.returns-in-Some-Mkfs-clause-bad_script_device
returns-in-Some-Mkfs-clause-bad_script_device g c = λ line is_play refused.
    absurd (not_play c.match_words.result c.in-Some-Mkfs.field-0 c.in-Some-Mkfs.blocks c.in-Some-Mkfs.records c.in-Some-Mkfs.is c.in-Some-Mkfs.field-0-is (c.match_words.ensures.command ∙ is_play))

pub returns-in-None-clause-bad_script : goal.returns-in-None-clause-bad_script
returns-in-None-clause-bad_script g c = λ line is_play refused. absurd (nor_none c.match_words.result c.in-None.is (c.match_words.ensures.command ∙ is_play))
