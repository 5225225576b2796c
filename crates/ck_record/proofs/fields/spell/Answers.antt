use Rattle.ck_record.proofs.SpelledLemmas.{written}
use Rattle.ck_record.proofs.fields.spell.Goals as goal

pub returns : goal.returns
returns c =
    written c.args.fields.now _ _ _ _ _ _ _ c.put_name.ensures.short c.put_u32.ensures.put c.put_u64.ensures.put c.put_u32-2.ensures.put c.put_u32-3.ensures.put c.put_name.ensures.put c.put_u64-2.ensures.put c.put_u32-4.ensures.put
