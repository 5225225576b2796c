-- A reply, whether it is a refusal or not.
use Rattle.std.specs.Prelude.{Result, Ok, Err}
use Rattle.ck_model.specs.declared.reply.Reply.{Reply}

abbrev pub reply_of : Result Reply Reply → Reply
reply_of (Ok reply) = reply
reply_of (Err reply) = reply
