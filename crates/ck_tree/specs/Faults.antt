-- The faults of plans, as replies.
use Rattle.std.specs.Prelude.{Result, Ok, Err}
use Rattle.ck_model.specs.declared.path.WalkFault.{WalkFault}
use Rattle.ck_model.specs.declared.path.WalkFault.TheVariants as walk
use Rattle.ck_model.specs.declared.reply.Reply.{Reply}
use Rattle.ck_model.specs.declared.reply.Reply.TheVariants as reply
use Rattle.ck_tree.specs.declared.fault.TreeFault.{TreeFault}
use Rattle.ck_tree.specs.declared.fault.TreeFault.TheVariants.{NotFound, NotDir, IsDir, Exists, NotEmpty, Root, TooBig, Spent, NoMemory}

abbrev pub fault_of : WalkFault → TreeFault
fault_of walk.NotFound = NotFound
fault_of walk.NotDir = NotDir

-- a fault has the reply of its name
abbrev pub reply_of : TreeFault → Reply
reply_of NotFound = reply.NotFound
reply_of NotDir = reply.NotDir
reply_of IsDir = reply.IsDir
reply_of Exists = reply.Exists
reply_of NotEmpty = reply.NotEmpty
reply_of Root = reply.Root
reply_of (TooBig size limit) = reply.TooBig size limit
reply_of Spent = reply.Spent
reply_of NoMemory = reply.NoMemory

abbrev pub replied : {A : Type 0} → Result A TreeFault → Result A Reply
replied (Ok x) = Ok x
replied (Err fault) = Err (reply_of fault)
