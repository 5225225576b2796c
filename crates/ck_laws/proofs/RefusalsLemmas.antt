-- Which replies a refusal can be.
use Rattle.std.proofs.Common.{Bool, true, false, Option, None, Some, Result, Ok, Err, ok_or}
use Rattle.std.specs.Prelude.{⊤}
use Rattle.ck_model.specs.declared.reply.Reply.{Reply}
use Rattle.ck_model.specs.Refusals.{and_then, refuse_if}
use Rattle.ck_laws.specs.Ordinary.{IsOrdinary, OrOrdinary, Refuses}

pub and_then-given : {A B : Type 0} (Q : A → Type 0) (P : B → Type 0) (r : Result A Reply) (next : A → Result B Reply) → OrOrdinary Q r → ((x : A) → Q x → OrOrdinary P (next x)) → OrOrdinary P (and_then r next)
and_then-given Q P (Ok x) next h then = then x h
and_then-given Q P (Err e) next h then = h

pub and_then-ordinary : {A B : Type 0} (P : B → Type 0) (r : Result A Reply) (next : A → Result B Reply) → Refuses r → ((x : A) → OrOrdinary P (next x)) → OrOrdinary P (and_then r next)
and_then-ordinary P r next h then = and_then-given (λ x. ⊤) P r next h (λ x _. then x)

pub refuse_if-ordinary : {A : Type 0} (P : A → Type 0) (b : Bool) (reply : Reply) (rest : Result A Reply) → IsOrdinary reply → OrOrdinary P rest → OrOrdinary P (refuse_if b reply rest)
refuse_if-ordinary P true reply rest h then = h
refuse_if-ordinary P false reply rest h then = then

pub ok_or-ordinary : {A : Type 0} (o : Option A) (reply : Reply) → IsOrdinary reply → Refuses (ok_or o reply)
ok_or-ordinary None reply h = h
ok_or-ordinary (Some x) reply h = tt
