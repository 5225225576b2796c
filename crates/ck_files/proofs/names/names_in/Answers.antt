use Rattle.std.proofs.Common.{◌≡◌, Ok, Err, sym, ap, ◌∙◌}
use Rattle.ck_model.specs.declared.reply.Reply.TheVariants.{Names}
use Rattle.ck_model.specs.Contents.{children}
use Rattle.ck_model.specs.Refusals.{and_then}
use Rattle.ck_model.specs.Step.{answered}
use Rattle.ck_model.specs.Walk.{directory_at}
use Rattle.ck_files.specs.Room.{answered_with}
use Rattle.ck_files.proofs.names.names_in.Goals as goal

pub returns-in_ok-found-in-Ok-clause-reply : goal.returns-in_ok-found-in-Ok-clause-reply
returns-in_ok-found-in-Ok-clause-reply g c = λ cells w stands.
    let is : Ok c.in-Ok.node ≡ directory_at cells c.args.path.now = c.in-Ok.ensures.value cells stands ∙ ap (directory_at cells) c.items.ensures.names in
    ap (λ found. answered w (and_then found (λ node. Ok (Names (children cells node))))) (sym is)
    ∙ ap (λ names. answered_with (Names names) w) (sym (c.in_ok-found-in-Ok.ensures cells stands) ∙ sym c.of.ensures)

pub returns-in-Err-clause-reply : goal.returns-in-Err-clause-reply
returns-in-Err-clause-reply g c = λ cells w stands.
    let is : Err c.in-Err.reply ≡ directory_at cells c.args.path.now = c.in-Err.ensures.value cells stands ∙ ap (directory_at cells) c.items.ensures.names in
    ap (λ found. answered w (and_then found (λ node. Ok (Names (children cells node))))) (sym is)
