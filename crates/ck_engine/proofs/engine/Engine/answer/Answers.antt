use Rattle.std.proofs.Common.{◌≡◌, ◌≤◌, ℕ, inl, inr, refl, sym, subst, ◌∙◌}
use Rattle.ck_model.specs.declared.call.Call.{Call}
use Rattle.ck_model.specs.Step.{Outcome, changing, step}
use Rattle.ck_model.specs.Streams.{Texts}
use Rattle.ck_model.specs.World.{World}
use Rattle.ck_model.specs.FileCalls.{changed_by}
use Rattle.ck_engine.specs.Engine.{world_of}
use Rattle.ck_model.proofs.CaseLaws.{if_ok_map}
use Rattle.ck_engine.proofs.AttemptLemmas.{on_err_map}
use Rattle.ck_engine.proofs.engine.Engine.answer.Given.{Over}
use Rattle.ck_engine.proofs.engine.Engine.answer.Goals as goal

-- the step of the call is what it changes, where there is room
abbrev Changes : Texts → World → ℕ → ℕ → Call → Type 0
Changes texts w actor moment call = step texts w actor moment call ≡ changing w (changed_by w call)

step_is : (g : Over) (c : goal.After-change g) (texts : Texts) (w : World) → Changes texts w c.args.actor c.args.moment c.args.call.now
step_is g c texts w =
    elim c.in-Make.is [
      | inl is ↦ subst (Changes texts w c.args.actor c.args.moment) (sym is.1) refl
      | inr rest ↦ elim rest [
        | inl is ↦ subst (Changes texts w c.args.actor c.args.moment) (sym is.1) refl
        | inr rest ↦ elim rest [
          | inl is ↦ subst (Changes texts w c.args.actor c.args.moment) (sym is.1) refl
          | inr rest ↦ elim rest [
            | inl is ↦ subst (Changes texts w c.args.actor c.args.moment) (sym is.1) refl
            | inr rest ↦ elim rest [
              | inl is ↦ subst (Changes texts w c.args.actor c.args.moment) (sym is.2) refl
              | inr rest ↦ elim rest [
                | inl is ↦ subst (Changes texts w c.args.actor c.args.moment) (sym is.3) refl
                | inr rest ↦ elim rest [
                  | inl is ↦ subst (Changes texts w c.args.actor c.args.moment) (sym is.4) refl
                  | inr is ↦ subst (Changes texts w c.args.actor c.args.moment) (sym is.2) refl
                ]
              ]
            ]
          ]
        ]
      ]
    ]

pub returns-in-Make-clause-ok : goal.returns-in-Make-clause-ok
returns-in-Make-clause-ok g c =
    let before = c.args.self.now in
    if_ok_map _ _ c.change.result.answer (λ reply ok told texts. step_is g c texts (world_of (g.D.Disk.means before.disk).shows before) ∙ ok told) c.change.ensures.ok

pub returns-in-Make-clause-few : goal.returns-in-Make-clause-few
returns-in-Make-clause-few g c =
    let before = c.args.self.now in
    on_err_map _ _ c.change.result.answer
    (λ few texts. subst (λ (o : Outcome). c.change.result.count ≤ o.given) (sym (step_is g c texts (world_of (g.D.Disk.means before.disk).shows before))) few) c.change.ensures.few
