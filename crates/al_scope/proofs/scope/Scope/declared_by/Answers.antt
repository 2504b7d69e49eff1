use Rattle.std.proofs.Common.{[], ◌∷◌, ◌∙◌, ◌++◌, ap}
use Rattle.al_scope.specs.declared.region.UnitPart.{UnitPart}
use Rattle.al_scope.specs.Expanded.{part_of}
use Rattle.al_scope.specs.Places.{Place}
use Rattle.al_scope.specs.Visible.{declared_by}
use Rattle.al_scope.proofs.PartLemmas.{parts-of, parts-units}
use Rattle.al_scope.proofs.scope.Scope.declared_by.Goals as goal

pub returns-clause-answered : goal.returns-clause-answered
returns-clause-answered g c t h =
    let answered = c.in_ok-ask_more.ensures.answered t h in (
      answered.0,
      answered.1
          ∙ ap (λ l. l ++ declared_by t c.self.inside.mentioned c.args.name.now c.in_ok-part.part) c.new-views.ensures
          ∙ ap (declared_by t c.self.inside.mentioned c.args.name.now) c.in_ok-part.ensures
          ∙ ap (λ (p : Place). declared_by t p.mentioned c.args.name.now (part_of c.args.prefix.now)) c.self.view_is,
    )

pub returns-clause-asks : goal.returns-clause-asks
returns-clause-asks g c =
    parts-units (part_of c.args.prefix.now ∷ []) c.args.name.now c.args.recorder.now.log c.ask_more.new.recorder.log
    (parts-of (c.in_ok-part.part ∷ []) (part_of c.args.prefix.now ∷ []) c.args.name.now c.args.recorder.now.log c.ask_more.new.recorder.log (ap (λ (p : UnitPart). p ∷ []) c.in_ok-part.ensures) c.in_ok-ask_more.ensures.asks)
