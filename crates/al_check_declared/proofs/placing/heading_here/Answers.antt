use Rattle.std.proofs.Common.{List, ap, ◌∙◌}
use Rattle.al_check_here.specs.Standings.{with_here}
use Rattle.al_decl_ada.specs.AdaPartReading.{parts_read}
use Rattle.al_base.specs.declared.unit_key.UnitKey.{UnitKey}
use Rattle.al_decl.specs.Heads.{heading_read}
use Rattle.al_scope.specs.Places.{Place}
use Rattle.al_tree.specs.DeclarationViews.{specification_model}
use Rattle.al_check_declared.proofs.Composed.{if_ok, on_ok}
use Rattle.al_check_declared.proofs.placing.heading_here.Goals as goal

pub returns-clause-answered : goal.returns-clause-answered
returns-clause-answered g c =
    let s = c.args.state.now in
    let l = s.unit.labeller in
    if_ok c.heading_at.result _ _
    (λ heading answered t h.
    let read = answered t h in
    (read.0, read.1 ∙ ap (λ (ps : List UnitKey). heading_read (parts_read t ps l.predefined l.own s.unit.own.unit) s.env.scope (specification_model c.args.specification.now)) c.as_slice-packages.ensures))
    c.heading_at.ensures.answered

pub returns-clause-state : goal.returns-clause-state
returns-clause-state g c =
    let s = c.args.state.now in on_ok c.heading_at.result _ _ (λ same. ap (λ (p : Place). with_here s (record s.env { scope = p })) same) c.heading_at.ensures.scope
