use Rattle.std.proofs.Common.{ℕ, List, ap, ◌∙◌}
use Rattle.al_check_here.specs.Faulty.{effect_settled}
use Rattle.al_decl_ada.specs.AdaPartReading.{parts_read}
use Rattle.al_base.specs.declared.unit_key.UnitKey.{UnitKey}
use Rattle.al_decl.specs.Placing.{subprogram_checked}
use Rattle.al_tree.specs.DeclarationViews.{specification_model}
use Rattle.al_check_declared.proofs.Composed.{effect_same, if_ok}
use Rattle.al_check_declared.proofs.declarations.nested_subprogram.Goals as goal

pub returns-clause-answered : goal.returns-clause-answered
returns-clause-answered g c =
    if_ok c.settle_effect.result _ _
    (λ effects settled t h.
    let answered = c.in_ok-checked.ensures.answered t h in
    let s = c.args.state.now in
    let l = s.unit.labeller in
    let text = specification_model c.args.specification.now in (
      answered.0,
      settled
          ∙ effect_same s c.check_subprogram.new.env _
          ∙ ap (effect_settled s)
          (answered.1
          ∙ ap (λ (ps : List UnitKey). subprogram_checked (parts_read t ps l.predefined l.own s.unit.own.unit) t s.env c.first_line.result text) c.as_slice-packages.ensures
          ∙ ap (λ (n : ℕ). subprogram_checked (parts_read t s.unit.packages l.predefined l.own s.unit.own.unit) t s.env n text) c.first_line.ensures),
    ))
    c.settle_effect.ensures
