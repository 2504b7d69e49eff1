use Rattle.std.proofs.Common.{List, ap, ◌∙◌}
use Rattle.al_check_here.specs.Faulty.{effect_settled}
use Rattle.al_decl_ada.specs.AdaPartReading.{parts_read}
use Rattle.al_base.specs.declared.unit_key.UnitKey.{UnitKey}
use Rattle.al_decl.specs.Items.{subtype_item_checked}
use Rattle.al_tree.specs.DeclarationViews.{subtype_model}
use Rattle.al_check_declared.proofs.Composed.{effect_same, if_ok}
use Rattle.al_check_declared.proofs.declarations.subtype.Goals as goal

pub returns-clause-answered : goal.returns-clause-answered
returns-clause-answered g c =
    if_ok c.settle_effect.result _ _
    (λ effects settled t h.
    let answered = c.in_ok-checked.ensures.answered t h in
    let s = c.args.state.now in
    let l = s.unit.labeller in (
      answered.0,
      settled
          ∙ effect_same s c.check_subtype_item.new.env _
          ∙ ap (effect_settled s) (answered.1 ∙ ap (λ (ps : List UnitKey). subtype_item_checked (parts_read t ps l.predefined l.own s.unit.own.unit) t s.env (subtype_model c.args.declaration.now)) c.as_slice-packages.ensures),
    ))
    c.settle_effect.ensures
