use Rattle.std.proofs.Common.{◌∙◌, List, Ok, map, ap}
use Rattle.std.specs.Prelude.{fold}
use Rattle.al_tree.specs.DeclarationViews.{compound_model}
use Rattle.al_tree.specs.declared.names.CompoundName.{CompoundName}
use Rattle.al_scope_context.specs.Contexts.{withed}
use Rattle.al_scope_context.specs.declared.context.Context.{Context}
use Rattle.al_scope_context.proofs.context.add_withs.Goals as goal

pub returns-clause-answered : goal.returns-clause-answered
returns-clause-answered g c t h =
    let others = c.in_ok-add_each_with.ensures.answered t h in
    let first = c.in_ok-add_with.ensures.answered t others.0 in
    let names = c.args.names.now in (
      first.0,
      ap (λ (x : Context). Ok x) (others.1
          ∙ ap (λ (ns : List CompoundName). fold (withed t) c.add_with.new.context (map compound_model ns)) c.as_slice.ensures.value
          ∙ ap (λ (x : Context). fold (withed t) x (map compound_model names.others.items)) first.1),
    )
