use Rattle.std.proofs.Common.{◌∙◌, ℕ, List, ap}
use Rattle.std.specs.Prelude.{fold}
use Rattle.al_unit_graph.specs.Names.{lineage}
use Rattle.al_tree.specs.DeclarationViews.{compound_model}
use Rattle.al_scope_context.specs.ContextPragmas.{full_name}
use Rattle.al_scope_context.specs.Contexts.{unit_mentioned, with_named}
use Rattle.al_scope_context.specs.declared.context.Context.{Context}
use Rattle.al_scope_context.proofs.context.add_with.Goals as goal

pub returns-clause-answered : goal.returns-clause-answered
returns-clause-answered g c t h =
    let answered = c.in_ok-mention_units.ensures.answered t h in
    let start = c.args.context.now in
    let full = full_name (compound_model c.args.name.now) in
    let names = c.as_slice-2.ensures.value ∙ c.in_ok-names.ensures ∙ ap lineage (c.as_slice.ensures.value ∙ c.in_ok-full.ensures) in (
      answered.0,
      c.in_ok-add_named.ensures.named
          ∙ ap (λ (n : List ℕ). with_named c.mention_units.new.context n) (c.as_slice-3.ensures.value ∙ c.in_ok-full.ensures)
          ∙ ap (λ (x : Context). with_named x full) (answered.1 ∙ ap (fold (unit_mentioned t) start) names),
    )
