use Rattle.std.proofs.Common.{◌∙◌, Option, Ok, ap, sym}
use Rattle.al_base_fault.specs.Judging.{unless}
use Rattle.al_base_fault.specs.declared.fault.Fault.{Fault}
use Rattle.al_tree.specs.UnitViews.{context_model}
use Rattle.al_tree.specs.DeclarationViews.{pragma_model}
use Rattle.al_tree.specs.declared.unit.ContextItem.{ContextItem}
use Rattle.al_base.specs.declared.unit_key.UnitKey.{UnitKey}
use Rattle.std.proofs.Common.{List}
use Rattle.al_scope_context.specs.ContextPragmas.{context_pragma_fault}
use Rattle.al_scope_context.specs.Contexts.{with_item}
use Rattle.al_scope_context.proofs.Steps.{if_ok}
use Rattle.al_scope_context.proofs.context.add_item.Goals as goal

pub returns-in-With-clause-answered : goal.returns-in-With-clause-answered
unfolding with_item
returns-in-With-clause-answered g c =
    if_ok c.add_withs.result _ _
    (λ fault answered t h. let known = answered t h in
    (known.0, known.1 ∙ ap (λ (i : ContextItem). with_item t c.args.context.now (context_model i)) (sym c.in-With.is)))
    c.add_withs.ensures.answered

pub returns-in-Use-clause-answered : goal.returns-in-Use-clause-answered
unfolding with_item
returns-in-Use-clause-answered g c =
    if_ok c.add_use.result _ _
    (λ fault answered t h. let known = answered t h in
    (known.0, known.1 ∙ ap (λ (i : ContextItem). with_item t c.args.context.now (context_model i)) (sym c.in-Use.is)))
    c.add_use.ensures.answered

pub returns-in-Pragma-clause-answered : goal.returns-in-Pragma-clause-answered
unfolding with_item
returns-in-Pragma-clause-answered g c =
    let start = c.args.context.now in
    if_ok c.context_pragma_fault.result _ _
    (λ fault is t h.
    (h, ap (λ (o : Option Fault). unless o (Ok start)) (is ∙ ap (λ (ws : List UnitKey). context_pragma_fault ws (pragma_model c.in-Pragma.pragma)) c.as_slice.ensures) ∙ ap (λ (i : ContextItem). with_item t start (context_model i)) (sym c.in-Pragma.is)))
    c.context_pragma_fault.ensures
