use Rattle.std.proofs.Common.{◌∙◌, Bool, true, List, Result, Err, map, ap, sym, if◌then◌else◌}
use Rattle.al_base_fault.specs.Judging.{next}
use Rattle.al_base_fault.specs.declared.fault.Fault.{Fault}
use Rattle.al_tree.specs.UnitViews.{context_model, unit_model}
use Rattle.al_tree.specs.declared.unit.ContextItem.{ContextItem}
use Rattle.al_unit_graph.specs.Views.{header_model}
use Rattle.al_scope_context.specs.Contexts.{context_at}
use Rattle.al_scope_context.specs.declared.context.Context.{Context}
use Rattle.al_check_start.specs.Around.{not_surrounded}
use Rattle.al_check_start.specs.UnitsAt.{start_after}
use Rattle.al_check_start.proofs.Steps.{if_ok}
use Rattle.al_check_start.proofs.unit.headed_at.Goals as goal

pub returns-then-not-branch-clause-answered : goal.returns-then-not-branch-clause-answered
returns-then-not-branch-clause-answered g c t h =
    let unit = c.args.unit.now in
    let head = header_model c.args.header.now in
    let text = unit_model c.args.text.now in
    let all = λ (b : Bool). if b then next (context_at t text.context) (start_after t unit head text) else Err (not_surrounded text) in
    (h, ap Err c.not_surrounded.ensures ∙ ap all (sym c.if-not-branch.true ∙ c.in_ok-is_own.ensures))

pub returns-in-Ok-clause-answered : goal.returns-in-Ok-clause-answered
unfolding unit_model
returns-in-Ok-clause-answered g c =
    if_ok c.start_after.result _ _
    (λ start answered t h.
    let known = answered t h in
    let context = c.in_ok-context.ensures.answered t known.0 in
    let unit = c.args.unit.now in
    let head = header_model c.args.header.now in
    let text = unit_model c.args.text.now in
    let all = λ (b : Bool) (r : Result Context Fault). if b then next r (start_after t unit head text) else Err (not_surrounded text) in (
      context.0,
      known.1
          ∙ ap (all true) (sym c.in-Ok.is ∙ context.1 ∙ ap (λ (xs : List ContextItem). context_at t (map context_model xs)) c.as_slice.ensures.value)
          ∙ ap (λ (b : Bool). all b (context_at t text.context)) (sym c.if-not-branch.false ∙ c.in_ok-is_own.ensures),
    ))
    c.start_after.ensures.answered

pub returns-in-Err-clause-answered : goal.returns-in-Err-clause-answered
unfolding unit_model
returns-in-Err-clause-answered g c t h =
    let context = c.in_ok-context.ensures.answered t h in
    let unit = c.args.unit.now in
    let head = header_model c.args.header.now in
    let text = unit_model c.args.text.now in
    let all = λ (b : Bool) (r : Result Context Fault). if b then next r (start_after t unit head text) else Err (not_surrounded text) in (
      context.0,
      ap (all true) (sym c.in-Err.is ∙ context.1 ∙ ap (λ (xs : List ContextItem). context_at t (map context_model xs)) c.as_slice.ensures.value)
          ∙ ap (λ (b : Bool). all b (context_at t text.context)) (sym c.if-not-branch.false ∙ c.in_ok-is_own.ensures),
    )
