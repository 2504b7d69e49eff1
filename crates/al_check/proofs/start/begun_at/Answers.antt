use Rattle.std.proofs.Common.{ℕ, Bool, List, Option, ap, ◌∙◌}
use Rattle.al_base.specs.declared.unit_key.UnitKey.{UnitKey}
use Rattle.al_decl_judged.specs.declared.progress.Progress.{Progress}
use Rattle.al_query.specs.declared.answer.Completion.{Completion}
use Rattle.al_scope.specs.Places.{Place}
use Rattle.al_scope.specs.declared.seen_hiding.PrivateName.{PrivateName}
use Rattle.al_scope.specs.declared.own.OwnText.{OwnText}
use Rattle.al_unit_header.specs.PrivateTypes.{private_types}
use Rattle.al_unit_header.specs.Units.{header_of}
use Rattle.al_tree.specs.UnitViews.{library_item_model, unit_model}
use Rattle.al_view.specs.declared.view.ViewKind.{ViewKind}
use Rattle.al_check_here.specs.Standings.{begun_at}
use Rattle.al_check_here.specs.declared.state.UnitText.{UnitText}
use Rattle.al_check_bounded.specs.Lines.{item_line}
use Rattle.al_check_bounded.specs.declared.after.UnitFacts.{UnitFacts}
use Rattle.al_check.specs.Ada.{text_of, without_withs}
use Rattle.al_check.proofs.start.begun_at.Goals as goal

pub returns-clause-unit_facts : goal.returns-clause-unit_facts
unfolding unit_model
returns-clause-unit_facts c =
    let make = λ (unit : UnitKey) (needs : Bool) (line : ℕ) (names : List (List ℕ)) (withs : List UnitKey) (parent_view : Option UnitKey × Option ViewKind). let unit_facts : UnitFacts = record { unit = unit; needs_body = needs; line = line; parent = parent_view.0; withs = withs; view = parent_view.1; private_types = names } in unit_facts in
    let needs = (header_of (unit_model c.args.tree.now)).needs_body in
    let line = item_line (library_item_model c.args.tree.now.item) in
    let names = private_types (library_item_model c.args.tree.now.item) in
    let parent_view = c.into_parts-parts.result.2 in
    let withs = c.withs_apart-apart.result.1 in
    let unit = c.args.start.own.unit in
    ap (λ (u : UnitKey). make u c.unit_needs_body-needs_body.result c.item_line-line.result c.new-private_types.result withs parent_view) c.in_ok-unit.ensures
    ∙ ap (λ (b : Bool). make unit b c.item_line-line.result c.new-private_types.result withs parent_view) c.unit_needs_body-needs_body.ensures
    ∙ ap (λ (l : ℕ). make unit needs l c.new-private_types.result withs parent_view) c.item_line-line.ensures
    ∙ ap (λ (n : List (List ℕ)). make unit needs line n withs parent_view) (c.new-private_types.ensures ∙ c.in_ok-private_types.ensures)
    ∙ ap (λ (apart : OwnText × List UnitKey). make unit needs line names apart.1 parent_view) c.withs_apart-apart.ensures
    ∙ ap (λ (text : OwnText × List UnitKey × List PrivateName). make unit needs line names text.0.withs parent_view) c.into_parts-parts.ensures.text
    ∙ ap (make unit needs line names c.args.start.own.withs) c.into_parts-parts.ensures.parent_view

pub returns-clause-state : goal.returns-clause-state
unfolding unit_model
returns-clause-state c =
    let made = c.into_parts-parts.result in
    let s = c.args.start in
    let inner = c.args.private_part in
    c.new-state.ensures
    ∙ ap (λ (text : UnitText). begun_at text made.1.0 made.1.1 made.1.2) c.in_ok-text.ensures
    ∙ ap (λ (apart : OwnText × List UnitKey). begun_at (text_of made.0.1 apart.0 made.0.2 inner) made.1.0 made.1.1 made.1.2) c.withs_apart-apart.ensures
    ∙ ap (λ (text : OwnText × List UnitKey × List PrivateName). begun_at (text_of text.1 (without_withs text.0) text.2 inner) made.1.0 made.1.1 made.1.2) c.into_parts-parts.ensures.text
    ∙ ap (λ (place : Place × Progress × List Completion). begun_at (text_of s.packages (without_withs s.own) s.hidden inner) place.0 place.1 place.2) c.into_parts-parts.ensures.place
