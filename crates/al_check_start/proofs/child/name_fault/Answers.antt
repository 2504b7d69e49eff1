use Rattle.std.proofs.Common.{◌∙◌, ◌&&◌, Bool, ℕ, List, Some, None, ap, if◌then◌else◌}
use Rattle.al_base_fault.specs.declared.check_rule.CheckRule.TheVariants.{Duplicate}
use Rattle.al_unit_header.specs.Units.{item_name, last_identifier, place_of}
use Rattle.al_base_fault.specs.Faults.{fault_at}
use Rattle.al_tree.specs.UnitViews.{library_item_model}
use Rattle.al_tree_syntax.specs.DeclarationTrees.{CompoundNameTree}
use Rattle.al_check_start.specs.UnitsAt.{declares, taken_in}
use Rattle.al_unit_graph.specs.Names as names
use Rattle.al_check_start.proofs.child.name_fault.Goals as goal

pub returns-clause-answered : goal.returns-clause-answered
returns-clause-answered g c t h =
    let answered = c.in_ok-taken.ensures.answered t h in
    let item = library_item_model c.args.item.now in
    let view = c.args.view.now in
    let last = c.last_identifier-last.ensures ∙ ap (λ (n : CompoundNameTree). (last_identifier n).text) c.item_name.ensures in
    let fault = λ (d b : Bool). if d && b then Some (fault_at (place_of (item_name item)) Duplicate) else None in (
      answered.0,
      c.duplicate_if-fault.ensures ∙ ap (λ (d : Bool). fault d c.in_ok-taken.taken) c.declares.ensures
          ∙ ap (λ (b : Bool). fault (declares item view) b) (answered.1 ∙ ap (λ (n : List ℕ). taken_in t n (names.parent_of c.as_slice.result.now)) last ∙ ap (λ (n : List ℕ). taken_in t (last_identifier (item_name item)).text (names.parent_of n)) c.as_slice.ensures),
    )
