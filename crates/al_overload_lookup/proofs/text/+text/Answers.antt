use Rattle.std.proofs.Common.{◌++◌, List, None, refl, sym, ap, ◌∙◌, arith}
use Rattle.std.proofs.lemmas.List.{take_all}
use Rattle.std.specs.List.{flat_map}
use Rattle.al_overload_lookup.proofs.Chained.{next_below, next_step}
use Rattle.al_overload_lookup.proofs.Found.{all_listed}
use Rattle.al_overload_lookup.specs.Pieces.{front, names_of}
use Rattle.al_overload_lookup.specs.TextNames.{names_in}
use Rattle.al_overload_lookup.specs.declared.chain.Link.TheVariants.{Operator, Part, Test}
use Rattle.al_overload_lookup.specs.declared.name.TextName.{TextName}
use Rattle.al_tree.specs.ExpressionViews.{expression_model}
use Rattle.al_tree.specs.declared.expression.Expression.{Expression}
use Rattle.al_overload_lookup.proofs.text.+text.Goals as goal

pub add_all-returns : goal.add_all-returns
add_all-returns t c =
    let all = take_all c.loop-expression.expression-index c.args.expressions.now (omega arith) in
    c.loop-expression.invariant
    ∙ ap (λ (xs : List Expression). names_of c.args.found.now.items ++ flat_map (λ (x : Expression). names_in (expression_model x)) xs) all
    ∙ ap (λ (xs : List TextName). names_of c.args.found.now.items ++ xs) (sym (all_listed c.args.expressions.now))

-- ---- what is first is no deeper than the whole, and each link is less deep

pub add_names-add_first-requires : goal.add_names-add_first-requires
add_names-add_first-requires t c = (omega (arith, c.decreases, c.in_ok-first.ensures.within.0), tt)

pub add_names-add_part-requires : goal.add_names-add_part-requires
add_names-add_part-requires t c = (
  omega (arith, c.decreases, next_below c.args.expression.now c.loop-link.links.items c.pop.new.self.items c.pop.result c.in-Some.link (Part c.in-Part.longer) c.pop.ensures.items c.in-Some.is c.in-Part.is c.loop-link.invariant.1),
  tt,
)

pub add_names-add_operation-requires : goal.add_names-add_operation-requires
add_names-add_operation-requires t c = (
  omega (arith, c.decreases, next_below c.args.expression.now c.loop-link.links.items c.pop.new.self.items c.pop.result c.in-Some.link (Operator c.in-Operator.operation) c.pop.ensures.items c.in-Some.is c.in-Operator.is c.loop-link.invariant.1),
  tt,
)

pub add_names-add_test-requires : goal.add_names-add_test-requires
add_names-add_test-requires t c = (
  omega (arith, c.decreases, next_below c.args.expression.now c.loop-link.links.items c.pop.new.self.items c.pop.result c.in-Some.link (Test c.in-Test.member) c.pop.ensures.items c.in-Some.is c.in-Test.is c.loop-link.invariant.1),
  tt,
)

-- ---- the names of a link come next

pub add_names-loop-link-preserved-in-Part : goal.add_names-loop-link-preserved-in-Part
add_names-loop-link-preserved-in-Part t c =
    next_step c.args.expression.now c.loop-link.links.items c.pop.new.self.items c.pop.result c.in-Some.link (Part c.in-Part.longer) (names_of c.args.found.now.items) (names_of c.loop-link.found.items) (names_of c.add_part.new.found.items) (names_in (expression_model c.args.expression.now))
    (front c.loop-link.named c.loop-link.found.items) (front c.in_ok-still-in-Part.still c.add_part.new.found.items) c.pop.ensures.items c.in-Some.is c.in-Part.is c.in_ok-still-in-Part.ensures.names c.in_ok-still-in-Part.ensures.key c.loop-link.invariant

pub add_names-loop-link-preserved-in-Operator : goal.add_names-loop-link-preserved-in-Operator
add_names-loop-link-preserved-in-Operator t c =
    next_step c.args.expression.now c.loop-link.links.items c.pop.new.self.items c.pop.result c.in-Some.link (Operator c.in-Operator.operation) (names_of c.args.found.now.items) (names_of c.loop-link.found.items) (names_of c.add_operation.new.found.items) (names_in (expression_model c.args.expression.now))
    (front c.loop-link.named c.loop-link.found.items) None c.pop.ensures.items c.in-Some.is c.in-Operator.is c.in_ok-add_operation-in-Operator.ensures refl c.loop-link.invariant

pub add_names-loop-link-preserved : goal.add_names-loop-link-preserved
add_names-loop-link-preserved t c =
    next_step c.args.expression.now c.loop-link.links.items c.pop.new.self.items c.pop.result c.in-Some.link (Test c.in-Test.member) (names_of c.args.found.now.items) (names_of c.loop-link.found.items) (names_of c.add_test.new.found.items) (names_in (expression_model c.args.expression.now))
    (front c.loop-link.named c.loop-link.found.items) None c.pop.ensures.items c.in-Some.is c.in-Test.is c.in_ok-add_test-in-Test.ensures refl c.loop-link.invariant
