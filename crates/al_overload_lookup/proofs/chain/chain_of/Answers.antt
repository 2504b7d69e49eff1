use Rattle.al_overload_lookup.proofs.Chained.{first_link, pushed_below}
use Rattle.al_overload_lookup.specs.Keys.{key_of}
use Rattle.al_overload_lookup.specs.TextNames.{names_in}
use Rattle.al_tree.specs.ExpressionViews.{expression_model}
use Rattle.al_overload_lookup.proofs.chain.chain_of.Goals as goal

pub loop-link-preserved : goal.loop-link-preserved
loop-link-preserved c = (
  first_link c.loop-link.links.items c.push.new.self.items c.in-Some.link (names_in (expression_model c.loop-link.rest.now)) (names_in (expression_model c.in-Some.left.now)) (names_in (expression_model c.args.expression.now)) (key_of (expression_model c.loop-link.rest.now)) (key_of (expression_model c.in-Some.left.now))
      c.in_ok-push.ensures.items c.in-Some.ensures.names c.in-Some.ensures.key c.loop-link.invariant.0,
  pushed_below c.args.expression.now c.loop-link.rest.now c.in-Some.left.now c.loop-link.links.items c.push.new.self.items c.in-Some.link
      c.in_ok-push.ensures.items c.loop-link.invariant.1 c.in-Some.ensures.below.0 c.in-Some.ensures.below.1,
)
