use Rattle.al_overload_lookup.proofs.NameKeys.{pushed_selected}
use Rattle.al_overload_lookup.specs.Keys.{key_of}
use Rattle.al_tree.specs.ExpressionViews.{expression_model}
use Rattle.al_overload_lookup.proofs.keys.key_of.Goals as goal

pub loop-prefix-preserved : goal.loop-prefix-preserved
loop-prefix-preserved c =
    pushed_selected (λ s. s.now) c.loop-prefix.selectors.items c.push.new.self.items c.in-Selector.selector (key_of (expression_model c.in-Selector.prefix.now)) (key_of (expression_model c.loop-prefix.rest.now)) _
    c.in_ok-push-in-Selector.ensures.items c.in-Selector.ensures.key c.loop-prefix.invariant
