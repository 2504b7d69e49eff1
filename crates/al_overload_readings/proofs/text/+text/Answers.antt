use Rattle.std.proofs.Common.{◌≡◌, List, map, sym, ap, subst, ◌∙◌, arith}
use Rattle.std.proofs.lemmas.List.{take_all}
use Rattle.al_base_fault.specs.Judging.{next, map_ok}
use Rattle.al_overload_lookup.specs.Keys.{denoted}
use Rattle.al_overload_readings.specs.Readings.{valued}
use Rattle.al_overload_readings.specs.Steps.{started}
use Rattle.al_overload.specs.TermViews.{term_model}
use Rattle.al_overload_readings.specs.Chains.{IsBelow, stepped}
use Rattle.al_overload_readings.specs.Texts.{noted, read, read_more}
use Rattle.al_overload_readings.specs.declared.name.Step.{Step}
use Rattle.al_tree.specs.ExpressionViews.{expression_model, expressions_of}
use Rattle.al_tree.specs.declared.expression.Expression.{Expression}
use Rattle.al_tree.specs.declared.expression.Infix.{Infix, out-Infix}
use Rattle.al_tree.proofs.ExpressionsMade.{expression_infix_model}
use Rattle.al_overload_readings.proofs.ChainLemmas.{infix_deeper, infix_joined, longer, more_linked}
use Rattle.al_overload_readings.proofs.text.+text.Goals as goal

pub several-returns : goal.several-returns
several-returns t c =
    c.loop-next.invariant
    ∙ ap (λ (xs : List Expression). read_more (denoted c.args.names.now) (started (map_ok term_model c.args.first)) (expressions_of (map expression_model xs)))
    (take_all c.loop-next.next-index c.args.others.now (omega arith))

pub term_of-loop-rest-preserved : goal.term_of-loop-rest-preserved
term_of-loop-rest-preserved t c =
    let left_is = ap (λ (i : Infix). (out-Infix i).left) c.deref-in-Infix-2.ensures in (
      longer (denoted c.args.names.now) c.loop-rest.joints.items c.push.new.self.items _ (next (read (denoted c.args.names.now) (expression_model c.loop-rest.rest.now)) valued) _ _
          c.in_ok-push.ensures.items
          (infix_joined (denoted c.args.names.now) c.in-Infix.infix.value _ (expression_model c.loop-rest.rest.now) (expression_model (out-Infix c.deref-in-Infix-2.result.now).left)
          (ap expression_model c.in-Infix.is ∙ expression_infix_model c.in-Infix.infix)
          (ap expression_model left_is)
          (ap (λ (i : Infix). (out-Infix i).operator) c.deref-in-Infix.ensures)
          (c.in_ok-right.ensures ∙ ap (λ (i : Infix). next (read (denoted c.args.names.now) (expression_model (out-Infix i).right)) valued) c.deref.ensures))
          c.loop-rest.invariant.0,
      infix_deeper c.loop-rest.rest.now c.in-Infix.infix (out-Infix c.deref-in-Infix-2.result.now).left c.args.expression.now c.in-Infix.is left_is c.loop-rest.invariant.1,
    )

pub read-loop-links-preserved : goal.read-loop-links-preserved
read-loop-links-preserved t c =
    let d = denoted c.args.names.now in
    let P : Step → Type 0 = λ s. IsBelow c.loop-links.rest.now s in let below = subst P c.in-Down.is c.in_ok-link.ensures.below in (
      more_linked d c.loop-links.links.items c.push.new.self.items c.in-Down.link
          (noted d (expression_model c.loop-links.rest.now)) (noted d (expression_model c.in-Down.prefix.now)) (noted d (expression_model c.args.expression.now))
          c.in_ok-push-in-Down.ensures.items
          (ap (λ (s : Step). stepped d s) (sym c.in-Down.is) ∙ c.in_ok-link.ensures.noted)
          c.loop-links.invariant.0,
      omega (arith, below, c.loop-links.invariant.1),
    )
