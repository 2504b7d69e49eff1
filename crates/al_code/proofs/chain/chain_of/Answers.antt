use Rattle.std.proofs.Common.{arith, ap, sym, subst, ◌∙◌, ◌++◌, [], ◌∷◌}
use Rattle.std.proofs.lemmas.List.{append-nil}
use Rattle.al_code.specs.Chains.{AreBelow}
use Rattle.al_view_typed.specs.ExpressionViews.{typed_model}
use Rattle.al_code.specs.Templates.{value_of}
use Rattle.al_code.proofs.ChainLemmas.{first_chained, pushed_below}
use Rattle.al_code.proofs.chain.chain_of.Goals as goal

pub loop-link-init : goal.loop-link-init
loop-link-init c =
    let link = c.in-Some.ensures in (
      (λ depth. first_chained depth [] c.push.new.self.items c.in-Some.last.joint
          (value_of depth (typed_model c.args.typed.now)) (value_of depth (typed_model c.in-Some.last.left.now)) (value_of depth (typed_model c.args.typed.now))
          (c.in_ok-push.ensures.items ∙ ap (λ js. js ++ c.in-Some.last.joint ∷ []) c.new-joints.ensures.items) (link.code depth) (append-nil (value_of depth (typed_model c.args.typed.now)))),
      subst (AreBelow c.args.typed.now) (sym (c.in_ok-push.ensures.items ∙ ap (λ js. js ++ c.in-Some.last.joint ∷ []) c.new-joints.ensures.items)) (link.below.1, tt),
      link.below.0,
    )

pub loop-link-preserved : goal.loop-link-preserved
loop-link-preserved c =
    let known = c.loop-link.invariant in
    let link = c.in-Some-last_link.ensures in (
      (λ depth. first_chained depth c.loop-link.joints.items c.push-in-Some-last_link.new.self.items c.in-Some-last_link.link.joint
          (value_of depth (typed_model c.loop-link.rest.now)) (value_of depth (typed_model c.in-Some-last_link.link.left.now)) (value_of depth (typed_model c.args.typed.now))
          c.in_ok-push-2.ensures.items (link.code depth) (known.0 depth)),
      pushed_below c.args.typed.now c.loop-link.rest.now c.loop-link.joints.items c.push-in-Some-last_link.new.self.items c.in-Some-last_link.link.joint c.in_ok-push-2.ensures.items (omega (arith, known.2)) known.1 link.below.1,
      omega (arith, known.2, link.below.0),
    )
