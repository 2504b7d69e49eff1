use Rattle.std.proofs.Common.{◌≡◌, rules, arith, sym, ap, ◌∙◌}
use Rattle.al_overload.specs.Universal.{is_universal}
use Rattle.al_overload.specs.TermViews.{term_model}
use Rattle.al_overload.specs.declared.heads_term.Term.{size-Term}
use Rattle.al_overload.specs.declared.heads_term.Term.TheViews.{sized-Group, sized-Infix, sized-Prefixed}
use Rattle.al_overload_nodes.proofs.OperandsThere.{group_passed, infix_passed, prefixed_passed}
use Rattle.al_overload_nodes.proofs.determined.+is_universal.Goals as goal

pub loop-rest-preserved-else-not-is_universal : goal.loop-rest-preserved-else-not-is_universal
loop-rest-preserved-else-not-is_universal t c =
    let here : c.deref-rest.result.now ≡ c.in-Infix.left.value = search rules in
    let inner : c.is_universal.result ≡ is_universal (term_model c.in-Infix.right.value) = search rules in (
      infix_passed c.loop-rest.rest.now c.deref-rest.result.now c.in-Infix.operator c.in-Infix.views c.in-Infix.left c.in-Infix.right c.in-Infix.is here
          (sym c.computes_two.ensures ∙ c.if-not-computes_two.false) (sym inner ∙ c.if-not-is_universal.false)
          ∙ c.loop-rest.invariant.0,
      omega (arith, ap size-Term here, ap size-Term c.in-Infix.is, sized-Infix c.in-Infix.operator c.in-Infix.views c.in-Infix.left c.in-Infix.right, c.loop-rest.invariant.1),
    )

pub loop-rest-preserved-else-not-computes_one : goal.loop-rest-preserved-else-not-computes_one
loop-rest-preserved-else-not-computes_one t c =
    let here : c.deref-rest-in-Prefixed.result.now ≡ c.in-Prefixed.operand.value = search rules in (
      prefixed_passed c.loop-rest.rest.now c.deref-rest-in-Prefixed.result.now c.in-Prefixed.place c.in-Prefixed.operator c.in-Prefixed.views c.in-Prefixed.operand c.in-Prefixed.is here
          (sym c.computes_one.ensures ∙ c.if-not-computes_one.false)
          ∙ c.loop-rest.invariant.0,
      omega (arith, ap size-Term here, ap size-Term c.in-Prefixed.is, sized-Prefixed c.in-Prefixed.place c.in-Prefixed.operator c.in-Prefixed.views c.in-Prefixed.operand, c.loop-rest.invariant.1),
    )

pub loop-rest-preserved : goal.loop-rest-preserved
loop-rest-preserved t c =
    let here : c.deref-rest-in-Group.result.now ≡ c.in-Group.inner.value = search rules in (
      group_passed c.loop-rest.rest.now c.deref-rest-in-Group.result.now c.in-Group.place c.in-Group.inner c.in-Group.is here ∙ c.loop-rest.invariant.0,
      omega (arith, ap size-Term here, ap size-Term c.in-Group.is, sized-Group c.in-Group.place c.in-Group.inner, c.loop-rest.invariant.1),
    )
