use Rattle.std.proofs.Common.{◌≡◌, arith, sym, ◌∙◌}
use Rattle.al_code.proofs.CodelessLemmas.{no_codeless_left, one_codeless_more, one_with_code}
use Rattle.al_code.proofs.codeless.+codeless.Goals as goal

pub are_codeless-loop-value-preserved : goal.are_codeless-loop-value-preserved
are_codeless-loop-value-preserved t c = one_codeless_more c.args.values.now c.loop-value.value-index c.value-item.result _ (omega arith) c.value-item.is (sym c.is_codeless_value.ensures ∙ c.if-not-is_codeless_value.false) c.loop-value.invariant

pub are_codeless-returns : goal.are_codeless-returns
are_codeless-returns t c = no_codeless_left c.args.values.now c.loop-value.value-index _ (omega arith) c.loop-value.invariant

pub are_codeless-returns-then-not-is_codeless_value : goal.are_codeless-returns-then-not-is_codeless_value
are_codeless-returns-then-not-is_codeless_value t c = one_with_code c.args.values.now c.loop-value.value-index c.value-item.result _ (omega arith) c.value-item.is (sym c.is_codeless_value.ensures ∙ c.if-not-is_codeless_value.true) c.loop-value.invariant
