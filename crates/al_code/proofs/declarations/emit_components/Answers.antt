use Rattle.std.proofs.Common.{sym}
use Rattle.al_view_typed.specs.DeclarationTrees.{component_value_model}
use Rattle.al_code.specs.Declarations.{component_code}
use Rattle.al_code.proofs.Writing.{written_nothing, written_more}
use Rattle.al_code.proofs.Lists.{written_mapped}
use Rattle.al_code.proofs.declarations.emit_components.Goals as goal

pub loop-value-init : goal.loop-value-init
loop-value-init c = sym (written_nothing c.args.out.now)

pub loop-value-preserved : goal.loop-value-preserved
loop-value-preserved c =
    written_more (λ x. component_code c.args.depth c.args.symbol.now (component_value_model x)) c.args.out.now c.loop-value.out c.emit_component.new.out c.args.values.now c.loop-value.value-index c.value-item.result
    c.loop-value.invariant c.in_ok-emit_component.ensures c.value-item.is c.loop-value-test.true

pub returns : goal.returns
returns c = written_mapped (component_code c.args.depth c.args.symbol.now) component_value_model c.args.out.now c.loop-value.out c.args.values.now c.loop-value.value-index c.loop-value.invariant c.loop-value-test.false
