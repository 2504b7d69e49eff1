use Rattle.std.proofs.Common.{sym}
use Rattle.std.specs.Prelude.{option_map}
use Rattle.al_view_typed.specs.ExpressionViews.{value_model}
use Rattle.al_code.specs.Declarations.{object_code}
use Rattle.al_code.proofs.Writing.{written_nothing, written_more, written_all}
use Rattle.al_code.proofs.declarations.emit_objects.Goals as goal

pub loop-place-init : goal.loop-place-init
loop-place-init c = sym (written_nothing c.args.out.now)

pub loop-place-preserved : goal.loop-place-preserved
loop-place-preserved c =
    written_more (object_code c.args.depth c.args.words (option_map value_model c.args.value.now)) c.args.out.now c.loop-place.out c.emit_object.new.out c.args.places.now c.loop-place.place-index c.place-item.result
    c.loop-place.invariant c.in_ok-emit_object.ensures c.place-item.is c.loop-place-test.true

pub returns : goal.returns
returns c = written_all (object_code c.args.depth c.args.words (option_map value_model c.args.value.now)) c.args.out.now c.loop-place.out c.args.places.now c.loop-place.place-index c.loop-place.invariant c.loop-place-test.false
