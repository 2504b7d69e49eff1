use Rattle.al_view_typed.specs.UnitTrees.{elaboration_model}
use Rattle.al_code.specs.declared.piece.Construct.TheVariants as construct
use Rattle.al_code.proofs.Closing.{closed_steps}
use Rattle.al_code.specs.Routines.{ending_code}
use Rattle.al_code.proofs.bodies.emit_ending.Goals as goal

pub returns : goal.returns
unfolding elaboration_model ending_code
returns c =
    let inner = rw c.deref.ensures.value at c.in_ok-emit_statements.ensures in
    closed_steps c.args.out.now c.emit_statements.new.out c.close.new.self c.leaving-first.result construct.Routine _ c.leaving-first.ensures inner c.in_ok-close.ensures
