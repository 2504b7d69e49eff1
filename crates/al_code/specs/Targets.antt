-- The targets of jumps whose ends aren't there yet.
use Rattle.std.specs.Prelude.{zero, suc, Option, Some, None}
use Rattle.al_code.specs.declared.piece.Target.{Target}
use Rattle.al_code.specs.declared.piece.Target.TheVariants as target
use Rattle.al_code.specs.declared.piece.Construct.{Construct}
use Rattle.al_code.specs.declared.piece.Construct.TheVariants as construct

-- the target as it is outside of a construct; none if it is the end of that construct
abbrev pub outside : Construct → Target → Option Target
outside construct.Test target.Next = None
outside construct.Test t = Some t
outside construct.Choice target.Join = None
outside construct.Choice t = Some t
outside construct.Routine target.Routine = None
outside construct.Routine t = Some t
outside construct.Loop (target.Loop zero) = None
outside construct.Loop (target.Loop (suc loops)) = Some (target.Loop loops)
outside construct.Loop t = Some t
