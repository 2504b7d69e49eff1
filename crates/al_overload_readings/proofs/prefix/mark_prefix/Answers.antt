use Rattle.std.proofs.Common.{Option, ap, ◌∙◌}
use Rattle.std.specs.Prelude.{unwrap_or}
use Rattle.al_overload_readings.specs.Attributes.{array_of, mark_prefix, scalar_prefix}
use Rattle.al_overload_readings.specs.declared.prefix.Prefix.{Prefix}
use Rattle.al_overload_readings.proofs.prefix.mark_prefix.Goals as goal

pub returns : goal.returns
unfolding mark_prefix
returns c =
    c.unwrap_or.ensures
    ∙ ap (λ (o : Option Prefix). unwrap_or o c.scalar_prefix.result) c.in_ok-array.ensures
    ∙ ap (λ (p : Prefix). unwrap_or (array_of c.args.mark.types c.args.mark.subtype.base) p) c.scalar_prefix.ensures
