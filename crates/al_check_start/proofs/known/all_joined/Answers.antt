use Rattle.std.proofs.Common.{◌∙◌, ◌++◌, List, ap}
use Rattle.al_base.specs.declared.unit_key.UnitKey.{UnitKey}
use Rattle.al_check_start.proofs.known.all_joined.Goals as goal

pub returns : goal.returns
returns c =
    c.in_ok-all.ensures ∙ ap (λ (l : List UnitKey). c.args.units.items ++ l) (c.in_ok-mentioned.ensures ∙ ap (λ (l : List UnitKey). c.args.mentioned.items ++ l) c.in_ok-halves.ensures)
