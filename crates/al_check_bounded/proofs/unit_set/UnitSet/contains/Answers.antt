use Rattle.std.proofs.Common.{List, ap, ◌∙◌}
use Rattle.al_base.specs.declared.unit_key.UnitKey.{UnitKey}
use Rattle.al_query.specs.Known.{has_unit}
use Rattle.al_check_bounded.proofs.UnitLemmas.{has_derived}
use Rattle.al_check_bounded.proofs.unit_set.UnitSet.contains.Goals as goal

pub returns : goal.returns
returns c =
    let unit = c.args.unit.now in
    c.contains.ensures
    ∙ has_derived unit c.self.inside.index.keys
    ∙ c.self.invariant unit
    ∙ ap (λ (us : List UnitKey). has_unit us unit) c.self.view_is
