use Rattle.std.proofs.Common.{◌≡◌, List, length, ap, take, ◌∙◌, arith}
use Rattle.std.specs.List.{flat_map}
use Rattle.std.proofs.lemmas.List.{take_all}
use Rattle.al_base.specs.declared.unit_key.UnitKey.{UnitKey}
use Rattle.al_check_bounded.specs.Questions.{of_unit, wanted_queries}
use Rattle.al_check_bounded.proofs.queries.wanted_queries.Goals as goal

pub returns : goal.returns
unfolding wanted_queries
returns c =
    let units = c.args.wanted.now.units in
    let same = ap (length {A = UnitKey}) c.as_slice-unit-items.ensures in
    let all : take c.loop-unit.unit-index c.args.wanted.now.units ≡ c.args.wanted.now.units = take_all c.loop-unit.unit-index units (omega (arith, same)) in
    c.loop-unit.invariant ∙ ap (λ (us : List UnitKey). flat_map (of_unit c.args.wanted.now) us) all
