-- The labelled tree is that of the unit.
use Rattle.std.proofs.Common.{ap, ◌∙◌}
use Rattle.al_check_start.specs.declared.unit.UnitStart.{UnitStart}
use Rattle.al_view_typed.specs.UnitTrees.{UnitTree}
use Rattle.al_check_promise_laws.specs.Promises.{TreesAreTheUnits}
use Rattle.al_check_promise_laws.proofs.Found.{right}

pub trees-are-the-units : TreesAreTheUnits
trees-are-the-units unit text tree t i made h =
    let r = right unit text tree t i made h in ap (λ (x : UnitTree). x.unit) r.made_of.tree ∙ ap (λ (s : UnitStart). s.own.unit) r.started.is
