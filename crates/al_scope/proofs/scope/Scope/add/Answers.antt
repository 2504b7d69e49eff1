use Rattle.std.proofs.Common.{◌≡◌, ◌<◌, ◌+◌, ◌-◌, length, arith, ◌∙◌, ap}
use Rattle.al_scope.specs.Places.{Place, with_declared}
use Rattle.al_scope.proofs.PlaceLemmas.{in_last-is}
use Rattle.al_scope.proofs.scope.Scope.add.Goals as goal

pub returns-clause-new : goal.returns-clause-new
returns-clause-new c =
    let regions = ap (λ (p : Place). p.regions) c.self.view_is in
    let some : 0 < length c.self.inside.regions.items = rw regions c.requires in
    let last : c.len-last.result - 1 + 1 ≡ length c.self.inside.regions.items = omega (arith, some, c.len-last.ensures, c.self.inside.regions.ok.0) in
    rw (← regions) (in_last-is (with_declared c.args.name.now c.args.view) c.self.inside.regions.items (c.len-last.result - 1) c.index_mut-region.result.now c.declare.new.self last (c.in_ok-declare.ensures ∙ ap (with_declared c.args.name.now c.args.view) c.index_mut-region.ensures.value))
