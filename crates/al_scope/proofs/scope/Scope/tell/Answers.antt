use Rattle.std.proofs.Common.{◌≡◌, ◌<◌, ◌+◌, ◌-◌, length, arith, ap}
use Rattle.al_scope.specs.Places.{Place, with_private_types}
use Rattle.al_scope.proofs.PlaceLemmas.{in_last-is}
use Rattle.al_scope.proofs.scope.Scope.tell.Goals as goal

pub returns-clause-new : goal.returns-clause-new
returns-clause-new c =
    let regions = ap (λ (p : Place). p.regions) c.self.view_is in
    let some : 0 < length c.self.inside.regions.items = rw regions c.requires in
    let last : c.len-last.result - 1 + 1 ≡ length c.self.inside.regions.items = omega (arith, some, c.len-last.ensures, c.self.inside.regions.ok.0) in
    rw (← regions) (in_last-is (with_private_types c.args.private_types) c.self.inside.regions.items (c.len-last.result - 1) c.index_mut-region.result.now _ last (ap (with_private_types c.args.private_types) c.index_mut-region.ensures.value))
