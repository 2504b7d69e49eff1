use Rattle.std.proofs.Common.{List, ap}
use Rattle.al_scope.specs.declared.region.Region.{Region}
use Rattle.al_check_here.specs.RegionsHere.{region_left}
use Rattle.al_check_here.proofs.Lists.{before_last, none_last, place-is}
use Rattle.al_check_here.proofs.regions.leave_region.Goals as goal

pub returns-then-is_empty : goal.returns-then-is_empty
returns-then-is_empty c =
    let scope = c.args.scope.now in ap (λ (rs : List Region). record scope { regions = rs }) (none_last scope.regions (c.is_empty.ensures.0 c.if-is_empty.true))

pub returns : goal.returns
returns c =
    let scope = c.args.scope.now in
    let left = c.leave.new.self in
    place-is left (region_left scope) c.leave.ensures.mentioned (before_last scope.regions left.regions c.leave.ensures.regions.0 c.leave.ensures.regions.1)
