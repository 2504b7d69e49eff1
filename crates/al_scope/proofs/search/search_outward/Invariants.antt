use Rattle.std.proofs.Common.{◌≡◌, ◌++◌, List, length}
use Rattle.al_scope.specs.declared.region.Region.{Region}
use Rattle.al_scope.proofs.SearchLemmas.{IsLooking}
use Rattle.al_scope.proofs.search.search_outward.Given as goal

-- the regions after `rest` have been looked into
abbrev pub invariant-outward : goal.invariant-outward
invariant-outward g l = record {
  asked : l.recorder.asked ≡ l.fn.recorder.asked;
  looked : (done : List Region) × (l.regions ≡ l.rest ++ done) × IsLooking l.mentioned l.name done l.fn.recorder.log l.recorder.log l.search;
}

abbrev pub decreases-outward : goal.decreases-outward
decreases-outward g l = length l.rest
