use Rattle.std.proofs.Common.{◌≡◌, ◌≤◌, ◌+◌, drop, length}
use Rattle.al_scope.specs.Places.{place_of}
use Rattle.al_scope.proofs.scope.place_of.Given as goal

abbrev pub invariant-loop-region : goal.invariant-loop-region
invariant-loop-region l = record {
  at : l.place ≡ l.region-index;
  within : l.region-index ≤ length l.regions;
  rest : l.region-index + place_of l.construct (drop l.region-index l.regions) ≡ place_of l.construct l.regions;
}
