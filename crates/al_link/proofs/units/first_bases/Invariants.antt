use Rattle.std.proofs.Common.{◌≡◌, ◌+◌, ◌*◌, ◌≤◌, take, map, sum_by}
use Rattle.al_link.specs.Units.{call_size, unit_model}
use Rattle.al_link.proofs.units.first_bases.Given as goal

abbrev pub invariant-loop-unit : goal.invariant-loop-unit
invariant-loop-unit l = record {
  size : l.size ≡ sum_by call_size (map unit_model (take l.unit-index l.units)) + 12;
  bound : l.size ≤ 10 * l.unit-index + 12;
}
