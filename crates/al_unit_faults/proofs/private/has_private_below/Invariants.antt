use Rattle.std.proofs.Common.{◌≡◌, ◌&&◌, false, map, take}
use Rattle.std.specs.Option.{option_map}
use Rattle.std.specs.List.{list_any}
use Rattle.al_unit_faults.specs.Private.{descends_below, is_private}
use Rattle.al_unit_faults.proofs.private.has_private_below.Given as goal

abbrev pub invariant-loop-name : goal.invariant-loop-name
invariant-loop-name l = list_any (λ n. is_private l.sources n && descends_below n (option_map (λ a. a.now) l.ancestor)) (map (λ n. n.now) (take l.name-index l.names)) ≡ false
