use Rattle.std.proofs.Common.{◌≡◌, ◌++◌, map, take}
use Rattle.std.specs.List.{flat_map}
use Rattle.al_folder_served.specs.UnitReasons.{part_line, part_text}
use Rattle.al_folder_served.proofs.unit_reasons.add_lines.Given as goal

abbrev pub invariant-loop-part : goal.invariant-loop-part
invariant-loop-part l = l.text.items ≡ l.fn.text.items ++ flat_map (part_line l.name) (map part_text (take l.part-index l.parts))
