use Rattle.std.proofs.Common.{◌≡◌, map, take}
use Rattle.al_base_fault.specs.Judging.{map_ok}
use Rattle.al_overload_lookup.specs.Keys.{denoted}
use Rattle.al_overload_readings.specs.ReadingViews.{reading_model}
use Rattle.al_overload_readings.specs.Noted.{plain}
use Rattle.al_overload_readings.specs.Texts.{noted}
use Rattle.al_overload_values.specs.CompoundNames.{name_text}
use Rattle.al_tree.specs.Lexemes.{identifier_label}
use Rattle.al_overload_values.proofs.compound.read_parts.Given as goal

abbrev pub invariant-loop-selector : goal.invariant-loop-selector
invariant-loop-selector l = plain (map_ok reading_model l.checked) ≡ noted (denoted l.names) (name_text (record { first = identifier_label l.first; selectors = map identifier_label (take l.selector-index l.selectors) }))
