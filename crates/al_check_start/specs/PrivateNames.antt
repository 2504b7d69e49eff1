-- The private types of the units that enclose a unit: it may see their full views, and asks for them by their names (ARM 7.3, 8.2).
use Rattle.std.specs.Prelude.{ℕ, List}
use Rattle.std.specs.List.{flat_map}
use Rattle.al_base.specs.declared.unit_key.UnitKey.{UnitKey}
use Rattle.al_unit_graph.specs.Headers.{Header}
use Rattle.al_query.specs.Answers.{names_told}
use Rattle.al_query.specs.Reads.{Table}
use Rattle.al_query.specs.declared.query.Property.TheVariants.{Context}
use Rattle.al_check_start.specs.Starts.{asked_of, round, with_halves}

-- the private types of another unit
abbrev pub names_of : Table → UnitKey → UnitKey → List (List ℕ)
names_of t own unit = names_told (asked_of t own unit Context)

-- the private types of the units that enclose it and of their other halves, by their answers
unfoldable pub names_known : Table → UnitKey → Header → List (List ℕ)
names_known t own h = flat_map (names_of t own) (with_halves t own (round t own h h.parent_body))
