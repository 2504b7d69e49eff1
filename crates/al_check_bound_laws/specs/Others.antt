-- The answers of all other units.
use Rattle.std.specs.Prelude.{if◌then◌else◌}
use Rattle.al_base.specs.declared.unit_key.UnitKey.{UnitKey}
use Rattle.al_query.specs.Queries.{unit_of}
use Rattle.al_query.specs.Reads.{Table}
use Rattle.al_query_outcome.specs.Tables.{no_answer}
use Rattle.al_view.specs.Symbols.{same_unit}

-- a unit doesn't ask itself
abbrev pub others : UnitKey → Table → Table
others unit t q = if same_unit unit (unit_of q) then no_answer q else t q
