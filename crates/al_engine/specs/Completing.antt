-- What sound units promise to one another; the bodies and subunits that complete it are all there.
use Rattle.std.specs.Prelude.{◌≡◌, true, Option}
use Rattle.std.specs.List.{Contains}
use Rattle.al_base.specs.Batch.{key_of}
use Rattle.al_base.specs.declared.unit_key.UnitKey.{UnitKey}
use Rattle.al_view.specs.declared.link.LinkSymbol.{LinkSymbol}
use Rattle.al_query.specs.Known.{has_unit, predefined_units}
use Rattle.al_query.specs.Queries.{unit_of}
use Rattle.al_query.specs.declared.query.Query.{Query}
use Rattle.al_view_typed.specs.UnitTrees.{UnitTree}
use Rattle.al_unit_graph.specs.Library.{is_unit}
use Rattle.al_query_outcome.specs.Defines.{Has, KeepsParts}
use Rattle.al_query_outcome.specs.Equations.{Setting, is_sound, table}
use Rattle.al_query_outcome.specs.ReadsLaw.{answer_uses}
use Rattle.al_query_outcome.specs.Results.{Outcome}
use Rattle.al_query_outcome.specs.declared.interface.UnitInterface.{UnitInterface}

-- each sound unit completes what it must by the answers of all
abbrev pub KeepParts : Setting → (UnitKey → Option Outcome) → Type 0
KeepParts s f = (u : UnitKey) (i : UnitInterface) (tree : UnitTree) → Has f u i tree → KeepsParts u (s.header_of u) (table s f) i tree

-- no unit of the library has an error
abbrev pub AreAllSound : Setting → (UnitKey → Option Outcome) → Type 0
AreAllSound s f = (u : UnitKey) → is_unit s.files (key_of u) ≡ true → is_sound (f u) ≡ true

-- the interfaces of predefined units name no symbol that the linker must find
abbrev pub ShowNoCode : Setting → Type 0
ShowNoCode s = (q : Query) (x : LinkSymbol) → has_unit predefined_units (unit_of q) ≡ true → Contains (answer_uses (s.predefined q)) x → ⊥
