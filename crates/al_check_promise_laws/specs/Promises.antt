-- What the check of a unit promises of its result, whatever other units answer.
use Rattle.std.specs.Prelude.{◌≡◌, ◌<◌, ℕ, List, Some, true}
use Rattle.std.specs.List.{Contains}
use Rattle.al_base.specs.declared.unit_key.UnitKey.{UnitKey}
use Rattle.al_base.specs.declared.unit_key.UnitKind.TheVariants.{Decl}
use Rattle.al_check.specs.Ada.{ada_verdict}
use Rattle.al_check_bounded.specs.Verdicts.Verdict.{Right}
use Rattle.al_query.specs.Reads.{Table}
use Rattle.al_query_outcome.specs.Defines.{DeclaresItself, IsAccounted}
use Rattle.al_query_outcome.specs.Left.{left_by, own_code}
use Rattle.al_query_outcome.specs.declared.interface.UnitInterface.{UnitInterface}
use Rattle.al_tree_syntax.specs.UnitTrees.{CompilationUnitTree}
use Rattle.al_unit.specs.Texts.{unit_in}
use Rattle.al_unit_header.specs.Units.{header_of}
use Rattle.al_view.specs.declared.link.LinkSymbol.{LinkSymbol}
use Rattle.al_view_typed.specs.UnitTrees.{UnitTree}
use Rattle.al_view_typed.specs.WellFormed.{IsWellFormed}

-- the check of a unit with this source finds nothing wrong, and gives this
abbrev pub IsFound : UnitKey → List ℕ → CompilationUnitTree → Table → UnitInterface → UnitTree → Type 0
IsFound unit text tree t i made = ada_verdict unit text tree t ≡ Right i made

-- the labelled tree is that of the unit
abbrev pub TreesAreTheUnits : Type 0
TreesAreTheUnits = (unit : UnitKey) (text : List ℕ) (tree : CompilationUnitTree) (t : Table) (i : UnitInterface) (made : UnitTree) → IsFound unit text tree t i made → made.unit ≡ unit

-- only a declaration that needs a body leaves code to it
abbrev pub OnlyDeclarationsLeave : Type 0
OnlyDeclarationsLeave =
    (unit : UnitKey) (text : List ℕ) (tree : CompilationUnitTree) (t : Table) (i : UnitInterface) (made : UnitTree) → IsFound unit text tree t i made
    → (x : LinkSymbol) → Contains (left_by i.properties.completions) x → (unit.kind ≡ Decl) × ((header_of tree).needs_body ≡ true)

-- a procedure that can be the main one has its code, or leaves it to its body
abbrev pub MainsAreAccounted : Type 0
MainsAreAccounted =
    (unit : UnitKey) (text : List ℕ) (tree : CompilationUnitTree) (t : Table) (i : UnitInterface) (made : UnitTree) → unit_in text ≡ Some tree → IsFound unit text tree t i made
    → (header_of tree).is_parameterless_procedure ≡ true → DeclaresItself unit t → IsAccounted i made (own_code unit)

-- what the labelled tree has lies in the unit's words, as long as these haven't run out
abbrev pub TreesAreWellFormed : Type 0
TreesAreWellFormed =
    (unit : UnitKey) (text : List ℕ) (tree : CompilationUnitTree) (t : Table) (i : UnitInterface) (made : UnitTree) → IsFound unit text tree t i made → made.words < 4294967295 → IsWellFormed made
