-- A labelled unit with a protected object, and literals.
use Rattle.std.specs.Prelude.{◌≡◌, ℕ, [], ◌∷◌, None, ⊤}
use Rattle.al_base.specs.declared.unit_key.UnitKey.{UnitKey}
use Rattle.al_view.specs.declared.types.StaticValue.{StaticValue}
use Rattle.al_view_typed.specs.ExpressionTrees.{FormTree}
use Rattle.al_view_typed.specs.ExpressionTrees.FormTree.{LiteralForm}
use Rattle.al_view_typed.specs.UnitTrees.{UnitTree}
use Rattle.al_view_typed.specs.WellFormed.{IsWellFormed}
use Rattle.al_view_typed.specs.declared.unit.ProtectedWords.{ProtectedWords}

-- a unit of so many words, with nothing but this protected object
abbrev pub unit_with : UnitKey → ℕ → ProtectedWords → UnitTree
unit_with unit words object = record {
  unit = unit;
  elaboration = None;
  bodies = [];
  words = words;
  objects = [];
  flags = [];
  protected_objects = object ∷ [];
}

-- a protected object of two words may begin at word 2 of a unit of four words, and not at word 3
abbrev pub RegionsLieInside : Type 0
RegionsLieInside =
    (unit : UnitKey) (object : ProtectedWords) → object.words ≡ 2
    → (object.word ≡ 2 → IsWellFormed (unit_with unit 4 object)) × (object.word ≡ 3 → IsWellFormed (unit_with unit 4 object) → ⊥)

abbrev pub IsLiteral : FormTree → Type 0
IsLiteral (LiteralForm value) = ⊤
IsLiteral _ = ⊥

-- each labelled literal has a value
abbrev pub LiteralsHaveValues : Type 0
LiteralsHaveValues = (form : FormTree) → IsLiteral form → (value : StaticValue) × (form ≡ LiteralForm value)
