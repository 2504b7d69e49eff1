-- The parts of a name after its object: the steps from the address of each to that of the next.
use Rattle.std.specs.Prelude.{ℕ, ◌<◌, List, [], ◌∷◌, ◌++◌, ⊤}
use Rattle.al_instr.specs.declared.numbers.Sized.TheVariants as sized
use Rattle.al_code.specs.Pieces.{Piece}
use Rattle.al_code.specs.ExprPieces.{of_size}
use Rattle.al_code.specs.Templates.{index_code, value_of}
use Rattle.al_code.specs.declared.parts.Part.{Part}
use Rattle.al_code.specs.declared.parts.Part.TheVariants.{Selected, Indexed}
use Rattle.al_view_typed.specs.ExpressionViews.{typed_model}
use Rattle.al_view_typed.specs.declared.expression.Typed.{size-Typed}
use Rattle.al_view_typed.specs.declared.expression.TypedName.{TypedName, size-TypedName}

abbrev pub part_code : ℕ → Part → List Piece
part_code depth (Selected offset) = of_size sized.Field offset
part_code depth (Indexed index bounds words) = value_of depth (typed_model index.now) ++ index_code bounds.now words

-- the last step of the source comes first
abbrev pub parted_code : ℕ → List Part → List Piece
parted_code depth [] = []
parted_code depth (part ∷ parts) = parted_code depth parts ++ part_code depth part

-- ---- indexes are less deep than the name

abbrev pub IsPartBelow : TypedName → Part → Type 0
IsPartBelow whole (Selected offset) = ⊤
IsPartBelow whole (Indexed index bounds words) = size-Typed index.now < size-TypedName whole

abbrev pub ArePartsBelow : TypedName → List Part → Type 0
ArePartsBelow whole [] = ⊤
ArePartsBelow whole (part ∷ parts) = IsPartBelow whole part × ArePartsBelow whole parts
