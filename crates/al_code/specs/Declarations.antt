-- The code of declarations (ARM 3.11).
use Rattle.std.specs.Prelude.{ℕ, pos, List, [], ◌∷◌, ◌++◌, Option, Some, None}
use Rattle.std.specs.List.{flat_map}
use Rattle.al_view.specs.ViewUses.{link}
use Rattle.al_view.specs.declared.link.LinkKind.TheVariants.{Code, Flag, Data}
use Rattle.al_view.specs.declared.symbol.Symbol.{Symbol}
use Rattle.al_view.specs.declared.view.ObjectPlace.{ObjectPlace}
use Rattle.al_view.specs.declared.view.ObjectPlace.TheVariants as places
use Rattle.al_instr.specs.declared.instruction.Instr.TheVariants as instr
use Rattle.al_instr.specs.declared.numbers.Sized.TheVariants as sized
use Rattle.al_view_typed.specs.DeclarationTrees.{ComponentValueTree, DeclarationTree, DeclarationFormTree, Objects, Subprogram, Elaborated, SingleTask, SingleProtected}
use Rattle.al_view_typed.specs.ExpressionTrees.{ValueTree}
use Rattle.al_code.specs.Pieces.{Piece}
use Rattle.al_code.specs.Pieces.Piece.{Using}
use Rattle.al_code.specs.ExprPieces.{number, of_size, place_code}
use Rattle.al_code.specs.Templates.{checked_code}
use Rattle.al_code.specs.Marks.{declaration_has_code, mark_of}

-- an object begins with its value, or with zeros (ARM 3.3.1)
abbrev pub object_code : ℕ → ℕ → Option ValueTree → ObjectPlace → List Piece
object_code depth words (Some value) place = checked_code depth value ++ place_code Data depth place ++ of_size sized.Store words
object_code depth words None place = place_code Data depth place ++ of_size sized.Zero words

-- a flag in a frame is false at first (ARM 3.11(10)); one among a unit's words is so without code
unfoldable pub subprogram_code : ℕ → ObjectPlace → List Piece
subprogram_code depth (places.Frame d word) = place_code Flag depth (places.Frame d word) ++ of_size sized.Zero 1
subprogram_code depth (places.Static symbol word) = []

-- the body is elaborated from here on
unfoldable pub elaborated_code : ℕ → ObjectPlace → List Piece
elaborated_code depth flag = number (pos 1) ++ place_code Flag depth flag ++ of_size sized.Store 1

-- a component of a protected object begins with its value
abbrev pub seed_code : ℕ → Symbol → ℕ → ValueTree → ℕ → List Piece
seed_code depth symbol words value word = checked_code depth value ++ Using (instr.Seed word words) (link Data symbol) ∷ []

-- each component of a declaration evaluates the value anew (ARM 3.3.1(7))
abbrev pub component_code : ℕ → Symbol → ComponentValueTree → List Piece
component_code depth symbol c = flat_map (seed_code depth symbol c.words c.value) c.places

abbrev pub declaration_form_code : ℕ → DeclarationFormTree → List Piece
declaration_form_code depth (Objects objects words value) = flat_map (object_code depth words value) objects
declaration_form_code depth (Subprogram flag) = subprogram_code depth flag
declaration_form_code depth (Elaborated flag) = elaborated_code depth flag
declaration_form_code depth (SingleTask symbol priority) = Using (instr.Task 0 priority) (link Code symbol) ∷ []
declaration_form_code depth (SingleProtected symbol values) = flat_map (component_code depth symbol) values

abbrev pub declaration_code : ℕ → DeclarationTree → List Piece
declaration_code depth d = mark_of (declaration_has_code d.form) d.line ++ declaration_form_code depth d.form

abbrev pub declarations_code : ℕ → List DeclarationTree → List Piece
declarations_code depth declarations = flat_map (declaration_code depth) declarations
