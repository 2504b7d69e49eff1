-- The object of a labelled unit.
use Rattle.std.specs.Prelude.{ℕ, ◌+◌, nat_le, if◌then◌else◌, List, [], ◌∷◌, ◌++◌, map, sum_by, Option, Some, None}
use Rattle.al_view.specs.ViewUses.{link}
use Rattle.al_view.specs.declared.link.LinkKind.{LinkKind}
use Rattle.al_view.specs.declared.link.LinkKind.TheVariants as links
use Rattle.al_view_typed.specs.DeclarationTrees.{DeclarationTree, DeclarationFormTree, SingleTask}
use Rattle.al_view_typed.specs.UnitTrees.{ElaborationTree, UnitTree}
use Rattle.al_view_typed.specs.declared.unit.DataPlace.{DataPlace}
use Rattle.al_view_typed.specs.declared.unit.ProtectedWords.{ProtectedWords}
use Rattle.al_instr.specs.Lines.{line_table}
use Rattle.al_code_object.specs.declared.object.Address.{Address}
use Rattle.al_code_object.specs.declared.object.Object.{Object}
use Rattle.al_code_object.specs.declared.object.Object.TheVariants.{Large, Compiled}
use Rattle.al_code_object.specs.declared.object.Region.{Region}
use Rattle.al_code_object.specs.Objects.{CompiledCode}
use Rattle.al_code.specs.Pieces.{Piece, bytes_of, defines_from, lines_from, size, uses_from}
use Rattle.al_code.specs.Images.{word_of}
use Rattle.al_code.specs.Routines.{unit_code}

abbrev pub place_address : LinkKind → DataPlace → Address
place_address kind p = record { symbol = link kind p.symbol; offset = p.word }

-- a protected object has two symbols: for its words and for its number
abbrev pub protected_addresses : ℕ → List ProtectedWords → List Address
protected_addresses number [] = []
protected_addresses number (p ∷ ps) =
    record { symbol = link links.Data p.symbol; offset = p.word } ∷ record { symbol = link links.Protected p.symbol; offset = word_of number } ∷ protected_addresses (number + 1) ps

-- the symbols among a unit's words
abbrev pub data_addresses : UnitTree → List Address
data_addresses u = map (place_address links.Data) u.objects ++ map (place_address links.Flag) u.flags ++ protected_addresses 0 u.protected_objects

abbrev pub region_of : ProtectedWords → Region
region_of p = record { word = p.word; words = p.words; ceiling = p.ceiling }

-- the number of tasks that declarations create
abbrev pub is_task : DeclarationFormTree → ℕ
is_task (SingleTask symbol priority) = 1
is_task _ = 0

abbrev pub tasks_in : List DeclarationTree → ℕ
tasks_in ds = sum_by (λ d. is_task d.form) ds

abbrev pub tasks_of : Option ElaborationTree → ℕ
tasks_of None = 0
tasks_of (Some e) = tasks_in e.declarations

-- the object of pieces
abbrev pub compiled_of : UnitTree → List Piece → CompiledCode
compiled_of u ps = record {
  code = bytes_of ps;
  uses = uses_from 0 ps;
  defines = defines_from 0 ps ++ data_addresses u;
  data_words = u.words;
  tasks = word_of (tasks_of u.elaboration);
  protected = map region_of u.protected_objects;
  lines = line_table (size ps) (lines_from 0 ps);
}

-- the object of a unit: its code, if that is no longer than that of any image
unfoldable pub object_of : UnitTree → Object
object_of u = if nat_le (size (unit_code u)) 16777216 then Compiled (compiled_of u (unit_code u)) else Large
