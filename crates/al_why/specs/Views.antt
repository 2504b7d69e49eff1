-- Declarations, as they are printed.
use Rattle.std.specs.Prelude.{ℕ, Bool, true, false, ◌++◌, List, Option, Some, None, codes}
use Rattle.std.specs.Fmt.{signed_decimal}
use Rattle.al_view.specs.declared.types.StaticValue.{StaticValue}
use Rattle.al_view.specs.declared.types.Subtype.{Subtype}
use Rattle.al_view.specs.declared.view.CallKind.{CallKind}
use Rattle.al_view.specs.declared.view.CallKind.TheVariants.{Entry}
use Rattle.al_view.specs.declared.view.ObjectView.{ObjectView}
use Rattle.al_view.specs.declared.view.SubprogramView.{SubprogramView}
use Rattle.al_view.specs.declared.view.ViewKind.{ViewKind}
use Rattle.al_view.specs.declared.view.ViewKind.TheVariants.{OfType, OfSubtype, OfObject, OfComponent, OfNumber, OfLiteral, OfSubprogram, OfTask, OfProtected, OfPackage}

-- a constant with its value, a constant or a variable
abbrev pub object_word : Option StaticValue → Bool → List ℕ
object_word (Some value) is_constant = codes "constant " ++ signed_decimal value.word
object_word None true = codes "constant"
object_word None false = codes "variable"

abbrev pub object_words : ObjectView → List ℕ
object_words o = object_word o.value o.is_constant ++ codes " of type " ++ o.subtype.base.name

-- a function has a result
abbrev pub by_result : Option Subtype → List ℕ
by_result (Some r) = codes "function"
by_result None = codes "procedure"

abbrev pub by_call : CallKind → List ℕ → List ℕ
by_call Entry word = codes "entry"
by_call _ word = word

abbrev pub routine_word : SubprogramView → List ℕ
routine_word s = by_call s.call (by_result s.profile.result)

abbrev pub view_words : ViewKind → List ℕ
view_words (OfType d) = codes "type"
view_words (OfSubtype s) = codes "subtype of " ++ s.subtype.base.name
view_words (OfObject o) = object_words o
view_words OfComponent = codes "component"
view_words (OfNumber value) = codes "number " ++ signed_decimal value.word
view_words (OfLiteral l) = codes "literal of type " ++ l.base.name
view_words (OfSubprogram s) = routine_word s
view_words (OfTask t) = codes "task"
view_words (OfProtected p) = codes "protected object"
view_words (OfPackage s) = codes "package"
