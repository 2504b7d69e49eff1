-- Which declarations of one name are homographs.
use Rattle.std.specs.Prelude.{◌≡◌, Bool, true, false, ◌&&◌, ◌==◌, List, [], length, map, zip, Option, Some, None, is_some}
use Rattle.std.specs.List.{list_all}
use Rattle.std.specs.Option.{option_map}
use Rattle.al_view.specs.declared.symbol.Symbol.{Symbol}
use Rattle.al_view.specs.declared.view.Parameter.{Parameter}
use Rattle.al_view.specs.declared.view.ViewKind.{ViewKind}
use Rattle.al_view.specs.declared.view.ViewKind.TheVariants.{OfLiteral, OfSubprogram}
use Rattle.al_view.specs.Symbols.{same_symbol}

-- the parameters, and the type of the result
abbrev pub Signature : Type 0
Signature = List Parameter × Option Symbol

-- the signature of a declaration that may be overloaded (ARM 8.3(7)): a subprogram, operator or entry, or an enumeration literal,
-- which is like a function without parameters (ARM 3.5.1(6))
abbrev pub signature_of : ViewKind → Option Signature
signature_of (OfSubprogram s) = Some (s.profile.parameters, option_map (λ r. r.base) s.profile.result)
signature_of (OfLiteral l) = Some ([], Some l.base)
signature_of _ = None

-- the types of the parameters, and of the result
abbrev pub types_of : Signature → List Symbol × Option Symbol
types_of s = (map (λ p. p.subtype.base) s.0, s.1)

-- two declarations of one name are homographs (ARM 8.3(8)): if both may be overloaded, they have the same parameter and result
-- types
abbrev pub Homographs : ViewKind → ViewKind → Type 0
Homographs a b = (s u : Signature) → signature_of a ≡ Some s → signature_of b ≡ Some u → types_of s ≡ types_of u

-- the test

abbrev pub may_be_overloaded : ViewKind → Bool
may_be_overloaded v = is_some (signature_of v)

abbrev pub same_parameters : List Parameter → List Parameter → Bool
same_parameters ps qs = (length ps == length qs) && list_all (λ e. same_symbol e.0.subtype.base e.1.subtype.base) (zip ps qs)

abbrev pub same_result : Option Symbol → Option Symbol → Bool
same_result (Some a) (Some b) = same_symbol a b
same_result None None = true
same_result _ _ = false

abbrev pub same_signature : Option Signature → Option Signature → Bool
same_signature (Some s) (Some u) = same_parameters s.0 u.0 && same_result s.1 u.1
same_signature _ _ = true

abbrev pub homographs : ViewKind → ViewKind → Bool
homographs a b = same_signature (signature_of a) (signature_of b)
