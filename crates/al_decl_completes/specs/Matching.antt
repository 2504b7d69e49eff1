-- Tests that decide whether a specification has the types of a profile, and whether it conforms to it (ARM 6.3.1, 8.3(8)).
use Rattle.std.specs.Prelude.{ℕ, Bool, true, false, not, ◌&&◌, List, [], ◌∷◌, Option, Some, None, int_le}
use Rattle.std.specs.Str.{bytes_eq}
use Rattle.al_decl_judged.specs.Completing.{is_entry}
use Rattle.al_decl_judged.specs.declared.specification.Formal.{Formal}
use Rattle.al_decl_judged.specs.declared.specification.Returned.{Returned}
use Rattle.al_decl_judged.specs.declared.specification.Returned.TheVariants.{NoValue, Value}
use Rattle.al_decl_judged.specs.declared.specification.Specification.{Specification}
use Rattle.al_query.specs.declared.answer.Completion.{Completion}
use Rattle.al_view.specs.Symbols.{same_symbol}
use Rattle.al_view.specs.declared.types.Bounds.{Bounds}
use Rattle.al_view.specs.declared.types.Subtype.{Subtype}
use Rattle.al_view.specs.declared.view.Mode.{Mode}
use Rattle.al_view.specs.declared.view.Mode.TheVariants.{In, InOut, Out}
use Rattle.al_view.specs.declared.view.Parameter.{Parameter}
use Rattle.al_view.specs.declared.view.Profile.{Profile}
use Rattle.al_view.specs.declared.view.ViewKind.{ViewKind}
use Rattle.al_view.specs.declared.view.ViewKind.TheVariants.{OfSubprogram}

-- each element of one list with its counterpart in another one
abbrev pub each_with : {X Y : Type 0} → (X → Y → Bool) → List X → List Y → Bool
each_with r [] [] = true
each_with r [] (y ∷ ys) = false
each_with r (x ∷ xs) [] = false
each_with r (x ∷ xs) (y ∷ ys) = r x y && each_with r xs ys

-- what is returned, by a test of its subtype
abbrev pub returned_with : (Option Subtype → Subtype → Bool) → Returned → Option Subtype → Bool
returned_with r NoValue None = true
returned_with r NoValue (Some s) = false
returned_with r (Value mark) None = false
returned_with r (Value mark) (Some s) = r mark s

-- ---- types

abbrev pub mark_is_of : Option Subtype → Subtype → Bool
mark_is_of None s = false
mark_is_of (Some mark) s = same_symbol mark.base s.base

abbrev pub formal_is_of : Formal → Parameter → Bool
formal_is_of f p = mark_is_of f.subtype p.subtype

abbrev pub has_types : Specification → Profile → Bool
has_types s p = each_with formal_is_of s.formals p.parameters && returned_with mark_is_of s.returned p.result

-- ---- conformance

abbrev pub same_bounds : Option Bounds → Option Bounds → Bool
same_bounds None None = true
same_bounds None (Some b) = false
same_bounds (Some a) None = false
same_bounds (Some a) (Some b) = (int_le a.low b.low && int_le b.low a.low) && (int_le a.high b.high && int_le b.high a.high)

abbrev pub same_subtype : Subtype → Subtype → Bool
same_subtype a b = same_symbol a.base b.base && same_bounds a.bounds b.bounds

abbrev pub same_mode : Mode → Mode → Bool
same_mode In In = true
same_mode InOut InOut = true
same_mode Out Out = true
same_mode _ _ = false

-- a mark that has a fault of its own isn't compared
abbrev pub mark_conforms : Option Subtype → Subtype → Bool
mark_conforms None s = true
mark_conforms (Some mark) s = same_subtype mark s

abbrev pub formal_conforms : Formal → Parameter → Bool
formal_conforms f p = bytes_eq f.name p.name && (same_mode f.mode p.mode && mark_conforms f.subtype p.subtype)

abbrev pub conforms : Specification → Profile → Bool
conforms s p = each_with formal_conforms s.formals p.parameters && returned_with mark_conforms s.returned p.result

-- ---- completions

abbrev pub is_body_of : Specification → ViewKind → Bool
is_body_of s (OfSubprogram v) = not (is_entry v.call) && has_types s v.profile
is_body_of s _ = false

abbrev pub completes : List ℕ → Specification → Completion → Bool
completes name s c = bytes_eq c.name name && is_body_of s c.view
