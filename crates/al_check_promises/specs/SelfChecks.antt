-- The tests of the result of a check.
use Rattle.std.specs.Prelude.{◌+◌, Bool, ◌&&◌, ◌||◌, not, List, [], ◌∷◌, ◌++◌, map, nat_le, nat_lt, if◌then◌else◌}
use Rattle.std.specs.List.{flat_map, list_all, list_any}
use Rattle.std.specs.Option.{is_none}
use Rattle.std.specs.Str.{bytes_eq}
use Rattle.al_base.specs.Batch.{key_of}
use Rattle.al_base.specs.FileNames.{file_name_of}
use Rattle.al_base.specs.declared.diagnostic.Diagnostic.{Diagnostic}
use Rattle.al_base.specs.declared.unit_key.UnitKey.{UnitKey}
use Rattle.al_base.specs.declared.unit_key.UnitKind.TheVariants.{Decl, Body}
use Rattle.al_view.specs.Interfaces.{views_of}
use Rattle.al_view.specs.Symbols.{same_kind, same_unit}
use Rattle.al_view.specs.ViewUses.{link, view_uses}
use Rattle.al_view.specs.declared.link.LinkKind.TheVariants.{Code}
use Rattle.al_view.specs.declared.link.LinkSymbol.{LinkSymbol}
use Rattle.al_view.specs.declared.part.Part.TheVariants.{Stub}
use Rattle.al_view.specs.declared.view.ViewKind.{ViewKind}
use Rattle.al_unit_graph.specs.Headers.{Header}
use Rattle.al_query.specs.Answers.{declaration, own_view_of}
use Rattle.al_query.specs.Reads.{Table}
use Rattle.al_query.specs.declared.query.Property.TheVariants.{Kind}
use Rattle.al_query.specs.declared.query.Query.TheVariants.{Of}
use Rattle.al_view_typed.specs.UnitTrees.{UnitTree}
use Rattle.al_view_typed.specs.Uses.{unit_defines, unit_uses}
use Rattle.al_query_outcome.specs.Defines.{interface_uses, is_simple}
use Rattle.al_query_outcome.specs.Left.{completed_views, first_view, is_of_body, one_view, own_code, separate}
use Rattle.al_query_outcome.specs.Results.{Outcome, Faulty, Sound}
use Rattle.al_query_outcome.specs.Tables.{part_of}
use Rattle.al_query_outcome.specs.declared.interface.StubDeclarations.{StubDeclarations}
use Rattle.al_query_outcome.specs.declared.interface.UnitInterface.{UnitInterface}
use Rattle.al_check_promises.specs.Links.{is_among}

-- ---- what a unit uses and shows

-- the code that stubs stand for
abbrev pub stub_codes : UnitInterface → List LinkSymbol
stub_codes i = map (λ s. link Code s.symbol) i.parts.stubs

-- what the unit defines, and the code of its stubs
abbrev pub defined : UnitInterface → UnitTree → List LinkSymbol
defined i tree = unit_defines tree ++ stub_codes i

-- what the completions show, which its body must complete
abbrev pub left_shown : UnitInterface → List LinkSymbol
left_shown i = flat_map view_uses (completed_views i.properties.completions)

-- what the unit accounts for: also what it leaves to its body, if that is of a body
abbrev pub accounted : UnitInterface → UnitTree → List LinkSymbol
accounted i tree = defined i tree ++ left_shown i

-- a link that isn't of a body is one of these
abbrev pub is_declared : List LinkSymbol → LinkSymbol → Bool
is_declared links x = is_of_body x.kind || is_among links x

-- a link of the unit's own is one of the first, another one was shown
abbrev pub is_allowed : UnitKey → List LinkSymbol → List LinkSymbol → LinkSymbol → Bool
is_allowed unit shown own x = if same_unit x.symbol.unit unit then is_among own x else is_among shown x

-- its objects and flags begin within the unit's words, and the components of its protected objects are within them
abbrev pub is_well_formed : UnitTree → Bool
is_well_formed tree =
    list_all (λ p. nat_le p.word tree.words) tree.objects
    && (list_all (λ p. nat_lt p.word tree.words) tree.flags && list_all (λ p. nat_le (p.word + p.words) tree.words) tree.protected_objects)

-- whether the result is what the check of a unit promises, if it was shown these views
unfoldable pub is_kept : UnitKey → List ViewKind → UnitInterface → UnitTree → Bool
is_kept unit shown i tree =
    list_all (is_allowed unit (flat_map view_uses shown) (accounted i tree)) (unit_uses tree ++ interface_uses i)
    && (list_all (is_declared (defined i tree)) (left_shown i) && (same_unit tree.unit unit && is_well_formed tree))

-- ---- what a unit completes, and what it leaves to others

-- for a body, what its stubs stand for counts as completed too
abbrev pub completing : UnitKey → UnitInterface → UnitTree → List LinkSymbol
completing unit i tree = if same_kind unit.kind Body then defined i tree else unit_defines tree

-- a link that is of a body is one of these
abbrev pub is_completed : List LinkSymbol → LinkSymbol → Bool
is_completed links x = not (is_of_body x.kind) || is_among links x

-- only a declaration that needs a body leaves something to it
abbrev pub leaves_rightly : UnitKey → Header → UnitInterface → Bool
leaves_rightly unit h i = (same_kind unit.kind Decl && h.needs_body) || list_all (λ x. not (is_of_body x.kind)) (left_shown i)

-- the name of the stub is one of the header's, and its subprogram is shown to its subunit
abbrev pub is_told_stub : UnitKey → Header → UnitInterface → StubDeclarations → Bool
is_told_stub unit h i s =
    not (same_kind unit.kind Decl)
    && (list_any (bytes_eq s.stub) h.stubs
    && (is_simple s.stub && is_among (flat_map view_uses (one_view (first_view (views_of (part_of i.parts (Stub s.stub)) separate)))) (link Code s.symbol)))

-- a procedure that can be the main one has its code, or leaves it to its body
abbrev pub has_main : UnitKey → Header → Bool → UnitInterface → UnitTree → Bool
has_main unit h declares i tree = not (h.is_parameterless_procedure && declares) || is_among (accounted i tree) (own_code unit)

-- whether the unit with this header completes these views, and leaves to others only what it may; `declares` says whether the unit is a declaration,
-- or a body that acts as one
unfoldable pub is_complete : UnitKey → Header → List ViewKind → Bool → UnitInterface → UnitTree → Bool
is_complete unit h views declares i tree =
    leaves_rightly unit h i
    && (list_all (is_completed (completing unit i tree)) (flat_map view_uses views) && (list_all (is_told_stub unit h i) i.parts.stubs && has_main unit h declares i tree))

-- the unit is a declaration, or a body without one
abbrev pub declares_itself : UnitKey → Table → Bool
declares_itself unit t = same_kind unit.kind Decl || (same_kind unit.kind Body && is_none (own_view_of (t (Of (declaration unit.name) Kind))))

-- ---- results

-- E700 at the first place of the unit's file: it isn't checked yet
abbrev pub not_checked : UnitKey → List Diagnostic
not_checked unit = record { file = file_name_of (key_of unit); place = record { line = 1; col = 1 }; code = 700 } ∷ []

-- the result, if it is what the check promises; else E700
unfoldable pub self_checked : UnitKey → List ViewKind → Bool → UnitInterface → UnitTree → Outcome
self_checked unit shown complete i tree = if is_kept unit shown i tree && complete then Sound i tree else Faulty (not_checked unit)
