-- How the check of a unit begins: its header, the place at its start, what waits for completion there, and whether its name is taken (ARM 10.1,
-- 10.2), by a table of answers.
use Rattle.std.specs.List.{flat_map}
use Rattle.std.specs.Prelude.{ℕ, Bool, true, false, ◌&&◌, ◌||◌, List, [], ◌∷◌, map, not, Option, Some, None, Result, Ok, Err, if◌then◌else◌}
use Rattle.std.specs.Option.{is_none, option_map, unwrap_or}
use Rattle.al_base_fault.specs.declared.check_rule.CheckRule.TheVariants.{Duplicate}
use Rattle.al_base.specs.declared.unit_key.UnitKey.{UnitKey}
use Rattle.al_base.specs.declared.unit_key.UnitKind.{UnitKind}
use Rattle.al_base.specs.declared.unit_key.UnitKind.TheVariants.{Decl, Body, Sub}
use Rattle.al_scope_context.specs.Contexts.{all_mentioned, context_at, mentioned, packaged}
use Rattle.al_scope_context.specs.declared.context.Context.{Context}
use Rattle.al_decl_judged.specs.declared.progress.Progress.{Progress}
use Rattle.al_decl_judged.specs.Homonyms.{Counts, with_name}
use Rattle.al_scope_context.specs.ContextPragmas.{full_name}
use Rattle.al_unit_header.specs.Units.{header_of, is_private, item_name, last_identifier, place_of}
use Rattle.al_scope.specs.Seen.{completions_seen_at}
use Rattle.al_scope.specs.declared.seen_hiding.PrivateName.{PrivateName}
use Rattle.al_base_fault.specs.Faults.{fault_at}
use Rattle.al_base_fault.specs.Judging.{next, unless}
use Rattle.al_base_fault.specs.declared.fault.Fault.{Fault}
use Rattle.al_overload_lookup.specs.Keys as keys
use Rattle.al_query.specs.Answers.{completions_of, declaration, names_told, own_view_of, views_of}
use Rattle.al_query.specs.Reads.{Table}
use Rattle.al_query.specs.declared.answer.Completion.{Completion}
use Rattle.al_query.specs.declared.query.Property.TheVariants.{Completions, Context as context_property, Kind}
use Rattle.al_query.specs.declared.query.Query.TheVariants.{Named, Of}
use Rattle.al_scope.specs.Places.{Place}
use Rattle.al_scope.specs.declared.region.UnitPart.{UnitPart}
use Rattle.al_tree_syntax.specs.UnitTrees.{CompilationUnitTree, LibraryItemTree}
use Rattle.al_tree_syntax.specs.UnitTrees.LibraryItemTree.{LibrarySubprogram, LibraryPackage, LibraryBody, LibraryPackageBody, Subunit}
use Rattle.al_unit_graph.specs.Names as names
use Rattle.al_scope.specs.UnitPlaces.{ancestor_units, mentioned_names, standard_unit, unit_regions, view_symbol}
use Rattle.al_scope.specs.declared.own.OwnText.{OwnText}
use Rattle.al_view.specs.declared.part.Part.TheVariants as part
use Rattle.al_view.specs.declared.symbol.Symbol.{Symbol}
use Rattle.al_view.specs.declared.view.CallKind.{CallKind}
use Rattle.al_view.specs.declared.view.CallKind.TheVariants as calls
use Rattle.al_view.specs.declared.view.ViewKind.{ViewKind}
use Rattle.al_view.specs.declared.view.ViewKind.TheVariants.{OfPackage, OfSubprogram}
use Rattle.al_query_outcome.specs.Left.{body_named, last_of, stub_view}
use Rattle.al_unit_graph.specs.Headers.{Header}
use Rattle.al_check_start.specs.Around.{is_own, is_surrounded, not_surrounded}
use Rattle.al_check_start.specs.Subunits.{stubs_round}
use Rattle.al_check_start.specs.declared.completed.Completed.{Completed}
use Rattle.al_check_start.specs.declared.unit.UnitStart.{UnitStart}

-- ---- what a unit completes

abbrev pub plain_symbol : UnitKey → Symbol
plain_symbol unit = record { unit = unit; name = last_of unit.name; number = 0 }

-- the own view of the declaration of a library body
abbrev pub declared_view : Table → UnitKey → Option ViewKind
declared_view t unit = own_view_of (t (Of (declaration unit.name) Kind))

-- the declaration of a library unit's parent, by the name in the unit itself
abbrev pub above : LibraryItemTree → Option UnitKey
above item = option_map declaration (names.parent_of (full_name (item_name item)))

-- for a library unit, with what it completes
abbrev pub of_library : LibraryItemTree → Option ViewKind → Completed
of_library item view = record { view = view; parent = above item; stubs = [] }

-- for a subunit with this parent body
abbrev pub of_subunit : Table → UnitKey → List ℕ → Completed
of_subunit t unit parent = record { view = stub_view t unit.name parent; parent = Some (body_named t parent); stubs = stubs_round t unit.name parent }

-- by the declaration of a library body, or the stub of a subunit
abbrev pub completed_at : Table → UnitKey → LibraryItemTree → Completed
completed_at t unit (LibrarySubprogram p s) = of_library (LibrarySubprogram p s) None
completed_at t unit (LibraryPackage p l k) = of_library (LibraryPackage p l k) None
completed_at t unit (LibraryBody s b) = of_library (LibraryBody s b) (declared_view t unit)
completed_at t unit (LibraryPackageBody l k) = of_library (LibraryPackageBody l k) (declared_view t unit)
completed_at t unit (Subunit l o n s b) = of_subunit t unit (full_name n)

-- ---- its header: what its source says of its place

abbrev pub is_package_item : LibraryItemTree → Bool
is_package_item (LibrarySubprogram p s) = false
is_package_item (LibraryPackage p l k) = true
is_package_item (LibraryBody s b) = false
is_package_item (LibraryPackageBody l k) = true
is_package_item (Subunit l o n s b) = false

abbrev pub symbol_of : UnitKey → Option ViewKind → Symbol
symbol_of unit view = unwrap_or (view_symbol view) (plain_symbol unit)

abbrev pub own_text : UnitKey → LibraryItemTree → Context → Option ViewKind → List UnitPart → OwnText
own_text unit item context view stubs = record {
  unit = unit;
  symbol = symbol_of unit view;
  is_package = is_package_item item;
  is_private = is_private item;
  stubs = stubs;
  withs = context.withs;
  uses = context.uses;
}

-- ---- its place

-- a library package is visible inside itself
abbrev pub own_view : UnitKey → LibraryItemTree → Option ViewKind
own_view unit (LibraryPackage p l k) = Some (OfPackage (plain_symbol unit))
own_view unit (LibrarySubprogram p s) = None
own_view unit (LibraryBody s b) = None
own_view unit (LibraryPackageBody l k) = None
own_view unit (Subunit l o n s b) = None

-- the regions that enclose its start, and the units that are mentioned there, with the packages among them
abbrev pub place_at : Table → OwnText → Option ViewKind → Place × List UnitKey
place_at t own view =
    let entered : Place = record { mentioned = []; regions = unit_regions t own [] } in
    all_mentioned t own.unit (mentioned view own.unit.name entered) (packaged view own.unit.name []) (mentioned_names t own)

-- ---- what waits for completion there

abbrev pub completion : UnitKey → Option ViewKind → List Completion
completion unit None = []
completion unit (Some v) = record { name = last_of unit.name; view = v } ∷ []

-- for a package body, what its declaration leaves to it; for another body, what it completes itself; with views as its place sees them
abbrev pub waiting : Table → UnitKey → LibraryItemTree → Option ViewKind → List Completion
waiting t unit (LibraryPackageBody l k) view = completions_of (t (Of (declaration unit.name) Completions))
waiting t unit (LibraryBody s b) view = completion unit view
waiting t unit (Subunit l o n s b) view = completion unit view
waiting t unit (LibrarySubprogram p s) view = []
waiting t unit (LibraryPackage p l k) view = []

-- the number of bodies that enclose a stub
abbrev pub call_depth : CallKind → ℕ
call_depth (calls.Subprogram depth) = depth
call_depth _ = 0

abbrev pub depth_of : LibraryItemTree → Option ViewKind → ℕ
depth_of (Subunit l o n s b) (Some (OfSubprogram s')) = call_depth s'.call
depth_of _ _ = 0

-- A library package is a declaration of its name: the first in the unit, so a subprogram with that name in it is another one, and hides it as a
-- prefix (ARM 8.3(15)).
abbrev pub homonyms_at : UnitKey → LibraryItemTree → Counts
homonyms_at unit (LibraryPackage p l k) = with_name [] (last_of unit.name)
homonyms_at unit (LibrarySubprogram p s) = []
homonyms_at unit (LibraryBody s b) = []
homonyms_at unit (LibraryPackageBody l k) = []
homonyms_at unit (Subunit l o n s b) = []

abbrev pub progress_at : UnitKey → LibraryItemTree → ℕ → Progress
progress_at unit item depth =
    record { unit = unit; depth = depth; words = record { frame = 3; «data» = 0 }; homonyms = homonyms_at unit item; objects = []; flags = []; protected_objects = [] }

-- ---- the private types that its visible part hides

abbrev pub named_in : UnitKey → List ℕ → PrivateName
named_in unit name = record { unit = unit; name = name }

-- the private types that a unit's visible part declares
abbrev pub private_names_of : Table → UnitKey → List PrivateName
private_names_of t unit = map (named_in unit) (names_told (t (Of unit context_property)))

-- for a declaration, the private types of its ancestors: its visible part may see their full views, and doesn't show them (ARM 7.3(5), 10.1.1(12))
abbrev pub hidden_of : Table → UnitKind → List ℕ → List PrivateName
hidden_of t Decl name = flat_map (private_names_of t) (ancestor_units name)
hidden_of t Body name = []
hidden_of t Sub name = []

abbrev pub hidden_at : Table → OwnText → List PrivateName
hidden_at t own = hidden_of t own.unit.kind own.unit.name

-- ---- its name

-- a declaration, or a body that acts as one (ARM 10.1.4(4))
abbrev pub declares : LibraryItemTree → Option ViewKind → Bool
declares (LibrarySubprogram p s) view = true
declares (LibraryPackage p l k) view = true
declares (LibraryBody s b) view = is_none view
declares (LibraryPackageBody l k) view = false
declares (Subunit l o n s b) view = false

abbrev pub has_views : List ViewKind → Bool
has_views vs = not (keys.is_none vs)

-- whether the parent's visible or private part declares the name; the parent of a root unit is Standard (ARM 8.3(26), 10.1.1)
abbrev pub taken_in : Table → List ℕ → Option (List ℕ) → Bool
taken_in t name None = has_views (views_of (t (Named standard_unit part.Visible name)))
taken_in t name (Some p) =
    has_views (views_of (t (Named (declaration p) part.Visible name))) || has_views (views_of (t (Named (declaration p) part.Private name)))

-- E301 at the name of a unit
abbrev pub name_fault : Table → UnitKey → LibraryItemTree → Option ViewKind → Option Fault
name_fault t unit item view =
    if declares item view && taken_in t (last_identifier (item_name item)).text (names.parent_of unit.name) then Some (fault_at (place_of (item_name item)) Duplicate) else None

-- ---- all of it

abbrev pub start_with : Table → UnitKey → LibraryItemTree → Context → Completed → UnitStart
start_with t unit item context completed =
    let own = own_text unit item context completed.view completed.stubs in
    let place = place_at t own (own_view unit item) in
    record { own = own; scope = place.0; packages = place.1; progress = progress_at unit item (depth_of item completed.view); uncompleted = completions_seen_at t place.0 (waiting t unit item completed.view); parent = completed.parent; view = completed.view; hidden = hidden_at t own }

abbrev pub start_after : Table → UnitKey → Header → CompilationUnitTree → Context → Result UnitStart Fault
start_after t unit h u context =
    let completed = completed_at t unit u.item in
    let start = start_with t unit u.item context completed in
    if is_surrounded t unit h start.own start.packages then unless (name_fault t unit u.item completed.view) (Ok start) else Err (not_surrounded u)

abbrev pub headed_at : Table → UnitKey → Header → CompilationUnitTree → Result UnitStart Fault
headed_at t unit h u = if is_own unit h then next (context_at t u.context) (start_after t unit h u) else Err (not_surrounded u)

unfoldable pub unit_at : Table → UnitKey → CompilationUnitTree → Result UnitStart Fault
unit_at t unit u = headed_at t unit (header_of u) u
