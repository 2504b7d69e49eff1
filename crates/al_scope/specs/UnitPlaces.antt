-- The place at the start of a unit's source (ARM 8.1, 8.4, 10.1), computed from answers.
use Rattle.std.specs.Prelude.{ℕ, List, [], ◌∷◌, ◌++◌, Bool, true, false, ◌&&◌, ◌||◌, Option, Some, None, map, filter, codes, if◌then◌else◌}
use Rattle.std.specs.List.{flat_map, list_any}
use Rattle.std.specs.Str.{bytes_eq}
use Rattle.al_base.specs.declared.unit_key.UnitKey.{UnitKey}
use Rattle.al_base.specs.declared.unit_key.UnitKind.TheVariants.{Body, Decl, Sub}
use Rattle.al_unit_graph.specs.Names.{ancestors, lineage}
use Rattle.al_view.specs.declared.part.Part.{Part}
use Rattle.al_view.specs.declared.part.Part.TheVariants as part
use Rattle.al_view.specs.declared.symbol.Symbol.{Symbol}
use Rattle.al_view.specs.declared.view.ViewKind.{ViewKind}
use Rattle.al_view.specs.declared.view.ViewKind.TheVariants.{OfPackage, OfSubprogram}
use Rattle.al_view.specs.Symbols.{same_kind, same_part}
use Rattle.al_query.specs.declared.query.Query.TheVariants.{Of}
use Rattle.al_query.specs.declared.query.Property.TheVariants.{Context, IsPrivate, Kind}
use Rattle.al_query.specs.declared.answer.ContextView.{ContextView}
use Rattle.al_query.specs.declared.answer.UseClause.{UseClause}
use Rattle.al_query.specs.declared.answer.UseClause.TheVariants.{Package, «Type», Operators}
use Rattle.al_query.specs.declared.answer.UseInPart.{UseInPart}
use Rattle.al_query.specs.Answers.{context_of, is_private_of, names_told, own_view_of}
use Rattle.al_query.specs.Reads.{Table}
use Rattle.al_scope.specs.declared.region.Region.{Region}
use Rattle.al_scope.specs.declared.region.UnitPart.{UnitPart}
use Rattle.al_scope.specs.Places.{entered, in_last, visible_part, with_part, with_private_types, with_use, with_use_type, with_use_view}
use Rattle.al_scope.specs.UseClauses.{package_unit}
use Rattle.al_scope.specs.declared.own.OwnText.{OwnText}

-- whether a use clause is in the part; in what comes before a stub, whether it is in the body before that stub
abbrev pub stands_in : Part → UseInPart → Bool
stands_in (part.Stub name) u = same_part u.part part.Body && list_any (bytes_eq name) u.before
stands_in p u = same_part p u.part

-- the use clauses that are in a part
abbrev pub inside : List UseInPart → Part → List UseClause
inside uses p = map (λ u. u.clause) (filter (stands_in p) uses)

-- the use clauses that hold in a region which continues the part: those of the unit's context clause, which count with
-- any part but the private one, which comes after a visible one, and those that are in it (ARM 8.4(6, 7))
abbrev pub uses_with : ContextView → Part → List UseClause
uses_with c p = (if same_part p part.Private then [] else c.uses) ++ inside c.uses_inside p

-- none if no context is answered
abbrev pub uses_if_told : Option ContextView → Part → List UseClause
uses_if_told None p = []
uses_if_told (Some c) p = uses_with c p

abbrev pub part_uses : Table → UnitPart → List UseClause
part_uses t p = uses_if_told (context_of (t (Of p.unit Context))) p.part

-- one more use clause of the innermost region
abbrev pub with_clause : UseClause → List Region → List Region
with_clause (Package unit) = with_use unit
with_clause («Type» symbol) = with_use_type symbol
with_clause (Operators symbol types) = with_use_view symbol types

-- use clauses of the innermost region, one after the other
abbrev pub with_clauses : List UseClause → List Region → List Region
with_clauses [] rs = rs
with_clauses (c ∷ cs) rs = with_clauses cs (with_clause c rs)

-- the symbol of the package or subprogram with this own view
abbrev pub view_symbol : Option ViewKind → Option Symbol
view_symbol (Some (OfPackage s)) = Some s
view_symbol (Some (OfSubprogram s)) = Some s.symbol
view_symbol _ = None

abbrev pub is_package_view : Option ViewKind → Bool
is_package_view (Some (OfPackage s)) = true
is_package_view _ = false

abbrev pub view_at : Table → UnitKey → Option ViewKind
view_at t unit = own_view_of (t (Of unit Kind))

abbrev pub symbol_at : Table → UnitKey → Option Symbol
symbol_at t unit = view_symbol (view_at t unit)

-- a region is entered, of that construct if there is one
abbrev pub entered_as : Option Symbol → List UnitPart → List Region → Region
entered_as construct parts rs = record (entered parts rs) { construct = construct }

-- the private types that the context of the part's unit names
abbrev pub told_types : Table → UnitPart → List (List ℕ)
told_types t p = names_told (t (Of p.unit Context))

-- a region is entered that continues some parts (ARM 8.1); the use clauses of other parts hold in it too, and their units say which
-- private types they declare
abbrev pub continued : Table → Option Symbol → List UnitPart → List UnitPart → List Region → List Region
continued t construct parts used rs =
    with_clauses (flat_map (part_uses t) used) (in_last (with_private_types (flat_map (told_types t) used)) (rs ++ entered_as construct parts rs ∷ []))

abbrev pub part_of : UnitKey → Part → UnitPart
part_of unit p = record { unit = unit; part = p }

-- the parts of a declaration that are seen: its visible part, and its private part or not
abbrev pub declaration_parts : UnitKey → Bool → List UnitPart
declaration_parts unit sees_private = part_of unit part.Visible ∷ (if sees_private then part_of unit part.Private ∷ [] else [])

-- whether one of the units is private (ARM 10.1.1(12))
abbrev pub some_private : Table → List UnitKey → Bool
some_private t units = list_any (λ u. is_private_of (t (Of u IsPrivate))) units

-- the regions of ancestors, the farthest first (ARM 8.1). An ancestor's private part, with its use clauses, is seen by private
-- descendants, and by what isn't the visible part of a descendant (ARM 8.2(5), 8.4(7), 10.1.1(12)).
abbrev pub inward : Table → Bool → List UnitKey → List Region → List Region
inward t sees [] rs = rs
inward t sees (a ∷ nearer) rs =
    let parts = declaration_parts a (sees || some_private t nearer) in
    inward t sees nearer (continued t (symbol_at t a) parts parts rs)

-- a unit's ancestors (ARM 10.1.1(11)), the farthest first; Standard is left out
abbrev pub ancestor_units : List ℕ → List UnitKey
ancestor_units name = map package_unit (ancestors name)

abbrev pub is_subunit : UnitKey → Bool
is_subunit unit = same_kind unit.kind Sub

abbrev pub is_body : UnitKey → Bool
is_body unit = same_kind unit.kind Body

-- the declaration of a library unit's body
abbrev pub own_declaration : UnitKey → List UnitKey
own_declaration unit = if is_body unit then package_unit unit.name ∷ [] else []

-- the parts that a unit's own region continues: a package body those of its declaration; a declaration, a library subprogram's
-- body, which repeats its profile, and a subunit continue none
abbrev pub own_parts : UnitKey → Bool → List UnitPart
own_parts unit is_package = if is_body unit && is_package then declaration_parts (package_unit unit.name) true else []

-- the parts whose use clauses hold there: of a body those of its declaration
abbrev pub own_uses : UnitKey → Bool → List UnitPart
own_uses unit is_package = if is_body unit then declaration_parts (package_unit unit.name) is_package else []

-- whether it completes a declaration in another text
abbrev pub has_declaration : OwnText → Bool
has_declaration own = same_kind own.symbol.unit.kind Decl

-- whether the place sees the ancestors' private parts, whatever these are: in a package body or a subunit, in a private unit, in the body of
-- a private one, and in a subprogram body that completes a declaration, its profile included. The profile of a body that acts as a
-- declaration is its visible part (ARM 8.2, 10.1.4(4)).
abbrev pub sees_all : OwnText → Bool
sees_all own = own.is_private || (is_subunit own.unit || (is_body own.unit && (own.is_package || has_declaration own)))

abbrev pub sees_at : Table → OwnText → Bool
sees_at t own = sees_all own || some_private t (own_declaration own.unit)

-- the name of the library unit, of a subunit that of the one in whose body its outermost stub is (ARM 10.1.3(8))
abbrev pub outermost : List ℕ → List UnitPart → List ℕ
outermost name [] = name
outermost name (stub ∷ inner) = stub.unit.name

abbrev pub library_name : OwnText → List ℕ
library_name own = outermost own.unit.name own.stubs

-- the region of a body at a stub, given its own view: what comes before the stub, and what the body's region continues
abbrev pub at_stub : Table → UnitPart → Option ViewKind → List Region → List Region
at_stub t stub view rs =
    continued t (view_symbol view)
    (own_parts stub.unit (is_package_view view) ++ stub ∷ [])
    (own_uses stub.unit (is_package_view view) ++ stub ∷ []) rs

-- the regions of the bodies round a subunit at their stubs, outermost first (ARM 8.1, 10.1.3(8))
abbrev pub at_stubs : Table → List UnitPart → List Region → List Region
at_stubs t [] rs = rs
at_stubs t (stub ∷ inner) rs = at_stubs t inner (at_stub t stub (view_at t stub.unit) rs)

-- the region of Standard, in which each other one lies (ARM 10.1.1(1), A.1)
abbrev pub standard_unit : UnitKey
standard_unit = package_unit (codes "standard")

abbrev pub standard_symbol : Symbol
standard_symbol = record { unit = standard_unit; name = codes "standard"; number = 0 }

abbrev pub standard_parts : List UnitPart
standard_parts = visible_part (codes "standard") ∷ []

-- the regions round the start of a unit's source, given those that are round all units: Standard's, the library unit's ancestors', of a
-- subunit those of the bodies round it, and the unit's own
abbrev pub unit_regions : Table → OwnText → List Region → List Region
unit_regions t own rs =
    let round = inward t (sees_at t own) (ancestor_units (library_name own)) (rs ++ entered_as (Some standard_symbol) standard_parts rs ∷ []) in
    with_clauses own.uses (continued t (Some own.symbol) (own_parts own.unit own.is_package) (own_uses own.unit own.is_package) (at_stubs t own.stubs round))

-- the units whose region a body continues at a stub
abbrev pub stub_units : UnitPart → List UnitKey
stub_units stub = own_declaration stub.unit ++ stub.unit ∷ []

-- the units that are asked: the ancestors, the bodies round a subunit, and the declarations of bodies
abbrev pub asked_units : OwnText → List UnitKey
asked_units own = (ancestor_units (library_name own) ++ flat_map stub_units own.stubs) ++ own_declaration own.unit

-- a part more of the region of that construct, if there is one
abbrev pub with_part_of : Option Symbol → UnitPart → List Region → List Region
with_part_of None p rs = rs
with_part_of (Some s) p rs = with_part s p rs

-- the private part of an ancestor is seen from here on, with its use clauses
abbrev pub opened : Table → UnitKey → List Region → List Region
opened t a rs = with_clauses (part_uses t (part_of a part.Private)) (with_part_of (symbol_at t a) (part_of a part.Private) rs)

-- where the private part of a package's declaration begins, or the declarative part of a subprogram body that acts as one: the private
-- parts of the ancestors that weren't seen before are seen, the farthest first (ARM 8.2(5))
abbrev pub outward_opened : Table → Bool → List UnitKey → List Region → List Region
outward_opened t sees [] rs = rs
outward_opened t sees (a ∷ nearer) rs = outward_opened t sees nearer (if sees || some_private t nearer then rs else opened t a rs)

abbrev pub private_regions : Table → OwnText → List Region → List Region
private_regions t own rs = outward_opened t (sees_at t own) (ancestor_units (library_name own)) rs

-- the units that with clauses name, if a context is answered
abbrev pub withs_if_told : Option ContextView → List UnitKey
withs_if_told None = []
withs_if_told (Some c) = c.withs

abbrev pub withs_of : Table → UnitKey → List UnitKey
withs_of t u = withs_if_told (context_of (t (Of u Context)))

-- the names of some units, each after those of its ancestors
abbrev pub lineages : List UnitKey → List (List ℕ)
lineages units = flat_map (λ u. lineage u.name) units

-- the names of the library units that are mentioned at the start of a unit's source, for its own with clauses, its
-- declaration's, its ancestors' and those of the bodies round a subunit (ARM 10.1.2(6, 7), 10.1.6): the library unit's, and
-- those of the units of these clauses, each after those of its ancestors. One may be there several times.
abbrev pub mentioned_names : Table → OwnText → List (List ℕ)
mentioned_names t own =
    (lineage (library_name own) ++ lineages own.withs) ++ flat_map (λ u. lineages (withs_of t u)) (asked_units own)
