-- What a context clause says (ARM 10.1.2, 10.1.6): it is read in a place of its own, with one region that continues nothing, in which the root units
-- that it mentions so far are declared.
use Rattle.std.specs.Prelude.{◌≡◌, ℕ, Bool, true, false, ◌&&◌, List, [], ◌∷◌, ◌++◌, fold, Option, Some, None, Result, Ok, Err, if◌then◌else◌}
use Rattle.std.specs.Option.{is_none as has_none}
use Rattle.al_base.specs.declared.unit_key.UnitKey.{UnitKey}
use Rattle.al_base.specs.declared.unit_key.UnitKind.{UnitKind}
use Rattle.al_base.specs.declared.unit_key.UnitKind.TheVariants.{Body, Decl}
use Rattle.al_base_fault.specs.Judging.{next, map_ok, unless}
use Rattle.al_base_fault.specs.declared.fault.Fault.{Fault}
use Rattle.al_overload_lookup.specs.Keys.{is_none}
use Rattle.al_query.specs.Answers.{declaration, own_view_of}
use Rattle.al_query.specs.Known.{has_unit}
use Rattle.al_query.specs.Reads.{Table}
use Rattle.al_query.specs.declared.answer.AnswerKind.{AnswerKind}
use Rattle.al_query.specs.declared.answer.AnswerKind.TheVariants as answers
use Rattle.al_query.specs.declared.answer.UseClause.{UseClause}
use Rattle.al_query.specs.declared.query.Property.TheVariants.{Kind}
use Rattle.al_query.specs.declared.query.Query.TheVariants.{Of}
use Rattle.al_scope.specs.Places.{Place, entered, in_last, with_declared, with_mentioned}
use Rattle.al_scope.specs.Visible.{innermost}
use Rattle.al_tree_syntax.specs.DeclarationTrees.{CompoundNameTree}
use Rattle.al_tree_syntax.specs.UnitTrees.{ContextTree}
use Rattle.al_tree_syntax.specs.UnitTrees.ContextTree.{WithClause, ContextUse, ContextPragma}
use Rattle.al_unit_graph.specs.Names.{lineage, parent_of}
use Rattle.al_scope.specs.UnitPlaces.{is_package_view}
use Rattle.al_scope_context.specs.ContextPragmas.{context_pragma_fault, full_name}
use Rattle.al_scope_context.specs.UsesAt.{all_names, uses_at}
use Rattle.al_scope_context.specs.declared.context.Context.{Context}
use Rattle.al_view.specs.Symbols.{same_unit}
use Rattle.al_view.specs.declared.view.ViewKind.{ViewKind}

-- ---- library units that are mentioned

-- the answer of a unit that isn't there
abbrev pub is_nothing : AnswerKind → Bool
is_nothing answers.Nothing = true
is_nothing _ = false

-- which half of a library unit says what the unit is: its declaration, or if there is none the body that acts as one (ARM 10.1.4(4))
abbrev pub telling_half : Table → List ℕ → UnitKind
telling_half t name = if is_nothing (t (Of (declaration name) Kind)) then Body else Decl

abbrev pub library_view : Table → List ℕ → Option ViewKind
library_view t name = own_view_of (t (Of (record { name = name; kind = telling_half t name }) Kind))

-- a place where a library unit is mentioned, if there is one
abbrev pub mentioned : Option ViewKind → List ℕ → Place → Place
mentioned None name place = place
mentioned (Some v) name place = record place { mentioned = with_mentioned name v place.mentioned }

-- with the unit, if it is a package, each once
abbrev pub packaged : Option ViewKind → List ℕ → List UnitKey → List UnitKey
packaged view name packages =
    if is_package_view view then (if has_unit packages (declaration name) then packages else packages ++ declaration name ∷ []) else packages

-- a place and the packages that are mentioned there, with one unit more; a declaration isn't asked what it is itself
abbrev pub with_mention : Table → UnitKey → Place × List UnitKey → List ℕ → Place × List UnitKey
with_mention t own m name =
    if same_unit own (declaration name) then m else (mentioned (library_view t name) name m.0, packaged (library_view t name) name m.1)

-- these are the place and the packages after it
abbrev pub Mentioned : Table → UnitKey → List ℕ → Place → List UnitKey → Place → List UnitKey → Type 0
Mentioned t own name place packages after found = (after, found) ≡ with_mention t own (place, packages) name

-- with the units of these names
abbrev pub all_mentioned : Table → UnitKey → Place → List UnitKey → List (List ℕ) → Place × List UnitKey
all_mentioned t own place packages names = fold (with_mention t own) (place, packages) names

-- ---- context clauses

abbrev pub declared_if : Bool → Option ViewKind → List ℕ → Place → Place
declared_if new None name place = place
declared_if new (Some v) name place = if new then record place { regions = in_last (with_declared name v) place.regions } else place

-- a root unit that isn't there yet (ARM 10.1.1(1))
abbrev pub is_new_root : List ℕ → List ViewKind → Bool
is_new_root name vs = has_none (parent_of name) && is_none vs

-- a root unit is declared in the region of the clause, once
abbrev pub rooted : Table → Option ViewKind → List ℕ → Place → Place
rooted t view name place = declared_if (is_new_root name (innermost t place.mentioned name place.regions)) view name place

abbrev pub with_unit : Table → Option ViewKind → List ℕ → Context → Context
with_unit t view name c = record c { scope = rooted t view name (mentioned view name c.scope); packages = packaged view name c.packages }

abbrev pub unit_mentioned : Table → Context → List ℕ → Context
unit_mentioned t c name = with_unit t (library_view t name) name c

abbrev pub with_named : Context → List ℕ → Context
with_named c name = record c { withs = c.withs ++ declaration name ∷ [] }

-- with a unit that a with clause names: its ancestors are mentioned too (ARM 10.1.2(6))
abbrev pub withed : Table → Context → CompoundNameTree → Context
withed t c n = with_named (fold (unit_mentioned t) c (lineage (full_name n))) (full_name n)

-- what a use clause opens is opened in the unit, and not after the clause in the context clause (ARM 8.4(6))
abbrev pub with_uses : Context → List UseClause → Context
with_uses c cs = record c { uses = c.uses ++ cs }

abbrev pub more_uses : List UseClause → Result (List UseClause) Fault → List UseClause
more_uses uses (Ok cs) = uses ++ cs
more_uses uses (Err f) = uses

-- with one item more
unfoldable pub with_item : Table → Context → ContextTree → Result Context Fault
with_item t c (WithClause n) = Ok (fold (withed t) c (all_names n))
with_item t c (ContextUse u) = map_ok (with_uses c) (uses_at t c.scope c.packages u)
with_item t c (ContextPragma p) = unless (context_pragma_fault c.withs p) (Ok c)

-- with these items; a faulty one ends it
abbrev pub with_items : Table → Context → List ContextTree → Result Context Fault
with_items t c [] = Ok c
with_items t c (i ∷ is) = next (with_item t c i) (λ d. with_items t d is)

-- where it begins
abbrev pub context_start : Context
context_start = record { scope = record { mentioned = []; regions = entered [] [] ∷ [] }; packages = []; withs = []; uses = [] }

abbrev pub context_at : Table → List ContextTree → Result Context Fault
context_at t items = with_items t context_start items
