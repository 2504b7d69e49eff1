-- Who defines what a unit uses.
use Rattle.std.specs.Prelude.{◌≡◌, ◌≢◌, ◌⊎◌, ◌==◌, ℕ, Bool, true, not, List, ◌++◌, ⊤, Option, Some, None, unwrap_or}
use Rattle.std.specs.List.{Contains, flat_map, list_all}
use Rattle.al_base.specs.Batch.{key_of}
use Rattle.al_base.specs.declared.unit_key.UnitKey.{UnitKey}
use Rattle.al_base.specs.declared.unit_key.UnitKind.TheVariants.{Decl, Body}
use Rattle.al_view.specs.Interfaces.{views_of}
use Rattle.al_view.specs.Named.{Declarations}
use Rattle.al_view.specs.ViewUses.{link, view_uses}
use Rattle.al_view.specs.declared.link.LinkKind.TheVariants.{Code}
use Rattle.al_view.specs.declared.link.LinkSymbol.{LinkSymbol}
use Rattle.al_view.specs.declared.part.Part.TheVariants.{Stub}
use Rattle.al_query.specs.Answers.{declaration, own_view_of}
use Rattle.al_query.specs.Known.{body, has_unit, predefined_units}
use Rattle.al_query.specs.Queries.{unit_of}
use Rattle.al_query.specs.declared.answer.AnswerKind.{AnswerKind}
use Rattle.al_query.specs.declared.query.Property.TheVariants.{Kind}
use Rattle.al_query.specs.declared.query.Query.{Query}
use Rattle.al_query.specs.declared.query.Query.TheVariants.{Of}
use Rattle.al_view_typed.specs.UnitTrees.{UnitTree}
use Rattle.al_view_typed.specs.Uses.{unit_defines, unit_uses}
use Rattle.al_unit_graph.specs.Headers.{Header, Library}
use Rattle.al_unit_graph.specs.Library.{declaration_of}
use Rattle.al_unit_graph.specs.Needed.{Needed}
use Rattle.al_query_outcome.specs.Equations.{Setting, unit_named}
use Rattle.al_query_outcome.specs.Left.{first_view, left_by, left_to, one_view, own_code, separate, views_links}
use Rattle.al_query_outcome.specs.ReadsLaw.{UsesOnly, answer_uses, declarations_of, log_uses, property_answers}
use Rattle.al_query_outcome.specs.Results.{Outcome, Faulty, Sound}
use Rattle.al_query_outcome.specs.Tables.{part_of}
use Rattle.al_query_outcome.specs.declared.interface.StubDeclarations.{StubDeclarations}
use Rattle.al_query_outcome.specs.declared.interface.UnitInterface.{UnitInterface}

abbrev pub declared_uses : Declarations → List LinkSymbol
declared_uses names = flat_map (λ e. flat_map view_uses e.1) names

-- what the linker must find for who names what a unit answers
unfoldable pub interface_uses : UnitInterface → List LinkSymbol
interface_uses i = flat_map answer_uses (property_answers i) ++ flat_map declared_uses (declarations_of i)

-- it is the code of the body that one of the unit's stubs stands for
abbrev pub IsStubs : UnitInterface → LinkSymbol → Type 0
IsStubs i x = (stub : StubDeclarations) × Contains i.parts.stubs stub × (x ≡ link Code stub.symbol)

-- the unit defines it, or leaves it to its body or to a subunit
abbrev pub IsAccounted : UnitInterface → UnitTree → LinkSymbol → Type 0
IsAccounted i tree x = Contains (unit_defines tree) x ⊎ Contains (left_by i.properties.completions) x ⊎ IsStubs i x

-- what is the unit's own is defined by it, but for what its body must complete and what its stubs stand for
abbrev pub DefinesOwn : UnitKey → Outcome → Type 0
DefinesOwn u (Faulty faults) = ⊤
DefinesOwn u (Sound i tree) =
    (x : LinkSymbol) → x.symbol.unit ≡ u → Contains (unit_uses tree ++ interface_uses i) x → IsAccounted i tree x

-- what its answers show is its own, or was shown to it: a body's own view is that of its declaration
abbrev pub ShowsOnly : UnitKey → List (Query × AnswerKind) → Outcome → Type 0
ShowsOnly u log (Faulty faults) = ⊤
ShowsOnly u log (Sound i tree) = (x : LinkSymbol) → Contains (interface_uses i) x → (x.symbol.unit ≡ u) ⊎ Contains (log_uses log) x

-- what a sound unit uses, defines and shows
pub record KeepsSymbols (u : UnitKey) (log : List (Query × AnswerKind)) (i : UnitInterface) (tree : UnitTree) : Type 0 where
  pub uses : UsesOnly u log (Sound i tree)
  pub defines : DefinesOwn u (Sound i tree)
  pub shows : ShowsOnly u log (Sound i tree)

-- no byte of the name is a dot
abbrev pub is_simple : List ℕ → Bool
is_simple name = list_all (λ b. not (b == 46)) name

-- a stub of the unit, which is a body or a subunit: its name is one that the unit's source has, an identifier (ARM 10.1.3(2)), and
-- what comes before it has the subprogram that it stands for
pub record IsToldStub (u : UnitKey) (h : Header) (i : UnitInterface) (stub : StubDeclarations) : Type 0 where
  pub inside : u.kind ≢ Decl
  pub named : Contains h.stubs stub.stub
  pub simple : is_simple stub.stub ≡ true
  pub answered : Contains (views_links (one_view (first_view (views_of (part_of i.parts (Stub stub.stub)) separate)))) (link Code stub.symbol)

-- the source of the unit is that of its declaration: it is one, or a body if there is none (ARM 10.1.4(4))
abbrev pub DeclaresItself : UnitKey → (Query → AnswerKind) → Type 0
DeclaresItself u t = (u.kind ≡ Decl) ⊎ ((u.kind ≡ Body) × (own_view_of (t (Of (declaration u.name) Kind)) ≡ None))

-- what a sound unit with this header completes, and what it leaves to others, by the answers of a table
pub record KeepsParts (u : UnitKey) (h : Header) (t : Query → AnswerKind) (i : UnitInterface) (tree : UnitTree) : Type 0 where
  -- only a declaration that needs a body leaves code to it
  pub left : (x : LinkSymbol) → Contains (left_by i.properties.completions) x → (u.kind ≡ Decl) × (h.needs_body ≡ true)
  -- a body defines what its declaration leaves to it, or has a stub of it; a subunit defines what its stub stands for
  pub completes : (x : LinkSymbol) → Contains (left_to u t) x → Contains (unit_defines tree) x ⊎ ((u.kind ≡ Body) × IsStubs i x)
  pub stubs : (stub : StubDeclarations) → Contains i.parts.stubs stub → IsToldStub u h i stub
  -- a procedure that can be the main one has its code, or leaves it to its body
  pub main : h.is_parameterless_procedure ≡ true → DeclaresItself u t → IsAccounted i tree (own_code u)

-- a sound outcome does so
abbrev pub DefinesParts : UnitKey → Header → (Query → AnswerKind) → Outcome → Type 0
DefinesParts u h t (Faulty faults) = ⊤
DefinesParts u h t (Sound i tree) = KeepsParts u h t i tree

-- a unit has this interface and tree
abbrev pub Has : (UnitKey → Option Outcome) → UnitKey → UnitInterface → UnitTree → Type 0
Has f u i tree = f u ≡ Some (Sound i tree)

-- a needed unit defines it
abbrev pub IsDefined : Setting → List ℕ → (UnitKey → Option Outcome) → LinkSymbol → Type 0
IsDefined s main f x = (w : UnitKey) × (i : UnitInterface) × (tree : UnitTree) × Needed s.files main (key_of w) × Has f w i tree × Contains (unit_defines tree) x

-- the main subprogram's code: that of its declaration, or of the body that acts as one
abbrev pub main_symbol : Library → List ℕ → LinkSymbol
main_symbol lib main = own_code (unit_named (unwrap_or (declaration_of lib main) (main, Body)))

-- all that the code of a needed unit uses, a needed unit defines
abbrev pub AllDefined : Setting → List ℕ → (UnitKey → Option Outcome) → Type 0
AllDefined s main f =
    (u : UnitKey) (i : UnitInterface) (tree : UnitTree) → Needed s.files main (key_of u) → Has f u i tree → (x : LinkSymbol) → Contains (unit_uses tree) x → IsDefined s main f x

-- all that a needed unit accounts for is defined, too
abbrev pub AllAccountedDefined : Setting → List ℕ → (UnitKey → Option Outcome) → Type 0
AllAccountedDefined s main f =
    (u : UnitKey) (i : UnitInterface) (tree : UnitTree) → Needed s.files main (key_of u) → Has f u i tree → (x : LinkSymbol) → IsAccounted i tree x → IsDefined s main f x

-- the linker's condition
pub record IsClosed (s : Setting) (main : List ℕ) (f : UnitKey → Option Outcome) : Type 0 where
  pub main_defined : IsDefined s main f (main_symbol s.files main)
  pub all_defined : AllDefined s main f

-- the needed bodies and subunits are there and complete what they must
pub record Completes (s : Setting) (main : List ℕ) (f : UnitKey → Option Outcome) : Type 0 where
  -- the body of a needed unit defines the code that the unit leaves to it, or has a stub of it
  pub bodies : (v : UnitKey) (i : UnitInterface) (tree : UnitTree) (x : LinkSymbol) → Needed s.files main (key_of v) → Has f v i tree → Contains (left_by i.properties.completions) x
      → (j : UnitInterface) × (other : UnitTree) × Needed s.files main (key_of (body v.name)) × Has f (body v.name) j other × (Contains (unit_defines other) x ⊎ IsStubs j x)
  -- a subunit defines what a stub stands for
  pub subunits : (v : UnitKey) (i : UnitInterface) (tree : UnitTree) (x : LinkSymbol) → Needed s.files main (key_of v) → Has f v i tree → IsStubs i x → IsDefined s main f x
  -- the predefined units show nothing that the linker must find
  pub predefined : (q : Query) (x : LinkSymbol) → has_unit predefined_units (unit_of q) ≡ true → Contains (answer_uses (s.predefined q)) x → ⊥
