-- Parts of a unit, its stubs and its use clauses (ARM 7.1, 8.4, 10.1.3).
use Rattle.std.specs.Prelude.{ℕ, List, [], ◌∷◌, ◌++◌, None, codes, fold, length, if◌then◌else◌}
use Rattle.al_query_outcome.specs.declared.interface.StubDeclarations.{StubDeclarations}
use Rattle.al_query.specs.declared.answer.UseClause.{UseClause}
use Rattle.al_decl_judged.specs.Subprograms.{subprogram_view}
use Rattle.al_decl_judged.specs.declared.heading.Heading.{Heading}
use Rattle.al_view.specs.Interfaces.{with_view}
use Rattle.al_view.specs.Named.{Declarations}
use Rattle.al_view.specs.declared.part.Part.TheVariants as part
use Rattle.al_view.specs.declared.symbol.Symbol.{Symbol}
use Rattle.al_view.specs.declared.view.ViewKind.{ViewKind}
use Rattle.al_check_here.specs.Standings.{is_immediate, with_progress}
use Rattle.al_check_here.specs.declared.state.CheckState.{CheckState}
use Rattle.al_check_here.specs.declared.state.UseHere.{UseHere}

-- the private part of a package's declaration begins: what was declared before is its visible part
abbrev pub private_begun : CheckState → CheckState
private_begun h = record h { env = record h.env { declared = [] }; part = part.Private; visible = h.env.declared }

-- the statements of a package's body are in the frame of the unit's elaboration
abbrev pub in_statements : CheckState → CheckState
in_statements h = with_progress h (record h.env.progress { depth = 1 })

-- ---- what is declared before a stub, name by name

abbrev pub with_views : Declarations → List ℕ × List ViewKind → Declarations
with_views answered named = fold (λ (d : Declarations) (v : ViewKind). with_view d named.0 v) answered named.1

abbrev pub told_again : Declarations → Declarations
told_again declared = fold with_views [] declared

-- the stub's own subprogram; its body doesn't depend on whether that is elaborated
abbrev pub stub_view : CheckState → Heading → Symbol → ViewKind
stub_view h head symbol = subprogram_view symbol h.env.progress.depth None head

-- the stub's own subprogram is shown under the reserved word `separate`, which is no identifier: there a subunit finds what it completes
abbrev pub before_stub : CheckState → Heading → Symbol → Declarations
before_stub h head symbol = with_view (told_again h.env.declared) (codes "separate") (stub_view h head symbol)

abbrev pub stub_here : CheckState → Heading → Symbol → StubDeclarations
stub_here h head symbol = record { stub = head.name.name; symbol = symbol; before = before_stub h head symbol }

abbrev pub with_stub : CheckState → Heading → Symbol → CheckState
with_stub h head symbol = record h { stubs = h.stubs ++ stub_here h head symbol ∷ [] }

-- ---- use clauses that are immediately in a part

abbrev pub use_here : CheckState → UseClause → UseHere
use_here h clause = record { part = h.part; clause = clause; stubs = length h.stubs }

abbrev pub with_use : CheckState → UseClause → CheckState
with_use h clause = record h { uses = h.uses ++ use_here h clause ∷ [] }

abbrev pub with_uses : CheckState → List UseClause → CheckState
with_uses h clauses = if is_immediate h then fold with_use h clauses else h
