-- Heads of bodies and stubs at the place that the check of a unit has reached (ARM 6.3, 10.1.3), by a table of answers.
use Rattle.std.specs.Prelude.{ℕ, true, List, Option, Some, None, Result, Ok, Err, is_some}
use Rattle.al_stmts.specs.Walking.{first_line}
use Rattle.al_check_here.specs.Ends.{stub_names}
use Rattle.al_check_here.specs.Faulty.{effect_list}
use Rattle.al_check_here.specs.PartsHere.{with_stub}
use Rattle.al_check_here.specs.Standings.{is_immediate, with_here}
use Rattle.al_check_here.specs.declared.state.BodyRole.{BodyRole}
use Rattle.al_check_here.specs.declared.state.BodyRole.TheVariants as roles
use Rattle.al_check_here.specs.declared.state.CheckState.{CheckState}
use Rattle.al_decl_completes.specs.CompletingFound.{completing_found}
use Rattle.al_decl_judged.specs.LoneBodies.{stub_fault}
use Rattle.al_decl.specs.Placing.{body_placed, head_duplicate}
use Rattle.al_decl.specs.declared.env.Environment.{Environment}
use Rattle.al_decl.specs.Heads.{heading_read}
use Rattle.al_base_fault.specs.declared.fault.Fault.{Fault}
use Rattle.al_query.specs.Reads.{Table}
use Rattle.al_decl_judged.specs.Profiles.{specification_of}
use Rattle.al_decl_judged.specs.declared.heading.Heading.{Heading}
use Rattle.al_tree_syntax.specs.DeclarationTrees.{SpecificationTree}
use Rattle.al_view_typed.specs.DeclarationTrees.{DeclarationTree}
use Rattle.al_view.specs.declared.symbol.Symbol.{Symbol}
use Rattle.al_stmts.specs.Readings.{Read}
use Rattle.al_check_declared.specs.DeclarationsHere.{faulty_here, parts_here}

-- what precedes the `is` of a body, or is a subprogram's declaration
abbrev pub heading_here : Table → CheckState → SpecificationTree → Heading
heading_here t h s = heading_read (parts_here t h) h.env.scope s

-- a body or stub with this head: it completes the first declaration that waits with its name and its types
abbrev pub body_at : Table → Environment → ℕ → Option Fault → Heading → Result (Environment × (Option DeclarationTree × Symbol)) Fault
body_at t env line stub head =
    body_placed env line stub head (completing_found env.uncompleted head.name (specification_of head) true (is_some (head_duplicate t env head)))

-- ---- stubs

abbrev pub stub_wrong : CheckState → Heading → Option Fault
stub_wrong h head = stub_fault head.name.place (is_immediate h) (stub_names h.stubs) head.name.name

-- a stub that is right is added
abbrev pub stub_kept : CheckState → Heading → Option DeclarationTree × Symbol → Read CheckState (List DeclarationTree)
stub_kept h head x = (with_stub h head x.1, Ok (effect_list x.0))

abbrev pub stub_settled : CheckState → Heading → Result (Environment × (Option DeclarationTree × Symbol)) Fault → Read CheckState (List DeclarationTree)
stub_settled h head (Ok x) = stub_kept (with_here h x.0) head x.1
stub_settled h head (Err f) = faulty_here h f

abbrev pub stub_of : Table → CheckState → ℕ → Heading → Read CheckState (List DeclarationTree)
stub_of t h line head = stub_settled h head (body_at t h.env line (stub_wrong h head) head)

abbrev pub stub_here : Table → CheckState → SpecificationTree → Read CheckState (List DeclarationTree)
stub_here t h s = stub_of t h (first_line s) (heading_here t h s)

-- ---- heads of bodies inside a unit

abbrev pub with_head : CheckState → Environment → BodyRole → Heading → Symbol → CheckState
with_head h env role head symbol = record h { env = env; pending = Some (record { role = role; heading = head; symbol = symbol }) }

abbrev pub head_settled : CheckState → Heading → Result (Environment × (Option DeclarationTree × Symbol)) Fault → Read CheckState (List DeclarationTree)
head_settled h head (Ok x) = (with_head h x.0 roles.Subprogram head x.1.1, Ok (effect_list x.1.0))
head_settled h head (Err f) = faulty_here h f

abbrev pub head_of : Table → CheckState → ℕ → Heading → Read CheckState (List DeclarationTree)
head_of t h line head = head_settled h head (body_at t h.env line None head)

abbrev pub nested_head : Table → CheckState → SpecificationTree → Read CheckState (List DeclarationTree)
nested_head t h s = head_of t h (first_line s) (heading_here t h s)
