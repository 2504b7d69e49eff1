-- A unit that is one subprogram (ARM 10.1.1, 10.1.3): its declaration, and the head of its body, which completes its declaration or its stub.
use Rattle.std.specs.Prelude.{ℕ, false, List, fold, Some, None, Result, Ok, Err}
use Rattle.al_stmts.specs.Walking.{first_line}
use Rattle.al_check_here.specs.Faulty.{effect_list}
use Rattle.al_check_here.specs.Standings.{with_here}
use Rattle.al_check_here.specs.declared.state.BodyRole.TheVariants as roles
use Rattle.al_check_here.specs.declared.state.CheckState.{CheckState}
use Rattle.al_decl_completes.specs.CompletingFound.{unit_completing}
use Rattle.al_decl_judged.specs.declared.declaration.Declaration.{Declaration}
use Rattle.al_decl_judged.specs.Declaring.{DeclaredTree}
use Rattle.al_decl_judged.specs.declared.progress.Progress.{Progress}
use Rattle.al_decl.specs.declared.env.Environment.{Environment}
use Rattle.al_base_fault.specs.declared.fault.Fault.{Fault}
use Rattle.al_query.specs.Reads.{Table}
use Rattle.al_query.specs.declared.answer.Completion.{Completion}
use Rattle.al_scope.specs.Places.{Place, with_mentioned}
use Rattle.al_decl_judged.specs.Bodies.{body_declared}
use Rattle.al_decl_judged.specs.Profiles.{specification_of}
use Rattle.al_decl_judged.specs.Subprograms.{subprogram_declared}
use Rattle.al_decl_judged.specs.declared.heading.Heading.{Heading}
use Rattle.al_tree_syntax.specs.DeclarationTrees.{SpecificationTree}
use Rattle.al_view_typed.specs.DeclarationTrees.{DeclarationTree}
use Rattle.al_view.specs.declared.symbol.Symbol.{Symbol}
use Rattle.al_stmts.specs.Readings.{Read}
use Rattle.al_check_declared.specs.DeclarationsHere.{faulty_here}
use Rattle.al_check_declared.specs.HeadsHere.{heading_here}

-- the name of a unit may have dots (ARM 10.1.1(8))
abbrev pub undotted : Heading → Heading
undotted head = record head { is_dotted = false }

-- ---- its declaration

abbrev pub with_taken : Environment → Progress → List Completion → Environment
with_taken env p uncompleted = record env { progress = p; uncompleted = uncompleted }

abbrev pub own_settled : CheckState → Result ((Progress × List Completion) × DeclaredTree) Fault → Read CheckState (List DeclarationTree)
own_settled h (Ok x) = (record h { env = with_taken h.env x.0.0 x.0.1; own = x.1.declarations }, Ok (effect_list x.1.effect))
own_settled h (Err f) = faulty_here h f

abbrev pub whole_of : CheckState → ℕ → Heading → Read CheckState (List DeclarationTree)
whole_of h line head = own_settled h (subprogram_declared h.env.progress h.env.uncompleted line None head)

abbrev pub whole_declared : Table → CheckState → SpecificationTree → Read CheckState (List DeclarationTree)
whole_declared t h s = whole_of h (first_line s) (undotted (heading_here t h s))

-- ---- the head of its body

-- a body that acts as its declaration is a child of its parent, as any library unit is
abbrev pub own_mentioned : List ℕ → Place → Declaration → Place
own_mentioned unit place d = record { mentioned = with_mentioned unit d.view place.mentioned; regions = place.regions }

abbrev pub with_own : List ℕ → Place → List Declaration → Place
with_own unit place declarations = fold (own_mentioned unit) place declarations

-- the place, with what the head has taken
abbrev pub with_whole : CheckState → Heading → DeclaredTree × Symbol → CheckState
with_whole h head x = record h {
  env = record h.env { scope = with_own h.unit.own.unit.name h.env.scope x.0.declarations };
  own = x.0.declarations;
  pending = Some (record { role = roles.Subprogram; heading = head; symbol = x.1 });
}

abbrev pub whole_kept : CheckState → Heading → DeclaredTree × Symbol → Read CheckState (List DeclarationTree)
whole_kept h head x = (with_whole h head x, Ok (effect_list x.0.effect))

abbrev pub whole_settled : CheckState → Heading → Result ((Progress × List Completion) × (DeclaredTree × Symbol)) Fault → Read CheckState (List DeclarationTree)
whole_settled h head (Ok x) = whole_kept (with_here h (with_taken h.env x.0.0 x.0.1)) head x.1
whole_settled h head (Err f) = faulty_here h f

abbrev pub whole_head_of : CheckState → ℕ → Heading → Read CheckState (List DeclarationTree)
whole_head_of h line head =
    whole_settled h head (body_declared h.env.progress h.env.uncompleted line None head (unit_completing h.env.uncompleted head.name (specification_of head)))

abbrev pub whole_head : Table → CheckState → SpecificationTree → Read CheckState (List DeclarationTree)
whole_head t h s = whole_head_of h (first_line s) (undotted (heading_here t h s))
