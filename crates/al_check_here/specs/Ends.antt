-- What the walk over a unit leaves at its end.
use Rattle.std.specs.Prelude.{ℕ, List, [], map, drop}
use Rattle.al_query_outcome.specs.declared.interface.Parts.{Parts}
use Rattle.al_query_outcome.specs.declared.interface.StubDeclarations.{StubDeclarations}
use Rattle.al_query.specs.declared.answer.UseInPart.{UseInPart}
use Rattle.al_view.specs.Named.{Declarations}
use Rattle.al_view.specs.declared.part.Part.{Part}
use Rattle.al_view.specs.declared.part.Part.TheVariants as part
use Rattle.al_decl_judged.specs.declared.declaration.Declaration.{Declaration}
use Rattle.al_scope.specs.Hidden.{hidden, hidden_in}
use Rattle.al_scope.specs.declared.seen_hiding.PrivateName.{PrivateName}
use Rattle.al_check_here.specs.declared.ends.Ends.{Ends}
use Rattle.al_check_here.specs.declared.state.CheckState.{CheckState}
use Rattle.al_check_here.specs.declared.state.UseHere.{UseHere}

abbrev pub stub_names : List StubDeclarations → List (List ℕ)
stub_names stubs = map (λ s. s.stub) stubs

-- the stubs that come after a use clause
abbrev pub use_inside : List StubDeclarations → UseHere → UseInPart
use_inside stubs u = record { part = u.part; clause = u.clause; before = stub_names (drop u.stubs stubs) }

abbrev pub uses_inside : List StubDeclarations → List UseHere → List UseInPart
uses_inside stubs uses = map (use_inside stubs) uses

-- what is declared in the part in which the unit ends, if the visible part before it declares this
abbrev pub parts_ended : Part → Declarations → Declarations → List StubDeclarations → Parts
parts_ended part.Visible visible declared stubs = record { visible = declared; private_part = []; body = []; stubs = stubs }
parts_ended part.Private visible declared stubs = record { visible = visible; private_part = declared; body = []; stubs = stubs }
parts_ended _ visible declared stubs = record { visible = []; private_part = []; body = declared; stubs = stubs }

-- the visible part shows only the partial views of private types of ancestors (ARM 7.3(5))
abbrev pub hidden_by : Part → CheckState → CheckState
hidden_by part.Visible h = record h { env = record h.env { declared = hidden_in h.unit.hidden h.env.declared } }
hidden_by part.Private h = record h { visible = hidden_in h.unit.hidden h.visible }
hidden_by _ h = h

abbrev pub hidden_declaration : List PrivateName → Declaration → Declaration
hidden_declaration names d = record { name = d.name; view = hidden names d.view }

-- the unit's own view shows only these too
abbrev pub hidden_own : CheckState → CheckState
hidden_own h = record h { own = map (hidden_declaration h.unit.hidden) h.own }

abbrev pub ends_of : CheckState → Ends
ends_of h = record {
  progress = h.env.progress;
  completions = h.env.uncompleted;
  parts = parts_ended h.part h.visible h.env.declared h.stubs;
  uses = uses_inside h.stubs h.uses;
  own = h.own;
  unit = h.unit;
}

-- what the walk leaves, as others are shown it
abbrev pub ends_told : CheckState → Ends
ends_told h = ends_of (hidden_own (hidden_by h.part h))
