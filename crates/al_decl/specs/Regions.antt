-- Blocks and bodies of subprograms at a place, and what is round them (ARM 5.6, 6.3, 8.1).
use Rattle.std.specs.Prelude.{List, [], ◌∷◌, ◌++◌}
use Rattle.al_decl.specs.Declaring.{with_declarations}
use Rattle.al_decl.specs.Inner.{in_region}
use Rattle.al_decl.specs.declared.env.Environment.{Environment}
use Rattle.al_scope.specs.Places.{Place, entered_construct}
use Rattle.al_scope.specs.declared.region.Region.{Region}
use Rattle.al_decl_judged.specs.Frames.{entered, formal_declarations, with_formals}
use Rattle.al_decl_judged.specs.declared.frame.NewFormal.{NewFormal}
use Rattle.al_view.specs.declared.symbol.Symbol.{Symbol}
use Rattle.al_decl.specs.declared.block.Outside.{Outside}

-- what waits and what is declared at a place
abbrev pub outside_of : Environment → Outside
outside_of h = record { uncompleted = h.uncompleted; declared = h.declared }

-- nothing waits and nothing is declared
abbrev pub set_aside : Environment → Environment
set_aside h = record h { uncompleted = []; declared = [] }

abbrev pub taken_back : Environment → Outside → Environment
taken_back h o = record h { uncompleted = o.uncompleted; declared = o.declared }

-- a place in these regions alone
abbrev pub in_regions : Place → List Region → Place
in_regions place regions = record { mentioned = place.mentioned; regions = regions }

-- ---- blocks: a region that continues nothing

abbrev pub block_entered : Environment → Environment
block_entered h = set_aside (record h { scope = in_region h.scope })

abbrev pub block_left : Environment → List Region → Outside → Environment
block_left h outer o = taken_back (record h { scope = in_regions h.scope outer }) o

-- ---- bodies: the region of their subprogram, one deeper, with a frame of their own

abbrev pub subprogram_entered : Environment → Symbol → Environment
subprogram_entered h symbol = set_aside (record h {
  scope = in_regions h.scope (h.scope.regions ++ entered_construct symbol [] h.scope.regions ∷ []);
  progress = entered h.progress;
})

-- the formals take the first words of the frame, and are visible
abbrev pub with_formals_declared : Environment → List NewFormal → Environment
with_formals_declared h formals = with_declarations (record h { progress = with_formals h.progress formals }) (formal_declarations h.progress formals)
