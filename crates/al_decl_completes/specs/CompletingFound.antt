-- Which declaration a body completes (ARM 3.11.1, 6.3.1, 10.1.4).
use Rattle.std.specs.Prelude.{ℕ, suc, zero, Bool, true, List, [], ◌∷◌, Option, Some, None, if◌then◌else◌}
use Rattle.al_base.specs.declared.place.Place.{Place}
use Rattle.al_base_fault.specs.declared.check_rule.CheckRule.TheVariants.{NotConformant}
use Rattle.al_decl_judged.specs.LoneBodies.{lone_body_fault}
use Rattle.al_decl_judged.specs.declared.specification.Specification.{Specification}
use Rattle.al_decl_judged.specs.declared.names.DefiningName.{DefiningName}
use Rattle.al_base_fault.specs.Faults.{fault_at}
use Rattle.al_base_fault.specs.declared.fault.Fault.{Fault}
use Rattle.al_query.specs.declared.answer.Completion.{Completion}
use Rattle.al_decl_judged.specs.declared.body.Completing.{Completing}
use Rattle.al_decl_judged.specs.declared.body.Completing.TheVariants.{Declared, Alone}
use Rattle.al_view.specs.declared.view.Profile.{Profile}
use Rattle.al_view.specs.declared.view.ViewKind.{ViewKind}
use Rattle.al_view.specs.declared.view.ViewKind.TheVariants.{OfSubprogram}
use Rattle.al_decl_completes.specs.Matching.{completes, conforms}

-- E303 at the name of what doesn't conform
abbrev pub conformance : Place → Specification → Profile → Option Fault
conformance place s profile = if conforms s profile then None else Some (fault_at place NotConformant)

-- what waits at this number with this view is completed; what is no subprogram isn't
abbrev pub view_completed : ℕ → Place → Specification → ViewKind → Completing
view_completed number place s (OfSubprogram v) = Declared number v.symbol v.flag (conformance place s v.profile)
view_completed number place s _ = Alone (Some (fault_at place NotConformant))

-- the first that waits under that name with these types, if this many come before the list; else the body is alone, if it
-- may declare its subprogram
abbrev pub first_completed : ℕ → DefiningName → Specification → Bool → Bool → List Completion → Completing
first_completed number n s may_declare has_homograph [] = Alone (lone_body_fault n.place has_homograph may_declare)
first_completed number n s may_declare has_homograph (c ∷ cs) =
    if completes n.name s c then view_completed number n.place s c.view else first_completed (suc number) n s may_declare has_homograph cs

abbrev pub completing_found : List Completion → DefiningName → Specification → Bool → Bool → Completing
completing_found uncompleted n s may_declare has_homograph = first_completed zero n s may_declare has_homograph uncompleted

-- the body of a unit completes what waits there, whatever its types are; if nothing does, it acts as its declaration
abbrev pub unit_completing : List Completion → DefiningName → Specification → Completing
unit_completing [] n s = Alone None
unit_completing (c ∷ cs) n s = view_completed zero n.place s c.view
