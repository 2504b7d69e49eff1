-- Which declaration a body completes, and whether it conforms (ARM 3.11.1, 6.3.1).
use Rattle.std.specs.Prelude.{◌≡◌, ℕ, Bool, true, List, Option, MatchOption, slice_index_or}
use Rattle.std.specs.List.{All}
use Rattle.al_base.specs.declared.place.Place.{Place}
use Rattle.al_base_fault.specs.declared.check_rule.CheckRule.TheVariants.{NotConformant}
use Rattle.al_base_fault.specs.declared.fault.Fault.{Fault}
use Rattle.al_base_fault.specs.Faults.{fault_at}
use Rattle.al_view.specs.declared.symbol.Symbol.{Symbol}
use Rattle.al_view.specs.declared.view.ObjectPlace.{ObjectPlace}
use Rattle.al_view.specs.declared.view.Profile.{Profile}
use Rattle.al_view.specs.declared.view.ViewKind.{ViewKind}
use Rattle.al_view.specs.declared.view.ViewKind.TheVariants.{OfSubprogram}
use Rattle.al_query.specs.declared.answer.Completion.{Completion}
use Rattle.al_decl_judged.specs.Completing.{Completes, IsFirst}
use Rattle.al_decl_judged.specs.Conformance.{Conforms}
use Rattle.al_decl_judged.specs.LoneBodies.{lone_body_fault}
use Rattle.al_decl_judged.specs.declared.specification.BodyHead.{BodyHead}
use Rattle.al_decl_judged.specs.declared.specification.BodyHead.TheVariants as head
use Rattle.al_decl_judged.specs.declared.specification.Specification.{Specification}
use Rattle.al_decl_judged.specs.declared.names.DefiningName.{DefiningName}
use Rattle.al_decl_judged.specs.declared.body.Completing.{Completing}
use Rattle.al_decl_judged.specs.declared.body.Completing.TheVariants.{Declared, Alone}

-- a specification conforms to a profile, or E303 is at its name
abbrev pub IsConformance : Place → Specification → Profile → Option Fault → Type 0
IsConformance place s profile fault = MatchOption fault (Conforms s profile) (λ f. (Conforms s profile → ⊥) × (f ≡ fault_at place NotConformant))

-- what is completed is a subprogram with that symbol and flag, to which the specification conforms or not
abbrev pub IsCompleted : Place → Specification → Symbol → Option ObjectPlace → Option Fault → ViewKind → Type 0
IsCompleted place s symbol flag fault (OfSubprogram v) = (v.symbol ≡ symbol) × (v.flag ≡ flag) × IsConformance place s v.profile fault
IsCompleted place s symbol flag fault _ = ⊥

-- it completes what waits at this number, which has this view
abbrev pub IsCompletedAt : Place → Specification → ℕ → ViewKind → Completing → Type 0
IsCompletedAt place s number v (Declared at symbol flag fault) = (at ≡ number) × IsCompleted place s symbol flag fault v
IsCompletedAt place s number v (Alone fault) = ⊥

-- a body is one of a subprogram
abbrev pub IsSubprogramHead : BodyHead → Type 0
IsSubprogramHead (head.Subprogram s) = Unit {0}
IsSubprogramHead _ = ⊥

-- a view is one of a subprogram
abbrev pub IsOfSubprogram : ViewKind → Type 0
IsOfSubprogram (OfSubprogram v) = Unit {0}
IsOfSubprogram _ = ⊥

-- a body completes the first declaration that waits for it, by name and types; else it is alone, if it may declare its subprogram
abbrev pub IsCompleting : List Completion → DefiningName → Specification → Bool → Bool → Completing → Type 0
IsCompleting uncompleted n s may_declare has_homograph (Declared at symbol flag fault) =
    IsFirst (Completes n.name (head.Subprogram s)) uncompleted at
    × ((d : Completion) → IsCompleted n.place s symbol flag fault (slice_index_or uncompleted at d).view)
IsCompleting uncompleted n s may_declare has_homograph (Alone fault) =
    All (λ c. Completes n.name (head.Subprogram s) c → ⊥) uncompleted
    × (fault ≡ lone_body_fault n.place has_homograph may_declare)
