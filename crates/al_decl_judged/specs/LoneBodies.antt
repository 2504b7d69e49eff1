-- What a body or a stub may be at its place.
use Rattle.std.specs.Prelude.{ℕ, Bool, true, false, not, ◌&&◌, List, Option, Some, None, if◌then◌else◌}
use Rattle.std.specs.List.{list_any}
use Rattle.std.specs.Str.{bytes_eq}
use Rattle.al_base.specs.declared.place.Place.{Place}
use Rattle.al_base_fault.specs.declared.check_rule.CheckRule.TheVariants.{Duplicate, NotAllowedHere, NotConformant}
use Rattle.al_base_fault.specs.Faults.{fault_at}
use Rattle.al_base_fault.specs.declared.fault.Fault.{Fault}
use Rattle.al_view.specs.declared.view.Mode.{Mode}
use Rattle.al_view.specs.declared.view.Mode.TheVariants.{In}

-- a body that completes no declaration, at its defining name: if the region has a homograph, as a second body of one
-- declaration has, it is a duplicate (ARM 8.3(26)); else it is right if it declares what it is a body of, as that of a
-- subprogram does outside of protected bodies (ARM 6.3(4))
abbrev pub lone_body_fault : Place → Bool → Bool → Option Fault
lone_body_fault place has_homograph may_declare =
    if has_homograph then Some (fault_at place Duplicate)
    else (if may_declare then None else Some (fault_at place NotConformant))

-- a stub, at its defining name: it is immediately in the body of a library unit or of a subunit (ARM 10.1.3(13)), and is
-- the only one of its name there (ARM 10.1.3(16))
abbrev pub stub_fault : Place → Bool → List (List ℕ) → List ℕ → Option Fault
stub_fault place may_stand stubs name =
    if not may_stand then Some (fault_at place NotAllowedHere)
    else (if list_any (λ n. bytes_eq n name) stubs then Some (fault_at place Duplicate) else None)

-- a dotted name, which only a library unit or subunit declares (ARM 6.1(4), 10.1.1(8))
abbrev pub dotted_name_fault : Place → Bool → Bool → Option Fault
dotted_name_fault place is_dotted is_unit = if is_dotted && not is_unit then Some (fault_at place NotAllowedHere) else None

abbrev pub is_in : Mode → Bool
is_in In = true
is_in _ = false

-- a formal of a function has mode `in`: no others are compiled
abbrev pub mode_fault : Place → Bool → Mode → Option Fault
mode_fault place of_function mode = if of_function && not (is_in mode) then Some (fault_at place NotAllowedHere) else None
