-- A region that has its form already is as if it were entered anew.
use Rattle.std.specs.Prelude.{◌≡◌, Bool, Some}
use Rattle.al_check_declared.specs.ObjectRegions.{region_entered}
use Rattle.al_check_declared.specs.OpenObjects.{entered_anew, renewed_by}
use Rattle.al_decl.specs.declared.env.Environment.{Environment}
use Rattle.al_view.specs.declared.view.ProtectedView.{ProtectedView}

-- a place in the region of an object that was entered there in one of its two forms, whatever waits there and was taken since
abbrev pub standing_in : Environment → Environment → ProtectedView → Bool → Environment
standing_in h outer v form = let inner = region_entered outer v form in record h { scope = inner.scope; declared = inner.declared }

-- whichever form the region has, it becomes what it would be if it were left and entered in the other one
abbrev pub RenewedIsEnteredAnew : Type 0
RenewedIsEnteredAnew = (h outer : Environment) (v : ProtectedView) (form is_constant : Bool)
    → renewed_by (standing_in h outer v form) is_constant (Some v) ≡ entered_anew (standing_in h outer v form) v is_constant
