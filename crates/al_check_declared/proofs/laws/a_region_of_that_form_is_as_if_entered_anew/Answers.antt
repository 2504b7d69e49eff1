use Rattle.al_check_declared.proofs.Forms.{renewed-anew}
use Rattle.al_check_declared.proofs.laws.a_region_of_that_form_is_as_if_entered_anew.Goals as goal

pub returns : goal.returns
returns c = λ h outer v form is_constant. renewed-anew h outer v form is_constant
