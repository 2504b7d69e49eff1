use Rattle.std.proofs.Common.{◌≡◌, Bool, false, Option, None, is_some, if◌then◌else◌, IfOk, sym, ◌∙◌, subst}
use Rattle.al_base_fault.specs.declared.fault.Fault.{Fault}
use Rattle.al_query.specs.Reads.{FromAnswers}
use Rattle.al_view.specs.declared.view.ViewKind.TheVariants.{OfComponent}
use Rattle.al_decl.specs.Declaring.{duplicate}
use Rattle.al_decl.proofs.types.type_duplicate.Goals as goal

pub returns-clause-answered : goal.returns-clause-answered
returns-clause-answered g c =
    let new : is_some c.args.name.now.partial ≡ false = sym c.is_some.ensures ∙ c.if-is_some.false in
    subst
    (λ (b : Bool). IfOk c.fixed_duplicate.result (λ (fault : Option Fault). FromAnswers c.args.recorder.now.log c.fixed_duplicate.new.recorder.log (λ t. fault ≡ (if b then None else duplicate t c.args.scope.now OfComponent c.args.name.now.defining))))
    (sym new) c.fixed_duplicate.ensures.answered
