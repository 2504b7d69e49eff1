use Rattle.std.proofs.Common.{◌≡◌, Option, IfOk, sym, subst}
use Rattle.al_base_fault.specs.declared.fault.Fault.{Fault}
use Rattle.al_query.specs.Reads.{FromAnswers}
use Rattle.al_view.specs.declared.symbol.Symbol.{Symbol}
use Rattle.al_view.specs.declared.view.ViewKind.{ViewKind}
use Rattle.al_decl.specs.Declaring.{duplicates}
use Rattle.al_decl.specs.TypeNames.{literal_duplicates}
use Rattle.al_decl.proofs.types.literal_duplicates.Goals as goal

pub returns-in_ok-view-in-Some-clause-answered : goal.returns-in_ok-view-in-Some-clause-answered
returns-in_ok-view-in-Some-clause-answered g c =
    subst
    (λ (p : Option Symbol). IfOk c.duplicates.result (λ (fault : Option Fault). FromAnswers c.args.recorder.now.log c.duplicates.new.recorder.log (λ t. fault ≡ literal_duplicates t c.args.scope.now p c.args.literals.now)))
    (sym c.in-Some.is)
    (subst
    (λ (v : ViewKind). IfOk c.duplicates.result (λ (fault : Option Fault). FromAnswers c.args.recorder.now.log c.duplicates.new.recorder.log (λ t. fault ≡ duplicates t c.args.scope.now v c.args.literals.now)))
    c.in_ok-view-in-Some.ensures c.duplicates.ensures.answered)

pub returns-in-None-clause-answered : goal.returns-in-None-clause-answered
returns-in-None-clause-answered g c =
    subst
    (λ (p : Option Symbol). IfOk c.overloaded_duplicates.result (λ (fault : Option Fault). FromAnswers c.args.recorder.now.log c.overloaded_duplicates.new.recorder.log (λ t. fault ≡ literal_duplicates t c.args.scope.now p c.args.literals.now)))
    (sym c.in-None.is) c.overloaded_duplicates.ensures.answered
