use Rattle.al_stmts.specs.Steps.{Part, inside_of, nothing}
use Rattle.al_stmts_text.proofs.Read.{if_ok, made_of}
use Rattle.al_check_start.proofs.walk.check_unit.Goals as goal

pub returns-in_ok-part-in-Subprogram-clause-answered : goal.returns-in_ok-part-in-Subprogram-clause-answered
returns-in_ok-part-in-Subprogram-clause-answered g c =
    rw c.in-Subprogram.is
    (if_ok c.without_statements.result _ _
    (λ done is t h. let part = c.in_ok-part-in-Subprogram.ensures.answered t h in (part.0, made_of (λ (p : Part). inside_of p nothing) _ _ _ _ part.1 is))
    c.without_statements.ensures)

pub returns-in-Package-clause-answered : goal.returns-in-Package-clause-answered
returns-in-Package-clause-answered g c = rw c.in-Package.is c.check_package.ensures.answered

pub returns-in_ok-part-in-Body-clause-answered : goal.returns-in_ok-part-in-Body-clause-answered
returns-in_ok-part-in-Body-clause-answered g c =
    rw c.in-Body.is
    (if_ok c.without_statements-in-Body.result _ _
    (λ done is t h. let part = c.in_ok-part-in-Body.ensures.answered t h in (part.0, made_of (λ (p : Part). inside_of p nothing) _ _ _ _ part.1 is))
    c.without_statements-in-Body.ensures)

pub returns-in-PackageBody-clause-answered : goal.returns-in-PackageBody-clause-answered
returns-in-PackageBody-clause-answered g c = rw c.in-PackageBody.is c.check_package_body.ensures.answered

pub returns-in_ok-part-in-Subunit-clause-answered : goal.returns-in_ok-part-in-Subunit-clause-answered
returns-in_ok-part-in-Subunit-clause-answered g c =
    rw c.in-Subunit.is
    (if_ok c.without_statements-in-Subunit.result _ _
    (λ done is t h. let part = c.in_ok-part-in-Subunit.ensures.answered t h in (part.0, made_of (λ (p : Part). inside_of p nothing) _ _ _ _ part.1 is))
    c.without_statements-in-Subunit.ensures)
