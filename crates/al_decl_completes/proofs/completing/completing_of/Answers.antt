use Rattle.al_decl_judged.specs.Profiles.{specification_of}
use Rattle.al_decl_completes.proofs.Found.{completing-is, if_ok}
use Rattle.al_decl_completes.proofs.completing.completing_of.Goals as goal

pub returns-clause-found : goal.returns-clause-found
returns-clause-found c =
    let head = c.args.heading.now in
    if_ok c.completing_of.result _ _ (λ found is. completing-is c.args.uncompleted.now head.name (specification_of head) c.args.may_declare c.args.has_homograph found is) c.completing_of.ensures.completing
