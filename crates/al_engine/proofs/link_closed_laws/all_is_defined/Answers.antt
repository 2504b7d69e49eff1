use Rattle.al_engine.proofs.MainDefined.{main_defined}
use Rattle.al_engine.proofs.link_closed_laws.all_is_defined.Goals as goal

pub returns : goal.returns
returns c = λ meaning s is keeps main f solves symbols sound parts shows complete.
    let whole = c.completes.ensures meaning s is main f solves sound parts shows complete in
    record {
      main_defined = main_defined meaning s is main f solves sound parts complete (c.all_defined.ensures.accounted meaning s is keeps main f solves symbols whole);
      all_defined = c.all_defined.ensures.used meaning s is keeps main f solves symbols whole;
    }
