use Rattle.al_unit.specs.Libraries.{library_of}
use Rattle.al_session.proofs.Headers.{named}
use Rattle.al_session.proofs.text_laws.orders_of_texts_obey.Goals as goal

pub returns : goal.returns
returns c = λ files main order is. record {
  reasons = c.order_obeys.ensures (library_of files) main order (named c.texts_are_headed.ensures files) is;
  pairs = c.pairs_stay_together.ensures (library_of files) main order is;
}
