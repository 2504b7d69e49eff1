use Rattle.al_view.proofs.PlaceLemmas.{found-put}
use Rattle.al_view.proofs.interface.put_place.Goals as goal

pub returns-clause-ok : goal.returns-clause-ok
returns-clause-ok c =
    let put = c.in_ok-insert.ensures.updates in
    found-put c.args.places.now.entries c.insert.new.self.entries c.in_ok-key.key c.args.name.now c.args.place c.in_ok-key.ensures.items put.1 put.3
