use Rattle.std.proofs.Common.{◌≡◌, take, fold}
use Rattle.al_link.specs.Linking.{with_address}
use Rattle.al_link.proofs.places.Places.add_all.Given as goal

abbrev pub invariant-loop-define : goal.invariant-loop-define
invariant-loop-define l = l.self ≡ fold (with_address l.bases) l.initial.self (take l.define-index l.define-items)
