use Rattle.std.specs.Char.{to_ascii_lowercase}
use Rattle.std.proofs.lemmas.List.{length-map}
use Rattle.al_base.specs.ReservedPlaces.{place_of}
use Rattle.al_base.proofs.reserved.place_of.Goals as goal

pub returns-clause-exact : goal.returns-clause-exact
unfolding place_of
returns-clause-exact c =
    let same = length-map c.args.word.now to_ascii_lowercase in
    let first = c.lowercase_at-first.ensures.exact in
    let middle = c.lowercase_at-middle.ensures.exact in
    let last = c.lowercase_at-last.ensures.exact in
    cc
