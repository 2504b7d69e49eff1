use Rattle.std.proofs.Common.{◌≡◌, drop}
use Rattle.std.specs.List.{list_all}
use Rattle.al_view.specs.ViewUses.{link}
use Rattle.al_check_promises.proofs.defines.places_pass.Given as goal

abbrev pub invariant-loop-place : goal.invariant-loop-place
invariant-loop-place g l =
    list_all (λ x. g.T.LinkTest.passing l.test (link l.kind x.symbol)) (drop l.place-index l.places)
    ≡ list_all (λ x. g.T.LinkTest.passing l.test (link l.kind x.symbol)) l.places
