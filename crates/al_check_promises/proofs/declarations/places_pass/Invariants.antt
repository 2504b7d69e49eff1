use Rattle.std.proofs.Common.{◌≡◌, drop}
use Rattle.std.specs.List.{list_all}
use Rattle.al_view.specs.ViewUses.{place_uses}
use Rattle.al_view.specs.declared.link.LinkKind.TheVariants.{Data}
use Rattle.al_check_promises.proofs.declarations.places_pass.Given as goal

abbrev pub invariant-loop-place : goal.invariant-loop-place
invariant-loop-place g l =
    list_all (λ x. list_all (g.T.LinkTest.passing l.test) (place_uses Data x)) (drop l.place-index l.places)
    ≡ list_all (λ x. list_all (g.T.LinkTest.passing l.test) (place_uses Data x)) l.places
