use Rattle.std.proofs.Common.{◌∙◌, ℕ, List, Bor, sym, ap}
use Rattle.std.specs.Option.{option_map}
use Rattle.al_view.specs.declared.view.ViewKind.{ViewKind}
use Rattle.al_view.proofs.PlaceLemmas.{nothing-there, views-none, views-there}
use Rattle.al_view.proofs.interface.Interface.views.Goals as goal

pub returns-in_default : goal.returns-in_default
returns-in_default c = sym (views-none c.args.self.now c.args.name.now (sym c.place.ensures ∙ c.in_default.is))

pub returns-in-Some-at : goal.returns-in-Some-at
returns-in-Some-at c =
    let place = sym c.place.ensures ∙ c.in-Some.is in
    let stands = sym c.at.ensures ∙ ap (option_map (λ (named : Bor (List ℕ) × Bor (List ViewKind)). (named.0.now, named.1.now))) c.in-Some-at.is in
    sym (views-there c.args.self.now c.args.name.now c.in-Some.place (c.in-Some-at.field-0-0.now, c.in-Some-at.views.now) place stands)

pub returns-in-None : goal.returns-in-None
returns-in-None c =
    let place = sym c.place.ensures ∙ c.in-Some.is in
    let nothing = sym c.at.ensures ∙ ap (option_map (λ (named : Bor (List ℕ) × Bor (List ViewKind)). (named.0.now, named.1.now))) c.in-None.is in
    absurd (nothing-there c.args.self.now c.args.name.now c.in-Some.place place nothing)
