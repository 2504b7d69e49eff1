use Rattle.std.proofs.Common.{◌≡◌, ◌∙◌, sym, ap, refl, Some, None, List, []}
use Rattle.std.specs.List.Sorted.{IsStrictlySortedBy}
use Rattle.std.specs.Map.{lookup}
use Rattle.std.specs.List.{list_any}
use Rattle.al_base.specs.contracts.unit_key.UnitKeyOrd.TheImpl.{cmp-value}
use Rattle.al_view.specs.Symbols.{same_unit}
use Rattle.al_query_store.proofs.UnitLemmas.{IsByName, found}
use Rattle.al_query_store.specs.declared.place.Place.{Place}
use Rattle.al_query_store.specs.Reads.{place_cmp, reads, same_place}
use Rattle.al_query_store.proofs.ReadLemmas.{ByUnit, reads_any, reads_nothing}
use Rattle.al_query_store.proofs.readers.Readers.of_unit.Goals as goal

by_name : IsByName cmp-value.it
by_name n m = (refl, refl, refl, refl, refl, refl, refl, refl, refl)

pub returns-in_default-clause-found : goal.returns-in_default-clause-found
returns-in_default-clause-found c q p same h =
    let us = c.self.inside.units.entries in
    let u = c.args.unit.now in
    let none : lookup (same_unit u) us ≡ None = sym (found cmp-value.it by_name u us) ∙ sym c.in_default.ensures.value in
    absurd (reads_nothing us u q p none same (ap (λ (l : ByUnit). reads l q p) c.self.view_is ∙ h))

pub returns-clause-found : goal.returns-clause-found
returns-clause-found c q p same h =
    let us = c.self.inside.units.entries in
    let u = c.args.unit.now in
    let there : lookup (same_unit u) us ≡ Some c.in-Some.questions.now = sym (found cmp-value.it by_name u us) ∙ sym c.in-Some.ensures.value in
    ap (λ (l : List Place). list_any (same_place p) l) c.in_ok-list.ensures.items
    ∙ c.in_ok-gather.ensures p (reads_any us u c.in-Some.questions.now q p there same (ap (λ (l : ByUnit). reads l q p) c.self.view_is ∙ h))

no_places : IsStrictlySortedBy place_cmp []
unfolding IsStrictlySortedBy
no_places = tt

pub returns-in_default-clause-apart : goal.returns-in_default-clause-apart
returns-in_default-clause-apart c = rw c.new.ensures.items no_places
