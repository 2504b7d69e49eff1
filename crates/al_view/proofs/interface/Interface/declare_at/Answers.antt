use Rattle.std.proofs.Common.{◌<◌, ◌∙◌, length, sym, ap, subst, arith}
use Rattle.al_view.specs.Named.{Declarations, named_of}
use Rattle.al_view.specs.Interfaces.{with_view}
use Rattle.al_view.specs.Places.{ArePlaces, place_of}
use Rattle.al_view.proofs.PlaceLemmas.{as-many, named-set, places-kept, within}
use Rattle.al_view.proofs.interface.Interface.declare_at.Goals as goal

pub index_mut-requires : goal.index_mut-requires
index_mut-requires c =
    let less : c.args.place < length (named_of c.self.inside.names.items) = within (named_of c.self.inside.names.items) c.args.name.now c.args.place (ap (λ (d : Declarations). place_of c.args.name.now d) c.self.view_is ∙ c.requires) in
    let many = as-many c.self.inside.names.items in
    omega (arith, less, many)

pub invariant_of-self-2 : goal.invariant_of-self-2
invariant_of-self-2 c =
    let items = c.self.inside.names.items in
    let place = ap (λ (d : Declarations). place_of c.args.name.now d) c.self.view_is ∙ c.requires in
    let set = named-set items c.args.name.now c.args.place c.args.view c.index_mut.result.now c.push.new.self place c.index_mut.ensures.value c.in_ok-push.ensures in
    subst (λ (d : Declarations). ArePlaces c.self.inside.places.entries d) (sym set) (places-kept c.self.inside.places.entries (named_of items) c.args.name.now c.args.place c.args.view c.self.invariant place)

pub returns-clause-ok : goal.returns-clause-ok
returns-clause-ok c =
    let items = c.self.inside.names.items in
    let place = ap (λ (d : Declarations). place_of c.args.name.now d) c.self.view_is ∙ c.requires in
    named-set items c.args.name.now c.args.place c.args.view c.index_mut.result.now c.push.new.self place c.index_mut.ensures.value c.in_ok-push.ensures
    ∙ ap (λ (d : Declarations). with_view d c.args.name.now c.args.view) c.self.view_is
