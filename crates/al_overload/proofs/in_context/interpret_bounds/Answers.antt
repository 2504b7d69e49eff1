use Rattle.std.proofs.Common.{◌≡◌, IfOk, None, subst}
use Rattle.al_base.specs.declared.place.Place.{Place}
use Rattle.al_base_fault.specs.Judging.{map_ok}
use Rattle.al_overload.specs.Meanings.{resolved}
use Rattle.al_overload.specs.Counts.{label_of, plain}
use Rattle.al_overload.specs.Labelling.{Tree}
use Rattle.al_overload.specs.declared.types.Expected.{Expected}
use Rattle.al_overload.specs.HeadsHeads.{bounds_head}
use Rattle.al_overload.specs.Interpreting.{numbers_in}
use Rattle.al_overload.specs.TermViews.{term_model}
use Rattle.al_overload.specs.Places.{first_place}
use Rattle.al_overload.proofs.in_context.interpret_bounds.Goals as goal

pub returns : goal.returns
returns c =
    let p = c.args.predefined.now in
    let low = term_model c.args.low.now in
    let high = term_model c.args.high.now in
    let head = bounds_head p (numbers_in p c.args.context.now) low high in
    let expected = c.in_ok-expected.expected in
    let at_place = subst (λ (at : Place). IfOk c.resolve.result (λ checked. map_ok label_of checked ≡ resolved at None (plain c.in_ok-head.head) expected)) c.first_place.ensures c.resolve.ensures in
    let with_head = subst (λ (h : Tree). IfOk c.resolve.result (λ checked. map_ok label_of checked ≡ resolved (first_place low) None h expected)) c.in_ok-head.ensures at_place in
    subst (λ (e : Expected). IfOk c.resolve.result (λ checked. map_ok label_of checked ≡ resolved (first_place low) None head e)) c.in_ok-expected.ensures with_head
