use Rattle.std.proofs.Common.{◌≡◌, Result, sym, ap, ◌∙◌}
use Rattle.al_overload.specs.Counts.{label_of}
use Rattle.al_base_fault.specs.Judging.{map_ok}
use Rattle.al_base_fault.specs.declared.fault.Fault.{Fault}
use Rattle.al_overload.specs.TermViews.{term_model}
use Rattle.al_view_typed.specs.ExpressionViews.{typed_model}
use Rattle.al_view_typed.specs.declared.expression.Typed.{Typed}
use Rattle.al_overload_nodes.proofs.Seen.{both_model}
use Rattle.al_overload.specs.Places.{first_place}
use Rattle.al_overload_nodes.specs.Static.{checked_as}
use Rattle.al_overload_nodes.specs.Views.{pair_model as typed_pair_model}
use Rattle.al_overload_nodes.specs.Seen.{told_model}
use Rattle.al_overload_nodes.specs.FromAnswers.{DeterminedType, pair_type}
use Rattle.al_overload_nodes.specs.Ranges.{bound_at, found_type, pair_of}
use Rattle.al_overload_nodes.specs.declared.range.FoundType.{FoundType}
use Rattle.al_overload_nodes.proofs.PairMade.{pair_is}
use Rattle.al_overload_nodes.proofs.Wholes.{three_made}
use Rattle.al_overload_nodes.proofs.range.read_pair.Goals as goal

pub returns : goal.returns
returns c =
    let all = three_made (λ (f : FoundType). f ≡ found_type (told_model c.range_type.result))
    (λ (r : Result Typed Fault). map_ok typed_model r ≡ checked_as c.args.expected (first_place (term_model c.args.low.now)) (bound_at c.args.labeller.now.predefined c.args.labeller.now.own c.args.types.now (term_model c.args.low.now) 0 (term_model c.args.low.now) (label_of c.args.label.now) (told_model c.pair_type-determined.result)))
    (λ (r : Result Typed Fault). map_ok typed_model r ≡ checked_as c.args.expected (first_place (term_model c.args.high.now)) (bound_at c.args.labeller.now.predefined c.args.labeller.now.own c.args.types.now (term_model c.args.low.now) 1 (term_model c.args.high.now) (label_of c.args.label.now) (told_model c.pair_type-determined.result)))
    c.found_type-range.result c.bound_at-first.result c.bound_at-last.result c.together.result c.together-2.result c.in_ok-range.range c.in_ok-range.first c.in_ok-range.last
    c.together.ensures c.together-2.ensures c.in_ok-range.was c.found_type-range.ensures c.bound_at-first.ensures c.bound_at-last.ensures in
    pair_is c.args.labeller.now.predefined c.args.labeller.now.own c.args.expected c.args.types.now c.args.at.now (term_model c.args.low.now) (term_model c.args.high.now) (label_of c.args.label.now) (told_model c.pair_type-determined.result) c.in_ok-range.range (map_ok typed_model c.in_ok-range.first) (map_ok typed_model c.in_ok-range.last) _
    (c.pair_type-determined.ensures ∙ ap (λ (o : DeterminedType). pair_type c.args.labeller.now.predefined o (term_model c.args.low.now) (term_model c.args.high.now) (label_of c.args.label.now)) c.among-otherwise.ensures)
    (all.0 ∙ ap found_type c.range_type.ensures) all.1.0 all.1.1
    (c.pair_of.ensures ∙ ap (λ (b : Result (Typed × Typed) Fault). map_ok (pair_of c.in_ok-range.range) (map_ok typed_pair_model b)) c.both.ensures
    ∙ ap (map_ok (pair_of c.in_ok-range.range)) (sym (both_model typed_model typed_model c.in_ok-range.first c.in_ok-range.last)))
