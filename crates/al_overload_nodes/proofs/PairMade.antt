-- Bounds, and pairs of them by what their bounds are.
use Rattle.std.proofs.Common.{◌≡◌, ℕ, List, Result, Option, ap, ◌∙◌}
use Rattle.al_base.specs.declared.place.Place.{Place}
use Rattle.al_overload.specs.Labelling.{Label}
use Rattle.al_base_fault.specs.Judging.{both, map_ok}
use Rattle.al_base_fault.specs.declared.fault.Fault.{Fault}
use Rattle.al_overload.specs.Terms.{TermTree}
use Rattle.al_view_typed.specs.ExpressionTrees.{TypedTree}
use Rattle.al_view.specs.declared.symbol.Symbol.{Symbol}
use Rattle.al_view.specs.declared.types.TypeView.{TypeView}
use Rattle.al_overload.specs.declared.everywhere.Predefined.{Predefined}
use Rattle.al_overload.specs.Places.{first_place}
use Rattle.al_overload_nodes.specs.Nodes.{ReadingTree}
use Rattle.al_overload_nodes.specs.Readings.{operand_read}
use Rattle.al_overload_nodes.specs.Static.{checked_as}
use Rattle.al_overload_nodes.specs.declared.staticness.Staticness.{Staticness}
use Rattle.al_overload_nodes.specs.FromAnswers.{DeterminedType, among, pair_type, range_type, types_in}
use Rattle.al_overload_nodes.specs.Ranges.{PairTree, bound_at, found_type, pair_at, pair_of, pair_read}
use Rattle.al_overload_nodes.specs.declared.range.FoundType.{FoundType}

pub pair_is : (p : Predefined) (own : Option Symbol) (expected : Staticness) (types : List TypeView) (at : Symbol) (low high : TermTree) (label : Label) (determined : DeterminedType) (range : FoundType) (a b : Result TypedTree Fault) (x : Result PairTree Fault)
    → determined ≡ pair_type p (among types at) low high label → range ≡ found_type (range_type p determined)
    → a ≡ checked_as expected (first_place low) (bound_at p own types low 0 low label determined) → b ≡ checked_as expected (first_place high) (bound_at p own types low 1 high label determined)
    → x ≡ map_ok (pair_of range) (both a b) → x ≡ pair_read p own expected types at low high label
pair_is p own expected types at low high label determined range a b x kind of_range first last made =
    made
    ∙ ap (λ (r : FoundType). map_ok (pair_of r) (both a b)) of_range
    ∙ ap (λ (y : Result TypedTree Fault). map_ok (pair_of (found_type (range_type p determined))) (both y b)) first
    ∙ ap (λ (y : Result TypedTree Fault). map_ok (pair_of (found_type (range_type p determined))) (both (checked_as expected (first_place low) (bound_at p own types low 0 low label determined)) y)) last
    ∙ ap (pair_at p own expected types low high label) kind

pub bound_is : (p : Predefined) (own : Option Symbol) (expected : Staticness) (types among_these : List TypeView) (low bound : TermTree) (k : ℕ) (label : Label) (determined : DeterminedType) (here first : Place) (read : ReadingTree) (x : Result TypedTree Fault)
    → here ≡ first_place bound → first ≡ first_place low → among_these ≡ types_in types determined
    → read ≡ operand_read p own first k bound label among_these determined.of
    → x ≡ checked_as expected here read → x ≡ checked_as expected (first_place bound) (bound_at p own types low k bound label determined)
bound_is p own expected types among_these low bound k label determined here first read x at begun known is made =
    made
    ∙ ap (checked_as expected here) is
    ∙ ap (λ (l : List TypeView). checked_as expected here (operand_read p own first k bound label l determined.of)) known
    ∙ ap (λ (z : Place). checked_as expected here (operand_read p own z k bound label (types_in types determined) determined.of)) begun
    ∙ ap (λ (z : Place). checked_as expected z (bound_at p own types low k bound label determined)) at
