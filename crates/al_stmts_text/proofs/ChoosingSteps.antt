-- Choices of case statements, by those before them.
use Rattle.std.proofs.Common.{◌≡◌, Bool, true, false, List, ◌∷◌, Result, Ok, Err, map, refl, ap, sym, ◌∙◌}
use Rattle.std.specs.Prelude.{fold}
use Rattle.al_view.specs.declared.types.Bounds.{Bounds}
use Rattle.al_stmts.specs.declared.choice.Selector.{Selector}
use Rattle.al_base_fault.specs.declared.fault.Fault.{Fault}
use Rattle.al_stmts.specs.Cases.{bounds_of, held_against, no_alternative, no_choice, with_choices}
use Rattle.al_stmts.specs.declared.choices.AlternativeChoices.{AlternativeChoices}
use Rattle.al_stmts.specs.declared.choices.CaseChoices.{CaseChoices}
use Rattle.al_tree_syntax.specs.ExpressionTrees.{ExpressionTree}
use Rattle.al_tree.specs.StatementViews.{alternative_model, alternatives_of, choice_model}
use Rattle.al_tree.specs.declared.statement.Alternative.{Alternative, out-Alternative}
use Rattle.al_tree.specs.declared.statement.Choice.{Choice}
use Rattle.al_view_typed.specs.ExpressionTrees.{TypedTree}
use Rattle.al_stmts.proofs.ReturnsLayers.{alternative_layers}
use Rattle.al_stmts.specs.Readings.{Reading, giving}
use Rattle.al_stmts.specs.Walking.{all_choices, choices_walked, more_choices, right_choices}
use Rattle.al_stmts_text.proofs.Read.{goes_on}
use Rattle.al_stmts_text.specs.Chosen.{choices_of, with_chosen}

pub filled : {H : Type 0} (R : Reading H) (e : ExpressionTree) (h after : H) (before first : AlternativeChoices) (done : H × AlternativeChoices) (a : Alternative) (others : List Choice)
    → others ≡ (out-Alternative a).others.items
    → giving after first ≡ giving h (with_chosen R h e before (choice_model (out-Alternative a).first))
    → done ≡ giving after (fold (with_chosen R after e) first (map choice_model others))
    → done ≡ (giving h (choices_of R h e before (alternative_model a)))
filled {H} R e h after before first done a others are is more =
    rw (alternative_layers a)
    (more
    ∙ ap (λ (xs : List Choice). giving after (fold (with_chosen R after e) first (map choice_model xs))) are
    ∙ goes_on (λ (k : H) (cs : AlternativeChoices). giving k (fold (with_chosen R k e) cs (map choice_model (out-Alternative a).others.items))) after first (giving h (with_chosen R h e before (choice_model (out-Alternative a).first))) is)

choices_are : {H : Type 0} (R : Reading H) (h : H) (e : ExpressionTree) (so_far : CaseChoices) (a : Alternative) → with_choices so_far (choices_of R h e no_choice (alternative_model a)) ≡ choices_walked R h e so_far (alternative_model a)
choices_are R h e so_far a = rw (alternative_layers a) refl

pub added : {H : Type 0} (R : Reading H) (e : ExpressionTree) (h after : H) (new made : AlternativeChoices) (so_far done : CaseChoices) (a : Alternative)
    → new ≡ no_choice
    → giving after made ≡ giving h (choices_of R h e new (alternative_model a))
    → done ≡ with_choices so_far made
    → giving after done ≡ (giving h (choices_walked R h e so_far (alternative_model a)))
added {H} R e h after new made so_far done a new_is is done_is =
    ap (λ (d : CaseChoices). giving after d) done_is
    ∙ goes_on (λ (k : H) (cs : AlternativeChoices). giving k (with_choices so_far cs)) after made (giving h (choices_of R h e new (alternative_model a))) is
    ∙ ap (λ (cs : AlternativeChoices). giving h (with_choices so_far (choices_of R h e cs (alternative_model a)))) new_is
    ∙ ap (λ (d : CaseChoices). giving h d) (choices_are R h e so_far a)

pub all_filled : {H : Type 0} (R : Reading H) (e : ExpressionTree) (h after : H) (before one : CaseChoices) (done : H × CaseChoices) (a : Alternative) (others : List Alternative)
    → giving after one ≡ giving h (choices_walked R h e before (alternative_model a))
    → done ≡ giving after (more_choices R after e one (alternatives_of (map alternative_model others)))
    → done ≡ (giving h (more_choices R h e (choices_walked R h e before (alternative_model a)) (alternatives_of (map alternative_model others))))
all_filled {H} R e h after before one done a others is more =
    more ∙ goes_on (λ (k : H) (cs : CaseChoices). giving k (more_choices R k e cs (alternatives_of (map alternative_model others)))) after one (giving h (choices_walked R h e before (alternative_model a))) is

pub all_of : {H : Type 0} (R : Reading H) (e : ExpressionTree) (h after : H) (new made : CaseChoices) (is_right : Bool) (a : Alternative) (others : List Alternative)
    → is_right ≡ true
    → new ≡ no_alternative
    → giving after made ≡ giving h (more_choices R h e (choices_walked R h e new (alternative_model a)) (alternatives_of (map alternative_model others)))
    → giving after made ≡ (giving h (all_choices R h e is_right (alternative_model a) (alternatives_of (map alternative_model others))))
all_of {H} R e h after new made is_right a others right new_is is =
    rw right (is ∙ ap (λ (cs : CaseChoices). giving h (more_choices R h e (choices_walked R h e cs (alternative_model a)) (alternatives_of (map alternative_model others)))) new_is)

pub none_of : {H : Type 0} (R : Reading H) (e : ExpressionTree) (h : H) (new : CaseChoices) (is_right : Bool) (a : Alternative) (others : List Alternative)
    → is_right ≡ false
    → new ≡ no_alternative
    → giving h new ≡ (giving h (all_choices R h e is_right (alternative_model a) (alternatives_of (map alternative_model others))))
none_of {H} R e h new is_right a others wrong new_is = rw wrong (ap (λ (cs : CaseChoices). giving h cs) new_is)

pub are_right : {H : Type 0} (R : Reading H) (e : ExpressionTree) (h asked after : H) (whole : Bounds) (held : Selector) (done : Bool) (s : TypedTree) (choices : CaseChoices)
    → giving asked whole ≡ giving h (R.whole h e)
    → held ≡ held_against (bounds_of s) whole
    → giving after done ≡ giving asked (R.are_right held choices.alternatives)
    → giving after done ≡ (giving h (right_choices R h e (Ok s) choices))
are_right {H} R e h asked after whole held done s choices read held_is is =
    is
    ∙ ap (λ (k : Selector). giving asked (R.are_right k choices.alternatives)) held_is
    ∙ goes_on (λ (k : H) (w : Bounds). giving k (R.are_right (held_against (bounds_of s) w) choices.alternatives)) asked whole (giving h (R.whole h e)) read
