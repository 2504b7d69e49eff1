-- Loops over choices, step by step.
use Rattle.std.proofs.Common.{◌≡◌, ◌<◌, ◌≤◌, ℕ, ◌+◌, List, drop, get_or, length, map, ap, sym, ◌∙◌}
use Rattle.std.specs.Prelude.{fold}
use Rattle.al_stmts.specs.declared.choices.AlternativeChoices.{AlternativeChoices}
use Rattle.al_stmts.specs.declared.choices.CaseChoices.{CaseChoices}
use Rattle.al_tree_syntax.specs.ExpressionTrees.{ExpressionTree}
use Rattle.al_tree.specs.StatementViews.{alternative_model, alternatives_of, choice_model}
use Rattle.al_tree.specs.declared.statement.Alternative.{Alternative}
use Rattle.al_tree.specs.declared.statement.Choice.{Choice}
use Rattle.al_stmts.specs.Readings.{Reading, giving}
use Rattle.al_stmts.specs.Walking.{choices_walked, more_choices}
use Rattle.al_stmts_text.proofs.ChoiceFolds.{alternative_step, alternatives_folded, choice_step, choices_folded}
use Rattle.al_stmts_text.proofs.Loops.{ends, step}
use Rattle.al_stmts_text.specs.Chosen.{with_chosen}

-- one more step, if how far the check has come stays
stays : {H S X : Type 0} (f : H → S → X → S) (start h after : H) (s0 s made : S) (xs : List X) (i : ℕ) (x : X)
    → giving after made ≡ giving h (f h s x)
    → giving h (fold (f start) s (drop i xs)) ≡ giving start (fold (f start) s0 xs)
    → x ≡ get_or xs i x → i < length xs
    → giving after (fold (f start) made (drop (i + 1) xs)) ≡ (giving start (fold (f start) s0 xs))
stays {H} {S} {X} f start h after s0 s made xs i x one before at within =
    let at_start : h ≡ start = ap (λ (p : H × S). p.0) before in
    let after_is : after ≡ h = ap (λ (p : H × S). p.0) one in
    let made_is : made ≡ f start s x = ap (λ (p : H × S). p.1) one ∙ ap (λ (k : H). f k s x) at_start in
    ap (λ (k : H). giving k (fold (f start) made (drop (i + 1) xs))) after_is
    ∙ ap (λ (r : S). giving h r) (step (f start) s made xs i x made_is at within)
    ∙ before

pub chosen : {H : Type 0} (R : Reading H) (e : ExpressionTree) (start h after : H) (s0 s made : AlternativeChoices) (xs : List Choice) (i : ℕ) (x : Choice)
    → giving after made ≡ giving h (with_chosen R h e s (choice_model x))
    → giving h (fold (choice_step R start e) s (drop i xs)) ≡ giving start (fold (choice_step R start e) s0 xs)
    → x ≡ get_or xs i x → i < length xs
    → giving after (fold (choice_step R start e) made (drop (i + 1) xs)) ≡ (giving start (fold (choice_step R start e) s0 xs))
chosen {H} R e start h after s0 s made xs i x one before at within =
    stays (λ (k : H) (cs : AlternativeChoices) (c : Choice). choice_step R k e cs c) start h after s0 s made xs i x one before at within

pub alternative_chosen : {H : Type 0} (R : Reading H) (e : ExpressionTree) (start h after : H) (s0 s made : CaseChoices) (xs : List Alternative) (i : ℕ) (x : Alternative)
    → giving after made ≡ giving h (choices_walked R h e s (alternative_model x))
    → giving h (fold (alternative_step R start e) s (drop i xs)) ≡ giving start (fold (alternative_step R start e) s0 xs)
    → x ≡ get_or xs i x → i < length xs
    → giving after (fold (alternative_step R start e) made (drop (i + 1) xs)) ≡ (giving start (fold (alternative_step R start e) s0 xs))
alternative_chosen {H} R e start h after s0 s made xs i x one before at within =
    stays (λ (k : H) (cs : CaseChoices) (a : Alternative). alternative_step R k e cs a) start h after s0 s made xs i x one before at within

pub chosen_all : {H : Type 0} (R : Reading H) (e : ExpressionTree) (start h : H) (s0 s : AlternativeChoices) (xs : List Choice) (i : ℕ)
    → giving h (fold (choice_step R start e) s (drop i xs)) ≡ giving start (fold (choice_step R start e) s0 xs)
    → length xs ≤ i
    → giving h s ≡ (giving start (fold (with_chosen R start e) s0 (map choice_model xs)))
chosen_all {H} R e start h s0 s xs i before past =
    ap (λ (r : AlternativeChoices). giving h r) (sym (ends (choice_step R start e) s xs i past)) ∙ before ∙ ap (λ (r : AlternativeChoices). giving start r) (choices_folded R start e s0 xs)

pub alternatives_chosen : {H : Type 0} (R : Reading H) (e : ExpressionTree) (start h : H) (s0 s : CaseChoices) (xs : List Alternative) (i : ℕ)
    → giving h (fold (alternative_step R start e) s (drop i xs)) ≡ giving start (fold (alternative_step R start e) s0 xs)
    → length xs ≤ i
    → giving h s ≡ (giving start (more_choices R start e s0 (alternatives_of (map alternative_model xs))))
alternatives_chosen {H} R e start h s0 s xs i before past =
    ap (λ (r : CaseChoices). giving h r) (sym (ends (alternative_step R start e) s xs i past)) ∙ before ∙ ap (λ (r : CaseChoices). giving start r) (alternatives_folded R start e s0 xs)
