-- Choices, one after another.
use Rattle.std.proofs.Common.{◌≡◌, List, [], ◌∷◌, map, refl}
use Rattle.std.specs.Prelude.{fold}
use Rattle.al_stmts.specs.declared.choices.AlternativeChoices.{AlternativeChoices}
use Rattle.al_stmts.specs.declared.choices.CaseChoices.{CaseChoices}
use Rattle.al_tree_syntax.specs.ExpressionTrees.{ExpressionTree}
use Rattle.al_tree.specs.StatementViews.{alternative_model, alternatives_of, choice_model}
use Rattle.al_tree.specs.declared.statement.Alternative.{Alternative}
use Rattle.al_tree.specs.declared.statement.Choice.{Choice}
use Rattle.al_stmts.specs.Readings.{Reading}
use Rattle.al_stmts.specs.Walking.{choices_walked, more_choices}
use Rattle.al_stmts_text.specs.Chosen.{with_chosen}

abbrev pub choice_step : {H : Type 0} → Reading H → H → ExpressionTree → AlternativeChoices → Choice → AlternativeChoices
choice_step R h e cs c = with_chosen R h e cs (choice_model c)

pub choices_folded : {H : Type 0} (R : Reading H) (h : H) (e : ExpressionTree) (cs : AlternativeChoices) (xs : List Choice) → fold (choice_step R h e) cs xs ≡ fold (with_chosen R h e) cs (map choice_model xs)
choices_folded R h e cs [] = refl
choices_folded R h e cs (x ∷ xs) = choices_folded R h e (choice_step R h e cs x) xs

abbrev pub alternative_step : {H : Type 0} → Reading H → H → ExpressionTree → CaseChoices → Alternative → CaseChoices
alternative_step R h e cs a = choices_walked R h e cs (alternative_model a)

pub alternatives_folded : {H : Type 0} (R : Reading H) (h : H) (e : ExpressionTree) (cs : CaseChoices) (xs : List Alternative) → fold (alternative_step R h e) cs xs ≡ more_choices R h e cs (alternatives_of (map alternative_model xs))
alternatives_folded R h e cs [] = refl
alternatives_folded R h e cs (x ∷ xs) = alternatives_folded R h e (alternative_step R h e cs x) xs
