-- What expressions are where they stand is the same under two tables under which their names denote the same.
use Rattle.std.proofs.Common.{◌≡◌, refl, ◌∙◌, ap, ℕ, List, [], Option, Some, Ok, Err}
use Rattle.std.specs.Prelude.{Result}
use Rattle.al_base_fault.specs.Judging.{both, map_ok, next}
use Rattle.al_base_fault.specs.declared.fault.Fault.{Fault}
use Rattle.al_decl_ada.specs.SubtypesAt.{static_at, static_pair}
use Rattle.al_overload.specs.declared.context.Context.{Context}
use Rattle.al_overload.specs.declared.context.Context.TheVariants as contexts
use Rattle.al_overload.specs.Types.{value_type}
use Rattle.al_overload.specs.declared.part.Nominal.{Nominal}
use Rattle.al_overload_lookup.specs.Places.{first_place}
use Rattle.al_overload_nodes.specs.Ranges.{FoundTree}
use Rattle.al_overload_nodes.specs.declared.range.FoundType.{FoundType}
use Rattle.al_overload_values.specs.Surroundings.{Surroundings}
use Rattle.al_overload_values.specs.TermsAt.{denotations_at, mark_at, term_at}
use Rattle.al_overload_values.specs.TextsAt.{With, bounds_with_at, context_with_at, joined, range_with_at, read_with_at, term_with, term_with_at}
use Rattle.al_overload_values.specs.ValuesAt.{checked_at, condition_at, moment_at, pair_judged_at, result_at, selector_at, selector_judged_at, source_at, static_checked_at, static_pair_at, target_at, value_at}
use Rattle.al_query.specs.Reads.{Table}
use Rattle.al_stmts_ranges.specs.ChoicesAt.{choice_at, choice_context, discrete_choice, selected_at, values_of, whole_at}
use Rattle.al_stmts_ranges.specs.LoopsAt.{loop_range_at, loop_range_checked, range_with_words}
use Rattle.al_stmts_ranges.specs.PerformedAt.{call_effect_at}
use Rattle.al_tree_syntax.specs.DeclarationTrees.{DiscreteRangeTree, DiscreteRangeTree as ranges, RangeTree, discrete_range_tokens}
use Rattle.al_tree_syntax.specs.ExpressionTrees.{ExpressionTree, expression_tokens, name_tokens, simple_tokens}
use Rattle.al_tree_syntax.specs.StatementTrees.ChoiceTree.{OthersChoice, RangeChoice}
use Rattle.al_tree_syntax.specs.StatementTrees.{ChoiceTree, choice_tokens}
use Rattle.al_tree_grammar.specs.Grammar.{Lexeme}
use Rattle.al_view.specs.declared.types.TypeView.{TypeView}
use Rattle.al_view.specs.declared.view.SubtypeView.{SubtypeView}
use Rattle.al_check_bound_laws.proofs.AllLemmas.{All, all-left, all-right}

abbrev Judged : Type 0 → Type 0
Judged A = Result A Fault

next-same : {A B : Type 0} (f : A → Judged B) (j k : Judged A) → j ≡ k → next j f ≡ next k f
next-same f j k e = ap (λ i. next i f) e

ok-same : {A B : Type 0} (f : A → B) (j k : Judged A) → j ≡ k → map_ok f j ≡ map_ok f k
ok-same f j k e = ap (λ i. map_ok f i) e

both-same : {A B : Type 0} (a b : Judged A) (c d : Judged B) → a ≡ b → c ≡ d → both a c ≡ both b d
both-same a b c d e f = ap (λ i. both i c) e ∙ ap (λ i. both b i) f

module _ (Q : Lexeme → Type 0) (t s : Table) (S : Surroundings) (denote : (x : ExpressionTree) → All Q (expression_tokens x) → denotations_at t S.place S.packages x ≡ denotations_at s S.place S.packages x) (placed : (x : ExpressionTree) → All Q (simple_tokens x) → All Q (expression_tokens x)) where
  context-same : (x : ExpressionTree) → All Q (expression_tokens x) → context_with_at t S.place S.packages S.predefined S.own x ≡ context_with_at s S.place S.packages S.predefined S.own x
  context-same x k = ap (λ d. term_with S.predefined S.own d (first_place x) x) (denote x k)

  pub checked-same : (c : Context) (o : Option Nominal) (types : List TypeView) (x : ExpressionTree) → All Q (expression_tokens x) → checked_at t S c o types x ≡ checked_at s S c o types x
  checked-same c o types x k = next-same _ _ _ (context-same x k)

  pub static-checked-same : (c : Context) (types : List TypeView) (x : ExpressionTree) → All Q (expression_tokens x) → static_checked_at t S c types x ≡ static_checked_at s S c types x
  static-checked-same c types x k = next-same _ _ _ (context-same x k)

  pub mark-same : (x : ExpressionTree) → All Q (expression_tokens x) → mark_at t S.place S.packages x ≡ mark_at s S.place S.packages x
  mark-same x k = ap (λ d. Rattle.al_overload_readings.specs.Texts.mark_of_text d x) (denote x k)

  bounds-same : (r : RangeTree) → All Q (simple_tokens r.low) → All Q (simple_tokens r.high) → bounds_with_at t S.place S.packages S.predefined S.own r ≡ bounds_with_at s S.place S.packages S.predefined S.own r
  bounds-same r k l =
      ap (λ d. map_ok joined (both (term_with S.predefined S.own d (first_place r.low) r.low) (term_with_at t S.place S.packages S.predefined S.own (first_place r.low) r.high))) (denote r.low (placed r.low k))
      ∙ ap (λ d. map_ok joined (both (term_with_at s S.place S.packages S.predefined S.own (first_place r.low) r.low) (term_with S.predefined S.own d (first_place r.low) r.high))) (denote r.high (placed r.high l))

  pair-same : (c : Context) (types : List TypeView) (r : RangeTree) → All Q (simple_tokens r.low) → All Q (simple_tokens r.high) → pair_judged_at t S c types r ≡ pair_judged_at s S c types r
  pair-same c types r k l = next-same _ _ _ (bounds-same r k l)

  pub static-pair-same : (c : Context) (types : List TypeView) (r : RangeTree) → All Q (simple_tokens r.low) → All Q (simple_tokens r.high) → static_pair_at t S c types r ≡ static_pair_at s S c types r
  static-pair-same c types r k l = next-same _ _ _ (bounds-same r k l)

  pub static-same : (c : Context) (types : List TypeView) (r : RangeTree) → All Q (simple_tokens r.low) → All Q (simple_tokens r.high) → static_at t S c types r ≡ static_at s S c types r
  static-same c types r k l = ap (λ b. next b static_pair) (static-pair-same c types r k l)

  pub range-same : (x : ExpressionTree) → All Q (expression_tokens x) → range_with_at t S.place S.packages S.predefined S.own x ≡ range_with_at s S.place S.packages S.predefined S.own x
  range-same x k = ap (λ d. Rattle.al_overload_values.specs.TextsAt.range_with S.predefined S.own d (first_place x) x) (denote x k)

  selector-same : (x : ExpressionTree) → All Q (expression_tokens x) → selector_judged_at t S x ≡ selector_judged_at s S x
  selector-same x k = next-same _ _ _ (context-same x k)

  source-same : (x y : ExpressionTree) → All Q (expression_tokens x) → All Q (expression_tokens y) → (w : ℕ) → source_at t S x y w ≡ source_at s S x y w
  source-same x y k l w = ap (λ d. Rattle.al_overload_values.specs.Words.with_words w (next (next (Rattle.al_overload_readings.specs.Texts.term_of d x) (Rattle.al_overload_nodes.specs.Variables.target_part S.predefined)) (Rattle.al_overload_values.specs.ValuesAt.source_checked t S y))) (denote x k) ∙ at (next (term_at s S.place S.packages x) (Rattle.al_overload_nodes.specs.Variables.target_part S.predefined))
    where
      at : (j : Result Nominal Fault) → Rattle.al_overload_values.specs.Words.with_words w (next j (Rattle.al_overload_values.specs.ValuesAt.source_checked t S y)) ≡ Rattle.al_overload_values.specs.Words.with_words w (next j (Rattle.al_overload_values.specs.ValuesAt.source_checked s S y))
      at (Ok of) = ap (λ c. Rattle.al_overload_values.specs.Words.with_words w c) (checked-same (contexts.Source (value_type of.types of.subtype.base)) (Some of) of.types y l)
      at (Err f) = refl

  -- ---- ranges of loops and choices

  loop-same : (d : DiscreteRangeTree) → All Q (discrete_range_tokens d) → loop_range_checked t S d ≡ loop_range_checked s S d
  loop-same (ranges.SoleMark x) k = next-same _ _ _ (range-same x (placed x k))
  loop-same (ranges.Bounds r) k = ok-same _ _ _ (pair-same contexts.PairOfBounds [] r (all-left Q (simple_tokens r.low) _ k) (all-right Q (simple_tokens r.low) _ k).1)
  loop-same (ranges.MarkRange x r) k =
      let rest = (all-right Q (simple_tokens x) _ k).1 in
      next-same _ _ _ (both-same _ _ _ _ (next-same _ _ _ (mark-same x (placed x (all-left Q (simple_tokens x) _ k)))) (bounds-same r (all-left Q (simple_tokens r.low) _ rest) (all-right Q (simple_tokens r.low) _ rest).1))

  discrete-same : (f : FoundType) (d : DiscreteRangeTree) → All Q (discrete_range_tokens d) → discrete_choice t S f d ≡ discrete_choice s S f d
  discrete-same f (ranges.SoleMark x) k = next-same _ _ _ (ap (λ d. Rattle.al_overload_values.specs.TextsAt.read_with S.predefined S.own d (first_place x) x) (denote x (placed x k)))
  discrete-same f (ranges.Bounds r) k = ok-same _ _ _ (static-same (choice_context f) f.types r (all-left Q (simple_tokens r.low) _ k) (all-right Q (simple_tokens r.low) _ k).1)
  discrete-same f (ranges.MarkRange x r) k =
      let rest = (all-right Q (simple_tokens x) _ k).1 in
      next-same _ _ _ (both-same _ _ _ _ (mark-same x (placed x (all-left Q (simple_tokens x) _ k))) (static-same (choice_context f) f.types r (all-left Q (simple_tokens r.low) _ rest) (all-right Q (simple_tokens r.low) _ rest).1))

  choice-same : (f : FoundType) (c : ChoiceTree) → All Q (choice_tokens c) → choice_at t S f c ≡ choice_at s S f c
  choice-same f OthersChoice k = refl
  choice-same f (RangeChoice d) k = discrete-same f d k

  chosen-same : (j : Result FoundTree Fault) (c : ChoiceTree) → All Q (choice_tokens c) → next j (λ (x : FoundTree). choice_at t S x.found c) ≡ next j (λ (x : FoundTree). choice_at s S x.found c)
  chosen-same (Ok x) c k = choice-same x.found c k
  chosen-same (Err f) c k = refl

  pub all-values : (x : ExpressionTree) → All Q (expression_tokens x) → (w : ℕ)
      → (condition_at t S x w ≡ condition_at s S x w) × (moment_at t S x w ≡ moment_at s S x w) × (target_at t S x w ≡ target_at s S x w)
      × (call_effect_at t S x w ≡ call_effect_at s S x w) × (selector_at t S x w ≡ selector_at s S x w) × (whole_at t S x ≡ whole_at s S x)
  all-values x k w =
      let c = context-same x k in (
        ap (Rattle.al_overload_values.specs.Words.with_words w) (next-same _ _ _ c),
        ap (Rattle.al_overload_values.specs.Words.with_words w) (next-same _ _ _ c),
        ap (Rattle.al_overload_values.specs.Words.with_words w) (next-same _ _ _ c),
        ap (Rattle.al_stmts_ranges.specs.PerformedAt.call_effect_with_words w) (ok-same _ _ _ (next-same _ _ _ c)),
        ap (λ r. Rattle.al_overload_values.specs.Words.found_with_words w r) (selector-same x k),
        ap values_of (selector-same x k),
      )

  pub sources : (x y : ExpressionTree) → All Q (name_tokens x) → (All Q (name_tokens x) → All Q (expression_tokens x)) → All Q (expression_tokens y) → (w : ℕ) → source_at t S x y w ≡ source_at s S x y w
  sources x y k n l w = source-same x y (n k) l w

  pub results : (of : SubtypeView) (x : ExpressionTree) → All Q (expression_tokens x) → (w : ℕ) → result_at t S of x w ≡ result_at s S of x w
  results of x k w = ap (Rattle.al_overload_values.specs.Words.with_words w) (next-same _ _ _ (context-same x k))

  pub choices : (x : ExpressionTree) (c : ChoiceTree) → All Q (expression_tokens x) → All Q (choice_tokens c) → selected_at t S x c ≡ selected_at s S x c
  choices x c k l = ap (λ j. next j (λ (y : FoundTree). choice_at t S y.found c)) (selector-same x k) ∙ chosen-same (selector_judged_at s S x) c l

  pub loop-ranges : (d : DiscreteRangeTree) → All Q (discrete_range_tokens d) → (w : ℕ) → loop_range_at t S d w ≡ loop_range_at s S d w
  loop-ranges d k w = ap (range_with_words w) (loop-same d k)
