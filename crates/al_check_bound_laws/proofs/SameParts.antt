-- The parts of declarations, and use clauses, are read the same under two tables under which names denote the same.
use Rattle.std.proofs.Common.{◌≡◌, refl, ◌∙◌, ap, Bool, true, false, List, [], ◌∷◌, ◌++◌, fold, Option, Some, None, Ok, Err}
use Rattle.al_base.specs.declared.place.Place.{Place as TextPlace}
use Rattle.al_base.specs.declared.unit_key.UnitKey.{UnitKey}
use Rattle.al_base_fault.specs.Judging.{map_ok, next}
use Rattle.al_decl_ada.specs.AdaPartReading.{parts_read, surrounded}
use Rattle.al_decl_ada.specs.Complete.{completed}
use Rattle.al_decl_ada.specs.SubtypesAt.{constrained_at, constraint_at, index_at, index_of_marked, index_of_pair, indication_at}
use Rattle.al_decl_judged.specs.Indications.{indication, index_of_mark}
use Rattle.al_overload.specs.declared.context.Context.TheVariants as contexts
use Rattle.al_overload.specs.declared.everywhere.Predefined.{Predefined}
use Rattle.al_overload_lookup.specs.Keys.{denoted}
use Rattle.al_overload_lookup.specs.Lookups.{looked_up_all}
use Rattle.al_overload_lookup.specs.Places.{first_place, place_of}
use Rattle.al_overload_lookup.specs.TextNames.{identifier_names}
use Rattle.al_overload_nodes.specs.Leaves.{mark_type}
use Rattle.al_overload_values.specs.CompoundNames.{name_text, with_selector}
use Rattle.al_overload_values.specs.Surroundings.{Surroundings}
use Rattle.al_overload_values.specs.TermsAt.{denotations_at, mark_at}
use Rattle.al_query.specs.Reads.{Table}
use Rattle.al_query.specs.declared.answer.UseClause.{UseClause}
use Rattle.al_scope.specs.Places.{Place}
use Rattle.al_scope_context.specs.UsesAt.{all_names, denoted_package, opened_at, opened_from, package_at, package_opened, type_opened, uses_at}
use Rattle.al_tree_grammar.specs.Grammar.{Label, Lexeme}
use Rattle.al_tree_grammar.specs.Grammar as g
use Rattle.al_tree_syntax.specs.Symbols.{Symbol as symbols}
use Rattle.al_tree_syntax.specs.Words.{word}
use Rattle.al_tree_syntax.specs.DeclarationTrees.{CompoundNameTree, DiscreteRangeTree, DiscreteRangeTree as ranges, RangeTree, SubtypeIndicationTree, UseTree, after as tokens_after, compound_tokens, compounds_tokens, discrete_range_tokens, flag_tokens, identifier_token, range_tokens, subtype_indication_tokens, use_tokens}
use Rattle.al_tree_syntax.specs.ExpressionTrees.{ExpressionTree, ExpressionTree as e, expression_tokens, placed, simple_tokens, stands}
use Rattle.al_tree_syntax.specs.ExpressionTrees.Level.{NameLevel}
use Rattle.al_view.specs.declared.symbol.Symbol.{Symbol}
use Rattle.al_view.specs.declared.view.SubtypeView.{SubtypeView}
use Rattle.al_check_bound_laws.proofs.AllLemmas.{All, all-append, all-left, all-right}
use Rattle.al_check_bound_laws.proofs.SameDeclarations.{Judged, SameParts, next-both}
use Rattle.al_check_bound_laws.proofs.SameValues.{checked-same, mark-same, range-same, static-checked-same, static-pair-same, static-same}

-- the text of a compound name has its lexemes
module _ (Q : Lexeme → Type 0) where
  abbrev IsName : ExpressionTree → Type 0
  IsName x = stands NameLevel x ≡ true

  selected-ok : (x : ExpressionTree) (ls : List Label) → IsName x → All Q (expression_tokens x) → All Q (tokens_after symbols.Dot ls) → All Q (expression_tokens (fold with_selector x ls))
  selected-ok x [] n k w = k
  selected-ok x (l ∷ ls) n k w = selected-ok (with_selector x l) ls refl (all-append Q (placed (stands NameLevel x) (expression_tokens x)) (word symbols.Dot ∷ identifier_token l ∷ []) (rw n k) (w.0, (w.1.0, tt))) w.1.1

  pub name-text-ok : (n : CompoundNameTree) → All Q (compound_tokens n) → All Q (expression_tokens (name_text n))
  unfolding name_text
  name-text-ok n w = selected-ok (e.Name n.first) n.selectors refl (w.0, tt) w.1

module _ (Q : Lexeme → Type 0) (t s : Table) (P : Place → Type 0) (packages : List UnitKey)
    (denote : (p : Place) → P p → (x : ExpressionTree) → All Q (expression_tokens x) → denotations_at t p packages x ≡ denotations_at s p packages x)
    (placed-ok : (x : ExpressionTree) → All Q (simple_tokens x) → All Q (expression_tokens x)) where
  module _ (predefined : Predefined) (own : Option Symbol) (unit : UnitKey) (p : Place) (k : P p) where
    abbrev S : Surroundings
    S = surrounded packages predefined own p

    constraint-same : (m : Judged SubtypeView) (r : RangeTree) → All Q (range_tokens r) → constraint_at t S m r ≡ constraint_at s S m r
    unfolding constraint_at
    constraint-same (Ok m) r w = ap (λ j. Some j) (static-same Q t s S (denote p k) placed-ok (contexts.BoundOf (mark_type m)) m.types r (all-left Q (simple_tokens r.low) _ w.1) (all-right Q (simple_tokens r.low) _ w.1).1)
    constraint-same (Err f) r w = refl

    constrained-same : (at : TextPlace) (m : Judged SubtypeView) (o : Option RangeTree) → All Q (g.maybe range_tokens o) → constrained_at t S at m o ≡ constrained_at s S at m o
    constrained-same at m None w = refl
    constrained-same at m (Some r) w = ap (indication at m) (constraint-same m r w)

    pub indication-same : (i : SubtypeIndicationTree) → All Q (subtype_indication_tokens i) → indication_at t S unit i ≡ indication_at s S unit i
    indication-same i w =
        ap (λ m. constrained_at t S (place_of i.mark.first) (completed unit (place_of i.mark.first) m) i.constraint) (mark-same Q t s S (denote p k) placed-ok (name_text i.mark) (name-text-ok Q i.mark (all-left Q (compound_tokens i.mark) _ w)))
        ∙ constrained-same (place_of i.mark.first) (completed unit (place_of i.mark.first) (mark_at s p packages (name_text i.mark))) i.constraint (all-right Q (compound_tokens i.mark) _ w)

    pub index-same : (d : DiscreteRangeTree) → All Q (discrete_range_tokens d) → index_at t S unit d ≡ index_at s S unit d
    index-same (ranges.SoleMark x) w = ap (λ j. index_of_mark (first_place x) (completed unit (first_place x) j) None) (range-same Q t s S (denote p k) placed-ok x (placed-ok x w))
    index-same (ranges.Bounds r) w = ap (λ j. next j index_of_pair) (static-pair-same Q t s S (denote p k) placed-ok contexts.PairOfBounds [] r (all-left Q (simple_tokens r.low) _ w) (all-right Q (simple_tokens r.low) _ w).1)
    index-same (ranges.MarkRange x r) w =
        ap (λ m. index_of_marked t S (first_place x) (completed unit (first_place x) m) r) (mark-same Q t s S (denote p k) placed-ok x (placed-ok x (all-left Q (simple_tokens x) _ w)))
        ∙ ap (index_of_mark (first_place x) (completed unit (first_place x) (mark_at s p packages x))) (constraint-same (completed unit (first_place x) (mark_at s p packages x)) r (all-right Q (simple_tokens x) _ w))

  pub parts-same : (predefined : Predefined) (own : Option Symbol) (unit : UnitKey) → SameParts (parts_read t packages predefined own unit) (parts_read s packages predefined own unit) P Q
  unfolding parts_read
  parts-same predefined own unit = record {
    mark = λ p k m w. mark-same Q t s (surrounded packages predefined own p) (denote p k) placed-ok (name_text m) (name-text-ok Q m w);
    indication = λ p k i w. indication-same predefined own unit p k i w;
    index = λ p k d w. index-same predefined own unit p k d w;
    value = λ p k of x w. checked-same Q t s (surrounded packages predefined own p) (denote p k) placed-ok (contexts.InitialValue (mark_type of)) (Some (Rattle.al_overload.specs.Parts.nominal of.types of.subtype)) of.types x w;
    number = λ p k x w. static-checked-same Q t s (surrounded packages predefined own p) (denote p k) placed-ok contexts.NumberValue [] x w;
    bound = λ p k x w. static-checked-same Q t s (surrounded packages predefined own p) (denote p k) placed-ok contexts.IntegerBound [] x (placed-ok x w);
    priority = λ p k x w. static-checked-same Q t s (surrounded packages predefined own p) (denote p k) placed-ok contexts.PriorityValue [] x w;
  }

  -- ---- use clauses

  module _ (look : (p : Place) → P p → (n : CompoundNameTree) → All Q (compound_tokens n) → looked_up_all t p packages (identifier_names n.first n.selectors) ≡ looked_up_all s p packages (identifier_names n.first n.selectors)) (p : Place) (k : P p) where
    opened-same : (b : Bool) (n : CompoundNameTree) → All Q (compound_tokens n) → opened_at t p packages b n ≡ opened_at s p packages b n
    unfolding package_at
    opened-same true n w = ap (λ d. map_ok (type_opened p packages) (Rattle.al_overload_readings.specs.Texts.mark_of_text d (name_text n))) (denote p k (name_text n) (name-text-ok Q n w))
    opened-same false n w = ap (λ l. map_ok package_opened (denoted_package packages (denoted l) n)) (look p k n w)

    from-same : (b : Bool) (done : List UseClause) (ns : List CompoundNameTree) → All (λ (n : CompoundNameTree). All Q (compound_tokens n)) ns → opened_from t p packages b done ns ≡ opened_from s p packages b done ns
    from-same b done [] w = refl
    from-same b done (n ∷ ns) w = next-both _ _ _ _ (opened-same b n w.0) (λ c. from-same b (done ++ c ∷ []) ns w.1)

    others-ok : (ns : List CompoundNameTree) → All Q (g.each (λ m. word symbols.Comma ∷ compound_tokens m) ns) → All (λ (n : CompoundNameTree). All Q (compound_tokens n)) ns
    others-ok [] w = tt
    others-ok (n ∷ ns) w = (all-left Q (compound_tokens n) _ w.1, others-ok ns (all-right Q (compound_tokens n) _ w.1))

    pub uses-same : (u : UseTree) → All Q (use_tokens u) → uses_at t p packages u ≡ uses_at s p packages u
    unfolding uses_at
    uses-same u w =
        let names = all-left Q (compounds_tokens u.names) _ (all-right Q (flag_tokens symbols.«Type» u.of_type) _ w.1) in
        from-same u.of_type [] (all_names u.names) (all-left Q (compound_tokens u.names.first) _ names, others-ok u.names.others (all-right Q (compound_tokens u.names.first) _ names))
