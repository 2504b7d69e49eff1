-- What comes before the statements inside a statement, read by read.
use Rattle.std.proofs.Common.{◌≡◌, ℕ, Bool, Result, Ok, Err, refl, ap, sym, ◌∙◌}
use Rattle.std.specs.Prelude.{is_ok}
use Rattle.al_base.specs.declared.place.Place.{Place}
use Rattle.al_tree_grammar.specs.Grammar.{Label}
use Rattle.al_base_fault.specs.Judging.{map_ok}
use Rattle.al_base_fault.specs.declared.fault.Fault.{Fault}
use Rattle.al_stmts.specs.Cases.{selected}
use Rattle.al_stmts.specs.LoopForms.{RangeTree, for_scheme}
use Rattle.al_stmts.specs.declared.choices.CaseChoices.{CaseChoices}
use Rattle.al_stmts.specs.declared.loops.LoopWords.{LoopWords}
use Rattle.al_tree_syntax.specs.DeclarationTrees.{DiscreteRangeTree}
use Rattle.al_tree_syntax.specs.ExpressionTrees.{ExpressionTree}
use Rattle.al_tree_syntax.specs.StatementTrees.{AlternativeTree, AlternativesTree}
use Rattle.al_view_typed.specs.ExpressionTrees.{TypedTree}
use Rattle.al_view_typed.specs.StatementTrees.{SchemeTree}
use Rattle.al_stmts.specs.Readings.{Reading, giving}
use Rattle.al_stmts.specs.Steps.{Choosing, choosing}
use Rattle.al_stmts.specs.Walking.{all_choices, case_after, case_head, for_head, loop_words, parameter_declared, right_choices}
use Rattle.al_stmts_text.proofs.Read.{goes_on}
use Rattle.al_stmts_text.specs.Chosen.{chosen_right}

abbrev pub both : CaseChoices → Bool → CaseChoices × Bool
both choices right = (choices, right)

is_ok_model : {A B : Type 0} (see : A → B) (r : Result A Fault) → is_ok r ≡ is_ok (map_ok see r)
is_ok_model see (Ok a) = refl
is_ok_model see (Err f) = refl

pub choices_right : {H A : Type 0} (R : Reading H) (e : ExpressionTree) (h read after : H) (see : A → TypedTree) (checked : Result A Fault) (is_right : Bool) (choices : CaseChoices) (right : Bool) (first : AlternativeTree) (more : AlternativesTree)
    → is_right ≡ is_ok checked
    → giving read choices ≡ giving h (all_choices R h e is_right first more)
    → giving after right ≡ giving read (right_choices R read e (map_ok see checked) choices)
    → giving after (both choices right) ≡ giving h (chosen_right R h e (map_ok see checked) first more)
choices_right {H} R e h read after see checked is_right choices right first more right_is choices_are right_are =
    let s = map_ok see checked in
    goes_on (λ (k : H) (b : Bool). giving k (both choices b)) after right (giving read (right_choices R read e s choices)) right_are
    ∙ goes_on (λ (k : H) (cs : CaseChoices). giving k (both cs (right_choices R k e s cs))) read choices (giving h (all_choices R h e is_right first more)) choices_are
    ∙ ap (λ (b : Bool). giving h (both (all_choices R h e b first more) (right_choices R h e s (all_choices R h e b first more)))) (right_is ∙ is_ok_model see checked)

pub case_checked : {H : Type 0} (R : Reading H) (place : Place) (slot : ℕ) (e : ExpressionTree) (h after : H) (s : Result TypedTree Fault) (made : CaseChoices × Bool) (done : Choosing) (first : AlternativeTree) (more : AlternativesTree)
    → giving after made ≡ giving h (chosen_right R h e s first more)
    → done ≡ choosing slot (selected place s made.0.fault made.1) made.0.alternatives
    → giving after done ≡ case_after R h place slot e s first more
case_checked {H} R place slot e h after s made done first more made_is done_is =
    ap (λ (d : Choosing). giving after d) done_is
    ∙ goes_on (λ (k : H) (p : CaseChoices × Bool). giving k (choosing slot (selected place s p.0.fault p.1) p.0.alternatives)) after made (giving h (chosen_right R h e s first more)) made_is

pub case_headed : {H : Type 0} (R : Reading H) (place : Place) (e : ExpressionTree) (h seen taken read : H) (slot : ℕ) (checked : Result TypedTree Fault) (done : H × Choosing) (first : AlternativeTree) (more : AlternativesTree)
    → giving seen slot ≡ giving h (R.word h)
    → taken ≡ R.with_word seen
    → giving read checked ≡ R.selector taken e
    → done ≡ case_after R read place slot e checked first more
    → done ≡ case_head R h place e first more
case_headed {H} R place e h seen taken read slot checked done first more word with selector is =
    is
    ∙ goes_on (λ (k : H) (j : Result TypedTree Fault). case_after R k place slot e j first more) read checked (R.selector taken e) selector
    ∙ ap (λ (k : H). case_after R (R.selector k e).0 place slot e (R.selector k e).1 first more) with
    ∙ goes_on (λ (k : H) (w : ℕ). case_after R (R.selector (R.with_word k) e).0 place w e (R.selector (R.with_word k) e).1 first more) seen slot (giving h (R.word h)) word

pub words_taken : {H : Type 0} (R : Reading H) (h seen taken seen_next after : H) (parameter last : ℕ)
    → giving seen parameter ≡ giving h (R.word h)
    → taken ≡ R.with_word seen
    → giving seen_next last ≡ giving taken (R.word taken)
    → after ≡ R.with_word seen_next
    → giving after (record { parameter = parameter; last = last }) ≡ (giving (R.with_word (R.with_word h)) (loop_words R h))
words_taken {H} R h seen taken seen_next after parameter last one with next with_next =
    let words : ℕ → ℕ → LoopWords = λ p l. record { parameter = p; last = l } in
    ap (λ (k : H). giving k (words parameter last)) with_next
    ∙ goes_on (λ (k : H) (l : ℕ). giving (R.with_word k) (words parameter l)) seen_next last (giving taken (R.word taken)) next
    ∙ ap (λ (k : H). giving (R.with_word k) (words parameter (R.word k))) with
    ∙ goes_on (λ (k : H) (p : ℕ). giving (R.with_word (R.with_word k)) (words p (R.word (R.with_word k)))) seen parameter (giving h (R.word h)) one

abbrev right : SchemeTree → Result SchemeTree Fault
right s = Ok s

pub parameter_made : {H : Type 0} (R : Reading H) (i : Label) (is_reverse : Bool) (words : LoopWords) (h after : H) (range : RangeTree) (scheme : SchemeTree)
    → after ≡ R.with_parameter h i range words
    → scheme ≡ for_scheme is_reverse range words
    → giving after (Ok scheme) ≡ parameter_declared R h i is_reverse words (Ok range)
parameter_made {H} R i is_reverse words h after range scheme is scheme_is =
    ap (λ (k : H). giving k (right scheme)) is ∙ ap (λ (s : SchemeTree). giving (R.with_parameter h i range words) (right s)) scheme_is

pub for_headed : {H : Type 0} (R : Reading H) (i : Label) (is_reverse : Bool) (d : DiscreteRangeTree) (h taken entered read : H) (words : LoopWords) (range : Result RangeTree Fault) (done : H × Result SchemeTree Fault)
    → giving taken words ≡ giving (R.with_word (R.with_word h)) (loop_words R h)
    → entered ≡ R.loop_entered taken i
    → giving read range ≡ R.loop_range entered d
    → done ≡ parameter_declared R read i is_reverse words range
    → done ≡ for_head R h i is_reverse d
for_headed {H} R i is_reverse d h taken entered read words range done words_are entered_is range_is is =
    is
    ∙ goes_on (λ (k : H) (r : Result RangeTree Fault). parameter_declared R k i is_reverse words r) read range (R.loop_range entered d) range_is
    ∙ ap (λ (k : H). parameter_declared R (R.loop_range k d).0 i is_reverse words (R.loop_range k d).1) entered_is
    ∙ goes_on (λ (k : H) (w : LoopWords). parameter_declared R (R.loop_range (R.loop_entered k i) d).0 i is_reverse w (R.loop_range (R.loop_entered k i) d).1) taken words (giving (R.with_word (R.with_word h)) (loop_words R h)) words_are
