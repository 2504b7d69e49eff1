-- What follows from a result, and from the words of what was read.
use Rattle.std.proofs.Common.{◌≡◌, ℕ, IfOk, Result, Ok, Err, ap, ◌∙◌, rules}
use Rattle.al_base_fault.specs.declared.fault.Fault.{Fault}
use Rattle.al_overload_nodes.specs.Ranges.{FoundTree}
use Rattle.al_base_fault.specs.Judging.{map_ok}
use Rattle.al_stmts_ranges.specs.LoopsAt.{FoundRangeTree}
use Rattle.al_stmts.specs.LoopForms.{RangeTree}
use Rattle.al_view_typed.specs.ExpressionTrees.{TypedTree}
use Rattle.al_overload_values.specs.Words.{Worded}
use Rattle.al_check_here.specs.Standings.{at_word}
use Rattle.al_check_here.specs.declared.state.CheckState.{CheckState}
use Rattle.al_check_reading.specs.ValuesHere.{range_found, range_read, selector_read, value_found, with_range, worded}

pub if_ok : {A E : Type 0} (r : Result A E) (P Q : A → Type 0) → ((a : A) → P a → Q a) → IfOk r P → IfOk r Q
if_ok (Ok a) P Q f h = f a h
if_ok (Err e) P Q f h = search rules

pub worded-is : {A : Type 0} (h new : CheckState) (word : ℕ) (seen : Result A Fault) (w : Worded A) → new ≡ at_word h word → (word, seen) ≡ w → (new, seen) ≡ worded h w
worded-is {A} h new word seen w a b = ap (λ (s : CheckState). (s, seen)) a ∙ ap (λ (x : Worded A). worded h x) b

pub selector-is : (h new : CheckState) (word : ℕ) (seen : Result FoundTree Fault) (value : Result TypedTree Fault) (w : Worded FoundTree)
    → new ≡ at_word h word → value ≡ map_ok value_found seen → (word, seen) ≡ w → (new, value) ≡ selector_read h w
selector-is h new word seen value w a v b =
    ap (λ (s : CheckState). (s, value)) a ∙ ap (λ (x : Result TypedTree Fault). (at_word h word, x)) v ∙ ap (selector_read h) b

pub range-is : (h kept new : CheckState) (word : ℕ) (seen : Result FoundRangeTree Fault) (value : Result RangeTree Fault) (w : Worded FoundRangeTree)
    → kept ≡ at_word h word → new ≡ with_range kept seen → value ≡ map_ok range_found seen → (word, seen) ≡ w → (new, value) ≡ range_read h w
range-is h kept new word seen value w a n v b =
    ap (λ (s : CheckState). (s, value)) (n ∙ ap (λ (s : CheckState). with_range s seen) a)
    ∙ ap (λ (x : Result RangeTree Fault). (with_range (at_word h word) seen, x)) v ∙ ap (range_read h) b
