-- Values that have no code.
use Rattle.std.proofs.Common.{◌≡◌, ◌+◌, ◌<◌, ◌≤◌, ℕ, zero, suc, length, get_or, drop, map, add-one, Bool, true, false, ◌&&◌, ◌||◌, List, [], ◌∷◌, ◌++◌, Option, Some, None, refl, sym, ap, subst, ◌∙◌, arith, inl, inr}
use Rattle.std.specs.Prelude.{◌==◌, is_none}
use Rattle.std.proofs.lemmas.Bool.{cases_lt}
use Rattle.std.proofs.lemmas.List.{drop_all}
use Rattle.std.proofs.Math.Seq.{drop-cons}
use Rattle.al_view_typed.specs.ExpressionViews.{value_model, values_of}
use Rattle.al_view_typed.specs.declared.expression.CheckedValue.{CheckedValue}
use Rattle.std.proofs.lemmas.Bool.Decides.{nat_tests}
use Rattle.al_code.proofs.Writing.{written_append, written_none}
use Rattle.al_code.specs.Pieces.{Piece}
use Rattle.al_code.specs.Written.{Buffer, written}
use Rattle.al_code.specs.Codeless.{are_codeless, is_codeless, is_codeless_form, is_codeless_value, keeps_value}
use Rattle.al_code.specs.ExprPieces.{check_code, times}
use Rattle.al_code.specs.Templates.{checked_code, components_code, form_code, static_or, step_code, value_of}
use Rattle.al_view.specs.declared.types.Bounds.{Bounds}
use Rattle.al_view.specs.declared.types.StaticValue.{StaticValue}
use Rattle.al_view_typed.specs.ExpressionTrees.{TypedTree, FormTree, ValueTree, ValuesTree}
use Rattle.al_view_typed.specs.ExpressionTrees.TypedTree.{Labelled}
use Rattle.al_view_typed.specs.ExpressionTrees.ValueTree.{Checked}
use Rattle.al_view_typed.specs.ExpressionTrees.ValuesTree.{NoValue, MoreValues}
use Rattle.al_view_typed.specs.ExpressionTrees.FormTree.{LiteralForm, NamedForm, UnaryForm, BinaryForm, ShortCircuitForm, MembershipForm, ConvertedForm, AggregateForm, OthersForm, CallForm, ClockForm}
use Rattle.al_view_typed.specs.declared.label.Conversion.{Conversion}
use Rattle.al_view_typed.specs.declared.label.Conversion.TheVariants as conversions

-- nothing so many times
pub times_nothing : (n : ℕ) (p : List Piece) → p ≡ [] → times n p ≡ []
times_nothing zero p e = refl
times_nothing (suc n) p e = ap (λ (ps : List Piece). ps ++ p) (times_nothing n p e) ∙ e

-- what passes the limit after some times does so after more
pub times_large : (p : List Piece) (w : Option Buffer) (i n : ℕ) → i ≤ n → written w (times i p) ≡ None → written w (times n p) ≡ None
times_large p w i zero h large = let e : i ≡ 0 = omega (arith, h) in subst (λ (k : ℕ). written w (times k p) ≡ None) e large
times_large p w i (suc n) h large =
    elim (cases_lt i (suc n)) [
      | inl lt ↦ sym (written_append w (times n p) p) ∙ ap (λ (v : Option Buffer). written v p) (times_large p w i n (omega (arith, lt)) large) ∙ written_none p
      | inr le ↦ let e : i ≡ suc n = omega (arith, h, le) in subst (λ (k : ℕ). written w (times k p) ≡ None) e large
    ]

pub none_is : (w : Option Buffer) → is_none w ≡ true → w ≡ None
none_is None h = refl
none_is (Some b) h = absurd (cc)

and_first : (a b : Bool) → (a && b) ≡ true → a ≡ true
and_first true b h = refl
and_first false b h = h

and_second : (a b : Bool) → (a && b) ≡ true → b ≡ true
and_second true b h = h
and_second false b h = absurd (cc)

not_static : (o : Option StaticValue) (code : List Piece) → is_none o ≡ true → static_or o code ≡ code
not_static None code h = refl
not_static (Some v) code h = absurd (cc)

unchecked : (o : Option Bounds) → is_none o ≡ true → check_code o ≡ []
unchecked None h = refl
unchecked (Some b) h = absurd (cc)

no_step : (conversion : Conversion) → keeps_value conversion ≡ true → step_code conversion ≡ []
unfolding step_code
no_step conversions.Succ h = absurd (cc)
no_step conversions.Pred h = absurd (cc)
no_step conversions.ToType h = refl
no_step conversions.Qualification h = refl
no_step conversions.Pos h = refl
no_step conversions.Val h = refl
no_step conversions.Milliseconds h = refl

two_nothing : (a b : List Piece) → a ≡ [] → b ≡ [] → a ++ b ≡ []
two_nothing a b x y = ap (λ (ps : List Piece). ps ++ b) x ∙ y

times_none : (count : ℕ) (p : List Piece) → (count == 0) ≡ true → times count p ≡ []
times_none count p h = let e : count ≡ 0 = grind (arith, nat_tests) in ap (λ (n : ℕ). times n p) e

times_or : (b : Bool) (count : ℕ) (p : List Piece) (codeless : Bool) → (count == 0) ≡ b → (codeless ≡ true → p ≡ []) → (b || codeless) ≡ true → times count p ≡ []
times_or true count p codeless is none h = times_none count p is
times_or false count p codeless is none h = times_nothing count p (none h)

mutual
  pub codeless : (d : ℕ) (t : TypedTree) → is_codeless t ≡ true → value_of d t ≡ []
  codeless d (Labelled labels form) h =
      not_static labels.value (form_code d labels.words form) (and_first (is_none labels.value) (is_codeless_form form) h)
      ∙ codeless_form d labels.words form (and_second (is_none labels.value) (is_codeless_form form) h)

  codeless_form : (d words : ℕ) (f : FormTree) → is_codeless_form f ≡ true → form_code d words f ≡ []
  codeless_form d words (LiteralForm value) h = absurd (cc)
  codeless_form d words (NamedForm name) h = absurd (cc)
  codeless_form d words (UnaryForm operator x) h = absurd (cc)
  codeless_form d words (BinaryForm operator x y) h = absurd (cc)
  codeless_form d words (ShortCircuitForm operator x y) h = absurd (cc)
  codeless_form d words (MembershipForm x is_negated low high word) h = absurd (cc)
  codeless_form d words (ConvertedForm conversion (Checked x bounds)) h =
      let inner = and_second (keeps_value conversion) (is_none bounds && is_codeless x) h in
      two_nothing (value_of d x ++ step_code conversion) (check_code bounds)
      (two_nothing (value_of d x) (step_code conversion) (codeless d x (and_second (is_none bounds) (is_codeless x) inner)) (no_step conversion (and_first (keeps_value conversion) (is_none bounds && is_codeless x) h)))
      (unchecked bounds (and_first (is_none bounds) (is_codeless x) inner))
  codeless_form d words (AggregateForm values) h = codeless_all d values h
  codeless_form d words (OthersForm count x) h = times_or (count == 0) count (checked_code d x) (is_codeless_value x) refl (codeless_checked d x) h
  codeless_form d words (CallForm call) h = absurd (cc)
  codeless_form d words ClockForm h = absurd (cc)

  pub codeless_checked : (d : ℕ) (v : ValueTree) → is_codeless_value v ≡ true → checked_code d v ≡ []
  codeless_checked d (Checked x bounds) h =
      two_nothing (value_of d x) (check_code bounds) (codeless d x (and_second (is_none bounds) (is_codeless x) h)) (unchecked bounds (and_first (is_none bounds) (is_codeless x) h))

  codeless_all : (d : ℕ) (vs : ValuesTree) → are_codeless vs ≡ true → components_code d vs ≡ []
  codeless_all d NoValue h = refl
  codeless_all d (MoreValues v vs) h =
      two_nothing (checked_code d v) (components_code d vs) (codeless_checked d v (and_first (is_codeless_value v) (are_codeless vs) h)) (codeless_all d vs (and_second (is_codeless_value v) (are_codeless vs) h))

-- ---- values one after another

drop_here : {A : Type 0} (xs : List A) (i : ℕ) (x : A) → i < length xs → x ≡ get_or xs i x → drop i xs ≡ x ∷ drop (i + 1) xs
drop_here xs i x within is = drop-cons xs i x within ∙ ap (λ y. y ∷ drop (suc i) xs) (sym is) ∙ ap (λ (k : ℕ). x ∷ drop k xs) (sym (add-one i))

pub one_codeless_more : (vs : List CheckedValue) (i : ℕ) (v : CheckedValue) (whole : Bool) → i < length vs → v ≡ get_or vs i v → is_codeless_value (value_model v) ≡ true
    → are_codeless (values_of (map value_model (drop i vs))) ≡ whole → are_codeless (values_of (map value_model (drop (i + 1) vs))) ≡ whole
one_codeless_more vs i v whole within is codeless known =
    let rest = are_codeless (values_of (map value_model (drop (i + 1) vs))) in
    ap (λ (b : Bool). b && rest) (sym codeless)
    ∙ ap (λ (l : List CheckedValue). are_codeless (values_of (map value_model l))) (sym (drop_here vs i v within is))
    ∙ known

pub one_with_code : (vs : List CheckedValue) (i : ℕ) (v : CheckedValue) (whole : Bool) → i < length vs → v ≡ get_or vs i v → is_codeless_value (value_model v) ≡ false
    → are_codeless (values_of (map value_model (drop i vs))) ≡ whole → false ≡ whole
one_with_code vs i v whole within is coded known =
    let rest = are_codeless (values_of (map value_model (drop (i + 1) vs))) in
    ap (λ (b : Bool). b && rest) (sym coded)
    ∙ ap (λ (l : List CheckedValue). are_codeless (values_of (map value_model l))) (sym (drop_here vs i v within is))
    ∙ known

pub no_codeless_left : (vs : List CheckedValue) (i : ℕ) (whole : Bool) → length vs ≤ i → are_codeless (values_of (map value_model (drop i vs))) ≡ whole → true ≡ whole
no_codeless_left vs i whole past known = sym (ap (λ (l : List CheckedValue). are_codeless (values_of (map value_model l))) (drop_all i vs past)) ∙ known
