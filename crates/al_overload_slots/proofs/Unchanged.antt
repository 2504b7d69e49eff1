-- What has no temporaries takes no words, and stays as it is.
use Rattle.std.proofs.Common.{◌≡◌, ◌+◌, ◌<◌, ◌≤◌, ℕ, suc, length, get_or, drop, map, add-one, Bool, true, false, ◌||◌, List, ◌∷◌, Option, Some, None, Box, Global, refl, sym, ap, ◌∙◌}
use Rattle.std.proofs.lemmas.List.{drop_all}
use Rattle.std.proofs.Math.Seq.{drop-cons}
use Rattle.al_view.specs.declared.types.Bounds.{Bounds}
use Rattle.al_view.specs.declared.types.StaticValue.{StaticValue}
use Rattle.al_view_typed.specs.ExpressionTrees.{TypedTree, FormTree, NameTree, ValueTree, ValuesTree, ActualTree, ActualsTree, CallTree}
use Rattle.al_view_typed.specs.ExpressionTrees.TypedTree.{Labelled}
use Rattle.al_view_typed.specs.ExpressionTrees.FormTree.{LiteralForm, NamedForm, UnaryForm, BinaryForm, ShortCircuitForm, MembershipForm, ConvertedForm, AggregateForm, OthersForm, CallForm, ClockForm}
use Rattle.al_view_typed.specs.ExpressionTrees.NameTree.{ObjectName, ComponentName, IndexedName}
use Rattle.al_view_typed.specs.ExpressionTrees.ValueTree.{Checked}
use Rattle.al_view_typed.specs.ExpressionTrees.ValuesTree.{NoValue, MoreValues}
use Rattle.al_view_typed.specs.ExpressionTrees.ActualTree.{InActual, VariableActual}
use Rattle.al_view_typed.specs.ExpressionTrees.ActualsTree.{NoActual, MoreActuals}
use Rattle.al_view_typed.specs.ExpressionTrees.CallTree.{Called}
use Rattle.al_view_typed.specs.ExpressionViews.{actual_model, actuals_of, name_model, typed_model, value_model, values_of}
use Rattle.al_view_typed.specs.declared.expression.Actual.{Actual}
use Rattle.al_view_typed.specs.declared.expression.CheckedValue.{CheckedValue}
use Rattle.al_view_typed.specs.declared.expression.Typed.{Typed}
use Rattle.al_view_typed.specs.declared.expression.TypedName.{TypedName}
use Rattle.al_view_typed.specs.declared.expression.TypedName.TheVariants.{Component, Indexed}
use Rattle.al_view_typed.proofs.ExpressionsMade.{component_made, indexed_made}
use Rattle.al_overload_slots.specs.Slots.{after, form_after, name_after, value_after, values_after, actual_after, actuals_after, call_after, numbered, form_numbered, name_numbered, value_numbered, values_numbered, actual_numbered, actuals_numbered, call_numbered, unless_static}
use Rattle.al_overload_slots.specs.Temporaries.{actual_takes, actuals_take, call_takes, form_takes, name_takes, takes, unless_value, value_takes, values_take}

first_not : (a b : Bool) → (a || b) ≡ false → a ≡ false
first_not true b h = h
first_not false b h = refl

second_not : (a b : Bool) → (a || b) ≡ false → b ≡ false
second_not true b h = absurd (cc)
second_not false b h = h

static_stays : (value : Option StaticValue) (word : ℕ) (form : FormTree) → (form_takes form ≡ false → (form_after word form ≡ word) × (form_numbered word form ≡ form)) → unless_value value (form_takes form) ≡ false
    → (unless_static value word (form_after word form) ≡ word) × (unless_static value form (form_numbered word form) ≡ form)
static_stays (Some value) word form stays h = (refl, refl)
static_stays None word form stays h = stays h

mutual
  pub stays : (word : ℕ) (t : TypedTree) → takes t ≡ false → (after word t ≡ word) × (numbered word t ≡ t)
  stays word (Labelled labels form) h =
      let s = static_stays labels.value word form (form_stays word form) h in (s.0, ap (Labelled labels) s.1)

  form_stays : (word : ℕ) (f : FormTree) → form_takes f ≡ false → (form_after word f ≡ word) × (form_numbered word f ≡ f)
  form_stays word (LiteralForm value) h = (refl, refl)
  form_stays word (NamedForm name) h = let s = name_stays word name h in (s.0, ap NamedForm s.1)
  form_stays word (UnaryForm operator operand) h = let s = stays word operand h in (s.0, ap (UnaryForm operator) s.1)
  form_stays word (BinaryForm operator left right) h =
      let l = stays word left (second_not (takes right) (takes left) h) in
      let r = stays word right (first_not (takes right) (takes left) h) in (
        ap (λ (w : ℕ). after w right) l.0 ∙ r.0,
        ap (λ (x : TypedTree). BinaryForm operator x (numbered (after word left) right)) l.1 ∙ ap (λ (w : ℕ). BinaryForm operator left (numbered w right)) l.0 ∙ ap (BinaryForm operator left) r.1,
      )
  form_stays word (ShortCircuitForm operator left right) h =
      let l = stays word left (second_not (takes right) (takes left) h) in
      let r = stays word right (first_not (takes right) (takes left) h) in (
        ap (λ (w : ℕ). after w right) l.0 ∙ r.0,
        ap (λ (x : TypedTree). ShortCircuitForm operator x (numbered (after word left) right)) l.1 ∙ ap (λ (w : ℕ). ShortCircuitForm operator left (numbered w right)) l.0 ∙ ap (ShortCircuitForm operator left) r.1,
      )
  form_stays word (MembershipForm value is_negated low high slot) h = absurd (cc)
  form_stays word (ConvertedForm conversion value) h = let s = value_stays word value h in (s.0, ap (ConvertedForm conversion) s.1)
  form_stays word (AggregateForm values) h = let s = values_stay word values h in (s.0, ap AggregateForm s.1)
  form_stays word (OthersForm count value) h = let s = value_stays word value h in (s.0, ap (OthersForm count) s.1)
  form_stays word (CallForm call) h = let s = call_stays word call h in (s.0, ap CallForm s.1)
  form_stays word ClockForm h = (refl, refl)

  name_stays : (word : ℕ) (n : NameTree) → name_takes n ≡ false → (name_after word n ≡ word) × (name_numbered word n ≡ n)
  name_stays word (ObjectName place is_constant) h = (refl, refl)
  name_stays word (ComponentName whole offset) h = let s = name_stays word whole h in (s.0, ap (λ (x : NameTree). ComponentName x offset) s.1)
  name_stays word (IndexedName array index bounds words) h =
      let a = name_stays word array (second_not (takes index) (name_takes array) h) in
      let i = stays word index (first_not (takes index) (name_takes array) h) in (
        ap (λ (w : ℕ). after w index) a.0 ∙ i.0,
        ap (λ (x : NameTree). IndexedName x (numbered (name_after word array) index) bounds words) a.1 ∙ ap (λ (w : ℕ). IndexedName array (numbered w index) bounds words) a.0 ∙ ap (λ (x : TypedTree). IndexedName array x bounds words) i.1,
      )

  value_stays : (word : ℕ) (v : ValueTree) → value_takes v ≡ false → (value_after word v ≡ word) × (value_numbered word v ≡ v)
  value_stays word (Checked value bounds) h = let s = stays word value h in (s.0, ap (λ (x : TypedTree). Checked x bounds) s.1)

  values_stay : (word : ℕ) (vs : ValuesTree) → values_take vs ≡ false → (values_after word vs ≡ word) × (values_numbered word vs ≡ vs)
  values_stay word NoValue h = (refl, refl)
  values_stay word (MoreValues value more) h =
      let v = value_stays word value (first_not (value_takes value) (values_take more) h) in
      let m = values_stay word more (second_not (value_takes value) (values_take more) h) in (
        ap (λ (w : ℕ). values_after w more) v.0 ∙ m.0,
        ap (λ (x : ValueTree). MoreValues x (values_numbered (value_after word value) more)) v.1 ∙ ap (λ (w : ℕ). MoreValues value (values_numbered w more)) v.0 ∙ ap (MoreValues value) m.1,
      )

  actual_stays : (word : ℕ) (a : ActualTree) → actual_takes a ≡ false → (actual_after word a ≡ word) × (actual_numbered word a ≡ a)
  actual_stays word (InActual value) h = let s = value_stays word value h in (s.0, ap InActual s.1)
  actual_stays word (VariableActual name words mode formal actual slot) h = absurd (cc)

  actuals_stay : (word : ℕ) (as_ : ActualsTree) → actuals_take as_ ≡ false → (actuals_after word as_ ≡ word) × (actuals_numbered word as_ ≡ as_)
  actuals_stay word NoActual h = (refl, refl)
  actuals_stay word (MoreActuals actual more) h =
      let v = actual_stays word actual (first_not (actual_takes actual) (actuals_take more) h) in
      let m = actuals_stay word more (second_not (actual_takes actual) (actuals_take more) h) in (
        ap (λ (w : ℕ). actuals_after w more) v.0 ∙ m.0,
        ap (λ (x : ActualTree). MoreActuals x (actuals_numbered (actual_after word actual) more)) v.1 ∙ ap (λ (w : ℕ). MoreActuals actual (actuals_numbered w more)) v.0 ∙ ap (MoreActuals actual) m.1,
      )

  call_stays : (word : ℕ) (c : CallTree) → call_takes c ≡ false → (call_after word c ≡ word) × (call_numbered word c ≡ c)
  call_stays word (Called callee flag words actuals) h = let s = actuals_stay word actuals h in (s.0, ap (Called callee flag words) s.1)

-- ---- values and actuals one after another

drop_here : {A : Type 0} (xs : List A) (i : ℕ) (x : A) → i < length xs → x ≡ get_or xs i x → drop i xs ≡ x ∷ drop (i + 1) xs
drop_here xs i x within is = drop-cons xs i x within ∙ ap (λ y. y ∷ drop (suc i) xs) (sym is) ∙ ap (λ (k : ℕ). x ∷ drop k xs) (sym (add-one i))

abbrev pub left_values : List CheckedValue → Bool
left_values vs = values_take (values_of (map value_model vs))

abbrev pub left_actuals : List Actual → Bool
left_actuals as_ = actuals_take (actuals_of (map actual_model as_))

pub value_passed : (vs : List CheckedValue) (i : ℕ) (v : CheckedValue) (b whole : Bool) → i < length vs → v ≡ get_or vs i v → value_takes (value_model v) ≡ b → left_values (drop i vs) ≡ whole → (b || left_values (drop (i + 1) vs)) ≡ whole
value_passed vs i v b whole within is taken known =
    ap (λ (c : Bool). c || left_values (drop (i + 1) vs)) (sym taken) ∙ ap left_values (sym (drop_here vs i v within is)) ∙ known

pub no_value_left : (vs : List CheckedValue) (i : ℕ) (whole : Bool) → length vs ≤ i → left_values (drop i vs) ≡ whole → false ≡ whole
no_value_left vs i whole past known = sym (ap left_values (drop_all i vs past)) ∙ known

pub actual_passed : (as_ : List Actual) (i : ℕ) (a : Actual) (b whole : Bool) → i < length as_ → a ≡ get_or as_ i a → actual_takes (actual_model a) ≡ b → left_actuals (drop i as_) ≡ whole → (b || left_actuals (drop (i + 1) as_)) ≡ whole
actual_passed as_ i a b whole within is taken known =
    ap (λ (c : Bool). c || left_actuals (drop (i + 1) as_)) (sym taken) ∙ ap left_actuals (sym (drop_here as_ i a within is)) ∙ known

pub no_actual_left : (as_ : List Actual) (i : ℕ) (whole : Bool) → length as_ ≤ i → left_actuals (drop i as_) ≡ whole → false ≡ whole
no_actual_left as_ i whole past known = sym (ap left_actuals (drop_all i as_ past)) ∙ known

-- ---- down the prefixes of a name

first_is_not : (a b : Bool) → a ≡ false → (a || b) ≡ b
first_is_not a b h = ap (λ (c : Bool). c || b) h

pub component_takes : (rest part : TypedName) (whole : Box TypedName Global) (offset : ℕ) → rest ≡ Component whole offset → part ≡ whole.value → name_takes (name_model part) ≡ name_takes (name_model rest)
component_takes rest part whole offset is same =
    ap (λ (n : TypedName). name_takes (name_model n)) same ∙ sym (ap (λ (n : TypedName). name_takes (name_model n)) is ∙ ap name_takes (component_made whole offset))

pub indexed_takes : (rest part : TypedName) (array : Box TypedName Global) (index : Box Typed Global) (bounds : Bounds) (words : ℕ) → rest ≡ Indexed array index bounds words → part ≡ array.value
    → takes (typed_model index.value) ≡ false → name_takes (name_model part) ≡ name_takes (name_model rest)
indexed_takes rest part array index bounds words is same not =
    ap (λ (n : TypedName). name_takes (name_model n)) same
    ∙ sym (ap (λ (n : TypedName). name_takes (name_model n)) is ∙ ap name_takes (indexed_made array index bounds words) ∙ first_is_not (takes (typed_model index.value)) (name_takes (name_model array.value)) not)
