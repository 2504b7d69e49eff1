-- No mark of a line is in the code of a value.
use Rattle.std.proofs.Common.{ℕ, List, ◌++◌, Option, Some, None}
use Rattle.std.specs.Prelude.{pos}
use Rattle.al_view.specs.declared.link.LinkKind.TheVariants as links
use Rattle.al_view.specs.declared.types.Bounds.{Bounds}
use Rattle.al_view.specs.declared.types.StaticValue.{StaticValue}
use Rattle.al_view.specs.declared.view.ObjectPlace.{ObjectPlace}
use Rattle.al_view.specs.declared.view.ObjectPlace.TheVariants as places
use Rattle.al_view_typed.specs.declared.label.BinaryOperator.{BinaryOperator}
use Rattle.al_view_typed.specs.declared.label.BinaryOperator.TheVariants as source
use Rattle.al_view_typed.specs.declared.label.Conversion.{Conversion}
use Rattle.al_view_typed.specs.declared.label.Conversion.TheVariants as conversions
use Rattle.al_view_typed.specs.declared.label.UnaryOperator.{UnaryOperator}
use Rattle.al_view_typed.specs.declared.label.UnaryOperator.TheVariants as unary
use Rattle.al_view_typed.specs.declared.label.ShortCircuit.{ShortCircuit}
use Rattle.al_view_typed.specs.declared.label.ShortCircuit.TheVariants as short
use Rattle.al_view_typed.specs.ExpressionTrees.{TypedTree, FormTree, NameTree, ValueTree}
use Rattle.al_view_typed.specs.ExpressionTrees.TypedTree.{Labelled}
use Rattle.al_view_typed.specs.ExpressionTrees.FormTree.{LiteralForm, NamedForm, UnaryForm, BinaryForm, ShortCircuitForm, MembershipForm, ConvertedForm, AggregateForm, OthersForm, CallForm, ClockForm}
use Rattle.al_view_typed.specs.ExpressionTrees.NameTree.{ObjectName, ComponentName, IndexedName}
use Rattle.al_view_typed.specs.ExpressionTrees.ValueTree.{Checked}
use Rattle.al_instr.specs.declared.numbers.Sized.TheVariants as sized
use Rattle.al_code.specs.Pieces.{Piece}
use Rattle.al_code.specs.ExprPieces.{of_size, number, check_code, place_code}
use Rattle.al_code.specs.Templates.{index_code, value_of, form_code, address_of, checked_code, converted_code, unary_code, binary_code, step_code, short_code, static_or, words_of}
use Rattle.al_code.specs.declared.piece.Construct.TheVariants as construct
use Rattle.al_code.specs.ExprPieces.{guarded, unless_zero, join}
use Rattle.al_meaning_code.specs.Subset.{IsName, OrStatic, IsIn, IsInForm, IsInValue}
use Rattle.al_meaning_code.proofs.Marked.{HasNoMark, no_mark-append, no_mark-closed}

module _ (V : ObjectPlace → Type 0) (depth : ℕ) where
  pub place_unmarked : (p : ObjectPlace) → HasNoMark (place_code links.Data depth p)
  place_unmarked (places.Frame d w) = tt
  place_unmarked (places.Static s w) = tt

  check_unmarked : (b : Option Bounds) → HasNoMark (check_code b)
  check_unmarked None = tt
  check_unmarked (Some b) = tt

  unary_unmarked : (o : UnaryOperator) → HasNoMark (unary_code o)
  unary_unmarked unary.Plus = tt
  unary_unmarked _ = tt

  binary_unmarked : (o : BinaryOperator) (w : ℕ) → HasNoMark (binary_code o w)
  binary_unmarked source.SameWords w = tt
  binary_unmarked source.OtherWords w = tt
  binary_unmarked _ w = tt

  step_unmarked : (c : Conversion) → HasNoMark (step_code c)
  unfolding step_code
  step_unmarked conversions.Succ = tt
  step_unmarked conversions.Pred = tt
  step_unmarked _ = tt

  guarded_unmarked : (p : List Piece) → HasNoMark p → HasNoMark (guarded p)
  unfolding guarded
  guarded_unmarked p h = no_mark-closed construct.Test (unless_zero ++ p) h

  short_unmarked : (o : ShortCircuit) (right : List Piece) → HasNoMark right → HasNoMark (short_code o right)
  unfolding short_code
  short_unmarked short.AndThen right h = no_mark-closed construct.Choice (guarded (right ++ join) ++ number (pos 0)) (no_mark-append (guarded (right ++ join)) (number (pos 0)) (guarded_unmarked (right ++ join) (no_mark-append right join h tt)) tt)
  short_unmarked short.OrElse right h = no_mark-closed construct.Choice (guarded (number (pos 1) ++ join) ++ right) (no_mark-append (guarded (number (pos 1) ++ join)) right (guarded_unmarked (number (pos 1) ++ join) tt) h)

  static_unmarked : (v : Option StaticValue) (c : List Piece) (P : Type 0) → OrStatic v P → (P → HasNoMark c) → HasNoMark (static_or v c)
  static_unmarked (Some v) c P h g = tt
  static_unmarked None c P h g = g h

  mutual
    pub value_unmarked : (t : TypedTree) → IsIn V t → HasNoMark (value_of depth t)
    value_unmarked (Labelled labels form) h = static_unmarked labels.value (form_code depth labels.words form) (IsInForm V labels.words form) h (λ k. form_unmarked labels.words form k)

    form_unmarked : (w : ℕ) (form : FormTree) → IsInForm V w form → HasNoMark (form_code depth w form)
    form_unmarked w (LiteralForm v) h = tt
    form_unmarked w (NamedForm name) h = no_mark-append (address_of depth name) (of_size sized.Load w) (address_unmarked name h.0) tt
    form_unmarked w (UnaryForm operator x) h = no_mark-append (value_of depth x) (unary_code operator) (value_unmarked x h) (unary_unmarked operator)
    form_unmarked w (BinaryForm operator x y) h = no_mark-append (value_of depth x ++ value_of depth y) (binary_code operator (words_of x)) (no_mark-append (value_of depth x) (value_of depth y) (value_unmarked x h.1) (value_unmarked y h.2)) (binary_unmarked operator (words_of x))
    form_unmarked w (ShortCircuitForm operator x y) h = no_mark-append (value_of depth x) (short_code operator (value_of depth y)) (value_unmarked x h.0) (short_unmarked operator (value_of depth y) (value_unmarked y h.1))
    form_unmarked w (ConvertedForm conversion x) h = converted_unmarked conversion x h
    form_unmarked w (MembershipForm x is_negated low high word) h = absurd h
    form_unmarked w (AggregateForm values) h = absurd h
    form_unmarked w (OthersForm count x) h = absurd h
    form_unmarked w (CallForm call) h = absurd h
    form_unmarked w ClockForm h = absurd h

    pub address_unmarked : (name : NameTree) → IsName V name → HasNoMark (address_of depth name)
    address_unmarked (ObjectName p is_constant) h = place_unmarked p
    address_unmarked (ComponentName whole_ offset) h = no_mark-append (address_of depth whole_) (of_size sized.Field offset) (address_unmarked whole_ h.0) tt
    address_unmarked (IndexedName array index b words) h = no_mark-append (address_of depth array ++ value_of depth index) (index_code b words) (no_mark-append (address_of depth array) (value_of depth index) (address_unmarked array h.0) (value_unmarked index h.1)) tt

    converted_unmarked : (c : Conversion) (x : ValueTree) → IsInValue V x → HasNoMark (converted_code depth c x)
    converted_unmarked c (Checked x bounds) h = no_mark-append (value_of depth x ++ step_code c) (check_code bounds) (no_mark-append (value_of depth x) (step_code c) (value_unmarked x h) (step_unmarked c)) (check_unmarked bounds)

  pub checked_unmarked : (x : ValueTree) → IsInValue V x → HasNoMark (checked_code depth x)
  checked_unmarked (Checked x bounds) h = no_mark-append (value_of depth x) (check_code bounds) (value_unmarked x h) (check_unmarked bounds)
