-- What a term that was just made is seen as.
use Rattle.std.proofs.Common.{◌≡◌, ℕ, Bool, List, map, sym, ap, ◌∙◌, Vec, Box, Global}
use Rattle.al_base.specs.declared.place.Place.{Place}
use Rattle.al_overload.specs.Terms.{TermTree, TermTree as terms}
use Rattle.al_overload.specs.TermViews.{term_layer, term_model, terms_of}
use Rattle.al_overload.specs.declared.heads_term.Term.{Term}
use Rattle.al_overload.specs.declared.heads_term.Term.TheOpen as layer
use Rattle.al_overload.specs.declared.heads_term.Term.TheFolds.{fold-roll-Term}
use Rattle.al_overload.specs.declared.heads_term.Term.TheVariants.{Number, Text, Named, Selected, Applied, Bound, Length, Conversion, Qualified, Attribute, Image, Prefixed, Infix, Concatenation, ShortCircuit, Member, RangeMember, Group, Aggregate, Others, Nothing, rolls-Number, rolls-Text, rolls-Named, rolls-Selected, rolls-Applied, rolls-Bound, rolls-Length, rolls-Conversion, rolls-Qualified, rolls-Attribute, rolls-Image, rolls-Prefixed, rolls-Infix, rolls-Concatenation, rolls-ShortCircuit, rolls-Member, rolls-RangeMember, rolls-Group, rolls-Aggregate, rolls-Others, rolls-Nothing}
use Rattle.al_view_typed.specs.declared.label.BinaryOperator.{BinaryOperator}
use Rattle.al_view_typed.specs.declared.label.Conversion.{Conversion as ConversionKind}
use Rattle.al_view_typed.specs.declared.label.ShortCircuit.{ShortCircuit as ShortCircuitForm}
use Rattle.al_view_typed.specs.declared.label.UnaryOperator.{UnaryOperator}
use Rattle.al_view.specs.declared.types.Bounds.{Bounds}
use Rattle.al_view.specs.declared.types.StaticValue.{StaticValue}
use Rattle.al_view.specs.declared.view.SubtypeView.{SubtypeView}
use Rattle.al_view.specs.declared.view.ViewKind.{ViewKind}

pub number_made : (place : Place) (value : StaticValue) → term_model (Number place value) ≡ terms.NumberTerm place value
unfolding term_model
number_made place value = ap term_model (sym (rolls-Number place value)) ∙ fold-roll-Term TermTree term_layer (layer.Number place value)

pub text_made : (place : Place) (bytes : Vec ℕ Global) → term_model (Text place bytes) ≡ terms.TextTerm place bytes.items
unfolding term_model
text_made place bytes = ap term_model (sym (rolls-Text place bytes)) ∙ fold-roll-Term TermTree term_layer (layer.Text place bytes)

pub named_made : (place : Place) (views : List ViewKind) → term_model (Named place views) ≡ terms.NamedTerm place views
unfolding term_model
named_made place views = ap term_model (sym (rolls-Named place views)) ∙ fold-roll-Term TermTree term_layer (layer.Named place views)

pub selected_made : (prefix : Box Term Global) (name : List ℕ) → term_model (Selected prefix name) ≡ terms.SelectedTerm (term_model prefix.value) name
unfolding term_model
selected_made prefix name = ap term_model (sym (rolls-Selected prefix name)) ∙ fold-roll-Term TermTree term_layer (layer.Selected prefix name)

pub applied_made : (name : Box Term Global) (arguments : Vec Term Global) → term_model (Applied name arguments) ≡ terms.AppliedTerm (term_model name.value) (terms_of (map term_model arguments.items))
unfolding term_model
applied_made name arguments = ap term_model (sym (rolls-Applied name arguments)) ∙ fold-roll-Term TermTree term_layer (layer.Applied name arguments)

pub bound_made : (place : Place) (subtype : SubtypeView) (is_last : Bool) → term_model (Bound place subtype is_last) ≡ terms.BoundTerm place subtype is_last
unfolding term_model
bound_made place subtype is_last = ap term_model (sym (rolls-Bound place subtype is_last)) ∙ fold-roll-Term TermTree term_layer (layer.Bound place subtype is_last)

pub length_made : (place : Place) (bounds : Bounds) → term_model (Length place bounds) ≡ terms.LengthTerm place bounds
unfolding term_model
length_made place bounds = ap term_model (sym (rolls-Length place bounds)) ∙ fold-roll-Term TermTree term_layer (layer.Length place bounds)

pub conversion_made : (place : Place) (subtype : SubtypeView) (operand : Box Term Global) → term_model (Conversion place subtype operand) ≡ terms.ConversionTerm place subtype (term_model operand.value)
unfolding term_model
conversion_made place subtype operand = ap term_model (sym (rolls-Conversion place subtype operand)) ∙ fold-roll-Term TermTree term_layer (layer.Conversion place subtype operand)

pub qualified_made : (place : Place) (subtype : SubtypeView) (operand : Box Term Global) → term_model (Qualified place subtype operand) ≡ terms.QualifiedTerm place subtype (term_model operand.value)
unfolding term_model
qualified_made place subtype operand = ap term_model (sym (rolls-Qualified place subtype operand)) ∙ fold-roll-Term TermTree term_layer (layer.Qualified place subtype operand)

pub attribute_made : (place : Place) (conversion : ConversionKind) (subtype : SubtypeView) (argument : Box Term Global) → term_model (Attribute place conversion subtype argument) ≡ terms.AttributeTerm place conversion subtype (term_model argument.value)
unfolding term_model
attribute_made place conversion subtype argument = ap term_model (sym (rolls-Attribute place conversion subtype argument)) ∙ fold-roll-Term TermTree term_layer (layer.Attribute place conversion subtype argument)

pub image_made : (place : Place) (subtype : SubtypeView) (argument : Box Term Global) → term_model (Image place subtype argument) ≡ terms.ImageTerm place subtype (term_model argument.value)
unfolding term_model
image_made place subtype argument = ap term_model (sym (rolls-Image place subtype argument)) ∙ fold-roll-Term TermTree term_layer (layer.Image place subtype argument)

pub prefixed_made : (place : Place) (operator : UnaryOperator) (views : List ViewKind) (operand : Box Term Global) → term_model (Prefixed place operator views operand) ≡ terms.PrefixedTerm place operator views (term_model operand.value)
unfolding term_model
prefixed_made place operator views operand = ap term_model (sym (rolls-Prefixed place operator views operand)) ∙ fold-roll-Term TermTree term_layer (layer.Prefixed place operator views operand)

pub infix_made : (operator : BinaryOperator) (views : List ViewKind) (left : Box Term Global) (right : Box Term Global) → term_model (Infix operator views left right) ≡ terms.InfixTerm operator views (term_model left.value) (term_model right.value)
unfolding term_model
infix_made operator views left right = ap term_model (sym (rolls-Infix operator views left right)) ∙ fold-roll-Term TermTree term_layer (layer.Infix operator views left right)

pub concatenation_made : (left : Box Term Global) (right : Box Term Global) → term_model (Concatenation left right) ≡ terms.ConcatenationTerm (term_model left.value) (term_model right.value)
unfolding term_model
concatenation_made left right = ap term_model (sym (rolls-Concatenation left right)) ∙ fold-roll-Term TermTree term_layer (layer.Concatenation left right)

pub short_circuit_made : (form : ShortCircuitForm) (left : Box Term Global) (right : Box Term Global) → term_model (ShortCircuit form left right) ≡ terms.ShortCircuitTerm form (term_model left.value) (term_model right.value)
unfolding term_model
short_circuit_made form left right = ap term_model (sym (rolls-ShortCircuit form left right)) ∙ fold-roll-Term TermTree term_layer (layer.ShortCircuit form left right)

pub member_made : (value : Box Term Global) (is_negated : Bool) (subtype : SubtypeView) → term_model (Member value is_negated subtype) ≡ terms.MemberTerm (term_model value.value) is_negated subtype
unfolding term_model
member_made value is_negated subtype = ap term_model (sym (rolls-Member value is_negated subtype)) ∙ fold-roll-Term TermTree term_layer (layer.Member value is_negated subtype)

pub range_member_made : (value : Box Term Global) (is_negated : Bool) (low : Box Term Global) (high : Box Term Global) → term_model (RangeMember value is_negated low high) ≡ terms.RangeMemberTerm (term_model value.value) is_negated (term_model low.value) (term_model high.value)
unfolding term_model
range_member_made value is_negated low high = ap term_model (sym (rolls-RangeMember value is_negated low high)) ∙ fold-roll-Term TermTree term_layer (layer.RangeMember value is_negated low high)

pub group_made : (place : Place) (inner : Box Term Global) → term_model (Group place inner) ≡ terms.GroupTerm place (term_model inner.value)
unfolding term_model
group_made place inner = ap term_model (sym (rolls-Group place inner)) ∙ fold-roll-Term TermTree term_layer (layer.Group place inner)

pub aggregate_made : (place : Place) (components : Vec Term Global) → term_model (Aggregate place components) ≡ terms.AggregateTerm place (terms_of (map term_model components.items))
unfolding term_model
aggregate_made place components = ap term_model (sym (rolls-Aggregate place components)) ∙ fold-roll-Term TermTree term_layer (layer.Aggregate place components)

pub others_made : (place : Place) (component : Box Term Global) → term_model (Others place component) ≡ terms.OthersTerm place (term_model component.value)
unfolding term_model
others_made place component = ap term_model (sym (rolls-Others place component)) ∙ fold-roll-Term TermTree term_layer (layer.Others place component)

pub nothing_made : (place : Place) → term_model (Nothing place) ≡ terms.NothingTerm place
unfolding term_model
nothing_made place = ap term_model (sym (rolls-Nothing place)) ∙ fold-roll-Term TermTree term_layer (layer.Nothing place)
