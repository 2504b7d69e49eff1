-- What doesn't begin with an operand: it is none of those that do.
use Rattle.std.proofs.Common.{◌≡◌, Bool, false, List, sym, ap, ◌∙◌, refl, Vec, Box, Global, ℕ}
use Rattle.al_overload.specs.HeadsChains.{leans}
use Rattle.al_overload.proofs.TermsMade.{number_made, text_made, named_made, bound_made, length_made, conversion_made, qualified_made, attribute_made, image_made, prefixed_made, group_made, aggregate_made, others_made, nothing_made}
use Rattle.al_overload.specs.TermViews.{term_model}
use Rattle.al_overload.specs.Terms.{TermTree}
use Rattle.al_overload.specs.declared.heads_term.Term.{Term, out-Term, roll-Term, roll-out-Term}
use Rattle.al_overload.specs.declared.heads_term.Term.TheOpen.{Term-F}
use Rattle.al_overload.specs.declared.heads_term.Term.TheOpen as layer
use Rattle.al_overload.specs.declared.heads_term.Term.TheVariants.{Number, Text, Named, Selected, Applied, Bound, Length, Conversion, Qualified, Attribute, Image, Prefixed, Infix, Concatenation, ShortCircuit, Member, RangeMember, Group, Aggregate, Others, Nothing, rolls-Number, rolls-Text, rolls-Named, rolls-Selected, rolls-Applied, rolls-Bound, rolls-Length, rolls-Conversion, rolls-Qualified, rolls-Attribute, rolls-Image, rolls-Prefixed, rolls-Infix, rolls-Concatenation, rolls-ShortCircuit, rolls-Member, rolls-RangeMember, rolls-Group, rolls-Aggregate, rolls-Others, rolls-Nothing}
use Rattle.al_view_typed.specs.declared.label.BinaryOperator.{BinaryOperator}
use Rattle.al_view_typed.specs.declared.label.ShortCircuit.{ShortCircuit as ShortCircuitForm}
use Rattle.al_view.specs.declared.view.SubtypeView.{SubtypeView}
use Rattle.al_view.specs.declared.view.ViewKind.{ViewKind}

-- as a term is made
stands_made : (term made : Term) (tree : TermTree) → term ≡ made → term_model made ≡ tree → leans tree ≡ false → leans (term_model term) ≡ false
stands_made term made tree is seen e = ap (λ (x : Term). leans (term_model x)) is ∙ ap leans seen ∙ e

stands_layer : (t : Term) (f : Term-F Term) → t ≡ roll-Term f
    → ((operator : BinaryOperator) (views : List ViewKind) (left right : Box Term Global) → t ≡ Infix operator views left right → ⊥)
    → ((left right : Box Term Global) → t ≡ Concatenation left right → ⊥)
    → ((form : ShortCircuitForm) (left right : Box Term Global) → t ≡ ShortCircuit form left right → ⊥)
    → ((value : Box Term Global) (is_negated : Bool) (low high : Box Term Global) → t ≡ RangeMember value is_negated low high → ⊥)
    → ((value : Box Term Global) (is_negated : Bool) (mark : SubtypeView) → t ≡ Member value is_negated mark → ⊥)
    → ((prefix : Box Term Global) (name : List ℕ) → t ≡ Selected prefix name → ⊥)
    → ((name : Box Term Global) (arguments : Vec Term Global) → t ≡ Applied name arguments → ⊥)
    → leans (term_model t) ≡ false
stands_layer t (layer.Number place value) is i c s r m p a = stands_made t (Number place value) _ (is ∙ rolls-Number place value) (number_made place value) refl
stands_layer t (layer.Text place bytes) is i c s r m p a = stands_made t (Text place bytes) _ (is ∙ rolls-Text place bytes) (text_made place bytes) refl
stands_layer t (layer.Named place views) is i c s r m p a = stands_made t (Named place views) _ (is ∙ rolls-Named place views) (named_made place views) refl
stands_layer t (layer.Selected prefix name) is i c s r m p a = absurd (p prefix name (is ∙ rolls-Selected prefix name))
stands_layer t (layer.Applied name arguments) is i c s r m p a = absurd (a name arguments (is ∙ rolls-Applied name arguments))
stands_layer t (layer.Bound place mark is_last) is i c s r m p a = stands_made t (Bound place mark is_last) _ (is ∙ rolls-Bound place mark is_last) (bound_made place mark is_last) refl
stands_layer t (layer.Length place bounds) is i c s r m p a = stands_made t (Length place bounds) _ (is ∙ rolls-Length place bounds) (length_made place bounds) refl
stands_layer t (layer.Conversion place mark operand) is i c s r m p a = stands_made t (Conversion place mark operand) _ (is ∙ rolls-Conversion place mark operand) (conversion_made place mark operand) refl
stands_layer t (layer.Qualified place mark operand) is i c s r m p a = stands_made t (Qualified place mark operand) _ (is ∙ rolls-Qualified place mark operand) (qualified_made place mark operand) refl
stands_layer t (layer.Attribute place conversion mark argument) is i c s r m p a = stands_made t (Attribute place conversion mark argument) _ (is ∙ rolls-Attribute place conversion mark argument) (attribute_made place conversion mark argument) refl
stands_layer t (layer.Image place mark argument) is i c s r m p a = stands_made t (Image place mark argument) _ (is ∙ rolls-Image place mark argument) (image_made place mark argument) refl
stands_layer t (layer.Prefixed place operator views operand) is i c s r m p a = stands_made t (Prefixed place operator views operand) _ (is ∙ rolls-Prefixed place operator views operand) (prefixed_made place operator views operand) refl
stands_layer t (layer.Infix operator views left right) is i c s r m p a = absurd (i operator views left right (is ∙ rolls-Infix operator views left right))
stands_layer t (layer.Concatenation left right) is i c s r m p a = absurd (c left right (is ∙ rolls-Concatenation left right))
stands_layer t (layer.ShortCircuit form left right) is i c s r m p a = absurd (s form left right (is ∙ rolls-ShortCircuit form left right))
stands_layer t (layer.Member value is_negated mark) is i c s r m p a = absurd (m value is_negated mark (is ∙ rolls-Member value is_negated mark))
stands_layer t (layer.RangeMember value is_negated low high) is i c s r m p a = absurd (r value is_negated low high (is ∙ rolls-RangeMember value is_negated low high))
stands_layer t (layer.Group place inner) is i c s r m p a = stands_made t (Group place inner) _ (is ∙ rolls-Group place inner) (group_made place inner) refl
stands_layer t (layer.Aggregate place components) is i c s r m p a = stands_made t (Aggregate place components) _ (is ∙ rolls-Aggregate place components) (aggregate_made place components) refl
stands_layer t (layer.Others place component) is i c s r m p a = stands_made t (Others place component) _ (is ∙ rolls-Others place component) (others_made place component) refl
stands_layer t (layer.Nothing place) is i c s r m p a = stands_made t (Nothing place) _ (is ∙ rolls-Nothing place) (nothing_made place) refl

pub stands : (t : Term)
    → ((operator : BinaryOperator) (views : List ViewKind) (left right : Box Term Global) → t ≡ Infix operator views left right → ⊥)
    → ((left right : Box Term Global) → t ≡ Concatenation left right → ⊥)
    → ((form : ShortCircuitForm) (left right : Box Term Global) → t ≡ ShortCircuit form left right → ⊥)
    → ((value : Box Term Global) (is_negated : Bool) (low high : Box Term Global) → t ≡ RangeMember value is_negated low high → ⊥)
    → ((value : Box Term Global) (is_negated : Bool) (mark : SubtypeView) → t ≡ Member value is_negated mark → ⊥)
    → ((prefix : Box Term Global) (name : List ℕ) → t ≡ Selected prefix name → ⊥)
    → ((name : Box Term Global) (arguments : Vec Term Global) → t ≡ Applied name arguments → ⊥)
    → leans (term_model t) ≡ false
stands t = stands_layer t (out-Term t) (sym (roll-out-Term t))
