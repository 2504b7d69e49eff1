-- What the program's terms are as plain data.
use Rattle.std.specs.Prelude.{List}
use Rattle.al_overload.specs.Terms.{TermTree, TermTree as terms, TermsTree, TermsTree as more}
use Rattle.al_overload.specs.declared.heads_term.Term.{Term}
use Rattle.al_overload.specs.declared.heads_term.Term.TheOpen.{Term-F}
use Rattle.al_overload.specs.declared.heads_term.Term.TheOpen as layer
use Rattle.al_overload.specs.declared.heads_term.Term.TheFolds.{fold-Term}
use Rattle.al_view_typed.specs.Listed.{listed}

abbrev pub terms_of : List TermTree → TermsTree
terms_of ts = listed more.MoreTerms more.NoTerm ts

-- one layer of a term, whose parts are seen already
abbrev pub term_layer : Term-F TermTree → TermTree
term_layer (layer.Number place value) = terms.NumberTerm place value
term_layer (layer.Text place bytes) = terms.TextTerm place bytes.items
term_layer (layer.Named place views) = terms.NamedTerm place views
term_layer (layer.Selected prefix name) = terms.SelectedTerm prefix.value name
term_layer (layer.Applied name arguments) = terms.AppliedTerm name.value (terms_of arguments.items)
term_layer (layer.Bound place subtype is_last) = terms.BoundTerm place subtype is_last
term_layer (layer.Length place bounds) = terms.LengthTerm place bounds
term_layer (layer.Conversion place subtype operand) = terms.ConversionTerm place subtype operand.value
term_layer (layer.Qualified place subtype operand) = terms.QualifiedTerm place subtype operand.value
term_layer (layer.Attribute place conversion subtype argument) = terms.AttributeTerm place conversion subtype argument.value
term_layer (layer.Image place subtype argument) = terms.ImageTerm place subtype argument.value
term_layer (layer.Prefixed place operator views operand) = terms.PrefixedTerm place operator views operand.value
term_layer (layer.Infix operator views left right) = terms.InfixTerm operator views left.value right.value
term_layer (layer.Concatenation left right) = terms.ConcatenationTerm left.value right.value
term_layer (layer.ShortCircuit form left right) = terms.ShortCircuitTerm form left.value right.value
term_layer (layer.Member value is_negated subtype) = terms.MemberTerm value.value is_negated subtype
term_layer (layer.RangeMember value is_negated low high) = terms.RangeMemberTerm value.value is_negated low.value high.value
term_layer (layer.Group place inner) = terms.GroupTerm place inner.value
term_layer (layer.Aggregate place components) = terms.AggregateTerm place (terms_of components.items)
term_layer (layer.Others place component) = terms.OthersTerm place component.value
term_layer (layer.Nothing place) = terms.NothingTerm place

unfoldable pub term_model : Term → TermTree
term_model = fold-Term TermTree term_layer
