-- Where a term begins.
use Rattle.al_base.specs.declared.place.Place.{Place}
use Rattle.al_overload.specs.Terms.{TermTree, TermTree as terms}

-- the first token
abbrev pub first_place : TermTree → Place
first_place (terms.NumberTerm p value) = p
first_place (terms.TextTerm p bytes) = p
first_place (terms.NamedTerm p views) = p
first_place (terms.SelectedTerm prefix name) = first_place prefix
first_place (terms.AppliedTerm name arguments) = first_place name
first_place (terms.BoundTerm p subtype is_last) = p
first_place (terms.LengthTerm p bounds) = p
first_place (terms.ConversionTerm p subtype operand) = p
first_place (terms.QualifiedTerm p subtype operand) = p
first_place (terms.AttributeTerm p conversion subtype argument) = p
first_place (terms.ImageTerm p subtype argument) = p
first_place (terms.PrefixedTerm p operator views operand) = p
first_place (terms.InfixTerm operator views left right) = first_place left
first_place (terms.ConcatenationTerm left right) = first_place left
first_place (terms.ShortCircuitTerm form left right) = first_place left
first_place (terms.MemberTerm value is_negated subtype) = first_place value
first_place (terms.RangeMemberTerm value is_negated low high) = first_place value
first_place (terms.GroupTerm p inner) = p
first_place (terms.AggregateTerm p components) = p
first_place (terms.OthersTerm p component) = p
first_place (terms.NothingTerm p) = p
