-- What is joined of the parts of a text, each judged by itself.
use Rattle.std.specs.Prelude.{ℕ, Bool, List, [], ◌∷◌, ◌++◌, Result, Ok, Err}
use Rattle.al_base.specs.declared.place.Place.{Place}
use Rattle.al_base_fault.specs.Judging.{both, next, map_ok}
use Rattle.al_base_fault.specs.declared.fault.Fault.{Fault}
use Rattle.al_overload_lookup.specs.Keys.{Denotations}
use Rattle.al_overload_readings.specs.Readings.{ReadTree, ReadTree as reads, applied, applied_to, attributed, prefix_of, ranged, read_place}
use Rattle.al_overload_readings.specs.Signs.{joined, prefixed}
use Rattle.al_overload_readings.specs.declared.attribute.Attribute.{Attribute}
use Rattle.al_tree_syntax.specs.ExpressionTrees.{Operator, Prefix}
use Rattle.al_overload.specs.Terms.{TermTree, TermTree as terms}
use Rattle.al_overload.specs.TermViews.{terms_of}
use Rattle.al_view.specs.declared.view.SubtypeView.{SubtypeView}

unfoldable pub prefixed_read : Denotations → Prefix → Result TermTree Fault → Result ReadTree Fault
prefixed_read d p operand = map_ok (λ (t : TermTree). reads.TermRead (prefixed d.visible p t)) operand

unfoldable pub joined_read : Denotations → Operator → Result TermTree Fault → Result TermTree Fault → Result ReadTree Fault
joined_read d o left right = map_ok (λ (x : TermTree × TermTree). reads.TermRead (joined d.visible o x.0 x.1)) (both left right)

unfoldable pub member_read : Bool → Result TermTree Fault → Result SubtypeView Fault → Result ReadTree Fault
member_read is_negated value range = map_ok (λ (x : TermTree × SubtypeView). reads.TermRead (terms.MemberTerm x.0 is_negated x.1)) (both value range)

unfoldable pub range_member_read : Bool → Result TermTree Fault → Result (TermTree × TermTree) Fault → Result ReadTree Fault
range_member_read is_negated value bounds = map_ok (λ (x : TermTree × (TermTree × TermTree)). reads.TermRead (terms.RangeMemberTerm x.0 is_negated x.1.0 x.1.1)) (both value bounds)

unfoldable pub applied_read : Result ReadTree Fault → Result TermTree Fault → Result ReadTree Fault
applied_read name argument = map_ok (λ (x : ReadTree × TermTree). reads.TermRead (applied x.0 x.1)) (both name argument)

unfoldable pub applied_to_read : Result ReadTree Fault → Result (List TermTree) Fault → Result ReadTree Fault
applied_to_read name arguments = map_ok (λ (x : ReadTree × List TermTree). reads.TermRead (applied_to x.0 x.1)) (both name arguments)

unfoldable pub qualified_read : Result (Place × SubtypeView) Fault → Result TermTree Fault → Result ReadTree Fault
qualified_read mark operand = map_ok (λ (x : (Place × SubtypeView) × TermTree). reads.TermRead (terms.QualifiedTerm x.0.0 x.0.1 x.1)) (both mark operand)

unfoldable pub with_attribute : Attribute → ReadTree → Result ReadTree Fault
with_attribute a r = attributed (read_place r) (prefix_of r) a

unfoldable pub with_range : ReadTree → Result ReadTree Fault
with_range r = ranged (read_place r) (prefix_of r)

-- one more of several
unfoldable pub added : Result (List TermTree) Fault → Result TermTree Fault → Result (List TermTree) Fault
added done t = map_ok (λ (x : List TermTree × TermTree). x.0 ++ x.1 ∷ []) (both done t)

unfoldable pub started : Result TermTree Fault → Result (List TermTree) Fault
started t = map_ok (λ (x : TermTree). x ∷ []) t

unfoldable pub grouped : Place → Result TermTree Fault → Result TermTree Fault
grouped p inner = map_ok (terms.GroupTerm p) inner

unfoldable pub aggregated : Place → Result (List TermTree) Fault → Result TermTree Fault
aggregated p components = map_ok (λ (ts : List TermTree). terms.AggregateTerm p (terms_of ts)) components

unfoldable pub repeated : Place → Result TermTree Fault → Result TermTree Fault
repeated p component = map_ok (terms.OthersTerm p) component
