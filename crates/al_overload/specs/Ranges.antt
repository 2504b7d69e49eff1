-- A pair of bounds, and a membership: one type of all operands (ARM 3.6(18), 4.5.2(3)).
use Rattle.std.specs.Prelude.{Bool, false, ◌&&◌, ◌||◌, List, [], ◌∷◌, ◌++◌, map, fold, Option, Some, None, if◌then◌else◌}
use Rattle.std.specs.List.{list_any}
use Rattle.al_view.specs.declared.symbol.Symbol.{Symbol}
use Rattle.al_view.specs.Symbols.{same_symbol}
use Rattle.al_overload.specs.declared.types.Given.{Given}
use Rattle.al_overload.specs.declared.types.Given.TheVariants as g
use Rattle.al_overload.specs.declared.types.ValueType.{ValueType}
use Rattle.al_overload.specs.declared.types.Expected.{Expected}
use Rattle.al_overload.specs.declared.types.Expected.TheVariants as w
use Rattle.al_overload.specs.declared.term.Candidate.{Candidate}
use Rattle.al_overload.specs.Fitting.{is_discrete}
use Rattle.al_overload.specs.Labelling.{Tree, Node, Trees, NoTree, MoreTrees}

abbrev pub has_type : List ValueType → ValueType → Bool
has_type types t = list_any (λ s. same_symbol s.symbol t.symbol) types

-- one more type, unless it is there
abbrev pub added : List ValueType → ValueType → List ValueType
added types t = if has_type types t then types else types ++ t ∷ []

-- the discrete type that is given
abbrev pub with_given : List ValueType → Given → List ValueType
with_given types g.Nothing = types
with_given types (g.Value t) = if is_discrete t.class then added types t else types
with_given types g.Universal = types
with_given types g.Text = types

abbrev pub added_given : List ValueType → Candidate → List ValueType
added_given types c = with_given types c.given

-- the discrete types of which the head of an operand may be, each once
abbrev pub with_types : List ValueType → Trees → List ValueType
with_types types NoTree = types
with_types types (MoreTrees (Node cs args) more) = with_types (fold added_given types cs) more

-- if no operand has one, all are numbers alone: this one
abbrev pub types_or : ValueType → List ValueType → List ValueType
types_or otherwise [] = otherwise ∷ []
types_or otherwise (t ∷ ts) = t ∷ ts

-- as many operands, all of one type
abbrev pub all_of : ValueType → Trees → List Expected
all_of t NoTree = []
all_of t (MoreTrees a more) = w.Value t ∷ all_of t more

abbrev pub result_type : Option ValueType → ValueType → ValueType
result_type None t = t
result_type (Some r) t = r

-- the candidate of a head whose operands are all of this type: it gives that type, or always the same one
abbrev pub one_type : Symbol → Option ValueType → Trees → ValueType → Candidate
one_type root always args t = record { operands = all_of t args; given = g.Value (result_type always t); is_root = same_symbol t.symbol root }

-- a head whose operands are all of one type
abbrev pub alike : Symbol → ValueType → Option ValueType → Trees → Tree
alike root numbers always args = Node (map (one_type root always args) (types_or numbers (with_types [] args))) args

-- the head of this operand may be of this discrete type
abbrev pub given_is : Given → ValueType → Bool
given_is g.Nothing t = false
given_is (g.Value s) t = is_discrete s.class && same_symbol s.symbol t.symbol
given_is g.Universal t = false
given_is g.Text t = false

abbrev pub may_be : ValueType → Trees → Bool
may_be t NoTree = false
may_be t (MoreTrees (Node cs args) more) = list_any (λ c. given_is c.given t) cs || may_be t more
