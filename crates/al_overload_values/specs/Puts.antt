-- Calls as statements: of procedures and entries (ARM 6.4, 9.5.3), and of Put, Put_Line and New_Line (ARM A.10.7).
use Rattle.std.specs.Prelude.{ℕ, Bool, true, false, codes, List, map, Option, Some, None, Result, Ok, Err, if◌then◌else◌}
use Rattle.std.specs.Char.{to_ascii_uppercase}
use Rattle.std.specs.Option.{option_and_then, option_map_or}
use Rattle.std.specs.Str.{bytes_eq}
use Rattle.al_overload.specs.Labelling.{Label}
use Rattle.al_base_fault.specs.Judging.{next, map_ok, unless}
use Rattle.al_base_fault.specs.declared.fault.Fault.{Fault}
use Rattle.al_overload.specs.Meanings.{nothing_fits}
use Rattle.al_overload.specs.declared.context.Context.TheVariants as contexts
use Rattle.al_view_predefined.specs.StandardTypes.{type_of}
use Rattle.al_overload.specs.Places.{first_place}
use Rattle.al_overload.specs.Terms.{TermTree, TermTree as t, TermsTree, TermsTree as terms}
use Rattle.al_view_typed.specs.ExpressionTrees.{TypedTree}
use Rattle.al_view_typed.specs.StatementTrees.{PieceTree, StatementFormTree}
use Rattle.al_view_typed.specs.StatementTrees.PieceTree.{TextPiece, IntegerImage, EnumerationImage}
use Rattle.al_view_typed.specs.StatementTrees.StatementFormTree.{CallStatement, PutStatement}
use Rattle.al_view.specs.declared.symbol.Symbol.{Symbol}
use Rattle.al_view.specs.declared.types.TypeDefinition.{TypeDefinition}
use Rattle.al_view.specs.declared.types.TypeDefinition.TheVariants as definitions
use Rattle.al_view.specs.declared.types.TypeView.{TypeView}
use Rattle.al_view.specs.declared.view.CallKind.{CallKind}
use Rattle.al_view.specs.declared.view.CallKind.TheVariants as calls
use Rattle.al_view.specs.declared.view.SubprogramView.{SubprogramView}
use Rattle.al_view.specs.declared.view.SubtypeView.{SubtypeView}
use Rattle.al_view.specs.declared.view.ViewKind.{ViewKind}
use Rattle.al_overload.specs.Interpreting.{interpreted}
use Rattle.al_overload.specs.Parts.{declared_under}
use Rattle.al_overload.specs.declared.everywhere.Predefined.{Predefined}
use Rattle.al_overload_nodes.specs.Gathering.{Parts, no_parts, with_part}
use Rattle.al_overload_nodes.specs.Operators.{picked_subprogram}
use Rattle.al_overload_nodes.specs.Contexts.{call_read, term_checked}
use Rattle.al_overload_nodes.specs.Leaves.{mark_type}

-- ---- what is put

-- the names of literals as their images are: in upper case (ARM 3.5(32))
abbrev pub upper : List ℕ → List ℕ
upper name = map to_ascii_uppercase name

-- the image of a value of this type
abbrev pub image_of : SubtypeView → TypedTree → TypeDefinition → PieceTree
image_of mark value (definitions.Enumeration literals) = EnumerationImage value (map upper mark.literals)
image_of mark value (definitions.Integer bounds) = IntegerImage value
image_of mark value (definitions.Array index component) = IntegerImage value
image_of mark value (definitions.Record components) = IntegerImage value
image_of mark value definitions.Time = IntegerImage value
image_of mark value definitions.Private = IntegerImage value

abbrev pub image : SubtypeView → TypedTree → PieceTree
image mark value = option_map_or (λ (x : TypeView). image_of mark value x.definition) (type_of mark.types mark.subtype.base) (IntegerImage value)

-- `mark'Image (argument)`, whose argument is a context of its own
abbrev pub image_checked : Predefined → Option Symbol → SubtypeView → TermTree → Result PieceTree Fault
image_checked p own mark argument = map_ok (image mark) (term_checked p own (contexts.ImageArgument (mark_type mark)) None mark.types argument)

-- the pieces of a string expression, in source order, after those that were read
abbrev pub text_read : Predefined → Option Symbol → TermTree → Parts PieceTree → Parts PieceTree
text_read p own (t.TextTerm place bytes) pieces = with_part pieces None (Ok (TextPiece bytes))
text_read p own (t.ImageTerm place mark argument) pieces = with_part pieces None (image_checked p own mark argument)
text_read p own (t.ConcatenationTerm left right) pieces = text_read p own right (text_read p own left pieces)
text_read p own (t.GroupTerm place inner) pieces = text_read p own inner pieces
text_read p own (t.NumberTerm place value) pieces = with_part pieces None (Err (nothing_fits place))
text_read p own (t.NamedTerm place visible) pieces = with_part pieces None (Err (nothing_fits place))
text_read p own (t.SelectedTerm prefix name) pieces = with_part pieces None (Err (nothing_fits (first_place prefix)))
text_read p own (t.AppliedTerm prefix arguments) pieces = with_part pieces None (Err (nothing_fits (first_place prefix)))
text_read p own (t.BoundTerm place mark is_last) pieces = with_part pieces None (Err (nothing_fits place))
text_read p own (t.LengthTerm place bounds) pieces = with_part pieces None (Err (nothing_fits place))
text_read p own (t.ConversionTerm place mark operand) pieces = with_part pieces None (Err (nothing_fits place))
text_read p own (t.QualifiedTerm place mark operand) pieces = with_part pieces None (Err (nothing_fits place))
text_read p own (t.AttributeTerm place conversion mark argument) pieces = with_part pieces None (Err (nothing_fits place))
text_read p own (t.PrefixedTerm place operator visible operand) pieces = with_part pieces None (Err (nothing_fits place))
text_read p own (t.InfixTerm operator visible left right) pieces = with_part pieces None (Err (nothing_fits (first_place left)))
text_read p own (t.ShortCircuitTerm form left right) pieces = with_part pieces None (Err (nothing_fits (first_place left)))
text_read p own (t.MemberTerm value is_negated mark) pieces = with_part pieces None (Err (nothing_fits (first_place value)))
text_read p own (t.RangeMemberTerm value is_negated low high) pieces = with_part pieces None (Err (nothing_fits (first_place value)))
text_read p own (t.AggregateTerm place components) pieces = with_part pieces None (Err (nothing_fits place))
text_read p own (t.OthersTerm place component) pieces = with_part pieces None (Err (nothing_fits place))
text_read p own (t.NothingTerm place) pieces = with_part pieces None (Err (nothing_fits place))

-- of Put and Put_Line the only argument; of New_Line none
abbrev pub argument_read : Predefined → Option Symbol → TermsTree → Parts PieceTree
argument_read p own terms.NoTerm = no_parts
argument_read p own (terms.MoreTerms x more) = text_read p own x no_parts

abbrev pub arguments_of : TermTree → TermsTree
arguments_of (t.AppliedTerm prefix arguments) = arguments
arguments_of _ = terms.NoTerm

-- every one but Put ends its line
abbrev pub ends_line : List ℕ → Bool
ends_line name = if bytes_eq name (codes "put") then false else true

abbrev pub put_checked : List ℕ → Parts PieceTree → Result StatementFormTree Fault
put_checked name pieces = unless pieces.fault (Ok (PutStatement pieces.items (ends_line name)))

-- ---- what is called

abbrev pub visible_under : TermTree → Option (List ViewKind)
visible_under (t.AppliedTerm prefix arguments) = declared_under prefix
visible_under (t.NamedTerm place visible) = Some visible
visible_under _ = None

abbrev pub called : TermTree → Label → Option SubprogramView
called term label = option_and_then (λ (visible : List ViewKind). picked_subprogram visible label) (visible_under term)

abbrev pub call_effect_by : Predefined → Option Symbol → TermTree → Label → SubprogramView → CallKind → Result StatementFormTree Fault
call_effect_by p own term label s calls.Predefined = put_checked s.symbol.name (argument_read p own (arguments_of term))
call_effect_by p own term label s (calls.Subprogram depth) = map_ok CallStatement (call_read p own term label)
call_effect_by p own term label s calls.Protected = map_ok CallStatement (call_read p own term label)
call_effect_by p own term label s calls.Entry = map_ok CallStatement (call_read p own term label)
call_effect_by p own term label s (calls.Operator of_type) = Err (nothing_fits (first_place term))

abbrev pub call_effect_read : Predefined → Option Symbol → TermTree → Label → Result StatementFormTree Fault
call_effect_read p own term label =
    option_map_or (λ (s : SubprogramView). call_effect_by p own term label s s.call) (called term label) (Err (nothing_fits (first_place term)))

-- A call as a statement: E402 or E403 at its first token, E604 of an own operation, the first fault in its arguments.
abbrev pub call_effect : Predefined → Option Symbol → TermTree → Result StatementFormTree Fault
call_effect p own term = next (interpreted p contexts.ProcedureCall None term) (call_effect_read p own term)
