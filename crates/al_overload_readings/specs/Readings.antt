-- What an expression may be until what is round it is known: a name may be of a subtype, and an attribute may want an argument.
use Rattle.std.specs.Prelude.{ℕ, Bool, true, false, List, [], ◌∷◌, ◌++◌, Option, Some, None, option_map, is_some, Result, Ok, Err, if◌then◌else◌}
use Rattle.std.specs.List.{list_any}
use Rattle.al_base.specs.declared.place.Place.{Place}
use Rattle.al_base_fault.specs.declared.check_rule.CheckRule.TheVariants.{WrongKind}
use Rattle.al_tree_grammar.specs.Grammar.{Label}
use Rattle.al_base_fault.specs.Faults.{fault_at}
use Rattle.al_base_fault.specs.Judging.{both, next, map_ok}
use Rattle.al_base_fault.specs.declared.fault.Fault.{Fault}
use Rattle.al_overload_lookup.specs.Keys.{Denotations, dotted, is_none, not_visible}
use Rattle.al_overload.specs.Candidates.{is_no_value}
use Rattle.al_overload.specs.Places.{first_place}
use Rattle.al_overload.specs.Terms.{TermTree, TermTree as terms, TermsTree, TermsTree as more}
use Rattle.al_overload.specs.TermViews.{terms_of}
use Rattle.al_overload_readings.specs.Attributes.{name_prefix, term_prefix}
use Rattle.al_overload_readings.specs.Marks.{mark_in}
use Rattle.al_overload_readings.specs.Operations.{operation_of, protected_in}
use Rattle.al_overload_readings.specs.declared.attribute.Attribute.{Attribute}
use Rattle.al_overload_readings.specs.declared.attribute.Attribute.TheVariants as attributes
use Rattle.al_overload_readings.specs.declared.prefix.Prefix.{Prefix}
use Rattle.al_overload_readings.specs.declared.prefix.Prefix.TheVariants as prefixes
use Rattle.al_view_typed.specs.declared.label.Conversion.{Conversion}
use Rattle.al_view_typed.specs.declared.label.Conversion.TheVariants as conversions
use Rattle.al_view.specs.declared.types.Bounds.{Bounds}
use Rattle.al_view.specs.declared.view.ProtectedView.{ProtectedView}
use Rattle.al_view.specs.declared.view.SubtypeView.{SubtypeView}
use Rattle.al_view.specs.declared.view.ViewKind.{ViewKind}

pub data ReadTree : Type 0 where
  -- an identifier or an expanded name, with all that is visible under it
  NameRead : Place → List ℕ → List ViewKind → ReadTree
  -- a value or a call
  TermRead : TermTree → ReadTree
  -- S'Pos, S'Val, S'Succ, S'Pred
  FunctionRead : Place → Conversion → SubtypeView → ReadTree
  -- S'Image
  ImageRead : Place → SubtypeView → ReadTree
  -- S'Range
  RangeRead : Place → SubtypeView → ReadTree

abbrev pub wrong_kind : Place → Fault
wrong_kind p = fault_at p WrongKind

-- the first token
unfoldable pub read_place : ReadTree → Place
read_place (NameRead p key vs) = p
read_place (TermRead t) = first_place t
read_place (FunctionRead p c s) = p
read_place (ImageRead p s) = p
read_place (RangeRead p s) = p

-- a name where a value or a call is wanted: E404 if it is no value and no call
abbrev pub value_in : Place → List ViewKind → Result TermTree Fault
value_in p vs = if list_any is_no_value vs then Err (wrong_kind p) else Ok (terms.NamedTerm p vs)

-- where a value or a call is wanted
unfoldable pub valued : ReadTree → Result TermTree Fault
valued (NameRead p key vs) = value_in p vs
valued (TermRead t) = Ok t
valued (FunctionRead p c s) = Ok (terms.NothingTerm p)
valued (ImageRead p s) = Ok (terms.NothingTerm p)
valued (RangeRead p s) = Ok (terms.NothingTerm p)

-- ---- names

-- an identifier, or the last one of an expanded name: E401 if nothing is visible
unfoldable pub named : Place → List ℕ → List ViewKind → Label → Result ReadTree Fault
named p key vs l = if is_none vs then Err (not_visible l) else Ok (NameRead p key vs)

-- what comes after a name that is no package and no construct round the place: of a protected object an operation, of all else a component
abbrev pub after_of : Place → List ViewKind → List ℕ → Option ProtectedView → Result TermTree Fault
after_of p vs name (Some o) = Ok (operation_of p o name)
after_of p vs name None = map_ok (λ (t : TermTree). terms.SelectedTerm t name) (value_in p vs)

unfoldable pub after : Place → List ViewKind → List ℕ → Result TermTree Fault
after p vs name = after_of p vs name (protected_in vs)

unfoldable pub selected_from : Denotations → Label → Place → List ℕ → List ViewKind → Result ReadTree Fault
selected_from d l p key vs =
    if is_none (d.prefixes (dotted key l.text)) then map_ok TermRead (after p vs l.text)
    else named p (dotted key l.text) (d.visible (dotted key l.text)) l

-- with a selector
unfoldable pub selected : Denotations → Label → ReadTree → Result ReadTree Fault
selected d l (NameRead p key vs) = selected_from d l p key vs
selected d l (TermRead t) = Ok (TermRead (terms.SelectedTerm t l.text))
selected d l (FunctionRead p c s) = Ok (TermRead (terms.NothingTerm p))
selected d l (ImageRead p s) = Ok (TermRead (terms.NothingTerm p))
selected d l (RangeRead p s) = Ok (TermRead (terms.NothingTerm p))

-- ---- arguments

-- where arguments follow: a type, a value or a call
unfoldable pub callable : ReadTree → Result ReadTree Fault
callable (NameRead p key vs) = if is_some (mark_in vs) then Ok (NameRead p key vs) else if list_any is_no_value vs then Err (wrong_kind p) else Ok (NameRead p key vs)
callable (TermRead t) = Ok (TermRead t)
callable (FunctionRead p c s) = Ok (FunctionRead p c s)
callable (ImageRead p s) = Ok (ImageRead p s)
callable (RangeRead p s) = Ok (RangeRead p s)

unfoldable pub name_applied : Place → List ViewKind → Option SubtypeView → TermTree → TermTree
name_applied p vs (Some s) t = terms.ConversionTerm p s t
name_applied p vs None t = terms.AppliedTerm (terms.NamedTerm p vs) (more.MoreTerms t more.NoTerm)

-- with one argument
unfoldable pub applied : ReadTree → TermTree → TermTree
applied (NameRead p key vs) t = name_applied p vs (mark_in vs) t
applied (TermRead u) t = terms.AppliedTerm u (more.MoreTerms t more.NoTerm)
applied (FunctionRead p c s) t = terms.AttributeTerm p c s t
applied (ImageRead p s) t = terms.ImageTerm p s t
applied (RangeRead p s) t = terms.NothingTerm p

-- with several arguments
unfoldable pub applied_to : ReadTree → List TermTree → TermTree
applied_to (NameRead p key vs) ts = if is_some (mark_in vs) then terms.NothingTerm p else terms.AppliedTerm (terms.NamedTerm p vs) (terms_of ts)
applied_to (TermRead u) ts = terms.AppliedTerm u (terms_of ts)
applied_to (FunctionRead p c s) ts = terms.NothingTerm p
applied_to (ImageRead p s) ts = terms.NothingTerm p
applied_to (RangeRead p s) ts = terms.NothingTerm p

-- ---- attributes

-- what it is as the prefix of an attribute
unfoldable pub prefix_of : ReadTree → Prefix
prefix_of (NameRead p key vs) = name_prefix (mark_in vs) (terms.NamedTerm p vs)
prefix_of (TermRead t) = term_prefix t
prefix_of (FunctionRead p c s) = prefixes.Other
prefix_of (ImageRead p s) = prefixes.Other
prefix_of (RangeRead p s) = prefixes.Other

-- the attribute of a scalar subtype: E404 if such have none of the name that others have; an attribute that there isn't fits nothing
unfoldable pub scalar_attribute : Place → SubtypeView → Attribute → Result ReadTree Fault
scalar_attribute p s attributes.First = Ok (TermRead (terms.BoundTerm p s false))
scalar_attribute p s attributes.Last = Ok (TermRead (terms.BoundTerm p s true))
scalar_attribute p s attributes.Length = Err (wrong_kind p)
scalar_attribute p s attributes.Pos = Ok (FunctionRead p conversions.Pos s)
scalar_attribute p s attributes.Val = Ok (FunctionRead p conversions.Val s)
scalar_attribute p s attributes.Succ = Ok (FunctionRead p conversions.Succ s)
scalar_attribute p s attributes.Pred = Ok (FunctionRead p conversions.Pred s)
scalar_attribute p s attributes.Image = Ok (ImageRead p s)
scalar_attribute p s attributes.Unknown = Ok (TermRead (terms.NothingTerm p))

-- the attribute of an array with this index subtype, which has these bounds
unfoldable pub array_attribute : Place → SubtypeView → Bounds → Attribute → Result ReadTree Fault
array_attribute p s bounds attributes.First = Ok (TermRead (terms.BoundTerm p s false))
array_attribute p s bounds attributes.Last = Ok (TermRead (terms.BoundTerm p s true))
array_attribute p s bounds attributes.Length = Ok (TermRead (terms.LengthTerm p bounds))
array_attribute p s bounds attributes.Pos = Err (wrong_kind p)
array_attribute p s bounds attributes.Val = Err (wrong_kind p)
array_attribute p s bounds attributes.Succ = Err (wrong_kind p)
array_attribute p s bounds attributes.Pred = Err (wrong_kind p)
array_attribute p s bounds attributes.Image = Err (wrong_kind p)
array_attribute p s bounds attributes.Unknown = Ok (TermRead (terms.NothingTerm p))

unfoldable pub attributed : Place → Prefix → Attribute → Result ReadTree Fault
attributed p (prefixes.Scalar s) a = scalar_attribute p s a
attributed p (prefixes.Array s bounds) a = array_attribute p s bounds a
attributed p prefixes.Other a = Err (wrong_kind p)

-- the Range attribute
unfoldable pub ranged : Place → Prefix → Result ReadTree Fault
ranged p (prefixes.Scalar s) = Ok (RangeRead p s)
ranged p (prefixes.Array s bounds) = Ok (RangeRead p s)
ranged p prefixes.Other = Err (wrong_kind p)

-- ---- subtypes

-- a mark where one is wanted, with its place
abbrev pub marked_at : Place → Option SubtypeView → Result (Place × SubtypeView) Fault
marked_at p (Some s) = Ok (p, s)
marked_at p None = Err (wrong_kind p)

unfoldable pub mark_read : ReadTree → Option SubtypeView
mark_read (NameRead p key vs) = mark_in vs
mark_read (TermRead t) = None
mark_read (FunctionRead p c s) = None
mark_read (ImageRead p s) = None
mark_read (RangeRead p s) = None

-- as a mark
unfoldable pub marking : ReadTree → Result (Place × SubtypeView) Fault
marking r = marked_at (read_place r) (mark_read r)

unfoldable pub range_read : ReadTree → Option SubtypeView
range_read (NameRead p key vs) = mark_in vs
range_read (RangeRead p s) = Some s
range_read (TermRead t) = None
range_read (FunctionRead p c s) = None
range_read (ImageRead p s) = None

-- as a range of one part: a mark or a Range attribute
unfoldable pub ranging : ReadTree → Result SubtypeView Fault
ranging r = map_ok (λ (x : Place × SubtypeView). x.1) (marked_at (read_place r) (range_read r))
