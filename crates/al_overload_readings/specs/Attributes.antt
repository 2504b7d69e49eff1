-- Attributes, and what they come after (ARM 3.5, 3.5.5, 3.6.2).
use Rattle.std.specs.Prelude.{ℕ, Bool, true, false, ◌&&◌, List, [], Option, Some, None, option_map, unwrap_or, codes, if◌then◌else◌}
use Rattle.std.specs.Str.{bytes_eq}
use Rattle.al_overload.specs.Parts.{part_of}
use Rattle.al_overload.specs.declared.part.Nominal.{Nominal}
use Rattle.al_overload.specs.PickedTypes.{Indexing, indexing, is_scalar_type}
use Rattle.al_overload_readings.specs.declared.attribute.Attribute.{Attribute}
use Rattle.al_overload_readings.specs.declared.attribute.Attribute.TheVariants as attributes
use Rattle.al_overload_readings.specs.declared.prefix.Prefix.{Prefix}
use Rattle.al_overload_readings.specs.declared.prefix.Prefix.TheVariants as prefixes
use Rattle.al_overload.specs.Terms.{TermTree, TermTree as terms, TermsTree, TermsTree as more}
use Rattle.al_view.specs.declared.symbol.Symbol.{Symbol}
use Rattle.al_view.specs.declared.types.Bounds.{Bounds}
use Rattle.al_view.specs.declared.types.TypeView.{TypeView}
use Rattle.al_view.specs.declared.view.SubtypeView.{SubtypeView}

-- the attribute of that name, in lower case
unfoldable pub attribute_named : List ℕ → Attribute
attribute_named name =
    if bytes_eq (codes "first") name then attributes.First else if bytes_eq (codes "last") name then attributes.Last else if bytes_eq (codes "length") name then attributes.Length
    else if bytes_eq (codes "pos") name then attributes.Pos else if bytes_eq (codes "val") name then attributes.Val else if bytes_eq (codes "succ") name then attributes.Succ
    else if bytes_eq (codes "pred") name then attributes.Pred else if bytes_eq (codes "image") name then attributes.Image else attributes.Unknown

-- an array, by the subtype of its index with its bounds
abbrev pub index_view : List TypeView → Symbol → Bounds → SubtypeView
index_view types index bounds = record { subtype = record { base = index; bounds = Some bounds }; types = types; literals = [] }

abbrev pub array_prefix : List TypeView → Indexing → Prefix
array_prefix types by = prefixes.Array (index_view types by.index by.bounds) by.bounds

abbrev pub array_of : List TypeView → Symbol → Option Prefix
array_of types of = option_map (array_prefix types) (indexing types of)

-- what is no array: a scalar subtype, or what has no attributes
abbrev pub scalar_prefix : SubtypeView → Prefix
scalar_prefix s = if is_scalar_type s.types s.subtype.base then prefixes.Scalar s else prefixes.Other

-- a type or a subtype
unfoldable pub mark_prefix : SubtypeView → Prefix
mark_prefix s = unwrap_or (array_of s.types s.subtype.base) (scalar_prefix s)

-- an object or a part of one: only arrays have attributes
unfoldable pub part_prefix : Option Nominal → Prefix
part_prefix (Some part) = unwrap_or (array_of part.types part.subtype.base) prefixes.Other
part_prefix None = prefixes.Other

abbrev pub is_one : TermsTree → Bool
is_one (more.MoreTerms t more.NoTerm) = true
is_one _ = false

-- whether each index in a part's name is one value: an array has one dimension
unfoldable pub is_indexed_by_one : TermTree → Bool
is_indexed_by_one (terms.AppliedTerm name arguments) = is_one arguments && is_indexed_by_one name
is_indexed_by_one (terms.SelectedTerm prefix name) = is_indexed_by_one prefix
is_indexed_by_one _ = true

-- a term: an object or a part of one, or what has no attributes
unfoldable pub term_prefix : TermTree → Prefix
term_prefix t = if is_indexed_by_one t then part_prefix (part_of t) else prefixes.Other

-- a name by the subtype that it is of, if it is of one
unfoldable pub name_prefix : Option SubtypeView → TermTree → Prefix
name_prefix (Some mark) t = mark_prefix mark
name_prefix None t = term_prefix t
