-- Parts of parts of an object: a chain of selectors and indexes.
use Rattle.std.specs.Prelude.{ℕ, zero, suc, List, Option, Some, None}
use Rattle.std.specs.Option.{option_and_then, option_map_or}
use Rattle.al_overload.specs.Parts.{component_of, element_of}
use Rattle.al_overload.specs.declared.part.Nominal.{Nominal}
use Rattle.al_overload.specs.Terms.{TermTree, TermTree as t}

-- what comes before the last selector of a term, with the selector, or before the last indexes
abbrev pub link_of : TermTree → Option (TermTree × Option (List ℕ))
link_of (t.SelectedTerm prefix name) = Some (prefix, Some name)
link_of (t.AppliedTerm prefix arguments) = Some (prefix, None)
link_of _ = None

-- what comes before so many selectors and indexes at the end of a term, or before all, if there are fewer
abbrev pub before : ℕ → TermTree → TermTree
before zero tree = tree
before (suc n) tree = option_map_or (λ l. before n l.0) (link_of tree) tree

-- the part that a selector, or else indexes, make of what has this nominal subtype
abbrev pub linked_part : Option (List ℕ) → Option Nominal → Option Nominal
linked_part (Some name) whole = option_and_then (component_of name) whole
linked_part None whole = option_and_then element_of whole

-- the part that the last so many selectors and indexes of a term make of what has this nominal subtype
abbrev pub built_up : ℕ → TermTree → Option Nominal → Option Nominal
built_up zero tree part = part
built_up (suc n) tree part = option_map_or (λ l. linked_part l.1 (built_up n l.0 part)) (link_of tree) part
