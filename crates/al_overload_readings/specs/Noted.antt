-- What a name with its parts may be; what is wrong in its arguments is kept separately: E401 and E404 of each name of a text count, whatever is wrong
-- with the others, so the prefix of an attribute is looked at for itself.
use Rattle.std.specs.Prelude.{List, [], ◌∷◌, Option, None, Result, Ok, Err}
use Rattle.al_base.specs.declared.place.Place.{Place}
use Rattle.al_tree_grammar.specs.Grammar.{Label}
use Rattle.al_base_fault.specs.Faults.{earlier}
use Rattle.al_base_fault.specs.Judging.{fault_in, map_ok, next, unless}
use Rattle.al_base_fault.specs.declared.fault.Fault.{Fault}
use Rattle.al_overload_lookup.specs.Keys.{Denotations}
use Rattle.al_overload_readings.specs.Attributes.{attribute_named}
use Rattle.al_overload_readings.specs.ReadingViews.{reading_model}
use Rattle.al_overload_readings.specs.Readings.{ReadTree, callable, marking, selected}
use Rattle.al_overload_readings.specs.Steps.{applied_read, applied_to_read, qualified_read, with_attribute, with_range}
use Rattle.al_overload_readings.specs.TermLists.{all_model}
use Rattle.al_overload.specs.Terms.{TermTree, TermTree as terms}
use Rattle.al_overload.specs.TermViews.{term_model}
use Rattle.al_overload_readings.specs.declared.name.Link.{Link}
use Rattle.al_overload_readings.specs.declared.name.Link.TheVariants as links
use Rattle.al_overload_readings.specs.declared.name.Noted.{Noted}
use Rattle.al_tree.specs.Lexemes.{identifier_label}

pub record NotedTree : Type 0 where
  -- what it may be, with what fits nothing in the place of a faulty argument
  pub shape : Result ReadTree Fault
  -- the first fault in its arguments
  pub inside : Option Fault

abbrev pub noted_model : Noted → NotedTree
noted_model n = record { shape = map_ok reading_model n.shape; inside = n.inside }

-- what has no arguments
abbrev pub plain : Result ReadTree Fault → NotedTree
plain r = record { shape = r; inside = None }

-- the first fault of all
abbrev pub settled : NotedTree → Result ReadTree Fault
settled n = unless n.inside n.shape

abbrev pub or_nothing : Place → Result TermTree Fault → TermTree
or_nothing p (Ok t) = t
or_nothing p (Err f) = terms.NothingTerm p

-- several are two at least
abbrev pub all_or_nothing : Place → Result (List TermTree) Fault → List TermTree
all_or_nothing p (Ok ts) = ts
all_or_nothing p (Err f) = terms.NothingTerm p ∷ terms.NothingTerm p ∷ []

-- ---- with a part more

abbrev pub with_selector : Denotations → Label → NotedTree → NotedTree
with_selector d l n = record { shape = next n.shape (selected d l); inside = n.inside }

abbrev pub with_argument : Place → Result TermTree Fault → NotedTree → NotedTree
with_argument p a n = record { shape = applied_read (next n.shape callable) (Ok (or_nothing p a)); inside = earlier n.inside (fault_in a) }

abbrev pub with_arguments : Place → Result (List TermTree) Fault → NotedTree → NotedTree
with_arguments p a n = record { shape = applied_to_read (next n.shape callable) (Ok (all_or_nothing p a)); inside = earlier n.inside (fault_in a) }

abbrev pub attributed : Label → NotedTree → NotedTree
attributed l n = record { shape = next n.shape (with_attribute (attribute_named l.text)); inside = n.inside }

abbrev pub ranged : NotedTree → NotedTree
ranged n = record { shape = next n.shape with_range; inside = n.inside }

abbrev pub qualifying : Place → Result TermTree Fault → NotedTree → NotedTree
qualifying p a n = record { shape = qualified_read (next n.shape marking) (Ok (or_nothing p a)); inside = earlier n.inside (fault_in a) }

-- ---- the parts of the program, whose arguments were read

abbrev pub linked : Denotations → Link → NotedTree → NotedTree
linked d (links.Selector l) n = with_selector d (identifier_label l.now) n
linked d (links.Argument p a) n = with_argument p (map_ok term_model a) n
linked d (links.Arguments p a) n = with_arguments p (map_ok all_model a) n
linked d (links.Attribute l) n = attributed (identifier_label l.now) n
linked d links.RangeAttribute n = ranged n
linked d (links.Operand p a) n = qualifying p (map_ok term_model a) n

-- the last part of the text comes first
abbrev pub all_linked : Denotations → List Link → NotedTree → NotedTree
all_linked d [] n = n
all_linked d (link ∷ links) n = linked d link (all_linked d links n)
