-- What a term means in its complete context (ARM 8.6(4 to 9, 29 to 31)).
use Rattle.std.specs.Prelude.{Option, None, Result}
use Rattle.al_overload.specs.Labelling.{Label}
use Rattle.al_overload.specs.declared.types.ValueType.{ValueType}
use Rattle.al_base_fault.specs.declared.fault.Fault.{Fault}
use Rattle.al_overload.specs.Contexts.{wanted_in}
use Rattle.al_overload.specs.Meanings.{resolved}
use Rattle.al_overload.specs.declared.context.Context.{Context}
use Rattle.al_overload.specs.declared.context.Context.TheVariants as contexts
use Rattle.al_overload.specs.Places.{first_place}
use Rattle.al_overload.specs.Terms.{TermTree}
use Rattle.al_overload.specs.HeadsHeads.{bounds_head, head_of}
use Rattle.al_overload.specs.declared.everywhere.Predefined.{Predefined}
use Rattle.al_overload.specs.declared.part.Nominal.{Nominal}

-- its one acceptable interpretation; E402 or E403 at its first token, if there is none or are several
abbrev pub interpreted : Predefined → Context → Option Nominal → TermTree → Result Label Fault
interpreted p context allowed term = resolved (first_place term) None (head_of p allowed term) (wanted_in p.types context)

-- the type of bounds that are numbers alone: that which is wanted of them, or else Integer
abbrev pub numbers_in : Predefined → Context → ValueType
numbers_in p (contexts.BoundOf of) = of
numbers_in p (contexts.ChoiceOf of) = of
numbers_in p _ = p.types.integer

-- what a pair of bounds means in its complete context
abbrev pub bounds_interpreted : Predefined → Context → TermTree → TermTree → Result Label Fault
bounds_interpreted p context low high =
    resolved (first_place low) None (bounds_head p (numbers_in p context) low high) (wanted_in p.types context)
