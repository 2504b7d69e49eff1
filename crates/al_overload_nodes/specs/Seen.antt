-- What the program's values are as plain data.
use Rattle.std.specs.Option.{option_copied}
use Rattle.al_overload.specs.Parts.{nominal}
use Rattle.al_overload_nodes.specs.declared.leaf.Application.{Application}
use Rattle.al_overload_nodes.specs.declared.leaf.Application.TheVariants as a
use Rattle.al_overload_nodes.specs.declared.determined.DeterminedType.{DeterminedType}
use Rattle.al_overload_nodes.specs.Leaves.{Application as plain, Application as made}
use Rattle.al_overload_nodes.specs.FromAnswers.{DeterminedType as types_told, determined}

abbrev pub application_model : Application → plain
application_model (a.CallOf s) = made.CallOf s.now
application_model (a.ElementOf o) = made.ElementOf o.now
application_model (a.ElementOfPart subtype types) = made.ElementOfPart (nominal types.now subtype.now)
application_model a.Misapplied = made.Misapplied

abbrev pub told_model : DeterminedType → types_told
told_model t = determined (option_copied t.types) t.of.now
