-- What each kind of complete context wants of its expression (ARM 8.6(4 to 9, 20 to 25)).
use Rattle.std.specs.Prelude.{if◌then◌else◌}
use Rattle.al_overload.specs.Fitting.{is_integer}
use Rattle.al_overload.specs.declared.types.ValueType.{ValueType}
use Rattle.al_overload.specs.declared.types.Expected.{Expected}
use Rattle.al_overload.specs.declared.types.Expected.TheVariants as w
use Rattle.al_overload.specs.declared.context.Context.{Context}
use Rattle.al_overload.specs.declared.context.Context.TheVariants as contexts
use Rattle.al_overload.specs.declared.context.PredefinedTypes.{PredefinedTypes}

-- the operand of a conversion: if the target is an integer type, of any one
abbrev pub converted_to : ValueType → Expected
converted_to target = if is_integer target.class then w.AnyInteger else w.Value target

abbrev pub wanted_in : PredefinedTypes → Context → Expected
wanted_in types (contexts.InitialValue t) = w.Value t
wanted_in types contexts.NumberValue = w.AnyInteger
wanted_in types contexts.PairOfBounds = w.AnyDiscrete
wanted_in types contexts.IntegerBound = w.AnyInteger
wanted_in types (contexts.BoundOf t) = w.Value t
wanted_in types contexts.Condition = w.Value types.boolean
wanted_in types contexts.Selector = w.AnyDiscrete
wanted_in types (contexts.ChoiceOf t) = w.Value t
wanted_in types contexts.Moment = w.Value types.time
wanted_in types contexts.PriorityValue = w.Value types.integer
wanted_in types contexts.Target = w.AnyValue
wanted_in types (contexts.Source t) = w.Value t
wanted_in types contexts.ProcedureCall = w.Nothing
wanted_in types (contexts.ReturnValue t) = w.Value t
wanted_in types contexts.PutArgument = w.Text
wanted_in types (contexts.ImageArgument t) = w.Value t
wanted_in types (contexts.ConversionOperand t) = converted_to t
wanted_in types (contexts.QualifiedOperand t) = w.Value t
