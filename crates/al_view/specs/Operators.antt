-- Operators of types.
use Rattle.std.specs.Prelude.{Bool, false}
use Rattle.al_view.specs.declared.symbol.Symbol.{Symbol}
use Rattle.al_view.specs.declared.view.CallKind.{CallKind}
use Rattle.al_view.specs.declared.view.CallKind.TheVariants as call
use Rattle.al_view.specs.declared.view.ViewKind.{ViewKind}
use Rattle.al_view.specs.declared.view.ViewKind.TheVariants.{OfSubprogram}
use Rattle.al_view.specs.Symbols.{same_symbol}

abbrev pub is_call_of : CallKind → Symbol → Bool
is_call_of (call.Operator of_type) s = same_symbol of_type s
is_call_of _ s = false

-- whether it is an operator of the type: one that the type's declaration declares (ARM 8.4(8.1))
abbrev pub is_operator_of : ViewKind → Symbol → Bool
is_operator_of (OfSubprogram v) s = is_call_of v.call s
is_operator_of _ s = false
