-- What the predefined packages declare.
use Rattle.std.specs.Prelude.{ℕ, List, [], ◌∷◌, codes, Option, Some, None, if◌then◌else◌}
use Rattle.std.specs.Str.{bytes_eq}
use Rattle.al_view_predefined.specs.declared.operators.OperatorProfile.TheVariants.{Later}
use Rattle.al_view_predefined.specs.declared.operators.OperatorSymbol.TheVariants.{Plus}
use Rattle.al_view.specs.declared.symbol.Symbol.{Symbol}
use Rattle.al_view.specs.declared.types.Subtype.{Subtype}
use Rattle.al_view.specs.declared.types.TypeDefinition.TheVariants.{Time}
use Rattle.al_view.specs.declared.types.TypeView.{TypeView}
use Rattle.al_view.specs.declared.view.CallKind.TheVariants as call
use Rattle.al_view.specs.declared.view.Parameter.{Parameter}
use Rattle.al_view.specs.declared.view.ViewKind.{ViewKind}
use Rattle.al_view.specs.declared.view.ViewKind.TheVariants.{OfSubprogram}
use Rattle.al_view.specs.Interfaces.{with_view}
use Rattle.al_view.specs.Named.{Declarations}
use Rattle.al_view_predefined.specs.Operators.{operand, predefined_symbol, standard_symbol, time_span, whole_type, with_operator}
use Rattle.al_view_predefined.specs.Standard.{integer, of_type, scalar, standard}

-- a subprogram of a predefined package
abbrev pub predefined_subprogram : Symbol → List Parameter → Option Subtype → List TypeView → ViewKind
predefined_subprogram symbol parameters gives types = OfSubprogram (record {
  symbol = symbol;
  profile = record { parameters = parameters; result = gives };
  types = types;
  call = call.Predefined;
  flag = None;
})

abbrev pub text_io_name : List ℕ
text_io_name = codes "ada.text_io"

-- one more procedure of Ada.Text_IO
abbrev pub with_text_procedure : List Parameter → Declarations → List ℕ → Declarations
with_text_procedure parameters declared name =
    with_view declared name (predefined_subprogram (predefined_symbol text_io_name name) parameters None [])

-- the parameter of what puts out a string
abbrev pub item : List Parameter
item = operand (codes "item") (whole_type (standard_symbol (codes "string"))) ∷ []

-- Ada.Text_IO (ARM A.10.1): Put and Put_Line of a string, and New_Line
abbrev pub text_io : Declarations
text_io = with_text_procedure [] (with_text_procedure item (with_text_procedure item [] (codes "put")) (codes "put_line")) (codes "new_line")

abbrev pub real_time_name : List ℕ
real_time_name = codes "ada.real_time"

abbrev pub time : Symbol
time = predefined_symbol real_time_name (codes "time")

abbrev pub time_types : List TypeView
time_types = scalar time Time

abbrev pub span_types : List TypeView
span_types = scalar time_span Time

-- one more function of Ada.Real_Time
abbrev pub with_time_function : List Parameter → Symbol → List TypeView → Declarations → List ℕ → Declarations
with_time_function parameters gives types declared name =
    with_view declared name (predefined_subprogram (predefined_symbol real_time_name name) parameters (Some (whole_type gives)) types)

-- the parameter of Milliseconds
abbrev pub milliseconds : List Parameter
milliseconds = operand (codes "ms") (whole_type integer) ∷ []

-- Ada.Real_Time (ARM D.8): Time, Time_Span, Clock, the sum of a Time and a Time_Span, and Milliseconds
abbrev pub real_time : Declarations
real_time =
    let types = with_view (with_view [] (codes "time") (of_type time_types [])) (codes "time_span") (of_type span_types []) in
    let clock = with_time_function [] time time_types types (codes "clock") in
    let sum = with_operator time time_types Later [] clock Plus in
    with_time_function milliseconds time_span span_types sum (codes "milliseconds")

-- what the predefined package of this name declares (ARM A(2)), if there is one
abbrev pub predefined : List ℕ → Option Declarations
predefined name =
    if bytes_eq name (codes "standard") then Some standard
    else if bytes_eq name (codes "ada") then Some []
    else if bytes_eq name text_io_name then Some text_io
    else if bytes_eq name real_time_name then Some real_time
    else None
