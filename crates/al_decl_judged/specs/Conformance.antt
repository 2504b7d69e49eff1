-- When a specification conforms to a profile (ARM 6.3.1).
use Rattle.std.specs.Prelude.{◌≡◌, ℕ, ◌<◌, List, length, Option, Some, None, slice_index_or}
use Rattle.al_view.specs.declared.types.Subtype.{Subtype}
use Rattle.al_view.specs.declared.view.Parameter.{Parameter}
use Rattle.al_view.specs.declared.view.Profile.{Profile}
use Rattle.al_decl_judged.specs.declared.specification.Formal.{Formal}
use Rattle.al_decl_judged.specs.declared.specification.Returned.{Returned}
use Rattle.al_decl_judged.specs.declared.specification.Returned.TheVariants.{NoValue, Value}
use Rattle.al_decl_judged.specs.declared.specification.Specification.{Specification}

-- two lists are equally long, and R holds of each element with its counterpart
abbrev pub EachWith : {X Y : Type 0} → (X → Y → Type 0) → List X → List Y → Type 0
EachWith {X} {Y} R xs ys = (length xs ≡ length ys) × ((k : ℕ) (d : X) (e : Y) → k < length xs → R (slice_index_or xs k d) (slice_index_or ys k e))

-- a mark conforms to a subtype: it is of its type and has its bounds (ARM 4.9.1(2), 6.3.1(17)). A mark that has a fault of
-- its own isn't compared
abbrev pub MarkConforms : Option Subtype → Subtype → Type 0
MarkConforms None s = Unit {0}
MarkConforms (Some mark) s = mark ≡ s

-- one name, one mode, and subtypes that conform (ARM 6.3.1(15 to 18))
pub record FormalConforms (f : Formal) (p : Parameter) : Type 0 where
  pub name : f.name ≡ p.name
  pub mode : f.mode ≡ p.mode
  pub subtype : MarkConforms f.subtype p.subtype

-- both are procedures, or both are functions whose results conform
abbrev pub ReturnedConforms : Returned → Option Subtype → Type 0
ReturnedConforms NoValue None = Unit {0}
ReturnedConforms (Value mark) (Some s) = MarkConforms mark s
ReturnedConforms _ _ = ⊥

pub record Conforms (s : Specification) (p : Profile) : Type 0 where
  pub formals : EachWith FormalConforms s.formals p.parameters
  pub returned : ReturnedConforms s.returned p.result

-- a mark is of a subtype's type. One that has a fault of its own is of no type
abbrev pub MarkIsOf : Option Subtype → Subtype → Type 0
MarkIsOf None s = ⊥
MarkIsOf (Some mark) s = mark.base ≡ s.base

abbrev pub FormalIsOf : Formal → Parameter → Type 0
FormalIsOf f p = MarkIsOf f.subtype p.subtype

abbrev pub ReturnedIsOf : Returned → Option Subtype → Type 0
ReturnedIsOf NoValue None = Unit {0}
ReturnedIsOf (Value mark) (Some s) = MarkIsOf mark s
ReturnedIsOf _ _ = ⊥

-- a specification has the types of a profile: those of its parameters and of its result (ARM 8.3(8))
pub record HasTypesOf (s : Specification) (p : Profile) : Type 0 where
  pub formals : EachWith FormalIsOf s.formals p.parameters
  pub returned : ReturnedIsOf s.returned p.result
