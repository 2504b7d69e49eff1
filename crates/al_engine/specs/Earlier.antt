-- Which result of compiling a build goes on from: that of the last build, or one that was kept behind builds that found errors.
use Rattle.std.specs.Prelude.{◌≡◌, Bool, true, false, Option, Some, None, IfSome}
use Rattle.al_base.specs.declared.unit_key.UnitKey.{UnitKey}
use Rattle.al_unit_graph.specs.Headers.{Library}
use Rattle.al_query_outcome.specs.Results.{Outcome}
use Rattle.al_engine.specs.BatchRenewals.{KeepsBut}
use Rattle.al_engine.specs.Patches.{linked_in}
use Rattle.al_engine.specs.declared.compiled.Compiled.{Compiled}
use Rattle.al_engine.specs.declared.earlier.Base.{Base}
use Rattle.al_engine.specs.declared.earlier.Earlier.{Earlier}
use Rattle.al_engine.specs.declared.rebuilding.Rebuilt.{Rebuilt}

-- the program that is kept, if there is one, is that of its main unit, but for the object of one unit
abbrev pub KeepsEarlier : Library → (UnitKey → Option Outcome) → Option Earlier → Type 0
KeepsEarlier lib f earlier = IfSome earlier (λ k. KeepsBut lib f k.main k.unit k.compiled)

-- the earlier result, if there is one and it is the one in question, or else the last one
abbrev pub earlier_or : Option Earlier → Compiled → Compiled
earlier_or None last = last
earlier_or (Some k) last = k.compiled

abbrev pub compiled_at : Compiled → Option Earlier → Bool → Compiled
compiled_at last earlier false = last
compiled_at last earlier true = earlier_or earlier last

abbrev pub base_at : Rebuilt → Bool → Compiled
base_at gave is_earlier = compiled_at gave.compiled gave.earlier is_earlier

-- what a build goes on from; that of the last build, if nothing else is known
abbrev pub over : Rebuilt → Option Base → Compiled
over gave None = gave.compiled
over gave (Some b) = base_at gave b.is_earlier

-- behind the earlier result is a build that gave no image
abbrev pub IsBehind : Rebuilt → Base → Type 0
IsBehind gave b = b.is_earlier ≡ true → linked_in gave.compiled ≡ None

-- the result holds but for the object of one unit
pub record IsBase (lib : Library) (f : UnitKey → Option Outcome) (gave : Rebuilt) (b : Base) : Type 0 where
  pub keeps : KeepsBut lib f b.main b.unit (base_at gave b.is_earlier)
  pub behind : IsBehind gave b
