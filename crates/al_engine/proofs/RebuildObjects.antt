-- What objects use and define.
use Rattle.std.proofs.Common.{◌≡◌, Bool, true, false, List, cond, subst, leb}
use Rattle.std.specs.List.{Contains}
use Rattle.al_view.specs.declared.link.LinkSymbol.{LinkSymbol}
use Rattle.al_view_typed.specs.UnitTrees.{UnitTree}
use Rattle.al_code_object.specs.declared.object.Object.TheVariants.{Large, Compiled}
use Rattle.al_code_object.specs.Objects.{CompiledCode}
use Rattle.al_code.specs.Pieces.{size}
use Rattle.al_code.specs.ObjectOf.{compiled_of, object_of}
use Rattle.al_code.specs.Routines.{unit_code}
use Rattle.al_engine.specs.Symbols.{EachHasItsTreesSymbols, HasItsTreesSymbols}
use Rattle.al_engine.proofs.Defined.{unit_defined}
use Rattle.al_engine.proofs.Used.{symbols_used}
use Rattle.al_engine.proofs.UsedBodies.{unit_used}

chosen_is : (fits : Bool) (code o : CompiledCode) → cond fits (Compiled code) Large ≡ Compiled o → code ≡ o
chosen_is true code o is = cc
chosen_is false code o is = absurd (cc)

has_symbols : (u : UnitTree) → HasItsTreesSymbols u (compiled_of u (unit_code u))
has_symbols u = record {
  uses = λ x c. (unit_used u).are x (subst (λ (l : List LinkSymbol). Contains l x) (symbols_used 0 (unit_code u)) c);
  defines = λ x c. unit_defined u x c;
}

pub objects_have_their_trees_symbols : EachHasItsTreesSymbols
unfolding object_of
objects_have_their_trees_symbols u o is =
    let same : compiled_of u (unit_code u) ≡ o = chosen_is (leb (size (unit_code u)) 16777216) (compiled_of u (unit_code u)) o is in
    subst (λ (x : CompiledCode). HasItsTreesSymbols u x) same (has_symbols u)
