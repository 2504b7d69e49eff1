use Rattle.std.proofs.Common.{◌≡◌, Result, IfOk, subst}
use Rattle.al_base_fault.specs.declared.fault.Fault.{Fault}
use Rattle.al_base_fault.specs.Judging.{map_ok}
use Rattle.al_decl_judged.specs.declared.declared.Declared.{Declared}
use Rattle.al_decl_judged.specs.declared.progress.Progress.{Progress}
use Rattle.al_decl_judged.specs.Declaring.{DeclaredTree, declared_model, joined}
use Rattle.al_decl_judged.proofs.TypeLemmas.{integer_right}
use Rattle.al_decl_judged.proofs.type_kind.declare_integer.Goals as goal

pub returns : goal.returns
returns c =
    let right = integer_right c.args.progress.now c.type_symbol.new.self c.args.name.now c.args.duplicate c.args.range c.in_ok-symbol.symbol c.in_ok-literals.literals c.in_ok-types.types c.in_ok-symbol.ensures.counted c.in_ok-symbol.ensures.symbol c.in_ok-types.ensures c.in_ok-literals.ensures in
    let P : Result (Progress × DeclaredTree) Fault → Type 0 = λ x. IfOk c.with_type.result (λ (checked : Result Declared Fault). joined c.with_type.new.progress (map_ok declared_model checked) ≡ x) in
    subst P right c.with_type.ensures
