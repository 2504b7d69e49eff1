use Rattle.std.proofs.Common.{subst, sym}
use Rattle.std.proofs.lemmas.Result.{on_ok_weaker}
use Rattle.al_base.specs.declared.unit_key.UnitKind.{UnitKind}
use Rattle.al_view.specs.Symbols.{same_kind}
use Rattle.al_base.specs.declared.unit_key.UnitKind.TheVariants.{Body}
use Rattle.std.proofs.Common.{if◌then◌else◌}
use Rattle.al_view_typed.specs.UnitTrees.{unit_model}
use Rattle.al_view_typed.specs.Uses.{unit_defines}
use Rattle.al_query_outcome.specs.Tables.{interface_of}
use Rattle.al_check_promises.specs.Links.{Gains}
use Rattle.al_check_promises.specs.SelfChecks.{defined}
use Rattle.al_check_promises.proofs.completed.add_completing.Goals as goal

pub returns-in-Body : goal.returns-in-Body
returns-in-Body c =
    let i = interface_of c.args.sound.now.properties c.args.sound.now.parts in
    let tree = unit_model c.args.sound.now.tree in
    on_ok_weaker c.add_defined.result (λ last.
    subst (λ (k : UnitKind). Gains c.args.set.now c.add_defined.new.set (if same_kind k Body then defined i tree else unit_defines tree)) (sym c.in-Body.is) last) c.add_defined.ensures

pub returns-in-Decl : goal.returns-in-Decl
returns-in-Decl c =
    let i = interface_of c.args.sound.now.properties c.args.sound.now.parts in
    let tree = unit_model c.args.sound.now.tree in
    on_ok_weaker c.add_defines.result (λ last.
    subst (λ (k : UnitKind). Gains c.args.set.now c.add_defines.new.set (if same_kind k Body then defined i tree else unit_defines tree)) (sym c.in-Decl.is) last) c.add_defines.ensures

pub returns-in-Sub : goal.returns-in-Sub
returns-in-Sub c =
    let i = interface_of c.args.sound.now.properties c.args.sound.now.parts in
    let tree = unit_model c.args.sound.now.tree in
    on_ok_weaker c.add_defines-in-Sub.result (λ last.
    subst (λ (k : UnitKind). Gains c.args.set.now c.add_defines-in-Sub.new.set (if same_kind k Body then defined i tree else unit_defines tree)) (sym c.in-Sub.is) last) c.add_defines-in-Sub.ensures
