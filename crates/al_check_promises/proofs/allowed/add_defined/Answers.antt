use Rattle.std.proofs.Common.{List, map, subst}
use Rattle.std.proofs.lemmas.Result.{on_ok_weaker}
use Rattle.al_view.specs.ViewUses.{link}
use Rattle.al_view.specs.declared.link.LinkKind.TheVariants.{Code}
use Rattle.al_view_typed.specs.UnitTrees.{unit_model}
use Rattle.al_view_typed.specs.Uses.{unit_defines}
use Rattle.al_query_outcome.specs.declared.interface.StubDeclarations.{StubDeclarations}
use Rattle.al_check_promises.specs.Links.{Gains}
use Rattle.al_check_promises.proofs.Gained.{gains_both}
use Rattle.al_check_promises.proofs.allowed.add_defined.Goals as goal

pub returns : goal.returns
returns c =
    on_ok_weaker c.add_stubs.result (λ last.
    gains_both c.args.set.now c.add_defines.new.set c.add_stubs.new.set (unit_defines (unit_model c.args.tree.now)) (map (λ s. link Code s.symbol) c.args.parts.now.stubs)
    c.in_ok-add_defines.ensures
    (subst (λ (ss : List StubDeclarations). Gains c.add_defines.new.set c.add_stubs.new.set (map (λ s. link Code s.symbol) ss)) c.as_slice.ensures last)) c.add_stubs.ensures
