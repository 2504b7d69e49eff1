use Rattle.std.proofs.Common.{sym}
use Rattle.al_view_typed.specs.DeclarationTrees.{DeclarationTree, declaration_model}
use Rattle.al_code.specs.Declarations.{declaration_code}
use Rattle.al_code.proofs.Writing.{written_nothing, written_more}
use Rattle.al_code.proofs.Lists.{written_mapped}
use Rattle.al_code.proofs.declarations.emit_declarations.Goals as goal

pub loop-declaration-init : goal.loop-declaration-init
loop-declaration-init c = sym (written_nothing c.args.out.now)

pub loop-declaration-preserved : goal.loop-declaration-preserved
loop-declaration-preserved c =
    written_more (λ d. declaration_code c.args.depth (declaration_model d)) c.args.out.now c.loop-declaration.out c.emit_marked.new.out c.args.declarations.now c.loop-declaration.declaration-index c.declaration-item.result
    c.loop-declaration.invariant c.in_ok-emit_marked.ensures c.declaration-item.is c.loop-declaration-test.true

pub returns : goal.returns
returns c = written_mapped (λ (d : DeclarationTree). declaration_code c.args.depth d) declaration_model c.args.out.now c.loop-declaration.out c.args.declarations.now c.loop-declaration.declaration-index c.loop-declaration.invariant c.loop-declaration-test.false
