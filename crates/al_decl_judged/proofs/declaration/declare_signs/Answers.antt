use Rattle.std.proofs.Common.{get_or}
use Rattle.std.proofs.lemmas.List.{take_more}
use Rattle.al_view_predefined.specs.declared.operators.OperatorProfile.TheVariants.{Unary}
use Rattle.al_view_predefined.specs.declared.operators.OperatorSymbol.TheVariants.{And}
use Rattle.al_decl_judged.specs.TypeDeclarations.{Sign}
use Rattle.al_decl_judged.proofs.DeclarationLemmas.{signs_counted, signs_declared}
use Rattle.al_decl_judged.proofs.declaration.declare_signs.Goals as goal

pub loop-sign-preserved : goal.loop-sign-preserved
loop-sign-preserved c =
    let none : Sign = (Unary, And) in
    let i = c.loop-sign.sign-index in
    let sign = get_or c.args.signs.now i none in
    let more = take_more c.args.signs.now i none c.loop-sign-test.true in (
      signs_counted c.args.homonyms.now c.loop-sign.homonyms c.declare_sign.new.homonyms c.args.signs.now i sign c.loop-sign-test.true more c.in_ok-declare_sign.ensures.counted c.loop-sign.invariant.0,
      signs_declared c.args.symbol.now c.args.types.now c.args.homonyms.now c.loop-sign.homonyms c.args.declared.now c.loop-sign.declared c.declare_sign.new.declared c.args.signs.now i sign more c.loop-sign.invariant.0 c.in_ok-declare_sign.ensures.declared c.loop-sign.invariant.1,
    )
