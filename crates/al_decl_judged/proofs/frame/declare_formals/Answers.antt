use Rattle.al_decl_judged.proofs.FormalLemmas.{formals_declared, formals_taken, formals_worded}
use Rattle.al_decl_judged.proofs.frame.declare_formals.Goals as goal

pub loop-formal-preserved : goal.loop-formal-preserved
loop-formal-preserved c =
    let first = c.args.progress.now in
    let now = c.loop-formal.progress in
    let formals = c.args.formals.now in
    let i = c.loop-formal.formal-index in
    let f = c.formal-item.result in
    let inside = c.loop-formal-test.true in
    let is = c.formal-item.is in
    let made = c.loop-formal.made in
    let new = c.declare_formal.new.formals in
    let so_far = c.loop-formal.invariant.0 in (
      formals_taken first now c.declare_formal.new.progress formals i f inside is c.in_ok-declare_formal.ensures.taken so_far,
      formals_declared first now formals i f made.declarations new.declarations inside is c.in_ok-declare_formal.ensures.declared so_far c.loop-formal.invariant.1,
      formals_worded first now formals i f made.words new.words inside is c.in_ok-declare_formal.ensures.words so_far c.loop-formal.invariant.2,
    )
