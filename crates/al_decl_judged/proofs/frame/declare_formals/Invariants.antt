use Rattle.std.proofs.Common.{◌≡◌, take}
use Rattle.al_decl_judged.specs.Frames.{formal_declarations, formal_words, with_formals}
use Rattle.al_decl_judged.proofs.frame.declare_formals.Given as goal

abbrev pub invariant-loop-formal : goal.invariant-loop-formal
invariant-loop-formal l = (l.progress ≡ with_formals l.fn.progress (take l.formal-index l.formals)) × (l.made.declarations ≡ formal_declarations l.fn.progress (take l.formal-index l.formals)) × (l.made.words ≡ formal_words l.fn.progress (take l.formal-index l.formals))
