use Rattle.std.proofs.Common.{◌≡◌, ◌+◌, ◌++◌, ◌∷◌, [], ◌∙◌, ℕ, List, map, take, sym, ap, subst}
use Rattle.std.proofs.lemmas.List.{take_all, take_more}
use Rattle.std.specs.List.{Contains}
use Rattle.al_base.specs.Batch.{Finding, finding_of}
use Rattle.al_base.specs.declared.diagnostic.Diagnostic.{Diagnostic}
use Rattle.al_engine.specs.Texts.{may_differ}
use Rattle.al_engine.proofs.Kept.{each-more}
use Rattle.al_engine.proofs.edits.are_in.Goals as goal

pub loop-diagnostic-preserved : goal.loop-diagnostic-preserved
loop-diagnostic-preserved c =
    let xs = c.args.found.now in
    let i = c.loop-diagnostic.diagnostic-index in
    let x = c.diagnostic-item.result in
    let more : take (i + 1) xs ≡ take i xs ++ x ∷ [] = take_more xs i x c.loop-diagnostic-test.true ∙ ap (λ (y : Diagnostic). take i xs ++ y ∷ []) (sym c.diagnostic-item.is) in
    each-more finding_of (λ (f : Finding). may_differ c.args.edited.now f.file) xs i x more c.loop-diagnostic.invariant
    (subst (may_differ c.args.edited.now) c.as_slice.ensures (c.has.ensures.0 c.if-not-has.false))

pub returns : goal.returns
returns c = λ is f has.
    c.loop-diagnostic.invariant f (subst (λ (xs : List Diagnostic). Contains (map finding_of xs) f) (sym (take_all c.loop-diagnostic.diagnostic-index c.args.found.now c.loop-diagnostic-test.false)) has)
