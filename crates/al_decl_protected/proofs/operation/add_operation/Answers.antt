use Rattle.std.proofs.Common.{ℕ, List, ap, ◌∙◌}
use Rattle.al_decl_judged.specs.Progressing.{symbol_of, with_counted}
use Rattle.al_decl_protected.proofs.Added.{added_so}
use Rattle.al_decl_protected.proofs.operation.add_operation.Goals as goal

pub returns-clause-made : goal.returns-clause-made
returns-clause-made c =
    let h = c.args.env.now in
    let symbol = c.in_ok-symbol.ensures.symbol ∙ ap (λ (x : List ℕ). symbol_of h.progress x) c.as_slice.ensures in
    let counted = c.in_ok-symbol.ensures.counted ∙ ap (λ (x : List ℕ). with_counted h.progress x) c.as_slice.ensures in
    added_so h c.make_visible.new.env c.args.object.now c.args.is_entry c.args.heading.now c.args.operations.now _ _ c.in_ok-symbol.symbol c.in_ok-operation.operation counted symbol c.in_ok-make_visible.ensures.made c.in_ok-operation.ensures c.in_ok-push.ensures
