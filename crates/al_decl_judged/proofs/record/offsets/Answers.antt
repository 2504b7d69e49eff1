use Rattle.std.proofs.Common.{◌≡◌, ℕ, ◌+◌, List, [], ◌∷◌, ◌++◌, take, get_or, sum, sym, ◌∙◌, ap, arith}
use Rattle.std.proofs.lemmas.List.{take_more}
use Rattle.std.proofs.lemmas.List.Sums.{sum_by_more, sum_by_more_le}
use Rattle.al_decl_judged.specs.Layouts.{offsets_from}
use Rattle.al_decl_judged.proofs.LayoutLemmas.{offsets_from-push}
use Rattle.al_decl_judged.proofs.record.offsets.Goals as goal

pub loop-more-preserved : goal.loop-more-preserved
loop-more-preserved c =
    let words = c.args.words.now in
    let i = c.loop-more.more-index in
    let inside = c.loop-more-test.true in
    let so_far = sum_by_more (λ (x : ℕ). x) words i 0 inside in
    let below = sum_by_more_le (λ (x : ℕ). x) words i 0 inside in
    let place : c.loop-more.place ≡ 0 + sum (take i words) = omega (arith, c.loop-more.invariant.0) in (
      omega (arith, so_far, below, c.saturating_add-place.ensures, c.loop-more.invariant.0),
      c.in_ok-push.ensures
          ∙ ap (λ (l : List ℕ). l ++ c.loop-more.place ∷ []) c.loop-more.invariant.1
          ∙ ap (λ (p : ℕ). offsets_from 0 (take i words) ++ p ∷ []) place
          ∙ sym (offsets_from-push 0 (take i words) (get_or words i 0))
          ∙ ap (λ (l : List ℕ). offsets_from 0 l) (sym (take_more words i 0 inside)),
    )
