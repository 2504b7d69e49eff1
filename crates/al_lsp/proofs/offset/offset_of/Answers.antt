use Rattle.std.proofs.Common.{◌≡◌, ℕ, Bool, ◌+◌, ◌≤◌, take, get_or, true, false, ap, sym, ◌∙◌, arith}
use Rattle.std.proofs.lemmas.List.Sums.{fold_more}
use Rattle.al_lsp.specs.Positions.{after_byte, start, spot_after, position_in, position_at, is_within, last_where}
use Rattle.al_lsp.proofs.Wheres.{last_where_yes, last_where_no}
use Rattle.al_lsp.proofs.offset.offset_of.Goals as goal
use Rattle.al_lsp.proofs.offset.offset_of.Goals.{then-is_within, else-is_within}

pub loop-i-preserved : goal.loop-i-preserved
loop-i-preserved c =
    let inv = c.loop-i.invariant in
    let text = c.args.text.now in
    let counting = c.args.counting in
    let i = c.loop-i.i in
    let test : ℕ → Bool = λ offset. is_within (position_at counting text offset) c.args.position in
    let spot : c.after_byte-spot.result ≡ spot_after counting (take (i + 1) text) = c.after_byte-spot.ensures ∙ ap (λ s. after_byte counting s (get_or text i 0)) inv.spot ∙ sym (fold_more (after_byte counting) start text i 0 c.loop-i-test.true) in
    let here : c.position.result ≡ position_at counting text (i + 1) = c.position.ensures ∙ ap position_in spot in
    let answer : c.is_within.result ≡ is_within (position_at counting text (i + 1)) c.args.position = c.is_within.ensures ∙ ap (λ p. is_within p c.args.position) here in
    elim c.if-is_within.branch [
      | then-is_within w ↦ record {
        spot = spot;
        best = w.best-is ∙ sym (last_where_yes test i (sym (w.if-is_within.ensures ∙ ap (λ p. is_within p c.args.position) here)));
        within = omega (arith, w.best-is);
      }
      | else-is_within w ↦ record {
        spot = spot;
        best = w.best-is ∙ inv.best ∙ sym (last_where_no test i (sym (w.if-is_within.ensures ∙ ap (λ p. is_within p c.args.position) here)));
        within = omega (arith, w.best-is, inv.within);
      }
    ]
