use Rattle.std.proofs.Common.{◌≡◌, ◌∙◌, ◌≤◌, ◌+◌, ◌-◌, ℕ, List, fold, take, drop, ap, sym, arith}
use Rattle.std.proofs.Math.Seq.{take-add}
use Rattle.std.proofs.lemmas.List.{take_min}
use Rattle.std.proofs.lemmas.List.Sums.{fold-append}
use Rattle.al_lsp.specs.Positions.{after_byte, position_in, spot_after, start}
use Rattle.al_lsp.specs.declared.position.Counting.{Counting}
use Rattle.al_lsp.specs.declared.position.Spot.{Spot}
use Rattle.al_lsp_listing.proofs.extents.position_at.Goals as goal

-- from a mark on
spot_on : (counting : Counting) (text : List ℕ) (m at : ℕ) (s : Spot) → m ≤ at → s ≡ spot_after counting (take m text) → fold (after_byte counting) s (take (at - m) (drop m text)) ≡ spot_after counting (take at text)
spot_on counting text m at s le e =
    let n : m + (at - m) ≡ at = omega (arith, le) in
    ap (λ (t : Spot). fold (after_byte counting) t (take (at - m) (drop m text))) e
    ∙ sym (fold-append (after_byte counting) start (take m text) (take (at - m) (drop m text)))
    ∙ ap (spot_after counting) (sym (take-add m (at - m) text))
    ∙ ap (λ (k : ℕ). spot_after counting (take k text)) n

pub returns : goal.returns
returns c =
    let text = c.args.text.now in
    let counting = c.args.counting in
    let m = c.mark_before-mark.result in
    let is : m.spot ≡ spot_after counting (take m.offset text) = c.mark_before-mark.ensures.mark counting text c.requires in
    let at : take c.min-at.result text ≡ take c.args.offset text = ap (λ (k : ℕ). take k text) c.min-at.ensures ∙ take_min c.args.offset text in
    let spot : c.spot_from.result ≡ spot_after counting (take c.args.offset text) = c.spot_from.ensures ∙ spot_on counting text m.offset c.min-at.result m.spot c.mark_before-mark.ensures.before is ∙ ap (spot_after counting) at in
    c.position.ensures ∙ ap position_in spot
