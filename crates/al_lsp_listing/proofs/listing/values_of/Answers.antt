use Rattle.std.proofs.Common.{◌≡◌, ◌∙◌, sym, ap, List, ◌++◌, ◌∷◌, map}
use Rattle.serde_json.specs.Data.{Data}
use Rattle.serde_json.specs.View.{view}
use Rattle.serde_json.specs.declared.value.Value.{Value}
use Rattle.al_lsp_listing.specs.Listed.{Deep}
use Rattle.al_lsp_listing.specs.Stacks.{deep, stacked}
use Rattle.al_lsp_listing.proofs.Stacks.{stacked_push, value_moved}
use Rattle.al_lsp_listing.proofs.listing.values_of.Goals as goal

pub loop-last-preserved : goal.loop-last-preserved
loop-last-preserved c =
    let last = c.in-Some.last in
    let values = c.loop-last.values.items in
    let left = c.pop.new.self.items in
    let listed : List Deep → List Data = map (λ (d : Deep). d.listed) in
    let stack : stacked c.loop-last.pending.items ≡ deep last ∷ stacked left = ap stacked c.in-Some.ensures.items ∙ stacked_push left last in
    ap (λ (vs : List Value). map view vs ++ listed (stacked left)) c.in_ok-push.ensures.ok
    ∙ value_moved values c.into_value.result (listed (stacked left))
    ∙ ap (λ (v : Value). map view values ++ view v ∷ listed (stacked left)) c.into_value.ensures
    ∙ ap (λ (ds : List Deep). map view values ++ listed ds) (sym stack)
    ∙ c.loop-last.invariant
