use Rattle.std.proofs.Common.{◌≡◌, ◌∙◌, sym, ap, subst, true, nat_lt, List, ◌∷◌, Some}
use Rattle.serde_json.specs.View.{view}
use Rattle.serde_json.specs.declared.value.Value.{Value}
use Rattle.al_lsp_listing.specs.declared.listing.Pending.{Pending}
use Rattle.al_lsp_listing.specs.Listed.{is_inside, Deep, Pops}
use Rattle.al_lsp_listing.specs.Stacks.{deep, stacked}
use Rattle.al_lsp_listing.proofs.Stacks.{pops_top, stacked_push}
use Rattle.al_lsp_listing.proofs.listing.pop_inside.Goals as goal

pub returns-in-Some-clause-pops : goal.returns-in-Some-clause-pops
returns-in-Some-clause-pops c =
    let depth = c.args.depth in
    let last = c.in-Some.last in
    let old = c.args.pending.now.items in
    let new = c.pop.new.self.items in
    let stack : stacked old ≡ deep last ∷ stacked new = ap stacked c.in-Some.ensures.items ∙ stacked_push new last in
    let yes : c.is_inside.result ≡ true = cc in
    let seen : is_inside depth (stacked c.as_slice.result.now) ≡ is_inside depth (stacked old) = ap (λ (ps : List Pending). is_inside depth (stacked ps)) c.as_slice.ensures.value in
    let is : nat_lt depth last.depth ≡ true = sym (seen ∙ ap (is_inside depth) stack) ∙ sym c.is_inside.ensures ∙ yes in
    let P : List Deep → Type 0 = λ ds. Pops depth ds (stacked new) (Some (view last.value)) in
    let Q : Value → Type 0 = λ w. Pops depth (stacked old) (stacked new) (Some (view w)) in
    subst Q (sym c.into_value.ensures) (subst P (sym stack) (pops_top depth (deep last) (stacked new) is))
