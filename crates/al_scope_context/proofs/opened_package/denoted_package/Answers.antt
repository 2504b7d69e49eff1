use Rattle.std.proofs.Common.{◌≡◌, ◌∙◌, ℕ, Bool, false, List, Result, Err, map, ap, sym, if◌then◌else◌}
use Rattle.al_base_fault.specs.Judging.{next}
use Rattle.al_base_fault.specs.declared.fault.Fault.{Fault}
use Rattle.al_overload_lookup.specs.Keys.{denoted, is_none, not_visible}
use Rattle.al_overload_lookup.specs.Places.{place_of}
use Rattle.al_tree.specs.DeclarationViews.{compound_model}
use Rattle.al_tree.specs.Lexemes.{identifier_label}
use Rattle.al_tree.specs.declared.names.Identifier.{Identifier}
use Rattle.al_view.specs.Interfaces.{views_of}
use Rattle.al_view.specs.declared.view.ViewKind.{ViewKind}
use Rattle.al_scope_context.specs.UsesAt.{package_under, visible_key}
use Rattle.al_scope_context.proofs.opened_package.denoted_package.Goals as goal

pub returns : goal.returns
returns c =
    let names = c.args.names.now in
    let n = compound_model c.args.name.now in
    let p = place_of n.first in
    let key = c.in_ok-key.ensures
    ∙ ap (λ (x : List ℕ). visible_key (denoted names) p x (map identifier_label c.as_slice.result.now)) c.as_slice-first.ensures
    ∙ ap (λ (ss : List Identifier). visible_key (denoted names) p n.first.text (map identifier_label ss)) c.as_slice.ensures.value in
    let none : is_none (views_of names.visible n.first.text) ≡ false =
    sym (ap (λ (vs : List ViewKind). is_none vs) (c.views.ensures ∙ ap (views_of names.visible) c.as_slice-first.ensures)) ∙ sym c.is_none.ensures ∙ c.if-is_none.false in
    c.in_ok-unit.ensures
    ∙ ap (λ (r : Result (List ℕ) Fault). next r (λ (k : List ℕ). package_under c.args.packages.now p (views_of names.visible k))) key
    ∙ ap (λ (b : Bool). if b then Err (not_visible n.first) else next (visible_key (denoted names) p n.first.text n.selectors) (λ (k : List ℕ). package_under c.args.packages.now p (views_of names.visible k))) (sym none)
