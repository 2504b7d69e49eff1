use Rattle.std.proofs.Common.{◌≡◌, ◌∙◌, [], ℕ, List, map, drop, ap, sym, arith}
use Rattle.std.proofs.lemmas.List.{drop_all}
use Rattle.al_overload_lookup.specs.Keys.{denoted, dotted}
use Rattle.al_tree.specs.Lexemes.{identifier_label}
use Rattle.al_tree.specs.declared.names.Identifier.{Identifier}
use Rattle.al_scope_context.specs.UsesAt.{selector_fault, visible_key}
use Rattle.al_scope_context.proofs.UsesSteps.{visible-fault, visible-more}
use Rattle.al_scope_context.proofs.opened_package.visible_key.Goals as goal

pub returns-in-Some : goal.returns-in-Some
returns-in-Some c =
    let s = c.selector-item.result in
    let d = denoted c.args.names.now in
    visible-fault d c.args.place c.loop-selector.key.items c.in_ok-next.next.items c.args.selectors.now c.loop-selector.selector-index s c.selector_fault-fault.result c.in-Some.fault _ (omega arith) c.selector-item.is
    (c.in_ok-next.ensures ∙ ap (λ (k : List ℕ). dotted k (identifier_label s).text) c.as_slice.ensures.value)
    (c.selector_fault-fault.ensures ∙ ap (λ (k : List ℕ). selector_fault d c.args.place k (identifier_label s)) c.as_slice-in-loop-selector.ensures.value)
    c.in-Some.is c.loop-selector.invariant

pub loop-selector-preserved : goal.loop-selector-preserved
loop-selector-preserved c =
    let s = c.selector-item.result in
    let d = denoted c.args.names.now in
    visible-more d c.args.place c.loop-selector.key.items c.in_ok-next.next.items c.args.selectors.now c.loop-selector.selector-index s c.selector_fault-fault.result _ (omega arith) c.selector-item.is
    (c.in_ok-next.ensures ∙ ap (λ (k : List ℕ). dotted k (identifier_label s).text) c.as_slice.ensures.value)
    (c.selector_fault-fault.ensures ∙ ap (λ (k : List ℕ). selector_fault d c.args.place k (identifier_label s)) c.as_slice-in-loop-selector.ensures.value)
    c.in_default.is c.loop-selector.invariant

pub returns : goal.returns
returns c =
    let none : drop c.loop-selector.selector-index c.args.selectors.now ≡ [] = drop_all c.loop-selector.selector-index c.args.selectors.now (omega arith) in
    ap (λ (xs : List Identifier). visible_key (denoted c.args.names.now) c.args.place c.loop-selector.key.items (map identifier_label xs)) (sym none)
    ∙ c.loop-selector.invariant
