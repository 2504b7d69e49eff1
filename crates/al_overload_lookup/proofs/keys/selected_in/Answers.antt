use Rattle.std.proofs.Common.{ℕ, List, ap, ◌∙◌}
use Rattle.al_overload_lookup.proofs.NameKeys.{popped_selected}
use Rattle.al_overload_lookup.specs.Keys.{dotted}
use Rattle.al_overload_lookup.proofs.keys.selected_in.Goals as goal

pub loop-selector-preserved : goal.loop-selector-preserved
loop-selector-preserved c =
    popped_selected (λ s. s.now) c.loop-selector.selectors.items c.pop.new.self.items c.pop.result c.in-Some.selector c.loop-selector.key.items c.select.new.key.items _ c.pop.ensures.items c.in-Some.is
    (c.in_ok-select.ensures ∙ ap (λ (n : List ℕ). dotted c.loop-selector.key.items n) c.as_slice-in-Some.ensures) c.loop-selector.invariant
