use Rattle.std.proofs.Common.{◌≡◌, ◌∙◌, ap, refl, Bool, true, false, if◌then◌else◌}
use Rattle.al_view.specs.Symbols.{same_unit}
use Rattle.al_query_store.specs.Keyed.{State, as_now, replaced, settled_so, state}
use Rattle.al_query_store.proofs.store.Store.settle_made.Goals as goal

both : {E : Type 0} (b : Bool) (s : State E) → (if b then as_now (if b then replaced s else s) else (if b then replaced s else s)) ≡ (if b then settled_so s else s)
both true s = refl
both false s = refl

pub returns : goal.returns
returns g c u = c.reached_as_now.ensures u ∙ ap (λ (s : State g.row.E.Denot). if same_unit c.args.unit.now u then as_now s else s) (c.replace_settled.ensures u) ∙ both (same_unit c.args.unit.now u) (state c.args.self.now u)
