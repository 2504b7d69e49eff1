use Rattle.std.proofs.Common.{◌≡◌, ◌∙◌, ap, refl, Bool, true, false, if◌then◌else◌}
use Rattle.al_view.specs.Symbols.{same_unit}
use Rattle.al_query_store.specs.Keyed.{State, as_before, cancelled_state, state, without_made}
use Rattle.al_query_store.proofs.store.Store.cancel_unit.Goals as goal

-- what was made is let go, and then it is reached as before
both : {E : Type 0} (b : Bool) (s : State E) → (if b then as_before (if b then without_made s else s) else (if b then without_made s else s)) ≡ (if b then cancelled_state s else s)
both true s = refl
both false s = refl

pub returns : goal.returns
returns g c u = c.reached_as_before.ensures u ∙ ap (λ (s : State g.row.E.Denot). if same_unit c.args.unit.now u then as_before s else s) (c.drop_made.ensures u) ∙ both (same_unit c.args.unit.now u) (state c.args.self.now u)
