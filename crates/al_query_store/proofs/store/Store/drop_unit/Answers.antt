use Rattle.std.proofs.Common.{◌≡◌, ◌∙◌, ap, refl, Bool, true, false, None, if◌then◌else◌}
use Rattle.al_view.specs.Symbols.{same_unit}
use Rattle.al_query_store.specs.Keyed.{State, nothing, state, without_made, without_settled}
use Rattle.al_query_store.proofs.StateLemmas.{changes-here}
use Rattle.al_query_store.proofs.store.Store.drop_unit.Goals as goal

both : {E : Type 0} (b : Bool) (s : State E) → (if b then nothing else (if b then without_made (if b then without_settled s else s) else (if b then without_settled s else s))) ≡ (if b then nothing else s)
both true s = refl
both false s = refl

pub drop_cell-requires-clause-settled : goal.drop_cell-requires-clause-settled
drop_cell-requires-clause-settled g c =
    let u = c.args.unit.now in
    let old = c.args.self.now in
    let mid = c.drop_settled.new.self in
    let first : (state mid u).settled ≡ None = ap (λ (s : State g.row.E.Denot). s.settled) (changes-here without_settled u old mid c.drop_settled.ensures) in
    ap (λ (s : State g.row.E.Denot). s.settled) (changes-here without_made u mid c.drop_made.new.self c.drop_made.ensures) ∙ first

pub drop_cell-requires-clause-made : goal.drop_cell-requires-clause-made
drop_cell-requires-clause-made g c =
    ap (λ (s : State g.row.E.Denot). s.made) (changes-here without_made c.args.unit.now c.drop_settled.new.self c.drop_made.new.self c.drop_made.ensures)

pub returns : goal.returns
returns g c u =
    c.drop_cell.ensures u
    ∙ ap (λ (s : State g.row.E.Denot). if same_unit c.args.unit.now u then nothing else s) (c.drop_made.ensures u ∙ ap (λ (s : State g.row.E.Denot). if same_unit c.args.unit.now u then without_made s else s) (c.drop_settled.ensures u))
    ∙ both (same_unit c.args.unit.now u) (state c.args.self.now u)
