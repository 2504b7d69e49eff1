use Rattle.std.proofs.Common.{◌≡◌, ◌||◌, ◌&&◌, ◌∙◌, sym, ap, subst, refl, Some, None, [], Option, IsSome, cond, unwrap_or}
use Rattle.std.specs.Map.{lookup}
use Rattle.al_base.specs.declared.unit_key.UnitKey.{UnitKey}
use Rattle.al_base.specs.contracts.unit_key.UnitKeyOrd.TheImpl.{cmp-value}
use Rattle.al_view.specs.Symbols.{same_unit}
use Rattle.al_query.specs.Queries.{same_query, unit_of}
use Rattle.al_query_store.proofs.UnitLemmas.{IsByName, changed, found}
use Rattle.al_query_store.specs.Reads.{has, questions_of, reads, same_place}
use Rattle.al_query_store.proofs.ReadLemmas.{ByQuery, ByUnit, on_err, reads-added, reads-kept}
use Rattle.al_query_store.proofs.readers.Readers.add.Goals as goal

by_name : IsByName cmp-value.it
by_name n m = (refl, refl, refl, refl, refl, refl, refl, refl, refl)

pub returns-in_err-add-clause-err : goal.returns-in_err-add-clause-err
returns-in_err-add-clause-err c =
    let es = c.self.inside.units.entries in
    let k = c.args.query.now in
    let s = c.add.new.self in
    let w = c.get_mut.follows.holds s in
    let at = c.in-Some.ensures.value in
    let there : lookup (same_unit (unit_of k)) es ≡ Some c.in-Some.questions.now =
    ap (λ (u : UnitKey). lookup (same_unit u) es) (sym c.unit.ensures) ∙ sym (found cmp-value.it by_name c.unit.result.now es) ∙ sym at in
    on_err c.from_residual.result (λ q p.
    let set = changed cmp-value.it by_name es _ c.unit.result.now (Some s) ((w.3 (subst (λ (o : Option ByQuery). IsSome o) at refl)).0) (unit_of q)
    ∙ ap (λ (u : UnitKey). cond (same_unit u (unit_of q)) (Some s) (lookup (same_unit (unit_of q)) es)) c.unit.ensures in
    let same : has s q p ≡ has (questions_of es (unit_of k)) q p = c.in_err-add.ensures.err q p ∙ ap (λ (o : Option ByQuery). has (unwrap_or o []) q p) (sym there) in
    reads-kept es _ k q s p set same ∙ ap (λ (l : ByUnit). reads l q p) c.self.view_is)

pub returns-in-Some-clause-ok : goal.returns-in-Some-clause-ok
returns-in-Some-clause-ok c q p =
    let es = c.self.inside.units.entries in
    let k = c.args.query.now in
    let r = c.args.place in
    let s = c.add.new.self in
    let w = c.get_mut.follows.holds s in
    let at = c.in-Some.ensures.value in
    let there : lookup (same_unit (unit_of k)) es ≡ Some c.in-Some.questions.now =
    ap (λ (u : UnitKey). lookup (same_unit u) es) (sym c.unit.ensures) ∙ sym (found cmp-value.it by_name c.unit.result.now es) ∙ sym at in
    let set = changed cmp-value.it by_name es _ c.unit.result.now (Some s) ((w.3 (subst (λ (o : Option ByQuery). IsSome o) at refl)).0) (unit_of q)
    ∙ ap (λ (u : UnitKey). cond (same_unit u (unit_of q)) (Some s) (lookup (same_unit (unit_of q)) es)) c.unit.ensures in
    let more : has s q p ≡ (has (questions_of es (unit_of k)) q p || (same_query k q && same_place r p)) =
    c.in_ok-add.ensures.ok q p ∙ ap (λ (o : Option ByQuery). has (unwrap_or o []) q p || (same_query k q && same_place r p)) (sym there) in
    reads-added es _ k q s p set r more
    ∙ ap (λ (l : ByUnit). reads l q p || (same_query k q && same_place r p)) c.self.view_is

pub returns-clause-ok : goal.returns-clause-ok
returns-clause-ok c q p =
    let es = c.self.inside.units.entries in
    let k = c.args.query.now in
    let r = c.args.place in
    let s = c.add-2.new.self in
    let at = c.in_default.ensures.value in
    let none : lookup (same_unit (unit_of k)) es ≡ None =
    ap (λ (u : UnitKey). lookup (same_unit u) es) (sym c.unit.ensures) ∙ sym (found cmp-value.it by_name c.unit.result.now es) ∙ sym at in
    let entries = ap (λ m. m.entries) c.get_mut.follows.holds-at-none in
    let set : lookup (same_unit (unit_of q)) c.insert.new.self.entries ≡ cond (same_unit (unit_of k) (unit_of q)) (Some s) (lookup (same_unit (unit_of q)) es) =
    changed cmp-value.it by_name c.get_mut.follows.lender-at-none.entries c.insert.new.self.entries c.in_ok-copied_unit.field-0 (Some s) c.in_ok-insert.ensures.updates.0 (unit_of q)
    ∙ ap (λ (u : UnitKey). cond (same_unit u (unit_of q)) (Some s) (lookup (same_unit (unit_of q)) c.get_mut.follows.lender-at-none.entries)) (c.in_ok-copied_unit.ensures ∙ c.unit-2.ensures)
    ∙ ap (λ (l : ByUnit). cond (same_unit (unit_of k) (unit_of q)) (Some s) (lookup (same_unit (unit_of q)) l)) entries in
    let more : has s q p ≡ (has (questions_of es (unit_of k)) q p || (same_query k q && same_place r p)) =
    c.in_ok-add-2.ensures.ok q p
    ∙ ap (λ (l : ByQuery). has l q p || (same_query k q && same_place r p)) c.new-questions.ensures
    ∙ ap (λ (o : Option ByQuery). has (unwrap_or o []) q p || (same_query k q && same_place r p)) (sym none) in
    reads-added es c.insert.new.self.entries k q s p set r more
    ∙ ap (λ (l : ByUnit). reads l q p || (same_query k q && same_place r p)) c.self.view_is
