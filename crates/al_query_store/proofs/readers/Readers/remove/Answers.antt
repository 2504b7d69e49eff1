use Rattle.std.proofs.Common.{◌≡◌, ◌&&◌, not, ◌∙◌, sym, ap, subst, refl, Some, None, [], Option, IsSome, cond, unwrap_or}
use Rattle.std.specs.Map.{lookup}
use Rattle.al_base.specs.declared.unit_key.UnitKey.{UnitKey}
use Rattle.al_base.specs.contracts.unit_key.UnitKeyOrd.TheImpl.{cmp-value}
use Rattle.al_view.specs.Symbols.{same_unit}
use Rattle.al_query.specs.Queries.{same_query, unit_of}
use Rattle.al_query_store.proofs.UnitLemmas.{IsByName, changed, found}
use Rattle.al_query_store.specs.Reads.{has, questions_of, reads, same_place}
use Rattle.al_query_store.proofs.ReadLemmas.{ByQuery, ByUnit, reads-removed, reads_none}
use Rattle.al_query_store.proofs.readers.Readers.remove.Goals as goal

by_name : IsByName cmp-value.it
by_name n m = (refl, refl, refl, refl, refl, refl, refl, refl, refl)

pub returns-in_default : goal.returns-in_default
returns-in_default c q p =
    let es = c.self.inside.units.entries in
    let k = c.args.query.now in
    let r = c.args.place in
    let at = c.in_default.ensures.value in
    let none : lookup (same_unit (unit_of k)) es ≡ None =
    ap (λ (u : UnitKey). lookup (same_unit u) es) (sym c.unit.ensures) ∙ sym (found cmp-value.it by_name c.unit.result.now es) ∙ sym at in
    let entries = ap (λ m. m.entries) c.get_mut.follows.holds-at-none in
    ap (λ (l : ByUnit). reads l q p) entries ∙ reads_none es k q p r none
    ∙ ap (λ (l : ByUnit). reads l q p && not (same_query k q && same_place r p)) c.self.view_is

pub returns : goal.returns
returns c q p =
    let es = c.self.inside.units.entries in
    let k = c.args.query.now in
    let r = c.args.place in
    let s = c.remove.new.self in
    let w = c.get_mut.follows.holds s in
    let at = c.in-Some.ensures.value in
    let there : lookup (same_unit (unit_of k)) es ≡ Some c.in-Some.questions.now =
    ap (λ (u : UnitKey). lookup (same_unit u) es) (sym c.unit.ensures) ∙ sym (found cmp-value.it by_name c.unit.result.now es) ∙ sym at in
    let set = changed cmp-value.it by_name es _ c.unit.result.now (Some s) ((w.3 (subst (λ (o : Option ByQuery). IsSome o) at refl)).0) (unit_of q)
    ∙ ap (λ (u : UnitKey). cond (same_unit u (unit_of q)) (Some s) (lookup (same_unit (unit_of q)) es)) c.unit.ensures in
    let less : has s q p ≡ (has (questions_of es (unit_of k)) q p && not (same_query k q && same_place r p)) =
    c.remove.ensures q p ∙ ap (λ (o : Option ByQuery). has (unwrap_or o []) q p && not (same_query k q && same_place r p)) (sym there) in
    reads-removed es _ k q s p set r less
    ∙ ap (λ (l : ByUnit). reads l q p && not (same_query k q && same_place r p)) c.self.view_is
