use Rattle.std.proofs.Common.{◌≡◌, Bool, cond, List, [], ◌∷◌, Some, Bor, ap, sym, ◌∙◌}
use Rattle.std.specs.Option.{option_map}
use Rattle.al_base.specs.Batch.{Key, key_of}
use Rattle.al_unit_graph.specs.Library.{unit_in}
use Rattle.al_unit_graph.specs.Views.{header_model}
use Rattle.al_unit_graph.specs.declared.header.Header.{Header}
use Rattle.al_unit_graph.specs.Orders.{names_model}
use Rattle.al_unit_faults.proofs.ListingLemmas.{told, among_model}
use Rattle.al_unit_faults.proofs.obsolete_units.obsolete_unit.Goals as goal

pub returns-then-is_obsolete : goal.returns-then-is_obsolete
returns-then-is_obsolete c =
    let old = c.args.built.now in
    let new = c.args.now.now in
    let faulty = names_model c.args.faulty.now.keys in
    let file = c.args.file.now in
    let h = header_model c.in-Some.header.now in
    let k = key_of c.in_ok-key.key in
    let there : unit_in new file ≡ Some h = sym c.unit_in.ensures ∙ ap (λ o. option_map (λ (u : Bor Header). header_model u.now) o) c.in-Some.is in
    let all = told old faulty new file c.args.is_touched h k c.has_unit-was_unit.result c.contains.result c.differs-is_obsolete.result there c.in_ok-key.ensures c.has_unit-was_unit.ensures (c.contains.ensures ∙ among_model file c.args.faulty.now.keys) c.differs-is_obsolete.ensures in
    let P : Bool → List Key = λ b. cond b (k ∷ []) [] in
    ap P (sym c.if-is_obsolete.true) ∙ all

pub returns-else-is_obsolete : goal.returns-else-is_obsolete
returns-else-is_obsolete c =
    let old = c.args.built.now in
    let new = c.args.now.now in
    let faulty = names_model c.args.faulty.now.keys in
    let file = c.args.file.now in
    let h = header_model c.in-Some.header.now in
    let k = key_of c.in_ok-key.key in
    let there : unit_in new file ≡ Some h = sym c.unit_in.ensures ∙ ap (λ o. option_map (λ (u : Bor Header). header_model u.now) o) c.in-Some.is in
    let all = told old faulty new file c.args.is_touched h k c.has_unit-was_unit.result c.contains.result c.differs-is_obsolete.result there c.in_ok-key.ensures c.has_unit-was_unit.ensures (c.contains.ensures ∙ among_model file c.args.faulty.now.keys) c.differs-is_obsolete.ensures in
    let P : Bool → List Key = λ b. cond b (k ∷ []) [] in
    ap P (sym c.if-is_obsolete.false) ∙ all
