use Rattle.std.proofs.Common.{◌∙◌, ◌++◌, ℕ, List, Option, length, ap, sym, subst}
use Rattle.std.specs.Option.{option_map}
use Rattle.al_base.specs.declared.unit_key.UnitKey.{UnitKey}
use Rattle.al_query.specs.Answers.{declaration}
use Rattle.al_query.specs.Known.{AreKnown, known_after}
use Rattle.al_query.proofs.KnownLemmas.{has_unit-right}
use Rattle.al_unit_graph.specs.Names as names
use Rattle.al_unit_graph.specs.Views.{header_model}
use Rattle.al_check_start.specs.Starts.{as_list, outward, own_declaration}
use Rattle.al_check_start.proofs.Knowing.{known-among, known-join, known-left}
use Rattle.al_check_start.proofs.known.round_library_unit.Goals as goal

pub returns-clause-answered : goal.returns-clause-answered
returns-clause-answered g c t h =
    let answered = c.in_ok-outer.ensures.answered t h in
    let own = c.args.own.now in
    let decl = own_declaration (header_model c.args.header.now) in
    let name = c.as_slice-name.result.now in
    let first = c.in_ok-add_own_declaration.ensures ∙ ap (λ (l : List UnitKey). l ++ decl) c.new-units.ensures.items in
    let outer = answered.1
    ∙ ap (λ (o : Option UnitKey). outward t own (length name) o) c.in_ok-parent.ensures
    ∙ ap (λ (n : List ℕ). outward t own (length n) (option_map declaration (names.parent_of n))) c.as_slice-name.ensures in
    (answered.0, c.in_ok-units.ensures ∙ ap (λ (l : List UnitKey). l ++ c.in_ok-outer.outer.items) first ∙ ap (λ (l : List UnitKey). decl ++ l) outer)

pub returns-clause-known : goal.returns-clause-known
returns-clause-known g c =
    let decl = own_declaration (header_model c.args.header.now) in
    let first = c.in_ok-add_own_declaration.ensures ∙ ap (λ (l : List UnitKey). l ++ decl) c.new-units.ensures.items in
    let parent = c.in_ok-parent.ensures ∙ ap (λ (n : List ℕ). option_map declaration (names.parent_of n)) c.as_slice-name.ensures in
    let above = as_list (option_map declaration (names.parent_of c.args.header.now.name)) in
    let log = c.outward_from.new.recorder.log in
    let outer = c.in_ok-outer.outer.items in
    let known = subst (λ (o : Option UnitKey). AreKnown (known_after (as_list o) log) outer) parent c.in_ok-outer.ensures.known in
    let now = known_after (decl ++ above) log in
    subst (λ (l : List UnitKey). AreKnown now l) (sym (c.in_ok-units.ensures ∙ ap (λ (l : List UnitKey). l ++ outer) first))
    (known-join now decl outer (known-left decl above log) (known-among above (decl ++ above) outer log (has_unit-right decl above) known))
