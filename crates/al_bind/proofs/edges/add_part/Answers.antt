use Rattle.std.proofs.Common.{ℕ, List, map, sym, subst}
use Rattle.al_base.specs.Batch.{key_of}
use Rattle.al_base.specs.declared.unit_key.UnitKind.TheVariants.{Body}
use Rattle.al_base_graph.specs.declared.edge.Reason.TheVariants.{Elaborate}
use Rattle.al_unit_graph.specs.Views.{header_model}
use Rattle.al_bind.specs.Numbers.{Adds, IsFor, IsForAll, OneOf, TiesBy}
use Rattle.al_bind.specs.Steps.{IsTold}
use Rattle.al_bind.proofs.TieLemmas.{part_none, part_some}
use Rattle.al_bind.proofs.edges.add_part.Goals as goal

pub returns-in_default : goal.returns-in_default
returns-in_default c = part_none c.args.sources.now (map key_of c.args.places.now.keys.items) c.args.x (key_of c.args.part.now) (IsTold c.args.extent c.args.sources.now (map key_of c.args.places.now.keys.items) (key_of c.args.part.now)) c.args.edges.now.items c.add_dependences.new.edges.items (sym c.in_default.ensures) c.in_ok-add_dependences.ensures

pub returns : goal.returns
returns c =
    let lib = c.args.sources.now in
    let keys = map key_of c.args.places.now.keys.items in
    let x = c.args.x in
    let h = header_model c.in-Some.header.now in
    let one = c.add_dependences.new.edges.items in
    let two = c.add_bodies.new.edges.items in
    let three = c.add_all.new.edges.items in
    part_some lib keys x (key_of c.args.part.now) (IsTold c.args.extent lib keys (key_of c.args.part.now)) h c.args.edges.now.items one two three (sym c.in-Some.ensures) c.in_ok-add_dependences.ensures
    (subst (λ (ns : List (List ℕ)). Adds one two (OneOf ns (λ q. TiesBy lib keys x (IsFor Elaborate (q, Body))))) c.as_slice.ensures.value c.in_ok-add_bodies.ensures)
    (subst (λ (ns : List (List ℕ)). Adds two three (OneOf ns (λ q. TiesBy lib keys x (IsForAll lib q)))) c.as_slice-2.ensures.value c.in_ok-add_all.ensures)
