use Rattle.std.proofs.Common.{ℕ, ◌+◌, List, map, ap, ◌∙◌, arith}
use Rattle.std.proofs.lemmas.List.{take_all}
use Rattle.al_overload_lookup.specs.Keys.{denoted}
use Rattle.al_overload_readings.specs.Noted.{settled}
use Rattle.al_overload_readings.specs.Texts.{read}
use Rattle.al_overload_values.proofs.Compounds.{checked_more}
use Rattle.al_overload_values.specs.CompoundNames.{name_text}
use Rattle.al_tree.specs.Lexemes.{identifier_label}
use Rattle.al_tree.specs.declared.names.Identifier.{Identifier}
use Rattle.al_overload_values.proofs.compound.read_parts.Goals as goal

pub loop-selector-preserved : goal.loop-selector-preserved
loop-selector-preserved c =
    let n = c.loop-selector.selector-index in
    checked_more (denoted c.args.names.now) (identifier_label c.args.first.now) c.args.selectors.now (n + 1) n c.selector-item.result _ _ (omega arith) (omega arith) c.selector-item.is c.loop-selector.invariant c.in_ok-longer.ensures

pub returns : goal.returns
returns c =
    ap settled c.loop-selector.invariant
    ∙ ap (λ (xs : List Identifier). read (denoted c.args.names.now) (name_text (record { first = identifier_label c.args.first.now; selectors = map identifier_label xs })))
    (take_all c.loop-selector.selector-index c.args.selectors.now (omega arith))
