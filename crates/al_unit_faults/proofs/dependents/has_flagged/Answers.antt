use Rattle.std.proofs.Common.{◌≡◌, true, subst, sym, ◌∙◌}
use Rattle.al_base.specs.Batch.{key_of}
use Rattle.al_base.specs.declared.unit_key.UnitKey.{UnitKey}
use Rattle.al_unit_graph.proofs.ClosureLemmas.{any_at}
use Rattle.al_unit_faults.specs.Dependents.{is_flagged}
use Rattle.al_unit_faults.specs.Numbers.{numbers_model}
use Rattle.al_unit_faults.proofs.dependents.has_flagged.Goals as goal

pub returns-then-branch : goal.returns-then-branch
returns-then-branch c =
    let P : UnitKey → Type 0 = λ key. is_flagged c.args.sources.now (numbers_model c.args.numbers.now) c.args.flags.now (key_of key) ≡ true in
    sym (any_at (is_flagged c.args.sources.now (numbers_model c.args.numbers.now) c.args.flags.now) key_of c.args.keys.now c.loop-key.key-index c.key-item.result c.loop-key-test.true (subst P c.key-item.is (sym c.in_ok-is_flagged.ensures ∙ c.if-branch.true)))
