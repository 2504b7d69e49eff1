use Rattle.std.proofs.Common.{◌≡◌, ℕ, ◌+◌, List, [], ◌∷◌, length, take, ap, ◌∙◌}
use Rattle.al_base.specs.declared.unit_key.UnitKey.{UnitKey}
use Rattle.al_code_object.specs.Objects.{CompiledCode}
use Rattle.al_code_object.specs.declared.object.Object.{Object}
use Rattle.al_link.specs.Partitions.{with_object}
use Rattle.al_link.proofs.OverLemmas.{none_written, one_written, units_of}
use Rattle.al_link.proofs.writing.write_units.Goals.{in-Compiled, in_default}
use Rattle.al_link.proofs.writing.write_units.Goals as goal

pub loop-unit-preserved : goal.loop-unit-preserved
loop-unit-preserved c = elim c.match-unit.branch [
  | in-Compiled w ↦
      let key : UnitKey = c.unit-item.result.key.now in
      let o : CompiledCode = w.in-Compiled.object in
      let is : units_of c.unit-item.result ≡ record { key = key; object = o } ∷ [] = ap (λ (x : Object). with_object key x) w.in-Compiled.is in
      let end : c.match-unit.base ≡ c.loop-unit.base + length o.code = w.base-is ∙ ap (λ (xs : List ℕ). c.loop-unit.base + length xs) w.code.ensures.value in
      let all = one_written c.args.places.now (take c.args.start c.args.code.now) c.args.units.now c.loop-unit.unit-index c.loop-unit.base c.loop-unit.code c.loop-unit.invariant key o c.unit-item.result c.loop-unit-test.true c.unit-item.is is
      w.write_code.new.code w.write_code.auto.code w.write_code.ensures.written w.write_code.ensures.is_code w.write_code.ensures.keeps in
      rw (w.code-is, end) all
  | in_default w ↦
      let is : units_of c.unit-item.result ≡ [] = ap (λ (x : Object). with_object c.unit-item.result.key.now x) w.in_default.is in
      rw (w.code-is, w.base-is) (none_written c.args.places.now (take c.args.start c.args.code.now) c.args.units.now c.loop-unit.unit-index c.loop-unit.base c.loop-unit.code c.unit-item.result c.loop-unit.invariant c.loop-unit-test.true c.unit-item.is is)
]
