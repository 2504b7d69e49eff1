use Rattle.std.proofs.Common.{bytes_eq, sym, ◌∙◌}
use Rattle.al_unit_faults.proofs.UnitLemmas.{any_name}
use Rattle.al_unit_faults.proofs.private.is_one_of.Goals as goal

pub returns-then-eq : goal.returns-then-eq
returns-then-eq c =
    any_name (λ n. bytes_eq n c.args.name.now) (λ n. n.now) c.args.names.now c.loop-n.n-index _ c.loop-n-test.true (sym c.eq.ensures ∙ c.if-eq.true)
