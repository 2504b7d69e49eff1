use Rattle.std.proofs.Common.{arith}
use Rattle.al_query_outcome.specs.declared.interface.StubDeclarations.{StubDeclarations}
use Rattle.al_check_here.proofs.Lists.{mapped}
use Rattle.al_check_here.proofs.ends.stub_names.Goals as goal

pub loop-stub-preserved : goal.loop-stub-preserved
loop-stub-preserved c =
    mapped (λ (s : StubDeclarations). s.stub) c.loop-stub.names c.add_name.new.names c.args.stubs.now c.loop-stub.stub-index c.stub-item.result (omega arith) c.stub-item.is c.loop-stub.invariant c.in_ok-add_name.ensures
