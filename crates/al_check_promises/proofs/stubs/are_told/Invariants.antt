use Rattle.std.proofs.Common.{◌≡◌, drop}
use Rattle.std.specs.List.{list_all}
use Rattle.al_unit_graph.specs.Views.{header_model}
use Rattle.al_query_outcome.specs.Tables.{interface_of}
use Rattle.al_check_promises.specs.SelfChecks.{is_told_stub}
use Rattle.al_check_promises.proofs.stubs.are_told.Given as goal

abbrev pub invariant-loop-stub : goal.invariant-loop-stub
invariant-loop-stub l =
    list_all (is_told_stub l.unit (header_model l.header) (interface_of l.sound.properties l.sound.parts)) (drop l.stub-index l.sound.parts.stubs)
    ≡ list_all (is_told_stub l.unit (header_model l.header) (interface_of l.sound.properties l.sound.parts)) l.sound.parts.stubs
