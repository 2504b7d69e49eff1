use Rattle.std.proofs.Common.{[], sym, ◌∙◌}
use Rattle.al_engine_toy.proofs.ToyFiles.{are_toys, no_library, toys_are_headed, toys_name_parents}
use Rattle.al_engine_toy.proofs.files.sources_of.Goals as goal

pub sources_after-requires : goal.sources_after-requires
sources_after-requires c = are_toys c.new-none.result [] (c.new-none.ensures ∙ sym no_library)

pub returns-clause-headed : goal.returns-clause-headed
returns-clause-headed c = toys_are_headed c.in_ok-sources.sources (are_toys c.in_ok-sources.sources c.args.files.now c.in_ok-sources.ensures)

pub returns-clause-bodies : goal.returns-clause-bodies
returns-clause-bodies c = toys_name_parents c.in_ok-sources.sources (are_toys c.in_ok-sources.sources c.args.files.now c.in_ok-sources.ensures)
