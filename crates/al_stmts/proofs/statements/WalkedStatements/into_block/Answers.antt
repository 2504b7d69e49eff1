use Rattle.std.proofs.Common.{ap, ◌∙◌}
use Rattle.al_stmts.specs.Steps.{Part, block_of, inside_of}
use Rattle.al_stmts.proofs.Joined.{if_ok}
use Rattle.al_stmts.specs.WalkedViews.{all_model}
use Rattle.al_stmts.proofs.statements.WalkedStatements.into_block.Goals as goal

pub returns : goal.returns
returns c =
    if_ok c.into_block.result _ _
    (λ one is. is ∙ ap (block_of c.args.line c.args.end) (c.in_ok-inside.ensures ∙ ap (λ (p : Part). inside_of p (all_model c.args.self)) c.new.ensures))
    c.into_block.ensures
