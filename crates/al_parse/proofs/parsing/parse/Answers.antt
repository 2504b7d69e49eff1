use Rattle.std.proofs.Common.{length}
use Rattle.std.proofs.lemmas.List.{length-map}
use Rattle.al_tree.specs.Lexemes.{lexeme_of, lexemes}
use Rattle.al_parse.proofs.Texts.{fault_found}
use Rattle.al_parse.proofs.parsing.parse.Goals as goal

pub returns-in-Err-Fault-clause-fault : goal.returns-in-Err-Fault-clause-fault
returns-in-Err-Fault-clause-fault c =
    fault_found (lexemes c.args.source.now c.args.tokens.now) c.in-Err-Fault.left (length c.args.tokens.now) (length-map c.args.tokens.now (lexeme_of c.args.source.now)) (rw c.in-Err-Fault.field-0-is at c.in-Err-Fault.ensures.fault)
