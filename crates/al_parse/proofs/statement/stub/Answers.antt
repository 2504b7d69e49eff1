use Rattle.std.proofs.Common.{◌≡◌, ◌∷◌}
use Rattle.std.proofs.lemmas.Result.{err_from_is_err_and}
use Rattle.al_tree_grammar.specs.Grammar.{Label}
use Rattle.al_tree_grammar.specs.Grammar.Lexeme.{Fixed, Named}
use Rattle.al_tree_grammar.specs.Grammar.Rule.{Any, One, Seq}
use Rattle.al_tree_grammar.specs.Reading.{one}
use Rattle.al_parse.specs.declared.stop.Stop.{Stop}
use Rattle.al_parse.specs.Parses.{Lexemes, Stops, reading}
use Rattle.al_tree.specs.Lexemes.{lexemes, place_label}
use Rattle.al_parse.proofs.Rooms.{stops_first}
use Rattle.al_parse.proofs.statement.stub.Goals as goal

-- a fault after `is separate`
no_semicolon : (e : Stop) (l : Label) (xs ys zs : Lexemes) → xs ≡ Fixed 44 ∷ ys → ys ≡ Named 63 l ∷ zs → Stops e (one 14 zs) → Stops e (reading 0 (Seq (One 44) (Seq (Any 63) (One 14))) xs)
no_semicolon e l xs ys zs h k s = rw (h, k) s

pub returns-in_err-rest : goal.returns-in_err-rest
returns-in_err-rest c =
    let p = err_from_is_err_and c.from_residual.result c.from_residual.ensures.1 in
    rw (p.1, p.2) (stops_first c.in_err-rest.field-0.0 0 (One 44) (Seq (Any 63) (One 14)) (lexemes c.args.source.now c.args.tokens.now) c.in_err-rest.ensures)

pub returns-in_err-rest-2 : goal.returns-in_err-rest-2
returns-in_err-rest-2 c =
    let p = err_from_is_err_and c.from_residual-in_err-rest-2.result c.from_residual-in_err-rest-2.ensures.1 in
    rw (p.1, p.2) (no_semicolon c.in_err-rest-2.field-0.0 (place_label c.in_ok-separate.separate) (lexemes c.args.source.now c.args.tokens.now) (lexemes c.args.source.now c.in_ok-rest.rest.now) (lexemes c.args.source.now c.in_ok-separate.rest.now) c.in_ok-rest.ensures.0 c.in_ok-separate.ensures.0 c.in_err-rest-2.ensures)
