use Rattle.std.proofs.Common.{◌≡◌, drop, map}
use Rattle.al_tree_grammar.specs.Reading.{begins}
use Rattle.al_tree_syntax.specs.Symbols.{number}
use Rattle.al_tree.specs.Lexemes.{lexemes}
use Rattle.al_tree.specs.Symbols.{symbol_model}
use Rattle.al_parse.proofs.step.is_any_next.Given as goal

abbrev pub invariant-loop-symbol : goal.invariant-loop-symbol
invariant-loop-symbol l = begins (map (λ s. number (symbol_model s)) l.symbols) (lexemes l.source l.tokens) ≡ begins (map (λ s. number (symbol_model s)) (drop l.symbol-index l.symbols)) (lexemes l.source l.tokens)
