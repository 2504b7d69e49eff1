use Rattle.std.proofs.Common.{◌≡◌, ◌++◌, [], map, drop}
use Rattle.al_engine_toy.specs.Toys.{words_from}
use Rattle.al_engine_toy.proofs.reading.words_of.Given as goal

abbrev pub invariant-loop-byte : goal.invariant-loop-byte
invariant-loop-byte l = map (λ w. w.items) l.words.items ++ words_from l.word.items (drop l.byte-index l.text) ≡ words_from [] l.text
