use Rattle.std.proofs.Common.{◌≡◌, [], map, take}
use Rattle.std.specs.Str.{bytes_eq}
use Rattle.indexmap.specs.IndexSet.{insert_all}
use Rattle.al_query_outcome.specs.Words.{word_of}
use Rattle.al_check_bounded.proofs.words.words_in.Given as goal

abbrev pub invariant-loop-token : goal.invariant-loop-token
invariant-loop-token l = l.words ≡ insert_all bytes_eq [] (map (word_of l.text) (take l.token-index l.tokens))
