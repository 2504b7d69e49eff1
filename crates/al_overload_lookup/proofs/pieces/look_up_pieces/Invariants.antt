use Rattle.std.proofs.Common.{◌≡◌, take}
use Rattle.al_overload_lookup.specs.Lookups.{asked_units, looked_up_all}
use Rattle.al_overload_lookup.specs.Pieces.{AreShort, last_key, names_of}
use Rattle.al_query.specs.Asked.{AsksOf, by_some_name}
use Rattle.al_query.specs.Reads.{FromAnswers}
use Rattle.al_overload_lookup.proofs.pieces.look_up_pieces.Given as goal

abbrev pub invariant-loop-piece : goal.invariant-loop-piece
invariant-loop-piece g l = record {
  asked : l.recorder.asked ≡ l.fn.recorder.asked;
  key : l.key.items ≡ last_key (take l.piece-index l.pieces);
  answered : FromAnswers l.fn.recorder.log l.recorder.log (λ t. (l.names ≡ looked_up_all t l.scope l.packages (names_of (take l.piece-index l.pieces))) × AreShort l.names l.longest);
  asks : AsksOf (asked_units l.scope l.packages) by_some_name l.fn.recorder.log l.recorder.log;
}
