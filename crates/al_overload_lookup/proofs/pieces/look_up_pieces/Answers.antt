use Rattle.std.proofs.Common.{◌≡◌, List, take, refl, sym, subst, ap, ◌∙◌, arith}
use Rattle.std.proofs.lemmas.List.{take_all}
use Rattle.al_overload_lookup.specs.declared.denoted.Names.{Names}
use Rattle.al_overload_lookup.proofs.Pieced.{no_key, no_names}
use Rattle.al_overload_lookup.proofs.Shorts.{next_found, next_key, none_short}
use Rattle.al_overload_lookup.specs.Lookups.{asked_units, looked_up_all}
use Rattle.al_overload_lookup.specs.Pieces.{AreShort, names_of}
use Rattle.al_overload_lookup.specs.declared.name.TextName.{TextName}
use Rattle.al_overload_lookup.specs.declared.piece.Piece.{Piece}
use Rattle.al_query.proofs.AskLemmas.{asks_none, asks_then}
use Rattle.al_query.specs.Asked.{OfKnown, by_some_name}
use Rattle.al_overload_lookup.proofs.pieces.look_up_pieces.Goals as goal

pub loop-piece-init : goal.loop-piece-init
loop-piece-init g c = record {
  asked = refl;
  key = c.new-key.ensures.items ∙ sym no_key;
  answered = λ t h. (
    h,
    (
      c.nothing_found-names.ensures ∙ ap (λ (ns : List TextName). looked_up_all t c.args.scope.now c.args.packages.now ns) (sym no_names),
      subst (λ (n : Names). AreShort n 0) (sym c.nothing_found-names.ensures) (none_short 0),
    ),
  );
  asks = asks_none (OfKnown (asked_units c.args.scope.now c.args.packages.now) by_some_name) c.args.recorder.now.log;
}

pub loop-piece-preserved : goal.loop-piece-preserved
loop-piece-preserved g c =
    let i = c.loop-piece.invariant in
    let x = c.piece-item.result in
    record {
      asked = c.look_up_piece.ensures.asked ∙ i.asked;
      key = next_key c.args.pieces.now c.loop-piece.piece-index x c.loop-piece.key.items c.look_up_piece.new.key.items (omega arith) c.piece-item.is i.key c.in_ok-next.ensures.key;
      answered = λ t h. let answered = c.in_ok-next.ensures.answered t h in
          let before = i.answered t answered.0 in
          let now = answered.1 before.1.1 in (
            before.0,
            (
              next_found t c.args.scope.now c.args.packages.now c.loop-piece.names c.look_up_piece.new.names c.loop-piece.key.items c.args.pieces.now c.loop-piece.piece-index x (omega arith) c.piece-item.is i.key before.1.0 now.0,
              now.1,
            ),
          );
      asks = asks_then (OfKnown (asked_units c.args.scope.now c.args.packages.now) by_some_name) c.args.recorder.now.log c.loop-piece.recorder.log c.look_up_piece.new.recorder.log i.asks
          c.in_ok-next.ensures.asks;
    }

pub returns-clause-answered : goal.returns-clause-answered
returns-clause-answered g c t h =
    let before = c.loop-piece.invariant.answered t h in
    let all : take c.loop-piece.piece-index c.args.pieces.now ≡ c.args.pieces.now = take_all c.loop-piece.piece-index c.args.pieces.now (omega arith) in
    (before.0, before.1.0 ∙ ap (λ (ps : List Piece). looked_up_all t c.args.scope.now c.args.packages.now (names_of ps)) all)
