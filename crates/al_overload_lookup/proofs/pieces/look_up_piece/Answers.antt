use Rattle.std.proofs.Common.{◌≡◌, ◌≤◌, ℕ, List, false, length, sym, subst, ap, ◌∙◌}
use Rattle.al_overload_lookup.specs.Keys.{is_none}
use Rattle.al_overload_lookup.proofs.Shorts.{past, short_more}
use Rattle.al_overload_lookup.specs.Lookups.{looked_up}
use Rattle.al_overload_lookup.specs.Pieces.{is_past, piece_name}
use Rattle.al_view.specs.Interfaces.{views_of}
use Rattle.al_overload_lookup.proofs.pieces.look_up_piece.Goals as goal

pub returns-then-is_past-clause-answered : goal.returns-then-is_past-clause-answered
returns-then-is_past-clause-answered g c t h =
    let key = c.args.key.now.items in
    let long = ap (λ (k : List ℕ). is_past k c.args.longest c.args.piece.now) (sym c.as_slice-front.ensures.value) ∙ sym c.is_past.ensures ∙ c.if-is_past.true in
    (h, λ short. (past t c.args.scope.now c.args.packages.now c.args.names.now key c.args.piece.now c.args.longest long short, short))

pub returns-clause-answered : goal.returns-clause-answered
returns-clause-answered g c t h =
    let key = c.args.key.now.items in
    let names = c.look_up_one.new.names in
    let answered = c.in_ok-look_up_one.ensures.answered t h in
    let now = answered.1 ∙ ap (λ (k : List ℕ). looked_up t c.args.scope.now c.args.packages.now c.args.names.now (piece_name k c.args.piece.now)) c.as_slice-before.ensures.value in
    let found = subst (λ (k : List ℕ). is_none (views_of names.visible k) ≡ false → length k ≤ c.longest_with.result) c.as_slice-after.ensures.value c.longest_with.ensures.found in (
      answered.0,
      λ short. (now, short_more t c.args.scope.now c.args.packages.now c.args.names.now names key c.add_to_key-2.new.key.items c.args.piece.now c.args.longest c.longest_with.result now c.in_ok-add_to_key-2.ensures c.longest_with.ensures.before found short),
    )
