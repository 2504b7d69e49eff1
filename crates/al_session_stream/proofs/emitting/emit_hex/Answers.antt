use Rattle.std.proofs.Common.{◌≡◌, ℕ, List, ◌++◌, [], append_assoc, append-nil, sym, ap, ◌∙◌, rules, refl}
use Rattle.std.proofs.lemmas.List.{nil_from_length}
use Rattle.std.specs.Slice.Iter.{chunks_rest}
use Rattle.al_session_stream.specs.Hexadecimal.{hex_line, hex_lines}
use Rattle.al_session_stream.proofs.HexLines.{hex_lines-none, hex_lines-first}
use Rattle.al_session_stream.proofs.emitting.emit_hex.Goals as goal

pub loop-line-init : goal.loop-line-init
loop-line-init g c = record {
  done = [];
  whole = search rules;
  size = search rules;
  room = λ ok. (ok, refl);
  adds = λ start before wrote. rw append-nil wrote;
}

pub loop-line-preserved : goal.loop-line-preserved
loop-line-preserved g c =
    let so_far = c.loop-line.invariant in
    let steps = c.in-Some.ensures.steps in
    let more = hex_lines-first (chunks_rest c.loop-line.line-iterator) c.in-Some.line.now (chunks_rest c.next.new.self) _ steps.1.0 steps.1.2 so_far.size steps.1.1 in
    let line = hex_line c.in-Some.line.now in
    record {
      done = so_far.done ++ line;
      whole = append_assoc so_far.done line (hex_lines (chunks_rest c.next.new.self)) ∙ ap (λ (bs : List ℕ). so_far.done ++ bs) (sym more) ∙ so_far.whole;
      size = steps.0 ∙ so_far.size;
      room = λ ok. let now = c.emit_hex_line-so_far.ensures.faults ok in let before = so_far.room now.0 in (before.0, now.1 ∙ before.1);
      adds = λ start before wrote. rw (← append_assoc before so_far.done line) (c.emit_hex_line-so_far.ensures.adds start _ (so_far.adds start before wrote));
    }

pub returns-clause-adds : goal.returns-clause-adds
returns-clause-adds g c = λ start before wrote.
    let so_far = c.loop-line.invariant in
    let none = nil_from_length _ c.in-None.ensures.steps.1.0 in
    let all : so_far.done ≡ hex_lines c.args.bytes.now = sym (append-nil so_far.done) ∙ ap (λ (bs : List ℕ). so_far.done ++ bs) (sym hex_lines-none) ∙ ap (λ (bs : List ℕ). so_far.done ++ hex_lines bs) (sym none) ∙ so_far.whole in
    rw all at (so_far.adds start before wrote)
