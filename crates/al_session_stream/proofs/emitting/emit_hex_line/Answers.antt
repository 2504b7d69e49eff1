use Rattle.std.proofs.Common.{◌<◌, ◌+◌, ◌*◌, ◌≡◌, length, take, set, length-set, arith, ap, ◌∙◌}
use Rattle.std.proofs.lemmas.List.{take_all}
use Rattle.std.specs.List.{flat_map}
use Rattle.al_session_stream.specs.Hexadecimal.{hex_of, hex_line}
use Rattle.al_session_stream.proofs.HexLines.{hex_more, hex_ends}
use Rattle.al_session_stream.proofs.emitting.emit_hex_line.Goals as goal

pub loop-i-preserved : goal.loop-i-preserved
loop-i-preserved g c =
    let so_far = c.loop-i.invariant in
    let there : c.loop-i.i < length c.args.bytes.now = omega arith in
    record {
      size = simp length-set so_far.size;
      front = hex_more c.loop-i.text c.args.bytes.now c.loop-i.i there (omega (arith, so_far.size)) so_far.front;
    }

pub returns-clause-adds : goal.returns-clause-adds
returns-clause-adds g c = λ start before wrote.
    let so_far = c.loop-i.invariant in
    let all : c.loop-i.i ≡ length c.args.bytes.now = omega arith in
    let front : take (2 * length c.args.bytes.now) c.loop-i.text ≡ flat_map hex_of c.args.bytes.now =
    rw (← all) (so_far.front ∙ ap (flat_map hex_of) (take_all c.loop-i.i c.args.bytes.now (omega arith))) in
    let line : take (2 * length c.args.bytes.now + 1) (set c.loop-i.text (2 * length c.args.bytes.now) 10) ≡ hex_line c.args.bytes.now =
    hex_ends c.loop-i.text c.args.bytes.now (omega (arith, so_far.size)) front in
    rw line at (c.emit.ensures.adds start before wrote)
