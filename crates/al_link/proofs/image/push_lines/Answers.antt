use Rattle.std.proofs.Common.{◌+◌, ◌<◌, ◌^◌, List, length, sym, subst, arith}
use Rattle.std.specs.List.{All}
use Rattle.al_instr.specs.declared.lines.LineEntry.{LineEntry}
use Rattle.al_link.proofs.LineLemmas.{places_small}
use Rattle.al_link.proofs.image.push_lines.Goals as goal

pub push_shifted-requires : goal.push_shifted-requires
push_shifted-requires c =
    subst (λ (es : List LineEntry). All (λ e. c.args.unit.now.before.code + e.place < 2 ^ 32) es) (sym c.lines.ensures)
    (places_small c.args.unit.now.before.code c.args.unit.now.object.now.lines (length c.args.unit.now.object.now.code) (omega (arith, c.requires.code)) c.keeps.ensures.lines)
