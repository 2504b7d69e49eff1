use Rattle.std.proofs.Common.{◌≡◌, ◌+◌, ◌*◌, length, option_map, ap, arith}
use Rattle.al_link_image.specs.Sizes.{lines_size}
use Rattle.al_link_image.proofs.Sizes.{whole_length}
use Rattle.al_link.proofs.exchanging.code_place.Goals as goal

pub overflow_sub-before : goal.overflow_sub-before
overflow_sub-before c = omega (arith, whole_length c.args.parts.now c.requires.whole, c.requires.size, c.len.ensures)

pub overflow_sub-result : goal.overflow_sub-result
overflow_sub-result c =
    let lines : lines_size (option_map (λ v. v.items) c.args.parts.now.lines) ≡ 4 + 8 * length c.in-Some.lines.items = ap (λ l. lines_size (option_map (λ v. v.items) l)) c.in-Some.is in
    omega (arith, whole_length c.args.parts.now c.requires.whole, c.requires.size, c.len.ensures, lines)

pub overflow_mul-result : goal.overflow_mul-result
overflow_mul-result c =
    let lines : lines_size (option_map (λ v. v.items) c.args.parts.now.lines) ≡ 4 + 8 * length c.in-Some.lines.items = ap (λ l. lines_size (option_map (λ v. v.items) l)) c.in-Some.is in
    omega (arith, whole_length c.args.parts.now c.requires.whole, c.requires.size, c.len-in-Some.ensures, c.ranges.size.fits, lines)

pub overflow_sub-result-in-Some : goal.overflow_sub-result-in-Some
overflow_sub-result-in-Some c =
    let lines : lines_size (option_map (λ v. v.items) c.args.parts.now.lines) ≡ 4 + 8 * length c.in-Some.lines.items = ap (λ l. lines_size (option_map (λ v. v.items) l)) c.in-Some.is in
    omega (arith, whole_length c.args.parts.now c.requires.whole, c.requires.size, c.len.ensures, c.len-in-Some.ensures, lines)

pub returns-in-None : goal.returns-in-None
returns-in-None c =
    let lines : lines_size (option_map (λ v. v.items) c.args.parts.now.lines) ≡ 0 = ap (λ l. lines_size (option_map (λ v. v.items) l)) c.in-None.is in
    omega (arith, whole_length c.args.parts.now c.requires.whole, c.requires.size, c.len.ensures, lines)

pub returns-in-Some : goal.returns-in-Some
returns-in-Some c =
    let lines : lines_size (option_map (λ v. v.items) c.args.parts.now.lines) ≡ 4 + 8 * length c.in-Some.lines.items = ap (λ l. lines_size (option_map (λ v. v.items) l)) c.in-Some.is in
    omega (arith, whole_length c.args.parts.now c.requires.whole, c.requires.size, c.len.ensures, c.len-in-Some.ensures, lines)
