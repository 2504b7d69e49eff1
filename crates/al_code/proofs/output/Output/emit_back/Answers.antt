use Rattle.std.proofs.Common.{◌≡◌, ℕ, ◌+◌, ◌-◌, ◌<◌, length, [], ◌∷◌, Option, Some, None, sym, ap, subst, ◌∙◌, arith, Bool, true, false}
use Rattle.std.specs.Prelude.{pos, neg_ℤ, ◌-ℤ◌, IfSome, if◌then◌else◌}
use Rattle.std.specs.Int.{w32}
use Rattle.std.proofs.Common.{to_z, of_z}
use Rattle.std.proofs.lemmas.Int.{ints, to_z-of_z}
use Rattle.al_instr.specs.declared.instruction.Instr.TheVariants as instr
use Rattle.al_code.specs.Pieces.{back}
use Rattle.al_code.specs.Pieces.Piece.{Whole}
use Rattle.al_code.specs.Written.{Buffer, written}
use Rattle.al_code.proofs.Writing.{written_none}
use Rattle.al_code.proofs.output.Output.emit_back.Goals as goal

-- if nothing is written any more, any jump is as good
same_jump : (is_large : Bool) (b : Buffer) (w : Option Buffer) (start n distance : ℕ) → (if is_large then None else Some b) ≡ w → distance ≡ (length b.code - start) + 5 → IfSome w (λ c. length c.code ≡ start + n) → written w (Whole (instr.Jump (neg_ℤ (pos distance))) ∷ []) ≡ written w (back n ∷ [])
same_jump true b w start n distance is far at =
    ap (λ (v : Option Buffer). written v (Whole (instr.Jump (neg_ℤ (pos distance))) ∷ [])) (sym is)
    ∙ written_none (Whole (instr.Jump (neg_ℤ (pos distance))) ∷ []) ∙ sym (written_none (back n ∷ []))
    ∙ ap (λ (v : Option Buffer). written v (back n ∷ [])) is
same_jump false b w start n distance is far at =
    let end : length b.code ≡ start + n = subst (λ (v : Option Buffer). IfSome v (λ c. length c.code ≡ start + n)) (sym is) at in
    let e : distance ≡ n + 5 = omega arith in
    ap (λ (k : ℕ). written w (Whole (instr.Jump (neg_ℤ (pos k))) ∷ [])) e

negated : (d : ℕ) → d < 2147483648 → to_z w32 (of_z w32 (pos 0 -ℤ to_z w32 d)) ≡ neg_ℤ (pos d)
negated d less = grind (arith, ints, to_z-of_z)

pub returns : goal.returns
returns c = λ n at.
    let b : Buffer = record { code = c.self.inside.code.items; uses = c.self.inside.uses.items; defines = c.self.inside.defines.items; leaving = c.self.inside.leaving.items; lines = c.self.inside.lines.items } in
    let d : ℕ = c.saturating_sub-distance.result + 5 in
    let far : d ≡ (length c.self.inside.code.items - c.args.start) + 5 = omega (arith, c.saturating_sub-distance.ensures, c.len.ensures, c.self.inside.code.ok.0) in
    let same = same_jump c.self.inside.is_large b c.args.self.now c.args.start n d c.self.view_is far at in
    rw (← same, ← negated d (omega (arith, far, c.self.invariant.within))) c.put.ensures
