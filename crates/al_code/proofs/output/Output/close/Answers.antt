use Rattle.std.proofs.Common.{◌-◌, List, length, take, drop, sym, ap, ◌∙◌}
use Rattle.al_code.specs.declared.piece.ForwardJump.{ForwardJump}
use Rattle.al_code.specs.Written.{leaves_outside}
use Rattle.al_code.proofs.Keeping.{closing_cut, closing_done}
use Rattle.al_code.proofs.output.Output.close.Goals as goal

pub invariant_of-self : goal.invariant_of-self
invariant_of-self c =
    closing_cut c.self.inside.code.items c.self.inside.uses.items c.self.inside.defines.items c.self.inside.leaving.items c.args.first c.args.construct c.self.invariant
    c.self.inside.code.len c.len-end.result c.deref_mut.result.now c.fill_all.new.code c.deref-2.result.now c.truncate.new.self.items c.extend_from_slice.new.self.items
    c.self.inside.code.ok.0 c.len-end.ensures c.deref_mut.ensures.value c.deref-2.ensures.value c.fill_all.ensures c.truncate.ensures.items c.in_err-extend_from_slice.ensures.items

pub invariant_of-self-2 : goal.invariant_of-self-2
invariant_of-self-2 c =
    closing_done c.self.inside.code.items c.self.inside.uses.items c.self.inside.defines.items c.self.inside.leaving.items c.args.first c.args.construct c.self.invariant
    c.self.inside.code.len c.len-end.result c.deref_mut.result.now c.fill_all.new.code c.deref-2.result.now c.truncate.new.self.items c.extend_from_slice.new.self.items
    c.self.inside.code.ok.0 c.len-end.ensures c.deref_mut.ensures.value c.deref-2.ensures.value c.fill_all.ensures c.truncate.ensures.items
    c.deref-3.result.now (c.deref-3.ensures.value ∙ c.in_ok-kept.ensures ∙ ap (λ (ls : List ForwardJump). leaves_outside c.args.construct (take (length ls - c.args.first) (drop c.args.first ls))) (c.deref.ensures.value ∙ sym c.deref-2.ensures.value)) c.in_ok-extend_from_slice.ensures.items
