use Rattle.std.proofs.Common.{◌≡◌, ℕ, List, Option, Some, ap, ◌∙◌}
use Rattle.al_base.specs.declared.place.Place.{Place}
use Rattle.al_stmts.specs.Ends.{end_fault}
use Rattle.al_decl_protected.proofs.object.object_end.Goals as goal

end_so : (n m : List ℕ) (e x : Option (Place × List ℕ)) → n ≡ m → e ≡ x → end_fault (Some n) e ≡ end_fault (Some m) x
end_so n m e x named there = ap (λ (l : List ℕ). end_fault (Some l) e) named ∙ ap (λ (y : Option (Place × List ℕ)). end_fault (Some m) y) there

pub returns : goal.returns
returns c = c.end_fault.ensures ∙ end_so _ _ _ _ c.as_slice.ensures c.name_at_end.ensures
