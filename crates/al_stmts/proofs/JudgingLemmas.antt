-- How often each value is chosen decides alone whether ranges are right.
use Rattle.std.proofs.Common.{◌≡◌, ℕ, ◌<◌, ℤ, Bool, List, ap, sym, subst, ◌∙◌, refl, arith}
use Rattle.al_view.specs.declared.types.Bounds.{Bounds}
use Rattle.al_stmts.specs.declared.choice.Selector.{Selector}
use Rattle.al_stmts.specs.declared.choice.Selector.TheVariants.{OfSubtype, OfType}
use Rattle.al_stmts.specs.Choosing.{ChoosesRight, Covers, StaysWithin}
use Rattle.al_stmts.specs.Values.{times_chosen}

abbrev Same : List Bounds → List Bounds → Type 0
Same xs ys = (v : ℤ) → times_chosen xs v ≡ times_chosen ys v

stays_within_same : (s : Selector) (xs ys : List Bounds) → Same xs ys → StaysWithin s xs → StaysWithin s ys
stays_within_same (OfSubtype bounds) xs ys same within = λ v some. within v (omega (arith, same v))
stays_within_same (OfType bounds) xs ys same within = within

pub chooses_right_same : (s : Selector) (others : Bool) (xs ys : List Bounds) → Same xs ys → ChoosesRight s others xs → ChoosesRight s others ys
chooses_right_same s others xs ys same right = record {
  once = λ v. omega (arith, same v, right.once v);
  within = stays_within_same s xs ys same right.within;
  complete = λ no v wanted. omega (arith, same v, right.complete no v wanted);
}
