-- How many units of an image were written anew.
use Rattle.std.specs.Prelude.{ℕ, ◌≡◌, Option, Some, None, length}
use Rattle.al_link.specs.Relinking.{LinkedImage, differing, shapes_kept}
use Rattle.al_engine.specs.declared.compiled.Compiled.{Compiled}
use Rattle.al_engine.specs.declared.compiled.Compiled.TheVariants.{Faulty, Unbound, TooLarge, Made}

-- the image that compiling gave, with its main subprogram and units
abbrev pub linked_in : Compiled → Option LinkedImage
linked_in (Faulty diagnostics) = None
linked_in (Unbound fault) = None
linked_in (TooLarge order) = None
linked_in (Made program) = Some program.linked

-- the main subprogram and the units are as before in their lengths, counts, symbols and lines
pub record AreLike (old new : LinkedImage) : Type 0 where
  pub main_is : new.main ≡ old.main
  pub shapes_are : shapes_kept new.units ≡ shapes_kept old.units

-- the number of units that were written anew: if the units are as before in this sense, those whose code differs; else all
pub record ArePatched (old new : LinkedImage) (n : ℕ) : Type 0 where
  pub alike : AreLike old new → n ≡ differing old.units new.units
  pub others : (AreLike old new → ⊥) → n ≡ length new.units

-- no units were written if there was no image before, or is none now
abbrev pub IsPatched : Option LinkedImage → Option LinkedImage → ℕ → Type 0
IsPatched old None n = n ≡ 0
IsPatched None (Some new) n = n ≡ 0
IsPatched (Some old) (Some new) n = ArePatched old new n
