-- What follows for callers from how an image was saved, loaded or run, or an order printed.
use Rattle.std.proofs.Common.{◌≡◌, ◌⊎◌, inl, inr, ℕ, Bool, true, false, List, Option, Some, None, Result, Ok, Err, IfOk, IfSome, not, true≢false, refl, sym, ◌∙◌}
use Rattle.al_base.specs.Batch.{Key}
use Rattle.al_base.specs.Files.{Texts}
use Rattle.al_folder.specs.declared.status.Ending.{Ending}
use Rattle.al_folder.specs.declared.status.Ending.TheVariants.{Done, NotBuilt, Usage, ByException}
use Rattle.al_link_image.specs.Images.{Image, image_bytes}
use Rattle.al_folder_served.specs.Runs.{IsLoaded, RunsBytes, RunsImage}
use Rattle.al_folder_served.specs.Orders.{order_text}
use Rattle.al_folder_served.specs.Told.{PutsOrder, worse_of}
use Rattle.al_folder_served.specs.declared.reasons.Reasons.{Reasons}

pub worse_done : (ending : Ending) → ending ≡ worse_of ending Done
worse_done Done = refl
worse_done NotBuilt = refl
worse_done Usage = refl
worse_done ByException = refl

-- what is put of an order is known in another way
pub orders_next : (Are : Texts → List Key → List Reasons → Type 0) (texts : Texts) (order : Option (List Key)) (Puts Then : List ℕ → Type 0) → ((piece : List ℕ) → Puts piece → Then piece) → PutsOrder Are texts order Puts → PutsOrder Are texts order Then
orders_next Are texts None Puts Then next puts = tt
orders_next Are texts (Some items) Puts Then next puts = (puts.0, puts.1, next (order_text puts.0) puts.2)

pub off_from_not : (b : Bool) → not b ≡ true → b ≡ false
off_from_not true is = cc
off_from_not false is = refl

-- what isn't asked for need not hold
pub not_asked : {A : Type 0} (found : Option A) (asked : Bool) (P : A → Type 0) → asked ≡ false → IfSome found (λ x. asked ≡ true → P x)
not_asked None asked P off = tt
not_asked (Some x) asked P off = λ on. absurd (true≢false (sym on ∙ off))

module _ {F : Type 0} where
  pub loads : (Gives : List ℕ → Type 0) (Runs : List ℕ → Ending → Type 0) (Refused : Ending → Type 0) (bytes : List ℕ) (r : Result Ending F) → Gives bytes → IfOk r (λ e. Runs bytes e ⊎ Refused e) → IfOk r (IsLoaded Gives Runs Refused)
  loads Gives Runs Refused bytes (Ok e) gives either = elim either [ inl ran ↦ inl (bytes, gives, ran) | inr refused ↦ inr refused ]
  loads Gives Runs Refused bytes (Err e) gives either = tt

  pub runs_bytes : (tick : ℕ) (limit : Option ℕ) (image : Image) (folders : Texts) (Puts Tells : List ℕ → Type 0) (bytes : List ℕ) (r : Result Ending F) → image_bytes image ≡ bytes → IfOk r (RunsImage tick limit image folders Puts Tells) → IfOk r (RunsBytes tick limit bytes folders Puts Tells)
  runs_bytes tick limit image folders Puts Tells bytes (Ok e) same ran = (image, same, ran)
  runs_bytes tick limit image folders Puts Tells bytes (Err e) same ran = tt

  pub runs_or_not : (Runs Refused : Ending → Type 0) (r : Result Ending F) → IfOk r Runs → IfOk r (λ e. Runs e ⊎ Refused e)
  runs_or_not Runs Refused (Ok e) ran = inl ran
  runs_or_not Runs Refused (Err e) ran = tt
