-- What a server does with the bodies of its input.
use Rattle.std.specs.Prelude.{◌≡◌, ℕ, List, [], ◌∷◌, Option}
use Rattle.al_session_stream.specs.Input.{Moment}
use Rattle.al_lsp.specs.Frames.{ReadsBody}
use Rattle.al_lsp_served.specs.Sent.{Handles}
use Rattle.al_lsp_served.specs.declared.telling.Placed.{Placed}

-- frames of these bodies are read, one behind the other
abbrev pub ReadsBodies : ℕ → Moment → Moment → List (List ℕ) → Type 0
ReadsBodies most old new [] = new ≡ old
ReadsBodies most old new (body ∷ bodies) = (between : Moment) × (ReadsBody most old between body × ReadsBodies most between new bodies)

-- for each body in turn is written what it asks for
abbrev pub HandlesAll : (List ℕ → List Placed) → (List ℕ → List Placed) → Option (List ℕ) → Option (List ℕ) → List (List ℕ) → Type 0
HandlesAll told told_after old new [] = ((name : List ℕ) → told_after name ≡ told name) × (new ≡ old)
HandlesAll told told_after old new (body ∷ bodies) = (told_between : List ℕ → List Placed) × (between : Option (List ℕ)) × (Handles body told told_between old between × HandlesAll told_between told_after between new bodies)

-- What is written is what the bodies ask for that are read up to a moment, and nothing else.
pub record Serves (most : ℕ) (old new : Moment) (told told_after : List ℕ → List Placed) (written written_after : Option (List ℕ)) : Type 0 where
  pub bodies : List (List ℕ)
  pub reads : ReadsBodies most old new bodies
  pub handles : HandlesAll told told_after written written_after bodies
