-- One body more.
use Rattle.std.proofs.Common.{◌≡◌, ℕ, List, [], ◌∷◌, ◌++◌, Option, refl, sym, ap, subst, ◌∙◌}
use Rattle.al_session_stream.specs.Input.{Moment}
use Rattle.al_lsp.specs.Frames.{ReadsBody}
use Rattle.al_lsp_served.specs.Sent.{Handles, Writes}
use Rattle.al_lsp_served.specs.Sessions.{ReadsBodies, HandlesAll, Serves}
use Rattle.al_lsp_served.specs.Told.{list_data}
use Rattle.al_lsp_served.specs.declared.telling.Placed.{Placed}

reads_more : (most : ℕ) (old between new : Moment) (bodies : List (List ℕ)) (body : List ℕ) → ReadsBodies most old between bodies → ReadsBody most between new body → ReadsBodies most old new (bodies ++ body ∷ [])
reads_more most old between new [] body none more = (new, (subst (λ m. ReadsBody most m new body) none more, refl))
reads_more most old between new (b ∷ bodies) body is more = (is.0, (is.1.0, reads_more most is.0 between new bodies body is.1.1 more))

-- .. where the same was told before
told_before : (body : List ℕ) (told same after : List ℕ → List Placed) (old between new : Option (List ℕ)) → ((name : List ℕ) → same name ≡ told name) → between ≡ old → Handles body same after between new → Handles body told after old new
told_before body told same after old between new alike is h = record {
  sent = h.sent;
  writes = subst (λ w. Writes w new h.sent) is h.writes;
  answers = h.answers;
  no_json = h.no_json;
  picture = λ name had was. h.picture name had (was ∙ ap list_data (sym (alike name)));
}

handles_more : (told told_between told_after : List ℕ → List Placed) (old between new : Option (List ℕ)) (bodies : List (List ℕ)) (body : List ℕ) → HandlesAll told told_between old between bodies → Handles body told_between told_after between new → HandlesAll told told_after old new (bodies ++ body ∷ [])
handles_more told told_between told_after old between new [] body none more =
    (told_after, new, (told_before body told told_between told_after old between new none.0 none.1 more, ((λ name. refl), refl)))
handles_more told told_between told_after old between new (b ∷ bodies) body is more =
    (is.0, is.1, (is.2.0, handles_more is.0 told_between told_after is.1 between new bodies body is.2.1 more))

pub serves_none : (most : ℕ) (m : Moment) (told : List ℕ → List Placed) (w : Option (List ℕ)) → Serves most m m told told w w
serves_none most m told w = record { bodies = []; reads = refl; handles = ((λ name. refl), refl) }

pub serves_more : (most : ℕ) (old between new : Moment) (told told_between told_after : List ℕ → List Placed) (w w_between w_after : Option (List ℕ)) (body : List ℕ) → Serves most old between told told_between w w_between → ReadsBody most between new body → Handles body told_between told_after w_between w_after → Serves most old new told told_after w w_after
serves_more most old between new told told_between told_after w w_between w_after body so_far read handled = record {
  bodies = so_far.bodies ++ body ∷ [];
  reads = reads_more most old between new so_far.bodies body so_far.reads read;
  handles = handles_more told told_between told_after w w_between w_after so_far.bodies body so_far.handles handled;
}
