-- Messages that are written one behind the other.
use Rattle.std.proofs.Common.{◌≡◌, ℕ, ◌+◌, ◌<◌, List, [], ◌∷◌, ◌++◌, length, take, get_or, Option, refl, sym, ap, subst, ◌∙◌, append_assoc, append-nil}
use Rattle.std.specs.Io.KnownBytes.{Appends}
use Rattle.std.proofs.lemmas.List.{take_more}
use Rattle.al_lsp.specs.Frames.{frame_of}
use Rattle.al_lsp_messages.specs.Outgoing.{data_of, IsBody}
use Rattle.al_lsp_messages.specs.declared.outgoing.Outgoing.{Outgoing}
use Rattle.al_session_stream.proofs.Moments.{appends_none, appends_then}
use Rattle.al_lsp_served.specs.Sent.{AreFrames, Writes}

are_frames_append : (ms ns : List Outgoing) (bs cs : List ℕ) → AreFrames ms bs → AreFrames ns cs → AreFrames (ms ++ ns) (bs ++ cs)
are_frames_append [] ns bs cs none more = subst (λ l. AreFrames ns (l ++ cs)) (sym none) more
are_frames_append (m ∷ ms) ns bs cs is more =
    (is.0, is.1 ++ cs, (is.2.0, (are_frames_append ms ns is.1 cs is.2.1.0 more, ap (λ l. l ++ cs) is.2.1.1 ∙ append_assoc (frame_of is.0) is.1 cs)))

pub writes_none : (a : Option (List ℕ)) → Writes a a []
writes_none a = ([], (refl, appends_none a))

pub writes_then : (a b c : Option (List ℕ)) (ms ns : List Outgoing) → Writes a b ms → Writes b c ns → Writes a c (ms ++ ns)
writes_then a b c ms ns first second =
    (first.0 ++ second.0, (are_frames_append ms ns first.0 second.0 first.1.0 second.1.0, appends_then a b c first.0 second.0 first.1.1 second.1.1))

-- one message
pub writes_one : (a b : Option (List ℕ)) (m : Outgoing) (body : List ℕ) → IsBody (data_of m) body → Appends a b (frame_of body) → Writes a b (m ∷ [])
writes_one a b m body is appends = (frame_of body, ((body, [], (is, (refl, sym (append-nil (frame_of body))))), appends))

-- one message more
pub writes_more : (a b c : Option (List ℕ)) (ms : List Outgoing) (i : ℕ) (m : Outgoing) → i < length ms → m ≡ get_or ms i m → Writes a b (take i ms) → Writes b c (m ∷ []) → Writes a c (take (i + 1) ms)
writes_more a b c ms i m lt is first second =
    subst (Writes a c) (sym (take_more ms i m lt ∙ ap (λ x. take i ms ++ x ∷ []) (sym is))) (writes_then a b c (take i ms) (m ∷ []) first second)

-- nothing is written
pub appends_still : (a b c : Option (List ℕ)) (ms : List Outgoing) → Writes a b ms → Appends b c [] → Writes a c ms
appends_still a b c ms first none =
    (first.0, (first.1.0, subst (Appends a c) (append-nil first.0) (appends_then a b c first.0 [] first.1.1 none)))
