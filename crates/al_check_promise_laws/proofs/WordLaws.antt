-- What the tree of a unit has lies in the unit's words, as long as these haven't run out.
use Rattle.std.proofs.Common.{◌≡◌, inl, inr, arith, refl, sym, subst, ap, ℕ, ◌<◌, List, [], ◌∷◌, Ok}
use Rattle.std.specs.Bool.{⊤}
use Rattle.std.specs.List.{All as Each}
use Rattle.std.proofs.lemmas.List.Elements.{All-cons, All-nil}
use Rattle.al_check.specs.Ada.{ended_text, private_part_of, round_of, standing_of}
use Rattle.al_check_bounded.specs.Ended.{tree_at}
use Rattle.al_check_here.specs.Ends.{ends_told, hidden_by}
use Rattle.al_check_here.specs.declared.state.CheckState.{CheckState}
use Rattle.al_check_reading.specs.Ada.{ada}
use Rattle.al_check_start.specs.declared.unit.UnitStart.{UnitStart}
use Rattle.al_decl_judged.specs.declared.progress.Progress.{Progress}
use Rattle.al_stmts.specs.Units.{unit_walked}
use Rattle.al_view.specs.declared.part.Part.{Part}
use Rattle.al_view.specs.declared.part.Part.TheVariants as part
use Rattle.al_view_typed.specs.UnitTrees.{UnitTree}
use Rattle.al_view_typed.specs.WellFormed.{IsWellFormed}
use Rattle.al_view_typed.specs.declared.unit.DataPlace.{DataPlace}
use Rattle.al_view_typed.specs.declared.unit.ProtectedWords.{ProtectedWords}
use Rattle.al_check_promise_laws.specs.Promises.{TreesAreWellFormed}
use Rattle.al_check_promise_laws.proofs.AdaWords.{Stays, word-walks}
use Rattle.al_check_promise_laws.proofs.AllLemmas.{All}
use Rattle.al_check_promise_laws.proofs.Found.{right}
use Rattle.al_check_promise_laws.proofs.Walks as walks
use Rattle.al_check_promise_laws.proofs.WordWalks.{Begins, Fits, Holds, InWords, Lies}

each-of : {X : Type 0} (P : X → Type 0) (xs : List X) → All P xs → Each P xs
each-of P [] a = All-nil P
each-of P (x ∷ xs) a = All-cons P x xs a.0 (each-of P xs a.1)

progress-same : (h : CheckState) → (ends_told h).progress ≡ h.env.progress
progress-same h = at h.part
  where
    at : (p : Part) → (hidden_by p h).env.progress ≡ h.env.progress
    at part.Visible = refl
    at part.Private = refl
    at part.Body = refl
    at (part.Stub n) = refl

fits : (p : Progress) → InWords p → p.words.data < 4294967295 → Fits p.words.data p
fits p (inl e) l = absurd (omega (arith, e, l))
fits p (inr f) l = f

pub trees-are-well-formed : TreesAreWellFormed
trees-are-well-formed unit text tree t i made h few =
    let r = right unit text tree t i made h in
    let begin = standing_of (private_part_of t tree (Ok r.start)) tree r.start in
    let walked = unit_walked (ada t) begin tree.item in
    let start : InWords r.start.progress = subst InWords (sym (ap (λ (s : UnitStart). s.progress) r.started.is)) (inr (tt, tt, tt)) in
    let end : InWords (ends_told walked.0).progress = subst InWords (sym (progress-same walked.0)) (walks.unit-d Stays Stays (λ h. ⊤) (ada t) (word-walks t) begin tree.item start) in
    let words : made.words ≡ (ends_told walked.0).progress.words.data = ap (λ (m : UnitTree). m.words) r.made_of.tree in
    let f = fits (ends_told walked.0).progress end (subst (λ (n : ℕ). n < 4294967295) words few) in
    subst IsWellFormed (sym r.made_of.tree) (made_of (ends_told walked.0).progress f (tree_at (round_of tree r.start) (ended_text (ends_told walked.0)) walked.1) refl refl refl refl)
  where
    made_of : (p : Progress) → Fits p.words.data p → (m : UnitTree) → m.words ≡ p.words.data → m.objects ≡ p.objects → m.flags ≡ p.flags → m.protected_objects ≡ p.protected_objects → IsWellFormed m
    made_of p f m w o g q = record {
      objects = subst (λ (ds : List DataPlace). Each (Begins m.words) ds) (sym o) (subst (λ (n : ℕ). Each (Begins n) p.objects) (sym w) (each-of (Begins p.words.data) p.objects f.0));
      flags = subst (λ (ds : List DataPlace). Each (Lies m.words) ds) (sym g) (subst (λ (n : ℕ). Each (Lies n) p.flags) (sym w) (each-of (Lies p.words.data) p.flags f.1));
      regions = subst (λ (rs : List ProtectedWords). Each (Holds m.words) rs) (sym q) (subst (λ (n : ℕ). Each (Holds n) p.protected_objects) (sym w) (each-of (Holds p.words.data) p.protected_objects f.2));
    }
