use Rattle.std.proofs.Common.{◌≡◌, ◌∙◌, ℕ, List, ap, subst, true}
use Rattle.std.specs.List.{list_any}
use Rattle.std.specs.Str.{bytes_eq}
use Rattle.indexmap.specs.IndexSet.{insert_all}
use Rattle.al_check_bounded.proofs.BoundsNameLemmas.{words_or_told}
use Rattle.al_query_outcome.specs.Words.{words_of}
use Rattle.al_check_bounded.proofs.WordLemmas.{among_all}
use Rattle.al_check_bounded.proofs.checking.names_of.Goals as goal

pub returns-clause-answered : goal.returns-clause-answered
returns-clause-answered g c t h =
    let tells = c.in_ok-names_answered.ensures.answered t h in
    let words = words_of c.args.text.now in (
      tells.0,
      c.in_ok-names.ensures
          ∙ ap (λ (ws : List (List ℕ)). insert_all bytes_eq ws c.as_slice.result.now) c.in_ok-words.ensures
          ∙ ap (λ (ns : List (List ℕ)). insert_all bytes_eq words ns) (c.as_slice.ensures.value ∙ tells.1),
    )

pub returns-clause-names_answered : goal.returns-clause-names_answered
returns-clause-names_answered g c n h =
    let words = words_of c.args.text.now in
    let names_answered = c.in_ok-names_answered.names_answered.items in
    let names = c.in_ok-names.ensures
    ∙ ap (λ (ws : List (List ℕ)). insert_all bytes_eq ws c.as_slice.result.now) c.in_ok-words.ensures
    ∙ ap (λ (ns : List (List ℕ)). insert_all bytes_eq words ns) c.as_slice.ensures.value in
    words_or_told words names_answered c.names_known.new.recorder.log c.in_ok-names_answered.ensures.names_answered n (among_all n words names_answered (subst (λ (ns : List (List ℕ)). list_any (bytes_eq n) ns ≡ true) names h))
