use Rattle.std.proofs.Common.{◌≡◌, ◌+◌, ◌++◌, ◌∷◌, [], ◌∙◌, inl, inr, true, false, List, ℕ, get_or, take, refl, sym, ap, subst}
use Rattle.std.proofs.lemmas.List.{take_all, take_more}
use Rattle.std.proofs.lemmas.List.Elements.{Contains-append_cases}
use Rattle.std.specs.List.{Contains}
use Rattle.std.specs.Cmp.Lexicographic.{bytes_decides}
use Rattle.al_base_graph.proofs.Members.{the_one}
use Rattle.al_engine.proofs.alike.is_among.Goals as goal

pub loop-name-preserved : goal.loop-name-preserved
loop-name-preserved c = λ has.
    let files = c.args.files.now in
    let file = c.args.file.now in
    let i = c.loop-name.name-index in
    let name = c.name-item.result in
    let more : take (i + 1) files ≡ take i files ++ name ∷ [] = take_more files i name c.loop-name-test.true ∙ ap (λ (x : List ℕ). take i files ++ x ∷ []) (sym c.name-item.is) in
    elim (Contains-append_cases (take i files) (name ∷ []) file (subst (λ (fs : List (List ℕ)). Contains fs file) more has)) as (λ _. ⊥) [
      | inl h ↦ c.loop-name.invariant h
      | inr h ↦
          let same : c.as_slice.result.now ≡ file = c.as_slice.ensures ∙ the_one name file h in
          let never : true ≡ false = sym (c.eq.ensures ∙ (bytes_decides c.as_slice.result.now file).1 same) ∙ c.if-eq.false in
          absurd (cc)
    ]

pub returns-then-eq : goal.returns-then-eq
returns-then-eq c =
    let files = c.args.files.now in
    let file = c.args.file.now in
    let i = c.loop-name.name-index in
    let name = c.name-item.result in
    let same : name ≡ file = sym c.as_slice.ensures ∙ (bytes_decides c.as_slice.result.now file).0 (sym c.eq.ensures ∙ c.if-eq.true) in
    (λ _. (i, c.loop-name-test.true, subst (λ (f : List ℕ). get_or files i f ≡ f) same (sym c.name-item.is)), λ _. refl)

pub returns : goal.returns
returns c = (
  λ never. absurd (cc),
  λ has. absurd (c.loop-name.invariant (subst (λ (fs : List (List ℕ)). Contains fs c.args.file.now) (sym (take_all c.loop-name.name-index c.args.files.now c.loop-name-test.false)) has)),
)
