-- Which declaration a body of what is named alone completes is decided.
use Rattle.std.proofs.Common.{◌≡◌, ℕ, zero, suc, ◌+◌, Bool, true, false, ◌&&◌, List, [], ◌∷◌, Option, Some, None, refl, ap, ◌∙◌, arith}
use Rattle.std.specs.Prelude.{slice_get, if◌then◌else◌, MatchOption}
use Rattle.std.specs.List.{All}
use Rattle.std.proofs.lemmas.Bool.{false_from_ne_true}
use Rattle.std.specs.Str.{bytes_eq}
use Rattle.al_decl_judged.specs.Completing.{Completes, IsBodyOf, IsFirst}
use Rattle.al_decl_judged.specs.declared.specification.BodyHead.{BodyHead}
use Rattle.al_decl_judged.specs.declared.specification.BodyHead.TheVariants as heads
use Rattle.al_query.specs.declared.answer.Completion.{Completion}
use Rattle.al_view.specs.declared.view.ViewKind.{ViewKind}
use Rattle.al_view.specs.declared.view.ViewKind.TheVariants.{OfProtected, OfSubprogram, OfTask}
use Rattle.al_decl_protected.specs.Bodies.{IsNamedFirst, completes_named, first_named, has_body}
use Rattle.std.proofs.lemmas.Bool.{false≢true}
use Rattle.std.proofs.lemmas.Slice.Eq.{bytes_eq-Decides}
use Rattle.al_view.proofs.SymbolLemmas.{and_both, both}

-- a subprogram's body isn't named alone
abbrev pub IsNamed : BodyHead → Type 0
IsNamed (heads.Subprogram s) = ⊥
IsNamed _ = Unit {0}

body-so : (h : BodyHead) (v : ViewKind) → IsNamed h → IsBodyOf h v → has_body h v ≡ true
body-so (heads.Subprogram s) v n b = absurd n
body-so heads.Entry (OfSubprogram s) n b = b
body-so heads.Entry _ n b = absurd b
body-so heads.«Task» (OfTask k) n b = refl
body-so heads.«Task» _ n b = absurd b
body-so heads.Protected (OfProtected p) n b = refl
body-so heads.Protected _ n b = absurd b

body-yes : (h : BodyHead) (v : ViewKind) → has_body h v ≡ true → IsBodyOf h v
body-yes (heads.Subprogram s) v b = absurd (false≢true b)
body-yes heads.Entry (OfSubprogram s) b = b
body-yes heads.Entry _ b = absurd (false≢true b)
body-yes heads.«Task» (OfTask k) b = tt
body-yes heads.«Task» _ b = absurd (false≢true b)
body-yes heads.Protected (OfProtected p) b = tt
body-yes heads.Protected _ b = absurd (false≢true b)

named-so : (name : List ℕ) (h : BodyHead) (c : Completion) → IsNamed h → Completes name h c → completes_named name h c ≡ true
named-so name h c n is = and_both (bytes_eq c.name name) (has_body h c.view) ((bytes_eq-Decides c.name name).1 is.0) (body-so h c.view n is.1)

named-yes : (name : List ℕ) (h : BodyHead) (c : Completion) → completes_named name h c ≡ true → Completes name h c
named-yes name h c b = let parts = both (bytes_eq c.name name) (has_body h c.view) b in ((bytes_eq-Decides c.name name).0 parts.0, body-yes h c.view parts.1)

abbrev choice : ℕ → List ℕ → BodyHead → Completion → List Completion → Bool → Option (ℕ × ViewKind)
choice number name h c cs b = if b then Some (number, c.view) else first_named (suc number) name h cs

pub named-none : (number : ℕ) (name : List ℕ) (h : BodyHead) (cs : List Completion) → All (λ c. Completes name h c → ⊥) cs → first_named number name h cs ≡ None
named-none number name h [] none = refl
named-none number name h (c ∷ cs) none =
    ap (choice number name h c cs) (false_from_ne_true (completes_named name h c) (λ e. none zero c (omega arith) (named-yes name h c e)))
    ∙ named-none (suc number) name h cs (λ k d lt. none (suc k) d (omega arith))

abbrev IsFoundFrom : ℕ → List ℕ → BodyHead → List Completion → ℕ → Type 0
IsFoundFrom number name h cs at = (c : Completion) × (slice_get cs at ≡ Some c) × (first_named number name h cs ≡ Some (number + at, c.view))

named-first : (number : ℕ) (name : List ℕ) (h : BodyHead) (cs : List Completion) (at : ℕ) → IsNamed h → IsFirst (Completes name h) cs at → IsFoundFrom number name h cs at
named-first number name h [] at n first = absurd (omega (arith, first.inside))
named-first number name h (c ∷ cs) zero n first =
    let same : number ≡ number + zero = omega arith in
    (c, refl, ap (choice number name h c cs) (named-so name h c n (first.env c)) ∙ ap (λ (m : ℕ). Some (m, c.view)) same)
named-first number name h (c ∷ cs) (suc at) n first =
    let same : suc number + at ≡ number + suc at = omega arith in
    let later = named-first (suc number) name h cs at n (record { inside = omega (arith, first.inside); env = first.env; before = λ k d lt. first.before (suc k) d (omega arith) }) in (
      later.0,
      later.1,
      ap (choice number name h c cs) (false_from_ne_true (completes_named name h c) (λ e. first.before zero c (omega arith) (named-yes name h c e)))
          ∙ later.2
          ∙ ap (λ (m : ℕ). Some (m, later.0.view)) same,
    )

-- the first one, by its number
pub named-is : (name : List ℕ) (h : BodyHead) (cs : List Completion) (r : Option ℕ) → IsNamed h → MatchOption r (All (λ c. Completes name h c → ⊥) cs) (IsFirst (Completes name h) cs)
    → MatchOption r (first_named 0 name h cs ≡ None) (IsNamedFirst name h cs)
named-is name h cs None n none = named-none 0 name h cs none
named-is name h cs (Some at) n first =
    let same : zero + at ≡ at = omega arith in
    let found = named-first zero name h cs at n first in
    (found.0, found.1, found.2 ∙ ap (λ (m : ℕ). Some (m, found.0.view)) same)

-- a subprogram's body completes nothing that is named alone
pub named-never : (number : ℕ) (name : List ℕ) (h : BodyHead) (cs : List Completion) → ((v : ViewKind) → has_body h v ≡ false) → first_named number name h cs ≡ None
named-never number name h [] never = refl
named-never number name h (c ∷ cs) never =
    ap (choice number name h c cs) (neither (bytes_eq c.name name) (never c.view))
    ∙ named-never (suc number) name h cs never
  where
    neither : (b : Bool) → has_body h c.view ≡ false → b && has_body h c.view ≡ false
    neither true e = e
    neither false e = refl
