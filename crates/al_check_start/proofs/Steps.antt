-- Cases of how the check of a unit begins.
use Rattle.std.proofs.Common.{◌≡◌, ℕ, zero, suc, List, [], ◌∷◌, ◌++◌, Option, Some, None, Result, Ok, Err, refl, sym, ◌∙◌, ap, append-nil}
use Rattle.std.specs.Prelude.{IfOk, reverse}
use Rattle.std.proofs.lemmas.List.{append_assoc, reverse-append}
use Rattle.al_base.specs.declared.unit_key.UnitKey.{UnitKey}
use Rattle.al_query.specs.Reads.{Table}
use Rattle.al_scope.specs.Places.{Place}
use Rattle.al_scope.specs.declared.region.Region.{Region}
use Rattle.al_scope.specs.declared.region.UnitPart.{UnitPart}
use Rattle.al_view.specs.Named.{Declarations}
use Rattle.al_query_outcome.specs.Left.{last_of}
use Rattle.al_check_start.specs.Subunits.{next_body, stubs_in, stubs_out}
use Rattle.al_scope.specs.UnitPlaces.{part_of}
use Rattle.al_view.specs.declared.part.Part.TheVariants.{Stub}

pub if_ok : {X E : Type 0} (r : Result X E) (P Q : X → Type 0) → ((x : X) → P x → Q x) → IfOk r P → IfOk r Q
if_ok (Ok x) P Q f h = f x h
if_ok (Err e) P Q f h = h

-- no stub is left
pub stubs-ended : (t : Table) (left : ℕ) (stub : List ℕ) (next : Option UnitKey) (parts whole : List UnitPart) → next ≡ None → parts ++ stubs_out t left stub next ≡ whole → parts ≡ whole
stubs-ended t zero stub next parts whole none known = sym (append-nil parts) ∙ known
stubs-ended t (suc n) stub next parts whole none known = sym (append-nil parts) ∙ ap (λ (o : Option UnitKey). parts ++ stubs_out t (suc n) stub o) (sym none) ∙ known

pub stubs-enough : (t : Table) (left : ℕ) (stub : List ℕ) (next : Option UnitKey) (parts whole : List UnitPart) → left ≡ 0 → parts ++ stubs_out t left stub next ≡ whole → parts ≡ whole
stubs-enough t left stub next parts whole none known = sym (append-nil parts) ∙ ap (λ (n : ℕ). parts ++ stubs_out t n stub next) (sym none) ∙ known

-- one stub further out
pub stubs-outward : (t : Table) (left n : ℕ) (stub new-stub : List ℕ) (unit : UnitKey) (next new-next : Option UnitKey) (parts new whole : List UnitPart) → left ≡ suc n → next ≡ Some unit
    → new ≡ parts ++ part_of unit (Stub stub) ∷ [] → new-stub ≡ last_of unit.name → new-next ≡ next_body t unit → parts ++ stubs_out t left stub next ≡ whole
    → new ++ stubs_out t n new-stub new-next ≡ whole
stubs-outward t left n stub new-stub unit next new-next parts new whole more some added name goes known =
    ap (λ (ps : List UnitPart). ps ++ stubs_out t n new-stub new-next) added
    ∙ append_assoc parts (part_of unit (Stub stub) ∷ []) (stubs_out t n new-stub new-next)
    ∙ ap (λ (s : List ℕ). parts ++ (part_of unit (Stub stub) ∷ stubs_out t n s new-next)) name
    ∙ ap (λ (o : Option UnitKey). parts ++ (part_of unit (Stub stub) ∷ stubs_out t n (last_of unit.name) o)) goes
    ∙ ap (λ (o : Option UnitKey). parts ++ stubs_out t (suc n) stub o) (sym some)
    ∙ ap (λ (m : ℕ). parts ++ stubs_out t m stub next) (sym more)
    ∙ known

-- the outermost first
stubs-reversed : (t : Table) (n : ℕ) (name : List ℕ) (next : Option UnitKey) → reverse (stubs_out t n (last_of name) next) ≡ stubs_in t n name next
stubs-reversed t zero name next = refl
stubs-reversed t (suc n) name None = refl
stubs-reversed t (suc n) name (Some unit) =
    reverse-append (part_of unit (Stub (last_of name)) ∷ []) (stubs_out t n (last_of unit.name) (next_body t unit))
    ∙ ap (λ (ps : List UnitPart). ps ++ part_of unit (Stub (last_of name)) ∷ []) (stubs-reversed t n unit.name (next_body t unit))

pub stubs-turned : (t : Table) (n : ℕ) (name stub : List ℕ) (next : Option UnitKey) (none parts turned : List UnitPart) → stub ≡ last_of name → none ≡ []
    → parts ≡ none ++ stubs_out t n stub next → turned ≡ reverse parts → turned ≡ stubs_in t n name next
stubs-turned t n name stub next none parts turned cut begun known is =
    is
    ∙ ap reverse (known ∙ ap (λ (ps : List UnitPart). ps ++ stubs_out t n stub next) begun ∙ ap (λ (s : List ℕ). stubs_out t n s next) cut)
    ∙ stubs-reversed t n name next

-- a place by its parts
pub place-is : (p : Place) (m : Declarations) (rs : List Region) → p.mentioned ≡ m → p.regions ≡ rs → p ≡ (let q : Place = record { mentioned = m; regions = rs } in q)
place-is p m rs e f =
    ap (λ (x : Declarations). let q : Place = record { mentioned = x; regions = p.regions } in q) e
    ∙ ap (λ (x : List Region). let q : Place = record { mentioned = m; regions = x } in q) f
