-- What a body completes is determined.
use Rattle.std.proofs.Common.{IfOk, Result, Ok, Err, rules, ◌≡◌, ℕ, zero, suc, ◌+◌, ◌<◌, Bool, true, List, [], ◌∷◌, length, Option, Some, None, refl, ap, sym, ◌∙◌, arith}
use Rattle.std.specs.Prelude.{slice_get, slice_index_or, if◌then◌else◌}
use Rattle.std.specs.List.{All}
use Rattle.std.proofs.lemmas.Bool.{false_from_ne_true}
use Rattle.al_base.specs.declared.place.Place.{Place}
use Rattle.al_base_fault.specs.declared.check_rule.CheckRule.TheVariants.{NotConformant}
use Rattle.al_decl_judged.specs.Completing.{Completes, IsFirst}
use Rattle.al_decl_judged.specs.LoneBodies.{lone_body_fault}
use Rattle.al_decl_judged.specs.declared.specification.BodyHead.TheVariants as head
use Rattle.al_decl_judged.specs.declared.specification.Specification.{Specification}
use Rattle.al_decl_judged.specs.declared.names.DefiningName.{DefiningName}
use Rattle.al_base_fault.specs.Faults.{fault_at}
use Rattle.al_base_fault.specs.declared.fault.Fault.{Fault}
use Rattle.al_query.specs.declared.answer.Completion.{Completion}
use Rattle.al_decl_judged.specs.Bodies.{IsWaiting}
use Rattle.al_decl_judged.specs.Completions.{IsCompleted, IsCompleting, IsConformance}
use Rattle.al_decl_judged.specs.declared.body.Completing.{Completing}
use Rattle.al_decl_judged.specs.declared.body.Completing.TheVariants.{Declared, Alone}
use Rattle.al_view.specs.declared.symbol.Symbol.{Symbol}
use Rattle.al_view.specs.declared.view.ObjectPlace.{ObjectPlace}
use Rattle.al_view.specs.declared.view.Profile.{Profile}
use Rattle.al_view.specs.declared.view.ViewKind.{ViewKind}
use Rattle.al_view.specs.declared.view.ViewKind.TheVariants.{OfSubprogram}
use Rattle.al_decl_completes.specs.CompletingFound.{completing_found, conformance, first_completed, unit_completing, view_completed}
use Rattle.al_decl_completes.specs.Matching.{completes, conforms}
use Rattle.al_decl_completes.proofs.Deciding.{completes-so, completes-yes, conforms-so, conforms-yes}

abbrev answered : Place → Bool → Option Fault
answered place b = if b then None else Some (fault_at place NotConformant)

pub conformance-is : (place : Place) (s : Specification) (p : Profile) (fault : Option Fault) → IsConformance place s p fault → fault ≡ conformance place s p
conformance-is place s p None h = sym (ap (answered place) (conforms-so s p h))
conformance-is place s p (Some f) h =
    ap Some h.1 ∙ sym (ap (answered place) (false_from_ne_true (conforms s p) (λ e. h.0 (conforms-yes s p e))))

completed-is : (number : ℕ) (place : Place) (s : Specification) (symbol : Symbol) (flag : Option ObjectPlace) (fault : Option Fault) (v : ViewKind)
    → IsCompleted place s symbol flag fault v → Declared number symbol flag fault ≡ view_completed number place s v
completed-is number place s symbol flag fault (OfSubprogram v) h =
    ap (λ (x : Symbol). Declared number x flag fault) (sym h.0) ∙ ap (λ (x : Option ObjectPlace). Declared number v.symbol x fault) (sym h.1)
    ∙ ap (λ (x : Option Fault). Declared number v.symbol v.flag x) (conformance-is place s v.profile fault h.2)
completed-is number place s symbol flag fault _ h = absurd h

abbrev choice : ℕ → DefiningName → Specification → Bool → Bool → Completion → List Completion → Bool → Completing
choice number n s may h c cs b = if b then view_completed number n.place s c.view else first_completed (suc number) n s may h cs

alone-is : (number : ℕ) (n : DefiningName) (s : Specification) (may h : Bool) (cs : List Completion) → All (λ c. Completes n.name (head.Subprogram s) c → ⊥) cs
    → Alone (lone_body_fault n.place h may) ≡ first_completed number n s may h cs
alone-is number n s may h [] none = refl
alone-is number n s may h (c ∷ cs) none =
    alone-is (suc number) n s may h cs (λ k d lt. none (suc k) d (omega arith))
    ∙ sym (ap (choice number n s may h c cs) (false_from_ne_true (completes n.name s c) (λ e. none zero c (omega arith) (completes-yes n.name s c e))))

declared-is : (number : ℕ) (n : DefiningName) (s : Specification) (may h : Bool) (cs : List Completion) (at : ℕ) (symbol : Symbol) (flag : Option ObjectPlace) (fault : Option Fault)
    → IsFirst (Completes n.name (head.Subprogram s)) cs at → ((d : Completion) → IsCompleted n.place s symbol flag fault (slice_index_or cs at d).view)
    → Declared (number + at) symbol flag fault ≡ first_completed number n s may h cs
declared-is number n s may h [] at symbol flag fault first is = absurd (omega (arith, first.inside))
declared-is number n s may h (c ∷ cs) zero symbol flag fault first is =
    let same : number + zero ≡ number = omega arith in
    ap (λ (m : ℕ). Declared m symbol flag fault) same
    ∙ completed-is number n.place s symbol flag fault c.view (is c)
    ∙ sym (ap (choice number n s may h c cs) (completes-so n.name s c (first.env c)))
declared-is number n s may h (c ∷ cs) (suc at) symbol flag fault first is =
    let same : number + suc at ≡ suc number + at = omega arith in
    ap (λ (m : ℕ). Declared m symbol flag fault) same
    ∙ declared-is (suc number) n s may h cs at symbol flag fault
    (record { inside = omega (arith, first.inside); env = first.env; before = λ k d lt. first.before (suc k) d (omega arith) }) is
    ∙ sym (ap (choice number n s may h c cs) (false_from_ne_true (completes n.name s c) (λ e. first.before zero c (omega arith) (completes-yes n.name s c e))))

pub completing-is : (uncompleted : List Completion) (n : DefiningName) (s : Specification) (may h : Bool) (c : Completing) → IsCompleting uncompleted n s may h c → c ≡ completing_found uncompleted n s may h
completing-is uncompleted n s may h (Declared at symbol flag fault) is =
    let same : at ≡ zero + at = omega arith in
    ap (λ (m : ℕ). Declared m symbol flag fault) same ∙ declared-is zero n s may h uncompleted at symbol flag fault is.0 is.1
completing-is uncompleted n s may h (Alone fault) is = ap Alone is.1 ∙ alone-is zero n s may h uncompleted is.0

pub if_ok : {A E : Type 0} (r : Result A E) (P Q : A → Type 0) → ((a : A) → P a → Q a) → IfOk r P → IfOk r Q
if_ok (Ok a) P Q f h = f a h
if_ok (Err e) P Q f h = search rules

-- ---- what waits first

pub first_view : (uncompleted : List Completion) (n : DefiningName) (s : Specification) (c : Completion) → slice_get uncompleted 0 ≡ Some c → view_completed 0 n.place s c.view ≡ unit_completing uncompleted n s
first_view [] n s c e = absurd (cc)
first_view (d ∷ ds) n s c e = let same : c ≡ d = cc in ap (λ (x : Completion). view_completed 0 n.place s x.view) same

pub some_waits : (uncompleted : List Completion) (c : Completion) → slice_get uncompleted 0 ≡ Some c → 0 < length uncompleted
some_waits [] c e = absurd (cc)
some_waits (d ∷ ds) c e = omega arith

pub view_waits : (uncompleted : List Completion) (place : Place) (s : Specification) (v : ViewKind) → 0 < length uncompleted → IsWaiting uncompleted (view_completed 0 place s v)
view_waits uncompleted place s (OfSubprogram v) h = h
view_waits uncompleted place s _ h = tt
