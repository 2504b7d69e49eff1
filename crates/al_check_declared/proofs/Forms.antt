-- The region of an object in one of its forms: what encloses it, what is declared in it, and what it depends on.
use mathlib.Core.Bool.{beq}
use Rattle.std.proofs.Common.{◌≡◌, ℕ, Bool, true, false, if◌then◌else◌, List, [], ◌∷◌, ◌++◌, Some, refl, sym, ap, ◌∙◌, subst}
use Rattle.std.specs.Map.{lookup}
use Rattle.std.specs.Prelude.{fold, unwrap_or}
use Rattle.std.specs.Str.{bytes_eq}
use Rattle.al_check_here.proofs.Lists.{before_last, place-is}
use Rattle.al_check_here.specs.RegionsHere.{region_left}
use Rattle.al_check_declared.specs.Laws.{standing_in}
use Rattle.al_check_declared.specs.ObjectRegions.{component_view, entered_alone, has_form, is_first_object, is_object, region_entered, with_component, with_operation}
use Rattle.al_check_declared.specs.OpenObjects.{entered_anew, renewed_by}
use Rattle.al_decl.specs.Declaring.{with_declaration}
use Rattle.al_decl.specs.declared.env.Environment.{Environment}
use Rattle.al_decl_judged.specs.TypeDeclarations.{declared_as}
use Rattle.al_scope.specs.Places.{Place, in_last, inner_declared, with_declared}
use Rattle.al_scope.specs.declared.region.Region.{Region}
use Rattle.al_view.specs.Interfaces.{views_of, with_view}
use Rattle.al_view.specs.Named.{Declarations}
use Rattle.al_view.specs.declared.types.Component.{Component}
use Rattle.al_view.specs.declared.view.Operation.{Operation}
use Rattle.al_view.specs.declared.view.ProtectedView.{ProtectedView}
use Rattle.al_view.specs.declared.view.ViewKind.{ViewKind}
use Rattle.al_view.specs.declared.view.ViewKind.TheVariants.{OfSubprogram}

in_last-inner : (change : Region → Region) (outer : List Region) (r : Region) → in_last change (outer ++ r ∷ []) ≡ outer ++ change r ∷ []
in_last-inner change [] r = refl
in_last-inner change (q ∷ []) r = refl
in_last-inner change (q ∷ s ∷ rest) r = ap (λ (l : List Region). q ∷ l) (in_last-inner change (s ∷ rest) r)

declared-inner : (outer : List Region) (r : Region) → inner_declared (outer ++ r ∷ []) ≡ r.declared
declared-inner [] r = refl
declared-inner (q ∷ []) r = refl
declared-inner (q ∷ s ∷ rest) r = declared-inner (s ∷ rest) r

same_flag : (a b : Bool) → beq a b ≡ true → a ≡ b
same_flag true true e = refl
same_flag false false e = refl
same_flag true false e = absurd (cc)
same_flag false true e = absurd (cc)

-- ---- what is declared in one form: if what a name has begins with an object of some form, it is that form

module _ (form other : Bool) where
  abbrev IsFormed : List ViewKind → Type 0
  IsFormed vs = is_first_object other vs ≡ true → form ≡ other

  abbrev AreFormed : Declarations → Type 0
  AreFormed [] = Unit {0}
  AreFormed (e ∷ es) = IsFormed e.1 × AreFormed es

  formed-more : (vs : List ViewKind) (w : ViewKind) → (is_object other w ≡ true → form ≡ other) → IsFormed vs → IsFormed (vs ++ w ∷ [])
  formed-more [] w one h e = one e
  formed-more (v ∷ vs) w one h e = h e

  formed-with : (d : Declarations) (name : List ℕ) (w : ViewKind) → (is_object other w ≡ true → form ≡ other) → AreFormed d → AreFormed (with_view d name w)
  formed-with [] name w one h = (one, tt)
  formed-with (e ∷ es) name w one h = at (formed-with es name w one h.1) (bytes_eq name e.0)
    where
      at : AreFormed (with_view es name w) → (b : Bool) → AreFormed (if b then (e.0, e.1 ++ w ∷ []) ∷ es else e ∷ with_view es name w)
      at rest true = (formed-more e.1 w one h.0, h.1)
      at rest false = (h.0, rest)

  formed-views : (d : Declarations) (name : List ℕ) → AreFormed d → IsFormed (views_of d name)
  formed-views [] name h = λ e. absurd (cc)
  formed-views (e ∷ es) name h = at (formed-views es name h.1) (bytes_eq name e.0)
    where
      at : IsFormed (views_of es name) → (b : Bool) → IsFormed (unwrap_or (if b then Some e.1 else lookup (bytes_eq name) es) [])
      at rest true = h.0
      at rest false = rest

  -- the innermost region is so, inside these outer ones
  abbrev IsFilled : Place → Environment → Type 0
  IsFilled outer env = (env.scope.mentioned ≡ outer.mentioned) × (r : Region) × (env.scope.regions ≡ outer.regions ++ r ∷ []) × AreFormed r.declared

  filled-more : (outer : Place) (env : Environment) (name : List ℕ) (w : ViewKind) → (is_object other w ≡ true → form ≡ other) → IsFilled outer env → IsFilled outer (with_declaration env (declared_as name w))
  filled-more outer env name w one h = (
    h.0,
    with_declared name w h.1,
    ap (in_last (with_declared name w)) h.2 ∙ in_last-inner (with_declared name w) outer.regions h.1,
    formed-with h.1.declared name w one h.3,
  )

  filled-operations : (outer : Place) (env : Environment) (os : List Operation) → IsFilled outer env → IsFilled outer (fold with_operation env os)
  filled-operations outer env [] h = h
  filled-operations outer env (o ∷ os) h = filled-operations outer (with_operation env o) os (filled-more outer env o.name (OfSubprogram o.subprogram) (λ e. absurd (cc)) h)

  filled-components : (outer : Place) (v : ProtectedView) (at : Environment × ℕ) (cs : List Component) → IsFilled outer at.0 → IsFilled outer (fold (with_component v form) at cs).0
  filled-components outer v at [] h = h
  filled-components outer v at (c ∷ cs) h =
      filled-components outer v (with_component v form at c) cs (filled-more outer at.0 c.name (component_view v form c at.1) (λ e. same_flag form other e) h)

  filled : (outer : Environment) (v : ProtectedView) → IsFilled outer.scope (region_entered outer v form)
  filled outer v =
      let alone = entered_alone outer v.symbol in
      let first : IsFilled outer.scope alone = (refl, _, refl, tt) in
      filled-components outer.scope v (fold with_operation alone v.operations, 0) v.components (filled-operations outer.scope alone v.operations first)

-- ---- what is round it

left-outer : (outer : Environment) (v : ProtectedView) (form : Bool) → region_left (region_entered outer v form).scope ≡ outer.scope
left-outer outer v form =
    let inner = (region_entered outer v form).scope in
    let h = filled form form outer v in
    place-is (region_left inner) outer.scope h.0 (sym (before_last inner.regions outer.scope.regions h.1 h.2))

-- ---- it depends only on the regions that enclose it

operations-aside : (h env : Environment) (os : List Operation)
    → fold with_operation (record env { progress = h.progress; uncompleted = h.uncompleted }) os ≡ record (fold with_operation env os) { progress = h.progress; uncompleted = h.uncompleted }
operations-aside h env [] = refl
operations-aside h env (o ∷ os) = operations-aside h (with_operation env o) os

components-aside : (h : Environment) (v : ProtectedView) (form : Bool) (env : Environment) (word : ℕ) (cs : List Component)
    → (fold (with_component v form) (record env { progress = h.progress; uncompleted = h.uncompleted }, word) cs).0
    ≡ record (fold (with_component v form) (env, word) cs).0 { progress = h.progress; uncompleted = h.uncompleted }
components-aside h v form env word [] = refl
components-aside h v form env word (c ∷ cs) = let more = with_component v form (env, word) c in components-aside h v form more.0 more.1 cs

entered-aside : (h outer : Environment) (v : ProtectedView) (form : Bool) (d : Declarations)
    → region_entered (record h { scope = outer.scope; declared = d }) v form ≡ standing_in h outer v form
entered-aside h outer v form d =
    let alone = entered_alone outer v.symbol in
    ap (λ (e : Environment). (fold (with_component v form) (e, 0) v.components).0) (operations-aside h alone v.operations)
    ∙ components-aside h v form (fold with_operation alone v.operations) 0 v.components

-- ---- both forms

abbrev begun : Environment → ProtectedView → Environment
begun outer v = fold with_operation (entered_alone outer v.symbol) v.operations

-- the region in the one form, if it has the other one, is the same
forms-same : (outer : Environment) (v : ProtectedView) (form other : Bool) → has_form other v.components (region_entered outer v form).scope.regions ≡ true → region_entered outer v form ≡ region_entered outer v other
forms-same outer v form other = at v.components refl
  where
    at : (cs : List Component) → cs ≡ v.components → has_form other cs (region_entered outer v form).scope.regions ≡ true → region_entered outer v form ≡ region_entered outer v other
    at [] e h = ap (λ (cs : List Component). (fold (with_component v form) (begun outer v, 0) cs).0) (sym e) ∙ ap (λ (cs : List Component). (fold (with_component v other) (begun outer v, 0) cs).0) e
    at (c ∷ cs) e h =
        let inside = filled form other outer v in
        let r = inside.1 in
        let declared_is = ap inner_declared inside.2 ∙ declared-inner outer.scope.regions r in
        ap (region_entered outer v) (formed-views form other r.declared c.name inside.3 (subst (λ (d : Declarations). is_first_object other (views_of d c.name) ≡ true) declared_is h))

entered-anew : (h outer : Environment) (v : ProtectedView) (form is_constant : Bool) → entered_anew (standing_in h outer v form) v is_constant ≡ standing_in h outer v is_constant
entered-anew h outer v form is_constant =
    ap (λ (p : Place). region_entered (record (standing_in h outer v form) { scope = p }) v is_constant) (left-outer outer v form)
    ∙ entered-aside h outer v is_constant (region_entered outer v form).declared

pub renewed-anew : (h outer : Environment) (v : ProtectedView) (form is_constant : Bool)
    → renewed_by (standing_in h outer v form) is_constant (Some v) ≡ entered_anew (standing_in h outer v form) v is_constant
renewed-anew h outer v form is_constant = at (has_form is_constant v.components (region_entered outer v form).scope.regions) refl
  where
    at : (b : Bool) → has_form is_constant v.components (region_entered outer v form).scope.regions ≡ b
        → (if b then standing_in h outer v form else entered_anew (standing_in h outer v form) v is_constant) ≡ entered_anew (standing_in h outer v form) v is_constant
    at false is = refl
    at true is = ap (λ (e : Environment). record h { scope = e.scope; declared = e.declared }) (forms-same outer v form is_constant is) ∙ sym (entered-anew h outer v form is_constant)
