-- One unit, one name and one item more.
use Rattle.std.proofs.Common.{◌≡◌, ℕ, ◌+◌, ◌<◌, List, ◌∷◌, ◌++◌, Option, Some, None, Result, Ok, Err, map, drop, length, get_or, sym, ◌∙◌, ap}
use Rattle.std.specs.Prelude.{IfOk, fold}
use Rattle.std.proofs.lemmas.List.{at_drop_more}
use Rattle.al_base_fault.specs.Judging.{fault_in, next, map_ok, unless}
use Rattle.al_base_fault.specs.declared.fault.Fault.{Fault}
use Rattle.al_query.specs.Reads.{Table}
use Rattle.al_query.specs.declared.answer.UseClause.{UseClause}
use Rattle.al_tree.specs.UnitViews.{context_model}
use Rattle.al_tree.specs.declared.unit.ContextItem.{ContextItem}
use Rattle.al_scope_context.specs.Contexts.{more_uses, with_item, with_items, with_uses}
use Rattle.al_scope_context.specs.declared.context.Context.{Context}

pub first-of : {X : Type 0} (xs : List X) (i : ℕ) (x : X) → i < length xs → x ≡ get_or xs i x → drop i xs ≡ x ∷ drop (i + 1) xs
first-of xs i x h e = at_drop_more (λ l. l) xs i x h ∙ ap (λ y. y ∷ drop (i + 1) xs) (sym e)

pub if_ok : {X E : Type 0} (r : Result X E) (P Q : X → Type 0) → ((x : X) → P x → Q x) → IfOk r P → IfOk r Q
if_ok (Ok x) P Q f h = f x h
if_ok (Err e) P Q f h = h

-- one more of a fold, of what is left
pub fold-step : {X Y : Type 0} (f : Y → X → Y) (xs : List X) (i : ℕ) (x : X) (before after whole : Y) → i < length xs → x ≡ get_or xs i x
    → after ≡ f before x → fold f before (drop i xs) ≡ whole → fold f after (drop (i + 1) xs) ≡ whole
fold-step f xs i x before after whole h e a b =
    ap (λ y. fold f y (drop (i + 1) xs)) a ∙ ap (fold f before) (sym (first-of xs i x h e)) ∙ b

pub fold-map_step : {X Y Z : Type 0} (f : Y → Z → Y) (see : X → Z) (xs : List X) (i : ℕ) (x : X) (before after whole : Y) → i < length xs → x ≡ get_or xs i x
    → after ≡ f before (see x) → fold f before (map see (drop i xs)) ≡ whole → fold f after (map see (drop (i + 1) xs)) ≡ whole
fold-map_step f see xs i x before after whole h e a b =
    ap (λ y. fold f y (map see (drop (i + 1) xs))) a ∙ ap (λ l. fold f before (map see l)) (sym (first-of xs i x h e)) ∙ b

-- two equations as one
pub pair-is : {X Y : Type 0} (a b : X) (c d : Y) → a ≡ b → c ≡ d → ◌≡◌ {A = X × Y} (a, c) (b, d)
pair-is {X = X} {Y = Y} a b c d e f = ap (λ (x : X). let p : X × Y = (x, c) in p) e ∙ ap (λ (y : Y). let p : X × Y = (b, y) in p) f

-- a use clause that was judged
pub used-item : (c : Context) (uses : List UseClause) (clauses : Result (List UseClause) Fault) (fault : Option Fault)
    → uses ≡ more_uses c.uses clauses → fault ≡ fault_in clauses
    → unless fault (Ok (record c { uses = uses })) ≡ map_ok (with_uses c) clauses
used-item c uses (Ok cs) fault u f =
    ap (λ (o : Option Fault). unless o (Ok (record c { uses = uses }))) f
    ∙ ap (λ (x : List UseClause). Ok (record c { uses = x })) u
used-item c uses (Err g) fault u f = ap (λ (o : Option Fault). unless o (Ok (record c { uses = uses }))) f

-- one item more
items-step : (t : Table) (items : List ContextItem) (i : ℕ) (item : ContextItem) (c d : Context) (fault : Option Fault) → i < length items → item ≡ get_or items i item
    → unless fault (Ok d) ≡ with_item t c (context_model item)
    → with_items t c (map context_model (drop i items)) ≡ next (unless fault (Ok d)) (λ (x : Context). with_items t x (map context_model (drop (i + 1) items)))
items-step t items i item c d fault h e is =
    let rest = map context_model (drop (i + 1) items) in
    ap (λ (xs : List ContextItem). with_items t c (map context_model xs)) (first-of items i item h e)
    ∙ ap (λ (r : Result Context Fault). next r (λ (x : Context). with_items t x rest)) (sym is)

pub items-more : (t : Table) (items : List ContextItem) (i : ℕ) (item : ContextItem) (c d : Context) (fault : Option Fault) (whole : Result Context Fault) → i < length items → item ≡ get_or items i item
    → unless fault (Ok d) ≡ with_item t c (context_model item) → fault ≡ None
    → with_items t c (map context_model (drop i items)) ≡ whole
    → with_items t d (map context_model (drop (i + 1) items)) ≡ whole
items-more t items i item c d fault whole h e is none b =
    let rest = map context_model (drop (i + 1) items) in
    ap (λ (o : Option Fault). next (unless o (Ok d)) (λ (x : Context). with_items t x rest)) (sym none)
    ∙ sym (items-step t items i item c d fault h e is) ∙ b

pub items-fault : (t : Table) (items : List ContextItem) (i : ℕ) (item : ContextItem) (c d : Context) (fault : Option Fault) (one : Fault) (whole : Result Context Fault) → i < length items → item ≡ get_or items i item
    → unless fault (Ok d) ≡ with_item t c (context_model item) → fault ≡ Some one
    → with_items t c (map context_model (drop i items)) ≡ whole
    → Err one ≡ whole
items-fault t items i item c d fault one whole h e is some b =
    let rest = map context_model (drop (i + 1) items) in
    ap (λ (o : Option Fault). next (unless o (Ok d)) (λ (x : Context). with_items t x rest)) (sym some)
    ∙ sym (items-step t items i item c d fault h e is) ∙ b
