-- Links that are among others.
use Rattle.std.proofs.Common.{◌≡◌, Bool, true, false, ◌&&◌, List, refl, sym, ap, subst}
use Rattle.std.specs.List.{Contains}
use Rattle.al_base_graph.proofs.Members.{any_from}
use Rattle.al_view.specs.Symbols.{same_symbol}
use Rattle.al_view.specs.ViewUses.{link}
use Rattle.al_view.specs.declared.link.LinkKind.{LinkKind}
use Rattle.al_view.specs.declared.link.LinkKind.TheVariants as kind
use Rattle.al_view.specs.declared.link.LinkSymbol.{LinkSymbol}
use Rattle.al_view.proofs.SymbolLemmas.{same_symbol-one}
use Rattle.al_check_promises.specs.Links.{is_among, same_link, same_link_kind}

pub both : (a b : Bool) → (a && b) ≡ true → (a ≡ true) × (b ≡ true)
both true b h = (refl, h)
both false b h = absurd (cc)

-- ---- links that are one

kind-one : (a b : LinkKind) → same_link_kind a b ≡ true → a ≡ b
kind-one kind.Code kind.Code h = refl
kind-one kind.Gate kind.Gate h = refl
kind-one kind.EntryBody kind.EntryBody h = refl
kind-one kind.Flag kind.Flag h = refl
kind-one kind.Data kind.Data h = refl
kind-one kind.Protected kind.Protected h = refl
kind-one _ _ h = absurd (cc)

link-one : (a b : LinkSymbol) → same_link a b ≡ true → a ≡ b
link-one a b h =
    let two = both (same_link_kind a.kind b.kind) (same_symbol a.symbol b.symbol) h in
    subst (λ (y : LinkSymbol). a ≡ y) (ap (λ s. link b.kind s) (same_symbol-one a.symbol b.symbol two.1)) (ap (λ k. link k a.symbol) (kind-one a.kind b.kind two.0))

pub among-contains : (links : List LinkSymbol) (x : LinkSymbol) → is_among links x ≡ true → Contains links x
among-contains links x h =
    let r = any_from (same_link x) links h in
    subst (λ (y : LinkSymbol). Contains links y) (sym (link-one x r.0 r.2)) r.1
