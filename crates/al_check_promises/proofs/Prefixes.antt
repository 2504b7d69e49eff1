-- Down the prefixes of a name: what is left passes if the whole does, once the index that was passed over has passed.
use Rattle.std.proofs.Common.{◌≡◌, ℕ, Bool, true, Box, Global, sym, ap, ◌∙◌}
use Rattle.std.specs.List.{list_all}
use Rattle.al_view.specs.declared.link.LinkSymbol.{LinkSymbol}
use Rattle.al_view.specs.declared.types.Bounds.{Bounds}
use Rattle.al_view_typed.specs.ExpressionViews.{name_model, typed_model}
use Rattle.al_view_typed.specs.Uses.{name_uses, typed_uses}
use Rattle.al_view_typed.specs.declared.expression.Typed.{Typed}
use Rattle.al_view_typed.specs.declared.expression.TypedName.{TypedName}
use Rattle.al_view_typed.specs.declared.expression.TypedName.TheVariants.{Component, Indexed}
use Rattle.al_view_typed.proofs.ExpressionsMade.{component_made, indexed_made}
use Rattle.al_check_promises.proofs.Listed.{first_decides}

pub component_passes : (p : LinkSymbol → Bool) (rest part : TypedName) (whole : Box TypedName Global) (offset : ℕ) → rest ≡ Component whole offset → part ≡ whole.value
    → list_all p (name_uses (name_model part)) ≡ list_all p (name_uses (name_model rest))
component_passes p rest part whole offset is same =
    ap (λ (n : TypedName). list_all p (name_uses (name_model n))) same
    ∙ sym (ap (λ (n : TypedName). list_all p (name_uses (name_model n))) is ∙ ap (λ n. list_all p (name_uses n)) (component_made whole offset))

pub indexed_passes : (p : LinkSymbol → Bool) (rest part : TypedName) (array : Box TypedName Global) (index : Box Typed Global) (bounds : Bounds) (words : ℕ) (b : Bool) → rest ≡ Indexed array index bounds words
    → part ≡ array.value → b ≡ list_all p (typed_uses (typed_model index.value)) → b ≡ true → list_all p (name_uses (name_model part)) ≡ list_all p (name_uses (name_model rest))
indexed_passes p rest part array index bounds words b is same two passed =
    ap (λ (n : TypedName). list_all p (name_uses (name_model n))) same
    ∙ sym (ap (λ (n : TypedName). list_all p (name_uses (name_model n))) is ∙ ap (λ n. list_all p (name_uses n)) (indexed_made array index bounds words)
    ∙ first_decides p (name_uses (name_model array.value)) (typed_uses (typed_model index.value)) b two passed)
