-- An integer type that is declared, by what its parts are.
use Rattle.std.proofs.Common.{◌≡◌, ℕ, List, [], Option, Result, Ok, ◌∙◌, ap}
use Rattle.al_base_fault.specs.declared.fault.Fault.{Fault}
use Rattle.al_base_fault.specs.Judging.{next, map_ok, unless}
use Rattle.al_view.specs.declared.symbol.Symbol.{Symbol}
use Rattle.al_view.specs.declared.types.TypeView.{TypeView}
use Rattle.al_decl_judged.specs.declared.subtype_views.StaticRange.{StaticRange}
use Rattle.al_decl_judged.specs.Types.{integer_type}
use Rattle.al_decl_judged.specs.declared.names.TypeName.{TypeName}
use Rattle.al_decl_judged.specs.declared.progress.Progress.{Progress}
use Rattle.al_decl_judged.specs.Progressing.{type_counted, type_symbol}
use Rattle.al_decl_judged.specs.TypeKinds.{integer_declared, with_type}

pub integer_right : (p q : Progress) (n : TypeName) (duplicate : Option Fault) (range : Result StaticRange Fault) (s : Symbol) (literals : List (List ℕ)) (types : Result (List TypeView) Fault) → q ≡ type_counted p n → s ≡ type_symbol p n → types ≡ next range (λ (r : StaticRange). Ok (integer_type s r.bounds)) → literals ≡ [] → map_ok (with_type q n literals) (unless duplicate types) ≡ integer_declared p n duplicate range
integer_right p q n duplicate range s literals types counted symbol made none =
    ap (λ (x : Progress). map_ok (with_type x n literals) (unless duplicate types)) counted
    ∙ ap (λ (l : List (List ℕ)). map_ok (with_type (type_counted p n) n l) (unless duplicate types)) none
    ∙ ap (λ (t : Result (List TypeView) Fault). map_ok (with_type (type_counted p n) n []) (unless duplicate t)) (made ∙ ap (λ (x : Symbol). next range (λ (r : StaticRange). Ok (integer_type x r.bounds))) symbol)
