use Rattle.std.proofs.Common.{◌≡◌, false, List, [], sym, ◌∙◌, ap, rules}
use Rattle.std.specs.List.{list_any}
use Rattle.al_view.specs.declared.types.TypeView.{TypeView}
use Rattle.al_decl_judged.specs.TypeLists.{is_known}
use Rattle.al_decl_judged.proofs.TypeDeclarationLemmas.{none_left_out}
use Rattle.al_decl_judged.proofs.type_list.other_types.Goals as goal

pub returns-then-not-has_standard : goal.returns-then-not-has_standard
returns-then-not-has_standard c =
    let no_standard : c.has_standard.result ≡ false = search rules in
    let none =
    ap (λ (l : List TypeView). list_any (λ t. is_known [] t.symbol) l) (sym c.as_slice.ensures)
    ∙ sym c.has_standard.ensures
    ∙ no_standard in
    c.in_ok-share.ensures ∙ sym (none_left_out c.args.types.now none)
