use Rattle.std.proofs.Common.{◌≡◌, List, sym, ap, subst, ◌∙◌}
use Rattle.al_meant.proofs.Meant.{all_meant}
use Rattle.al_meant.specs.Found.{found_under}
use Rattle.al_meant.specs.Meanings.{AreMeant}
use Rattle.al_overload_lookup.specs.Lookups.{names_at}
use Rattle.al_overload_lookup.specs.declared.denoted.Names.{Names}
use Rattle.al_query.specs.Reads.{Agrees, Log, Table}
use Rattle.al_tree.specs.ExpressionViews.{expression_model}
use Rattle.al_view.specs.declared.view.ViewKind.{ViewKind}
use Rattle.al_meant.proofs.meaning.all_meant.Goals as goal

pub returns : goal.returns
returns g c =
    let place = c.args.scope.now in
    let packages = c.args.packages.now in
    let x = expression_model c.args.name.now in
    let asked : Table = g.A.Answers.table c.names.new.recorder.asked.table.now in
    let is_table : asked ≡ g.A.Answers.table c.args.table.now = ap (λ a. g.A.Answers.table a.table.now) (c.names.ensures.asked ∙ c.new-recorder.ensures.asked) in
    let agrees : Agrees asked c.names.new.recorder.log = subst (λ (l : Log). Agrees asked l) c.into_log-log.ensures.log c.into_log-log.ensures.agrees in
    let found = (c.in_ok-names.ensures.answered asked agrees).1 in
    let views : c.in_ok-views.views ≡ found_under (names_at asked place packages x) x = c.in_ok-views.ensures ∙ ap (λ (n : Names). found_under n x) found in
    let by_asked = subst (λ (vs : List ViewKind). AreMeant asked place packages x vs) (sym views) (all_meant asked place packages x) in
    subst (λ (t : Table). AreMeant t place packages x c.in_ok-views.views) is_table by_asked
