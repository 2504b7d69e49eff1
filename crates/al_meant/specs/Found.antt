-- What a look-up of a name has under the whole name.
use Rattle.std.specs.Prelude.{List, []}
use Rattle.std.specs.Option.{option_map_or}
use Rattle.al_overload_lookup.specs.Keys.{key_of}
use Rattle.al_overload_lookup.specs.declared.denoted.Names.{Names}
use Rattle.al_tree_syntax.specs.ExpressionTrees.{ExpressionTree}
use Rattle.al_view.specs.Interfaces.{views_of}
use Rattle.al_view.specs.declared.view.ViewKind.{ViewKind}

abbrev pub found_under : Names → ExpressionTree → List ViewKind
found_under names x = option_map_or (views_of names.visible) (key_of x) []
