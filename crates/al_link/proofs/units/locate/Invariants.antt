use Rattle.std.proofs.Common.{◌≡◌, ◌+◌, ◌≤◌, ◌++◌, length, drop, map, sum_by}
use Rattle.std.specs.List.{All}
use Rattle.al_link_image.specs.Images.{IsUnitName}
use Rattle.al_link.specs.Bases.{AreSmall, next_bases}
use Rattle.al_link.specs.Units.{bases_after, located, located_model, unit_model}
use Rattle.al_link.proofs.units.locate.Given as goal

abbrev pub invariant-loop-unit : goal.invariant-loop-unit
invariant-loop-unit l = record {
  located : map located_model l.list.items ++ located l.before (map unit_model (drop l.unit-index l.units)) ≡ located l.fn.first (map unit_model l.units);
  after : bases_after l.before (map unit_model (drop l.unit-index l.units)) ≡ bases_after l.fn.first (map unit_model l.units);
  small : AreSmall l.before;
  each : All (λ k. AreSmall (next_bases k.before k.object.now)) l.list.items;
  names : All (λ k. IsUnitName k.key.now.name) l.list.items;
  words : All (λ k. k.before.words + k.object.now.data_words ≤ l.before.words) l.list.items;
  code : l.fn.first.code + sum_by (λ k. length k.object.now.code) l.list.items ≡ l.before.code;
  objects : l.fn.first.objects + sum_by (λ k. length k.object.now.protected) l.list.items ≡ l.before.objects;
  count : length l.list.items ≡ l.unit-index;
}
