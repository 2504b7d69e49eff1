use Rattle.std.proofs.Common.{◌≡◌, ◌+◌, ◌<◌, ◌≤◌, ◌++◌, ◌∷◌, [], List, map, length, get_or, ap, subst, sym, ◌∙◌, arith}
use Rattle.std.proofs.lemmas.Grind.{common_steps}
use Rattle.al_base.specs.Batch.{Key, key_of}
use Rattle.al_base.specs.declared.unit_key.UnitKey.{UnitKey}
use Rattle.al_bind.specs.Parts.{subunits_at}
use Rattle.al_bind.proofs.PartLemmas.{ArePartsUpto, parts_start, parts_further, parts_end}
use Rattle.al_bind.proofs.parts.parts_of.Goals as goal

pub loop-i-init : goal.loop-i-init
loop-i-init c =
    let lib = c.args.sources.now in
    let x = key_of c.args.key.now in
    let copy = c.in_ok-copy_of.field-0 in
    let items = c.in_ok-push.ensures.items ∙ ap (λ (ks : List UnitKey). ks ++ copy ∷ []) c.new-parts.ensures.items in
    let is : map key_of c.push.new.self.items ≡ x ∷ [] = ap (λ (ks : List UnitKey). map key_of ks) items ∙ ap (λ (k : Key). k ∷ []) c.in_ok-copy_of.ensures in
    subst (λ (ks : List Key). ArePartsUpto lib x ks 0) (sym is) (parts_start lib x)

pub loop-i-preserved : goal.loop-i-preserved
loop-i-preserved c =
    let lib = c.args.sources.now in
    let x = key_of c.args.key.now in
    let keys = map key_of c.loop-i.parts.items in
    let key = key_of c.index.result.now in
    let within : c.loop-i.i < length keys = grind (arith, common_steps, c.if-i-len.false, c.len.ensures) in
    let here : get_or keys c.loop-i.i key ≡ key = grind (arith, common_steps, c.index.ensures, within) in
    let is : map key_of c.add_keys.new.keys.items ≡ keys ++ subunits_at lib key =
    c.in_ok-add_keys.ensures
    ∙ ap (λ (ks : List UnitKey). keys ++ map key_of ks) c.deref.ensures.value
    ∙ ap (λ (ks : List Key). keys ++ ks) c.in_ok-more.ensures in
    subst (λ (ks : List Key). ArePartsUpto lib x ks (c.loop-i.i + 1)) (sym is) (parts_further lib x keys c.loop-i.i key c.loop-i.invariant within here)

pub returns-then-i-len : goal.returns-then-i-len
returns-then-i-len c =
    let keys = map key_of c.loop-i.parts.items in
    let ended : length keys ≤ c.loop-i.i = grind (arith, common_steps, c.if-i-len.true, c.len.ensures) in
    parts_end c.args.sources.now (key_of c.args.key.now) keys c.loop-i.i c.loop-i.invariant ended

pub returns : goal.returns
returns c =
    let keys = map key_of c.loop-i.parts.items in
    let small = c.loop-i.parts.small in
    let ok = c.loop-i.parts.ok in
    let ended : length keys ≤ c.loop-i.i = grind (arith, common_steps, c.loop-i-test.false, small, ok) in
    parts_end c.args.sources.now (key_of c.args.key.now) keys c.loop-i.i c.loop-i.invariant ended
