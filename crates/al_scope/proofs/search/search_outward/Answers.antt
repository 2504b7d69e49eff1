use Rattle.std.proofs.Common.{◌≡◌, ◌+◌, ◌-◌, ◌∷◌, ◌++◌, ◌∙◌, [], List, ap, append-nil, length, length-append, refl, subst, sym, take, arith}
use Rattle.std.proofs.lemmas.List.{append_assoc}
use Rattle.al_scope.specs.declared.region.Region.{Region}
use Rattle.al_scope.proofs.SearchLemmas.{IsLooking, last_split, looking_ended, looking_nowhere, looking_outward, none_left}
use Rattle.al_scope.proofs.search.search_outward.Goals as goal

pub outward-init : goal.outward-init
outward-init g c = record {
  asked = refl;
  looked = ([], sym (append-nil c.args.regions.now), looking_nowhere c.args.mentioned.now c.args.name.now c.args.recorder.now.log c.new-search.result c.new-search.ensures);
}

pub outward-preserved : goal.outward-preserved
outward-preserved g c =
    let i = c.outward.invariant in
    let done = i.looked.0 in
    let rest = c.outward.rest.now in
    let x = c.region-item.result in
    let outer = take (length rest - 1) rest in
    let split = last_split rest x c.in-len1-up.len_at_least c.region-item.is in
    record {
      asked = c.find.ensures.asked ∙ i.asked;
      looked = (
        x ∷ done,
        i.looked.1 ∙ ap (λ (rs : List Region). rs ++ done) split ∙ append_assoc outer (x ∷ []) done,
        looking_outward c.args.mentioned.now c.args.name.now x done c.args.recorder.now.log c.outward.recorder.log c.find.new.recorder.log c.outward.search c.go_outward.new.self c.in_ok-found.found
            i.looked.2 c.if-search.false c.in_ok-found.ensures.answered c.in_ok-found.ensures.asks c.in_ok-go_outward.ensures,
      );
    }

-- ---- a region decides: those further out make no difference

pub returns-then-search-clause-answered : goal.returns-then-search-clause-answered
returns-then-search-clause-answered g c t h =
    let i = c.outward.invariant in
    let m = c.args.mentioned.now in
    let name = c.args.name.now in
    let all = looking_ended m name c.outward.rest.now i.looked.0 c.args.recorder.now.log c.outward.recorder.log c.outward.search i.looked.2 c.if-search.true in
    (subst (λ (rs : List Region). IsLooking m name rs c.args.recorder.now.log c.outward.recorder.log c.outward.search) (sym i.looked.1) all).answered t h

pub returns-then-search-clause-asks : goal.returns-then-search-clause-asks
returns-then-search-clause-asks g c =
    let i = c.outward.invariant in
    let m = c.args.mentioned.now in
    let name = c.args.name.now in
    let all = looking_ended m name c.outward.rest.now i.looked.0 c.args.recorder.now.log c.outward.recorder.log c.outward.search i.looked.2 c.if-search.true in
    (subst (λ (rs : List Region). IsLooking m name rs c.args.recorder.now.log c.outward.recorder.log c.outward.search) (sym i.looked.1) all).asks

pub returns-then-search-clause-stops : goal.returns-then-search-clause-stops
returns-then-search-clause-stops g c t h =
    let i = c.outward.invariant in
    let m = c.args.mentioned.now in
    let name = c.args.name.now in
    let all = looking_ended m name c.outward.rest.now i.looked.0 c.args.recorder.now.log c.outward.recorder.log c.outward.search i.looked.2 c.if-search.true in
    (subst (λ (rs : List Region). IsLooking m name rs c.args.recorder.now.log c.outward.recorder.log c.outward.search) (sym i.looked.1) all).stops t h

-- ---- all regions have been looked into

pub returns-clause-answered : goal.returns-clause-answered
returns-clause-answered g c t h =
    let i = c.outward.invariant in
    let none : length c.outward.rest.now ≡ 0 = omega arith in
    let all : c.args.regions.now ≡ i.looked.0 = i.looked.1 ∙ ap (λ (rs : List Region). rs ++ i.looked.0) (none_left c.outward.rest.now none) in
    (subst (λ (rs : List Region). IsLooking c.args.mentioned.now c.args.name.now rs c.args.recorder.now.log c.outward.recorder.log c.outward.search) (sym all) i.looked.2).answered t h

pub returns-clause-asks : goal.returns-clause-asks
returns-clause-asks g c =
    let i = c.outward.invariant in
    let none : length c.outward.rest.now ≡ 0 = omega arith in
    let all : c.args.regions.now ≡ i.looked.0 = i.looked.1 ∙ ap (λ (rs : List Region). rs ++ i.looked.0) (none_left c.outward.rest.now none) in
    (subst (λ (rs : List Region). IsLooking c.args.mentioned.now c.args.name.now rs c.args.recorder.now.log c.outward.recorder.log c.outward.search) (sym all) i.looked.2).asks

pub returns-clause-stops : goal.returns-clause-stops
returns-clause-stops g c t h =
    let i = c.outward.invariant in
    let none : length c.outward.rest.now ≡ 0 = omega arith in
    let all : c.args.regions.now ≡ i.looked.0 = i.looked.1 ∙ ap (λ (rs : List Region). rs ++ i.looked.0) (none_left c.outward.rest.now none) in
    (subst (λ (rs : List Region). IsLooking c.args.mentioned.now c.args.name.now rs c.args.recorder.now.log c.outward.recorder.log c.outward.search) (sym all) i.looked.2).stops t h

-- ---- if there is a region to look into, there are regions

pub returns-in_err-found-clause-takes_none : goal.returns-in_err-found-clause-takes_none
returns-in_err-found-clause-takes_none g c none =
    let i = c.outward.invariant in
    let all : length c.args.regions.now ≡ length c.outward.rest.now + length i.looked.0 = ap length i.looked.1 ∙ length-append c.outward.rest.now i.looked.0 in
    absurd (omega (arith, ap length none, all, c.in-len1-up.len_at_least))

pub returns-in_err-go_outward-clause-takes_none : goal.returns-in_err-go_outward-clause-takes_none
returns-in_err-go_outward-clause-takes_none g c none =
    let i = c.outward.invariant in
    let all : length c.args.regions.now ≡ length c.outward.rest.now + length i.looked.0 = ap length i.looked.1 ∙ length-append c.outward.rest.now i.looked.0 in
    absurd (omega (arith, ap length none, all, c.in-len1-up.len_at_least))
