use Rattle.std.proofs.Common.{◌≡◌, List, ◌++◌, take, map, refl, sym, ap, ◌∙◌, append-nil, arith}
use Rattle.std.proofs.lemmas.List.{take_all}
use Rattle.al_tree.specs.DeclarationViews.{formal_model}
use Rattle.al_tree.specs.declared.declaration.Formal.{Formal}
use Rattle.al_decl.specs.Formals.{formals_read}
use Rattle.al_decl.proofs.FormalLists.{more_after, more_read}
use Rattle.al_decl.proofs.formals.check_formals.Goals as goal

pub loop-text-init : goal.loop-text-init
loop-text-init g c = record { asked = refl; answered = λ t h. (h, sym (append-nil c.args.formals.now)); scope = refl; depth = refl }

pub loop-text-preserved : goal.loop-text-preserved
loop-text-preserved g c =
    let i = c.loop-text.invariant in
    record {
      asked = c.check_formal.ensures.asked ∙ i.asked;
      answered = λ t h. let answered = c.in_ok-check_formal.ensures.answered t h in
          let before = i.answered t answered.0 in
          (before.0, more_read (g.R.PartAnalyzer.reading c.args.analyzer.now t) c.args.scope.now c.loop-text.scope c.args.texts.now c.loop-text.text-index c.text-item.result c.args.formals.now c.loop-text.formals c.check_formal.new.formals (omega arith) c.text-item.is i.scope before.1 answered.1);
      scope = more_after c.args.scope.now c.loop-text.scope c.check_formal.new.scope c.args.texts.now c.loop-text.text-index c.text-item.result (omega arith) c.text-item.is i.scope c.in_ok-check_formal.ensures.scope;
      depth = c.check_formal.ensures.depth ∙ i.depth;
    }

pub returns-clause-answered : goal.returns-clause-answered
returns-clause-answered g c t h =
    let before = c.loop-text.invariant.answered t h in
    let all : take c.loop-text.text-index c.args.texts.now ≡ c.args.texts.now = take_all c.loop-text.text-index c.args.texts.now (omega arith) in
    (before.0, before.1 ∙ ap (λ (fs : List Formal). c.args.formals.now ++ formals_read (g.R.PartAnalyzer.reading c.args.analyzer.now t) c.args.scope.now (map formal_model fs)) all)
