use Rattle.std.proofs.Common.{arith, ◌≡◌, [], ◌∷◌, ◌++◌, map, reverse, subst, ap, sym, ◌∙◌}
use Rattle.std.proofs.lemmas.List.{nil_from_length}
use Rattle.pm_proof.specs.Trees.{conclusion}
use Rattle.pm_proof.specs.Joins.{Leads, lemmas_of, joined}
use Rattle.pm_proof.proofs.Joins.{Taken, enough, fitting, taken_leads, taken_tree, joined_onto, onto_none, last_one, joins}
use Rattle.pm_proof.proofs.joining.join.Goals as goal

pub loop-step-init : goal.loop-step-init
loop-step-init c =
    let g = c.requires.0 in
    let steps = c.args.steps.items in
    record {
      leads = (g, subst (λ l. Leads (g ∷ []) steps (map conclusion (reverse l))) (sym c.new-finished.ensures.items) c.requires.1);
      tree = ap (λ l. joined_onto (reverse l) steps) c.new-finished.ensures.items ∙ onto_none steps;
    }

pub take_last-requires : goal.take_last-requires
take_last-requires c =
    let g = c.loop-step.invariant.leads.0 in
    let finished = c.loop-step.finished.items in
    enough (g ∷ []) c.pop.new.self.items c.in-Some.step finished (subst (λ l. Leads (g ∷ []) l (map conclusion (reverse finished))) c.in-Some.ensures.items c.loop-step.invariant.leads.1)

pub fill_first-requires : goal.fill_first-requires
fill_first-requires c =
    let g = c.loop-step.invariant.leads.0 in
    let ss = c.pop.new.self.items in
    let s = c.in-Some.step in
    let finished = c.loop-step.finished.items in
    let us = c.in_ok-inner.inner.items in
    let rest = c.take_last.new.finished.items in
    let taken : Taken (g ∷ []) ss s finished us rest = record {
      leads = subst (λ l. Leads (g ∷ []) l (map conclusion (reverse finished))) c.in-Some.ensures.items c.loop-step.invariant.leads.1;
      count = c.in_ok-inner.ensures.count;
      order = c.in_ok-inner.ensures.order;
    } in
    (lemmas_of s, fitting (g ∷ []) ss s finished us rest taken)

pub loop-step-preserved : goal.loop-step-preserved
loop-step-preserved c =
    let g = c.loop-step.invariant.leads.0 in
    let ss = c.pop.new.self.items in
    let s = c.in-Some.step in
    let finished = c.loop-step.finished.items in
    let us = c.in_ok-inner.inner.items in
    let rest = c.take_last.new.finished.items in
    let w = c.fill_first.result in
    let taken : Taken (g ∷ []) ss s finished us rest = record {
      leads = subst (λ l. Leads (g ∷ []) l (map conclusion (reverse finished))) c.in-Some.ensures.items c.loop-step.invariant.leads.1;
      count = c.in_ok-inner.ensures.count;
      order = c.in_ok-inner.ensures.order;
    } in
    let pushed : c.push.new.self.items ≡ rest ++ w ∷ [] = c.in_ok-push.ensures.items in
    record {
      leads = (g, subst (λ l. Leads (g ∷ []) ss (map conclusion (reverse l))) (sym pushed) (taken_leads (g ∷ []) ss s finished us rest w taken c.fill_first.ensures));
      tree = ap (λ l. joined_onto (reverse l) ss) pushed ∙ taken_tree (g ∷ []) ss s finished us rest w taken c.fill_first.ensures ∙ ap (joined_onto (reverse finished)) (sym c.in-Some.ensures.items) ∙ c.loop-step.invariant.tree;
    }

pub returns-in-Some-pop-clause-joins : goal.returns-in-Some-pop-clause-joins
returns-in-Some-pop-clause-joins c =
    let g = c.loop-step.invariant.leads.0 in
    let all = c.args.steps.items in
    let finished = c.loop-step.finished.items in
    let rest = c.pop-2.new.self.items in
    let w = c.in-Some-pop.whole in
    let none : c.loop-step.steps.items ≡ [] = nil_from_length c.loop-step.steps.items (omega (arith, c.loop-step.steps.ok.0, c.in_default.ensures.cases.0)) in
    let items : finished ≡ rest ++ w ∷ [] = c.in-Some-pop.ensures.items in
    let left : Leads (g ∷ []) [] (map conclusion (reverse (rest ++ w ∷ []))) = subst (λ l. Leads (g ∷ []) [] (map conclusion (reverse l))) items (subst (λ l. Leads (g ∷ []) l (map conclusion (reverse finished))) none c.loop-step.invariant.leads.1) in
    let tree : joined all ≡ w ∷ [] = sym c.loop-step.invariant.tree ∙ ap (joined_onto (reverse finished)) none ∙ ap reverse items ∙ last_one g rest w left in
    joins c.requires.0 all w c.requires.1 tree
