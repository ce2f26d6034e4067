-- Answers of the calls from what their steps give.
use Rattle.std.proofs.Common.{ℕ, suc, ◌+◌, ◌≡◌, ◌≤◌, max, [], ◌∷◌, Option, None, Some, refl, sym, ap, subst, ◌∙◌, arith}
use Rattle.std.specs.Prelude.{option_map}
use Rattle.pm_logic.specs.declared.formula.Pure as P
use Rattle.pm_logic.specs.declared.formula.Formula.{Formula}
use Rattle.pm_logic.specs.declared.formula.Formula.TheVariants.{Pure as Fact}
use Rattle.pm_logic.specs.Size.{depth_of, nodes_of}
use Rattle.pm_logic.proofs.Sizes.{depth_pure}
use Rattle.pm_rules.specs.declared.rules.Entail.{Entail}
use Rattle.pm_proof.specs.Trees.{conclusion}
use Rattle.pm_proof.specs.Known.{Proves, Every}
use Rattle.pm_schemes.specs.Sketches.{deepest}
use Rattle.pm_classes.specs.declared.entry.Pair.{Pair}
use Rattle.pm_classes.specs.declared.entry.One.{One}
use Rattle.pm_classes.specs.declared.entry.OnePure.{OnePure}
use Rattle.pm_classes.specs.Classes.{Parts, parts, Sign, under, each_under, of_both}
use Rattle.pm_classes.specs.Closing.{Closes, ClosesBoth}
use Rattle.pm_classes.specs.Entries.{HasProof, PairAnswers, OneAnswers, PureAnswers}
use Rattle.pm_classes.specs.Laws.{NoLarger}
use Rattle.pm_classes.proofs.Sizes.{has_levels}
use Rattle.pm_classes.proofs.Known.{has, closed_has, closed_both_has}

-- ---- an entry, and none

pub pair_done : (says : Parts → Entail) (k : ℕ) (f : Formula) (o : Option Parts) (p : Parts) (r : Pair) → o ≡ Some p → r.first ≡ p.first → r.second ≡ p.second → HasProof k f (says p) r.proof → PairAnswers says k f o (Some r)
pair_done says k f o p r is first second proof = subst (λ (z : Option Parts). PairAnswers says k f z (Some r)) (sym is) (record { first = first; second = second; proof = proof })

pub pair_none : (says : Parts → Entail) (k : ℕ) (f : Formula) (o : Option Parts) → o ≡ None → PairAnswers says k f o None
pair_none says k f o is = subst (λ (z : Option Parts). PairAnswers says k f z None) (sym is) tt

pub one_done : (says : Formula → Entail) (k : ℕ) (f : Formula) (o : Option Formula) (g : Formula) (r : One) → o ≡ Some g → r.formula ≡ g → HasProof k f (says g) r.proof → OneAnswers says k f o (Some r)
one_done says k f o g r is same proof = subst (λ (z : Option Formula). OneAnswers says k f z (Some r)) (sym is) (record { formula = same; proof = proof })

pub one_none : (says : Formula → Entail) (k : ℕ) (f : Formula) (o : Option Formula) → o ≡ None → OneAnswers says k f o None
one_none says k f o is = subst (λ (z : Option Formula). OneAnswers says k f z None) (sym is) tt

pub pure_done : (says : P.Pure → Entail) (k : ℕ) (f : Formula) (o : Option P.Pure) (p : P.Pure) (r : OnePure) → o ≡ Some p → r.pure ≡ p → HasProof k f (says p) r.proof → PureAnswers says k f o (Some r)
pure_done says k f o p r is same proof = subst (λ (z : Option P.Pure). PureAnswers says k f z (Some r)) (sym is) (record { pure = same; proof = proof })

pub pure_none : (says : P.Pure → Entail) (k : ℕ) (f : Formula) (o : Option P.Pure) → o ≡ None → PureAnswers says k f o None
pure_none says k f o is = subst (λ (z : Option P.Pure). PureAnswers says k f z None) (sym is) tt

-- ---- what the proof of an entry concludes, by its own parts

pub pair_concludes : (says : Parts → Entail) (k : ℕ) (f : Formula) (o : Option Parts) (r : Pair) → PairAnswers says k f o (Some r) → conclusion r.proof ≡ says (parts r.first r.second)
pair_concludes says k f None r h = absurd h
pair_concludes says k f (Some p) r h = h.proof.concludes ∙ ap (λ x. says (parts x p.second)) (sym h.first) ∙ ap (λ x. says (parts r.first x)) (sym h.second)

pub one_concludes : (says : Formula → Entail) (k : ℕ) (f : Formula) (o : Option Formula) (r : One) → OneAnswers says k f o (Some r) → conclusion r.proof ≡ says r.formula
one_concludes says k f None r h = absurd h
one_concludes says k f (Some g) r h = h.proof.concludes ∙ ap says (sym h.formula)

pub pure_concludes : (says : P.Pure → Entail) (k : ℕ) (f : Formula) (o : Option P.Pure) (r : OnePure) → PureAnswers says k f o (Some r) → conclusion r.proof ≡ says r.pure
pure_concludes says k f None r h = absurd h
pure_concludes says k f (Some p) r h = h.proof.concludes ∙ ap says (sym h.pure)

-- ---- an entry under a sign

pub pair_lifted : (class : Formula → Option Parts) (sign : Sign) (old new : Parts → Entail) (k n c : ℕ) (a f : Formula) (entry r : Pair) → ((p : Parts) → class a ≡ Some p → NoLarger a p.first × NoLarger a p.second) → class f ≡ each_under sign (class a) → nodes_of f ≡ suc (nodes_of a) → depth_of f ≡ suc (depth_of a) → n ≤ 200 → c ≤ 7 → PairAnswers old k a (class a) (Some entry) → r.first ≡ sign entry.first → r.second ≡ sign entry.second → Closes entry.proof (new (parts (sign entry.first) (sign entry.second))) n (deepest (a ∷ entry.first ∷ entry.second ∷ []) [] + c) k r.proof → PairAnswers new k f (class f) (Some r)
pair_lifted class sign old new k n c a f entry r law row nodes levels hn hc h first second closes = go (class a) refl h
  where
    go : (o : Option Parts) → class a ≡ o → PairAnswers old k a o (Some entry) → PairAnswers new k f (class f) (Some r)
    go None is h = absurd h
    go (Some p) is h =
        let small = law p is in
        let d : ℕ = deepest (a ∷ entry.first ∷ entry.second ∷ []) [] + c in
        let at : parts (sign entry.first) (sign entry.second) ≡ under sign p = ap (λ x. parts (sign x) (sign entry.second)) h.first ∙ ap (λ x. parts (sign p.first) (sign x)) h.second in
        let step : Closes entry.proof (new (under sign p)) n d k r.proof = subst (λ (z : Parts). Closes entry.proof (new z) n d k r.proof) at closes in
        let room : d ≤ depth_of f + 8 = omega (arith, levels, hc, small.0.levels, small.1.levels, ap depth_of h.first, ap depth_of h.second, has_levels a) in
        pair_done new k f (class f) (under sign p) r (row ∙ ap (each_under sign) is) (first ∙ ap sign h.first) (second ∙ ap sign h.second) (closed_has k n d k f a (new (under sign p)) (old p) entry.proof r.proof step h.proof hn room (omega arith) (omega (arith, nodes)) (omega (arith, levels)))

pub pair_lifted_none : (class : Formula → Option Parts) (sign : Sign) (old new : Parts → Entail) (k : ℕ) (a f : Formula) → class f ≡ each_under sign (class a) → PairAnswers old k a (class a) None → PairAnswers new k f (class f) None
pair_lifted_none class sign old new k a f row h = go (class a) refl h
  where
    go : (o : Option Parts) → class a ≡ o → PairAnswers old k a o None → PairAnswers new k f (class f) None
    go None is h = pair_none new k f (class f) (row ∙ ap (each_under sign) is)
    go (Some p) is h = absurd h

pub one_lifted : (class : Formula → Option Formula) (sign : Sign) (old new : Formula → Entail) (k n c w : ℕ) (a f : Formula) (entry r : One) → ((g : Formula) → class a ≡ Some g → NoLarger a g) → class f ≡ option_map sign (class a) → nodes_of f ≡ suc (nodes_of a) → depth_of f ≡ suc (depth_of a) → n ≤ 200 → c ≤ 7 → w ≤ k + 1 → OneAnswers old k a (class a) (Some entry) → r.formula ≡ sign entry.formula → Closes entry.proof (new (sign entry.formula)) n (deepest (a ∷ entry.formula ∷ []) [] + c) w r.proof → OneAnswers new k f (class f) (Some r)
one_lifted class sign old new k n c w a f entry r law row nodes levels hn hc hw h same closes = go (class a) refl h
  where
    go : (o : Option Formula) → class a ≡ o → OneAnswers old k a o (Some entry) → OneAnswers new k f (class f) (Some r)
    go None is h = absurd h
    go (Some g) is h =
        let small = law g is in
        let d : ℕ = deepest (a ∷ entry.formula ∷ []) [] + c in
        let step : Closes entry.proof (new (sign g)) n d w r.proof = subst (λ (z : Formula). Closes entry.proof (new (sign z)) n d w r.proof) h.formula closes in
        let room : d ≤ depth_of f + 8 = omega (arith, levels, hc, small.levels, ap depth_of h.formula, has_levels a) in
        one_done new k f (class f) (sign g) r (row ∙ ap (option_map sign) is) (same ∙ ap sign h.formula) (closed_has k n d w f a (new (sign g)) (old g) entry.proof r.proof step h.proof hn room (omega (arith, hw, levels)) (omega (arith, nodes)) (omega (arith, levels)))

pub one_lifted_none : (class : Formula → Option Formula) (sign : Sign) (old new : Formula → Entail) (k : ℕ) (a f : Formula) → class f ≡ option_map sign (class a) → OneAnswers old k a (class a) None → OneAnswers new k f (class f) None
one_lifted_none class sign old new k a f row h = go (class a) refl h
  where
    go : (o : Option Formula) → class a ≡ o → OneAnswers old k a o None → OneAnswers new k f (class f) None
    go None is h = one_none new k f (class f) (row ∙ ap (option_map sign) is)
    go (Some g) is h = absurd h

-- ---- pure entries

pub pure_same : (class : Formula → Option P.Pure) (old new : P.Pure → Entail) (k n c : ℕ) (a f : Formula) (entry r : OnePure) → ((p : P.Pure) → class a ≡ Some p → NoLarger a (Fact p)) → class f ≡ class a → nodes_of f ≡ suc (nodes_of a) → depth_of f ≡ suc (depth_of a) → n ≤ 200 → c ≤ 7 → PureAnswers old k a (class a) (Some entry) → r.pure ≡ entry.pure → Closes entry.proof (new entry.pure) n (deepest (a ∷ []) (entry.pure ∷ []) + c) k r.proof → PureAnswers new k f (class f) (Some r)
pure_same class old new k n c a f entry r law row nodes levels hn hc h same closes = go (class a) refl h
  where
    go : (o : Option P.Pure) → class a ≡ o → PureAnswers old k a o (Some entry) → PureAnswers new k f (class f) (Some r)
    go None is h = absurd h
    go (Some p) is h =
        let small = law p is in
        let d : ℕ = deepest (a ∷ []) (entry.pure ∷ []) + c in
        let step : Closes entry.proof (new p) n d k r.proof = subst (λ (z : P.Pure). Closes entry.proof (new z) n d k r.proof) h.pure closes in
        let deep : depth_of (Fact entry.pure) ≡ depth_of (Fact p) = ap (λ z. depth_of (Fact z)) h.pure in
        let room : d ≤ depth_of f + 8 = omega (arith, levels, hc, small.levels, deep, depth_pure entry.pure, has_levels a) in
        pure_done new k f (class f) p r (row ∙ is) (same ∙ h.pure) (closed_has k n d k f a (new p) (old p) entry.proof r.proof step h.proof hn room (omega arith) (omega (arith, nodes)) (omega (arith, levels)))

pub pure_same_none : (class : Formula → Option P.Pure) (old new : P.Pure → Entail) (k : ℕ) (a f : Formula) → class f ≡ class a → PureAnswers old k a (class a) None → PureAnswers new k f (class f) None
pure_same_none class old new k a f row h = go (class a) refl h
  where
    go : (o : Option P.Pure) → class a ≡ o → PureAnswers old k a o None → PureAnswers new k f (class f) None
    go None is h = pure_none new k f (class f) (row ∙ is)
    go (Some p) is h = absurd h

pub pure_joined : (class : Formula → Option P.Pure) (sign : P.Pure → P.Pure → P.Pure) (left right new : P.Pure → Entail) (k n c : ℕ) (a b f : Formula) (x y r : OnePure) → ((p : P.Pure) → class a ≡ Some p → NoLarger a (Fact p)) → ((p : P.Pure) → class b ≡ Some p → NoLarger b (Fact p)) → class f ≡ of_both sign (class a) (class b) → nodes_of f ≡ suc (nodes_of a + nodes_of b) → depth_of f ≡ suc (max (depth_of a) (depth_of b)) → n ≤ 200 → c ≤ 7 → PureAnswers left k a (class a) (Some x) → PureAnswers right k b (class b) (Some y) → r.pure ≡ sign x.pure y.pure → ClosesBoth x.proof y.proof (new (sign x.pure y.pure)) n (deepest (a ∷ b ∷ []) (x.pure ∷ y.pure ∷ []) + c) k r.proof → PureAnswers new k f (class f) (Some r)
pure_joined class sign left right new k n c a b f x y r la lb row nodes levels hn hc h g same closes = go (class a) (class b) refl refl h g
  where
    go : (o u : Option P.Pure) → class a ≡ o → class b ≡ u → PureAnswers left k a o (Some x) → PureAnswers right k b u (Some y) → PureAnswers new k f (class f) (Some r)
    go None u isa isb h g = absurd h
    go (Some p) None isa isb h g = absurd g
    go (Some p) (Some q) isa isb h g =
        let sa = la p isa in
        let sb = lb q isb in
        let d : ℕ = deepest (a ∷ b ∷ []) (x.pure ∷ y.pure ∷ []) + c in
        let at : sign x.pure y.pure ≡ sign p q = ap (λ z. sign z y.pure) h.pure ∙ ap (sign p) g.pure in
        let step : ClosesBoth x.proof y.proof (new (sign p q)) n d k r.proof = subst (λ (z : P.Pure). ClosesBoth x.proof y.proof (new z) n d k r.proof) at closes in
        let da : depth_of (Fact x.pure) ≡ depth_of (Fact p) = ap (λ z. depth_of (Fact z)) h.pure in
        let db : depth_of (Fact y.pure) ≡ depth_of (Fact q) = ap (λ z. depth_of (Fact z)) g.pure in
        let room : d ≤ depth_of f + 8 = omega (arith, levels, hc, sa.levels, sb.levels, da, db, depth_pure x.pure, depth_pure y.pure, has_levels a) in
        pure_done new k f (class f) (sign p q) r (row ∙ ap (λ z. of_both sign z (class b)) isa ∙ ap (of_both sign (Some p)) isb) (same ∙ at) (closed_both_has k n d k f a b (new (sign p q)) (left p) (right q) x.proof y.proof r.proof step h.proof g.proof hn room (omega arith) nodes (omega (arith, levels)) (omega (arith, levels)))

pub pure_first_none : (class : Formula → Option P.Pure) (sign : P.Pure → P.Pure → P.Pure) (left new : P.Pure → Entail) (k : ℕ) (a b f : Formula) → class f ≡ of_both sign (class a) (class b) → PureAnswers left k a (class a) None → PureAnswers new k f (class f) None
pure_first_none class sign left new k a b f row h = go (class a) refl h
  where
    go : (o : Option P.Pure) → class a ≡ o → PureAnswers left k a o None → PureAnswers new k f (class f) None
    go None is h = pure_none new k f (class f) (row ∙ ap (λ z. of_both sign z (class b)) is)
    go (Some p) is h = absurd h

both_none : (sign : P.Pure → P.Pure → P.Pure) (o : Option P.Pure) → of_both sign o None ≡ None
both_none sign None = refl
both_none sign (Some p) = refl

pub pure_second_none : (class : Formula → Option P.Pure) (sign : P.Pure → P.Pure → P.Pure) (right new : P.Pure → Entail) (k : ℕ) (a b f : Formula) → class f ≡ of_both sign (class a) (class b) → PureAnswers right k b (class b) None → PureAnswers new k f (class f) None
pure_second_none class sign right new k a b f row h = go (class b) refl h
  where
    go : (o : Option P.Pure) → class b ≡ o → PureAnswers right k b o None → PureAnswers new k f (class f) None
    go None is h = pure_none new k f (class f) (row ∙ ap (of_both sign (class a)) is ∙ both_none sign (class a))
    go (Some p) is h = absurd h

-- ---- of an equal formula

pub pair_moved : (class : Formula → Option Parts) (says : Formula → Parts → Entail) (k : ℕ) (f g : Formula) (r : Option Pair) → f ≡ g → PairAnswers (says g) k g (class g) r → PairAnswers (says f) k f (class f) r
pair_moved class says k f g r is h = subst (λ (x : Formula). PairAnswers (says x) k x (class x) r) (sym is) h

pub one_moved : (class : Formula → Option Formula) (says : Formula → Formula → Entail) (k : ℕ) (f g : Formula) (r : Option One) → f ≡ g → OneAnswers (says g) k g (class g) r → OneAnswers (says f) k f (class f) r
one_moved class says k f g r is h = subst (λ (x : Formula). OneAnswers (says x) k x (class x) r) (sym is) h

pub pure_moved : (class : Formula → Option P.Pure) (says : Formula → P.Pure → Entail) (k : ℕ) (f g : Formula) (r : Option OnePure) → f ≡ g → PureAnswers (says g) k g (class g) r → PureAnswers (says f) k f (class f) r
pure_moved class says k f g r is h = subst (λ (x : Formula). PureAnswers (says x) k x (class x) r) (sym is) h

-- ---- of a formula whose parts these are

pub pair_here : (class : Formula → Option Parts) (says : Formula → Parts → Entail) (k n d : ℕ) (f g : Formula) (p : Parts) (r : Pair) → f ≡ g → class g ≡ Some p → r.first ≡ p.first → r.second ≡ p.second → n ≤ 200 → d ≤ depth_of g + 8 → Proves Every (says g p) [] n d k r.proof → PairAnswers (says f) k f (class f) (Some r)
pair_here class says k n d f g p r is row first second hn hd proof = pair_moved class says k f g (Some r) is (pair_done (says g) k g (class g) p r row first second (has k n d g (says g p) r.proof hn hd proof))

-- ---- an answer at an equal formula

pub pair_at : (class : Formula → Option Parts) (says : Formula → Parts → Entail) (k : ℕ) (a b : Formula) (o q : Option Pair) → a ≡ b → o ≡ q → PairAnswers (says a) k a (class a) o → PairAnswers (says b) k b (class b) q
pair_at class says k a b o q same is h = subst (λ (x : Formula). PairAnswers (says x) k x (class x) q) same (subst (λ (r : Option Pair). PairAnswers (says a) k a (class a) r) is h)

pub one_at : (class : Formula → Option Formula) (says : Formula → Formula → Entail) (k : ℕ) (a b : Formula) (o q : Option One) → a ≡ b → o ≡ q → OneAnswers (says a) k a (class a) o → OneAnswers (says b) k b (class b) q
one_at class says k a b o q same is h = subst (λ (x : Formula). OneAnswers (says x) k x (class x) q) same (subst (λ (r : Option One). OneAnswers (says a) k a (class a) r) is h)

pub pure_at : (class : Formula → Option P.Pure) (says : Formula → P.Pure → Entail) (k : ℕ) (a b : Formula) (o q : Option OnePure) → a ≡ b → o ≡ q → PureAnswers (says a) k a (class a) o → PureAnswers (says b) k b (class b) q
pure_at class says k a b o q same is h = subst (λ (x : Formula). PureAnswers (says x) k x (class x) q) same (subst (λ (r : Option OnePure). PureAnswers (says a) k a (class a) r) is h)
