-- A derivation over letters that passes its test is a proof.
use Rattle.std.proofs.Common.{ℕ, ◌+◌, ◌≡◌, true, ◌&&◌, List, [], ◌∷◌, ◌++◌, map, refl, sym, ap, ◌∙◌, arith}
use Rattle.std.proofs.lemmas.Bool.{and_parts}
use Rattle.std.specs.List.{AllByRecursion}
use Rattle.pm_logic.specs.declared.formula.Pure as P
use Rattle.pm_logic.specs.declared.formula.Formula.{Formula}
use Rattle.pm_logic.specs.declared.formula.Preds.{Preds}
use Rattle.pm_rules.specs.declared.rules.Entail.{Entail}
use Rattle.pm_rules.specs.declared.rules.Rule.{Rule}
use Rattle.pm_rules.specs.declared.rules.Rule.TheVariants.{Inst, AllE, ExI, Linear, Rewrite}
use Rattle.pm_rules.specs.Rows.{row}
use Rattle.pm_rules.specs.Shapes.{Letters, Sequent}
use Rattle.pm_proof.specs.Trees.{Tree, conclusion, holes_of, rules}
use Rattle.pm_proof.specs.Valid.{Valid, ArgumentsFit, EntailScoped, IsScoped}
use Rattle.pm_proof.specs.Known.{Proves, Every}
use Rattle.pm_schemes.proofs.Fitting.{step_met}
use Rattle.pm_schemes.proofs.Scopes.{AreScoped, join_scoped, scoped_join, sides_uses_scoped, scoped_sides_uses, all_uses_scoped, all_among_scoped}
use Rattle.pm_schemes.proofs.Depths.{planted_depth, planted_variables}
use Rattle.pm_schemes.specs.Sketches.{Sketch, Gap, Axiom, One, Two, letters_at, entail_of, planted, claim, gaps, steps, height, deepest}
use Rattle.pm_schemes.specs.Tests.{is_bare, fits_row, fits, each_fits, sides_uses, uses_of_all, uses_in, uses_stated, are_among, passes}

planted_concludes : (k : ℕ) (s : Letters) (x : Sketch) → conclusion (planted k s x) ≡ entail_of k s (claim x)
planted_concludes k s (Gap c) = refl
planted_concludes k s (Axiom r c) = refl
planted_concludes k s (One r c a) = refl
planted_concludes k s (Two r c a b) = refl

planted_valid : (preds : Preds) (k : ℕ) (s : Letters) (x : Sketch) → each_fits x ≡ true → Valid preds (planted k s x)
planted_valid preds k s (Gap c) h = tt
planted_valid preds k s (Axiom r c) h = step_met preds k s r [] c h
planted_valid preds k s (One r c a) h =
    let hs = and_parts (fits r (claim a ∷ []) c) (each_fits a) h in
    (rw (planted_concludes k s a) (step_met preds k s r (claim a ∷ []) c hs.0), planted_valid preds k s a hs.1)
planted_valid preds k s (Two r c a b) h =
    let hs = and_parts (fits r (claim a ∷ claim b ∷ []) c && each_fits a) (each_fits b) h in
    let ks = and_parts (fits r (claim a ∷ claim b ∷ []) c) (each_fits a) hs.0 in
    (rw (planted_concludes k s a, planted_concludes k s b) (step_met preds k s r (claim a ∷ claim b ∷ []) c ks.0), planted_valid preds k s a ks.1, planted_valid preds k s b hs.1)

gaps_apart : (preds : Preds) (k : ℕ) (s : Letters) (xs ys : List Sequent) → AllByRecursion (EntailScoped preds) (map (entail_of k s) (xs ++ ys)) → AllByRecursion (EntailScoped preds) (map (entail_of k s) xs) × AllByRecursion (EntailScoped preds) (map (entail_of k s) ys)
gaps_apart preds k s [] ys h = (tt, h)
gaps_apart preds k s (x ∷ xs) ys h = let r = gaps_apart preds k s xs ys h.1 in ((h.0, r.0), r.1)

planted_rules : (k : ℕ) (s : Letters) (x : Sketch) → rules (planted k s x) ≡ steps x
planted_rules k s (Gap c) = refl
planted_rules k s (Axiom r c) = refl
planted_rules k s (One r c a) = omega (arith, planted_rules k s a)
planted_rules k s (Two r c a b) = omega (arith, planted_rules k s a, planted_rules k s b)

map_append : (f : Sequent → Entail) (xs ys : List Sequent) → map f (xs ++ ys) ≡ map f xs ++ map f ys
map_append f [] ys = refl
map_append f (x ∷ xs) ys = ap (λ l. f x ∷ l) (map_append f xs ys)

planted_holes : (k : ℕ) (s : Letters) (x : Sketch) → holes_of (planted k s x) ≡ map (entail_of k s) (gaps x)
planted_holes k s (Gap c) = refl
planted_holes k s (Axiom r c) = refl
planted_holes k s (One r c a) = planted_holes k s a
planted_holes k s (Two r c a b) =
    ap (λ l. l ++ holes_of (planted k s b)) (planted_holes k s a) ∙ ap (λ l. map (entail_of k s) (gaps a) ++ l) (planted_holes k s b) ∙ sym (map_append (entail_of k s) (gaps a) (gaps b))

bare_fit : (preds : Preds) (k : ℕ) (r : Rule) → is_bare r ≡ true → ArgumentsFit preds k r
unfolding ArgumentsFit
bare_fit preds k (Inst sigma) h = absurd (cc)
bare_fit preds k (AllE t) h = absurd (cc)
bare_fit preds k (ExI t) h = absurd (cc)
bare_fit preds k (Linear c d) h = absurd (cc)
bare_fit preds k (Rewrite b) h = absurd (cc)
bare_fit preds k _ h = tt

step_scoped : (preds : Preds) (k : ℕ) (s : Letters) (r : Rule) (gs : List Sequent) (c : Sequent) → fits r gs c ≡ true → AreScoped preds k s (sides_uses c) → EntailScoped preds (entail_of k s c) × ArgumentsFit preds k r
step_scoped preds k s r gs c h u = (scoped_sides_uses preds k s c u, bare_fit preds k r (and_parts (is_bare r) (fits_row (row r) gs c) h).0)

planted_scoped : (preds : Preds) (k : ℕ) (s : Letters) (x : Sketch) → each_fits x ≡ true → AreScoped preds k s (uses_in x) → AllByRecursion (EntailScoped preds) (map (entail_of k s) (gaps x)) → IsScoped preds (planted k s x)
planted_scoped preds k s (Gap c) h u g = g.0
planted_scoped preds k s (Axiom r c) h u g = step_scoped preds k s r [] c h u
planted_scoped preds k s (One r c a) h u g =
    let hs = and_parts (fits r (claim a ∷ []) c) (each_fits a) h in
    let us = scoped_join preds k s (sides_uses c) (uses_in a) u in
    (step_scoped preds k s r (claim a ∷ []) c hs.0 us.0, planted_scoped preds k s a hs.1 us.1 g)
planted_scoped preds k s (Two r c a b) h u g =
    let hs = and_parts (fits r (claim a ∷ claim b ∷ []) c && each_fits a) (each_fits b) h in
    let ks = and_parts (fits r (claim a ∷ claim b ∷ []) c) (each_fits a) hs.0 in
    let us = scoped_join preds k s (sides_uses c ++ uses_in a) (uses_in b) u in
    let vs = scoped_join preds k s (sides_uses c) (uses_in a) us.0 in
    let gs = gaps_apart preds k s (gaps a) (gaps b) g in
    (step_scoped preds k s r (claim a ∷ claim b ∷ []) c ks.0 vs.0, planted_scoped preds k s a ks.1 vs.1 gs.0, planted_scoped preds k s b hs.1 us.1 gs.1)

stated_scoped : (preds : Preds) (k : ℕ) (s : Letters) (x : Sketch) → EntailScoped preds (entail_of k s (claim x)) → AllByRecursion (EntailScoped preds) (map (entail_of k s) (gaps x)) → AreScoped preds k s (uses_stated x)
stated_scoped preds k s x e g = join_scoped preds k s (sides_uses (claim x)) (uses_of_all (gaps x)) (sides_uses_scoped preds k s (claim x) e) (all_uses_scoped preds k s (gaps x) g)

pub planted_proves : (k : ℕ) (fs : List Formula) (ps : List P.Pure) (x : Sketch) (t : Tree) → t ≡ planted k (letters_at fs ps) x → passes x ≡ true → Proves Every (entail_of k (letters_at fs ps) (claim x)) (map (entail_of k (letters_at fs ps)) (gaps x)) (steps x) (deepest fs ps + height x) k t
unfolding passes
planted_proves k fs ps x t is h =
    let s : Letters = letters_at fs ps in
    let hs = and_parts (each_fits x) (are_among (uses_in x) (uses_stated x)) h in
    rw is (record {
      concludes = planted_concludes k (letters_at fs ps) x;
      holes = planted_holes k (letters_at fs ps) x;
      valid = λ preds among. planted_valid preds k (letters_at fs ps) x hs.0;
      scoped = λ preds e g. planted_scoped preds k s x hs.0 (all_among_scoped preds k s (uses_in x) (uses_stated x) hs.1 (stated_scoped preds k s x e g)) g;
      size = omega (arith, planted_rules k (letters_at fs ps) x);
      shallow = planted_depth k fs ps x;
      narrow = omega (arith, planted_variables k (letters_at fs ps) x);
    })
