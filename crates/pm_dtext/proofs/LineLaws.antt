-- Lines: what is spelled is read again, and what was read is spelled so.
use Rattle.std.proofs.Common.{◌≡◌, ◌&&◌, ℕ, ◌<◌, ◌≤◌, ◌^◌, Bool, true, false, List, ◌∷◌, ◌++◌, length, get_or, refl, sym, ◌∙◌, ap, subst, arith, Option, Some, None, Ok, inl, inr}
use Rattle.std.specs.Prelude.{codes, nat_le, nat_lt, is_some}
use Rattle.std.specs.Fmt.{decimal}
use Rattle.std.specs.Str.{bytes_eq}
use Rattle.std.proofs.lemmas.Slice.Eq.{bytes_eq-Decides}
use Rattle.pm_logic.specs.declared.limits.TheConstants.{MAX_LINE_LEVELS, MAX_LINE_VARIABLES}
use Rattle.pm_rules.specs.declared.rules.Rule.{Rule}
use Rattle.pm_rules.specs.declared.rules.Entail.{Entail}
use Rattle.pm_rules.specs.Rules.{premise_count}
use Rattle.pm_names.specs.Names.{is_name}
use Rattle.pm_dtext.specs.declared.fault.Fault.TheVariants.{NoLine}
use Rattle.pm_dtext.specs.declared.line.Line.{Line}
use Rattle.pm_dtext.specs.declared.line.Line.TheVariants.{Step, Qed}
use Rattle.pm_dtext.specs.declared.signs.RuleSign.{RuleSign}
use Rattle.pm_dtext.specs.Spelling.{formula_text, rule_name, args_text, cite_text, entail_text, line_text}
use Rattle.pm_dtext.specs.Ranges.{FormulaFits, ArgsFit, IsEarlier, CiteFits, StepFits, LineFits}
use Rattle.pm_dtext.specs.Reading.{part_as, word, after, expect_at, skip_at, says_at, up_to, number_of, part_at, formula_at, rule_sign_of, count_of, args_at, earlier_at, cite_at, entail_of, entail_at, ends_at, step_at, name_of, qed_at, line_at}
use Rattle.pm_dtext.specs.Laws.{LineIsSpelled}
use Rattle.pm_dtext.proofs.Numbers.{first_digit}
use Rattle.pm_dtext.proofs.Steps.{with_ok, chosen, chosen_ok, ok_is, if_false, both_true, true_both, le_true, true_le, lt_true, true_lt}
use Rattle.pm_dtext.proofs.WordLaws.{stops, word_again, expect_again, part_again, parts_again, part_found, parts_found, expect_found, skip_found, word_found, decimal_word, number_at_again, number_at_found, number_at_small, up_to_again, up_to_found}
use Rattle.pm_dtext.proofs.FormulaLaws.{formula_again, formula_found}
use Rattle.pm_dtext.proofs.NameLaws.{name_again, name_found}
use Rattle.pm_dtext.proofs.RuleLaws.{sign_for, sign_text, rule_again, count_again, sign_found, args_again, args_stop, args_found}

-- ---- citations

earlier_again : (n cited : ℕ) (rest : List ℕ) → n < 2 ^ 64 → IsEarlier n cited → stops rest ≡ true → earlier_at n (decimal cited ++ rest) ≡ Ok (cited, rest)
unfolding earlier_at
earlier_again n cited rest small fits e =
    let tests : (nat_le 1 cited && nat_lt cited n) ≡ true = true_both (nat_le 1 cited) (nat_lt cited n) (true_le 1 cited fits.some) (true_lt cited n fits.before) in
    rw (number_at_again cited rest fits.small e) (rw tests refl)

record EarlierFound (n : ℕ) (bytes : List ℕ) (cited : ℕ) (rest : List ℕ) : Type 0 where
  parts : bytes ≡ decimal cited ++ rest
  fits : IsEarlier n cited

earlier_found : (n : ℕ) (bytes : List ℕ) (cited : ℕ) (rest : List ℕ) → earlier_at n bytes ≡ Ok (cited, rest) → EarlierFound n bytes cited rest
unfolding earlier_at
earlier_found n bytes cited rest e =
    with_ok (says_at number_of bytes) _ (cited, rest) e (λ c ec hc.
    let t = chosen_ok (nat_le 1 c.0 && nat_lt c.0 n) c (cited, rest) (NoLine c.0) hc in
    let b = both_true (nat_le 1 c.0) (nat_lt c.0 n) t.0 in
    subst (λ (x : ℕ × List ℕ). EarlierFound n bytes x.0 x.1) t.1
    (record { parts = number_at_found bytes c.0 c.1 ec; fits = record { some = le_true 1 c.0 b.0; before = lt_true c.0 n b.1; small = number_at_small bytes c.0 c.1 ec } }))

cite_again : (n : ℕ) (cited : Option ℕ) (rest : List ℕ) → n < 2 ^ 64 → CiteFits n cited → stops rest ≡ true → cite_at n (is_some cited) (cite_text cited rest) ≡ Ok (cited, rest)
unfolding cite_at part_as
cite_again n None rest small fits e = refl
cite_again n (Some c) rest small fits e = rw (part_again (earlier_at n) (decimal c ++ rest)) (rw (earlier_again n c rest small fits e) refl)

cite_wanted : (n : ℕ) (cited : Option ℕ) (wanted : Bool) (rest : List ℕ) → is_some cited ≡ wanted → n < 2 ^ 64 → CiteFits n cited → stops rest ≡ true → cite_at n wanted (cite_text cited rest) ≡ Ok (cited, rest)
cite_wanted n cited wanted rest stands small fits e = ap (λ b. cite_at n b (cite_text cited rest)) (sym stands) ∙ cite_again n cited rest small fits e

cite_stops : (cited : Option ℕ) (rest : List ℕ) → stops rest ≡ true → stops (cite_text cited rest) ≡ true
cite_stops None rest e = e
cite_stops (Some n) rest e = refl

record CiteFound (n : ℕ) (wanted : Bool) (bytes : List ℕ) (cited : Option ℕ) (rest : List ℕ) : Type 0 where
  parts : bytes ≡ cite_text cited rest
  stands : is_some cited ≡ wanted
  fits : CiteFits n cited

cite_found : (n : ℕ) (wanted : Bool) (bytes : List ℕ) (cited : Option ℕ) (rest : List ℕ) → cite_at n wanted bytes ≡ Ok (cited, rest) → CiteFound n wanted bytes cited rest
unfolding cite_at part_as
cite_found n false bytes cited rest e =
    subst (λ (p : Option ℕ × List ℕ). CiteFound n false bytes p.0 p.1) (ok_is {A = Option ℕ × List ℕ} (None, bytes) (cited, rest) e) (record { parts = refl; stands = refl; fits = tt })
cite_found n true bytes cited rest e =
    with_ok (part_at (earlier_at n) bytes) _ (cited, rest) e (λ c ec hc.
    let p = part_found (earlier_at n) bytes c.0 c.1 ec in
    let f = earlier_found n p.at c.0 c.1 p.read in
    subst (λ (x : Option ℕ × List ℕ). CiteFound n true bytes x.0 x.1) (ok_is {A = Option ℕ × List ℕ} (Some c.0, c.1) (cited, rest) hc)
    (record { parts = p.parts ∙ ap (λ x. 32 ∷ x) f.parts; stands = refl; fits = f.fits }))

-- ---- both sides of an entailment

entail_again : (arities : List ℕ) (e : Entail) (rest : List ℕ) → length arities < 2 ^ 64 → e.vars ≤ MAX_LINE_VARIABLES → FormulaFits arities e.vars e.left → FormulaFits arities e.vars e.right → stops rest ≡ true → entail_at arities e.vars (entail_text e rest) ≡ Ok (e, rest)
unfolding entail_at
entail_again arities e rest table few left right s =
    parts_again (entail_of e.vars) (formula_at arities MAX_LINE_LEVELS e.vars) (formula_text e.left (32 ∷ formula_text e.right rest)) (formula_text e.right rest) rest e.left e.right
    (formula_again arities e.left MAX_LINE_LEVELS e.vars (32 ∷ formula_text e.right rest) table (omega arith) left.in_range left.levels refl)
    (formula_again arities e.right MAX_LINE_LEVELS e.vars rest table (omega arith) right.in_range right.levels s)

record EntailFound (arities : List ℕ) (k : ℕ) (bytes : List ℕ) (e : Entail) (rest : List ℕ) : Type 0 where
  parts : bytes ≡ entail_text e rest
  vars : e.vars ≡ k
  left : FormulaFits arities k e.left
  right : FormulaFits arities k e.right

entail_found : (arities : List ℕ) (k : ℕ) (bytes : List ℕ) (e : Entail) (rest : List ℕ) → entail_at arities k bytes ≡ Ok (e, rest) → EntailFound arities k bytes e rest
unfolding entail_at
entail_found arities k bytes e rest h =
    let p = parts_found (entail_of k) (formula_at arities MAX_LINE_LEVELS k) bytes e rest h in
    let l = formula_found arities MAX_LINE_LEVELS k p.a p.x (32 ∷ p.b) p.first in
    let r = formula_found arities MAX_LINE_LEVELS k p.b p.y rest p.second in
    subst (λ (x : Entail). EntailFound arities k bytes x rest) p.made
    (record {
      parts = p.parts ∙ ap (λ x. 32 ∷ x) (l.spelled ∙ ap (λ x. formula_text p.x (32 ∷ x)) r.spelled);
      vars = refl;
      left = record { in_range = l.in_range; levels = l.depth };
      right = record { in_range = r.in_range; levels = r.depth };
    })

-- ---- proof lines

step_read : (arities : List ℕ) (n : ℕ) (sign : RuleSign) (k : ℕ) (rule : Rule) (first second : Option ℕ) (e : Entail) (bytes a r f s t u rest : List ℕ) → expect_at (decimal n) bytes ≡ Ok (32 ∷ a) → says_at rule_sign_of a ≡ Ok (sign, 32 ∷ r) → says_at (up_to MAX_LINE_VARIABLES) r ≡ Ok (k, f) → cite_at n (nat_le 1 (count_of sign)) f ≡ Ok (first, s) → cite_at n (nat_le 2 (count_of sign)) s ≡ Ok (second, t) → args_at arities k sign t ≡ Ok (rule, u) → entail_at arities k u ≡ Ok (e, 10 ∷ rest) → step_at arities n bytes ≡ Ok (Step rule first second e, rest)
unfolding step_at part_at skip_at ends_at
step_read arities n sign k rule first second e bytes a r f s t u rest ha hr hk hf hs ht hu = rw ha (rw hr (rw hk (rw hf (rw hs (rw ht (rw hu refl))))))

step_again : (arities : List ℕ) (n : ℕ) (rule : Rule) (first second : Option ℕ) (e : Entail) (rest : List ℕ) → length arities < 2 ^ 64 → n < 2 ^ 64 → StepFits arities n rule first second e → step_at arities n (line_text n (Step rule first second e) rest) ≡ Ok (Step rule first second e, rest)
step_again arities n rule first second e rest table small fits =
    let sides = entail_text e (10 ∷ rest) in
    let args = args_text rule sides in
    let cites = cite_text first (cite_text second args) in
    let args_stops : stops args ≡ true = args_stop rule sides refl in
    let count : count_of (sign_for rule) ≡ premise_count rule = count_again rule in
    step_read arities n (sign_for rule) e.vars rule first second e (line_text n (Step rule first second e) rest)
    (rule_name rule ++ (32 ∷ (decimal e.vars ++ cites))) (decimal e.vars ++ cites) cites (cite_text second args) args sides rest
    (expect_again (decimal n) (32 ∷ (rule_name rule ++ (32 ∷ (decimal e.vars ++ cites)))) (decimal_word n small) refl)
    (rule_again rule (32 ∷ (decimal e.vars ++ cites)) refl)
    (up_to_again MAX_LINE_VARIABLES e.vars cites (omega (arith, fits.vars)) fits.vars (cite_stops first (cite_text second args) (cite_stops second args args_stops)))
    (cite_wanted n first (nat_le 1 (count_of (sign_for rule))) (cite_text second args) (fits.first_stands ∙ ap (nat_le 1) (sym count)) small fits.first_fits (cite_stops second args args_stops))
    (cite_wanted n second (nat_le 2 (count_of (sign_for rule))) args (fits.second_stands ∙ ap (nat_le 2) (sym count)) small fits.second_fits args_stops)
    (args_again arities e.vars rule sides table fits.vars fits.args refl)
    (entail_again arities e (10 ∷ rest) table fits.vars fits.left fits.right refl)

record StepParts (arities : List ℕ) (n : ℕ) (bytes : List ℕ) (l : Line) (rest : List ℕ) : Type 0 where
  sign : RuleSign
  k : ℕ
  rule : Rule
  first : Option ℕ
  second : Option ℕ
  e : Entail
  a : List ℕ
  b : List ℕ
  c : List ℕ
  d : List ℕ
  f : List ℕ
  g : List ℕ
  h : List ℕ
  number : bytes ≡ decimal n ++ a
  named : part_at (says_at rule_sign_of) a ≡ Ok (sign, b)
  vars : part_at (says_at (up_to MAX_LINE_VARIABLES)) b ≡ Ok (k, c)
  cites_first : cite_at n (nat_le 1 (count_of sign)) c ≡ Ok (first, d)
  cites_second : cite_at n (nat_le 2 (count_of sign)) d ≡ Ok (second, f)
  args : args_at arities k sign f ≡ Ok (rule, g)
  sides : entail_at arities k g ≡ Ok (e, h)
  end : h ≡ 10 ∷ rest
  is : Step rule first second e ≡ l

pub ends_found : {A : Type 0} (x y : A) (bytes rest : List ℕ) → ends_at (x, bytes) ≡ Ok (y, rest) → (bytes ≡ 10 ∷ rest) × (x ≡ y)
unfolding ends_at
ends_found {A} x y bytes rest e =
    with_ok (skip_at 10 bytes) _ (y, rest) e (λ end ee he.
    let both : (x, end) ≡ (y, rest) = ok_is {A = A × List ℕ} (x, end) (y, rest) he in
    (skip_found 10 bytes end ee ∙ ap (λ (p : A × List ℕ). 10 ∷ p.1) both, ap (λ (p : A × List ℕ). p.0) both))

step_parts : (arities : List ℕ) (n : ℕ) (bytes : List ℕ) (l : Line) (rest : List ℕ) → step_at arities n bytes ≡ Ok (l, rest) → StepParts arities n bytes l rest
unfolding step_at
step_parts arities n bytes l rest e =
    with_ok (expect_at (decimal n) bytes) _ (l, rest) e (λ a ea ha.
    with_ok (part_at (says_at rule_sign_of) a) _ (l, rest) ha (λ b eb hb.
    with_ok (part_at (says_at (up_to MAX_LINE_VARIABLES)) b.1) _ (l, rest) hb (λ c ec hc.
    with_ok (cite_at n (nat_le 1 (count_of b.0)) c.1) _ (l, rest) hc (λ d ed hd.
    with_ok (cite_at n (nat_le 2 (count_of b.0)) d.1) _ (l, rest) hd (λ f ef hf.
    with_ok (args_at arities c.0 b.0 f.1) _ (l, rest) hf (λ g eg hg.
    with_ok (entail_at arities c.0 g.1) _ (l, rest) hg (λ h eh hh.
    let end = ends_found (Step g.0 d.0 f.0 h.0) l h.1 rest hh in
    record {
      sign = b.0;
      k = c.0;
      rule = g.0;
      first = d.0;
      second = f.0;
      e = h.0;
      a = a;
      b = b.1;
      c = c.1;
      d = d.1;
      f = f.1;
      g = g.1;
      h = h.1;
      number = expect_found (decimal n) bytes a ea;
      named = eb;
      vars = ec;
      cites_first = ed;
      cites_second = ef;
      args = eg;
      sides = eh;
      end = end.0;
      is = end.1;
    })))))))

-- the variables of an entailment, which was read with so many
fits_at : (arities : List ℕ) (n k : ℕ) (sign : RuleSign) (rule : Rule) (first second : Option ℕ) (e : Entail) (c d f g h : List ℕ) → k ≤ MAX_LINE_VARIABLES → CiteFound n (nat_le 1 (count_of sign)) c first d → CiteFound n (nat_le 2 (count_of sign)) d second f → ArgsFit arities k rule → count_of sign ≡ premise_count rule → EntailFound arities k g e h → StepFits arities n rule first second e
fits_at arities n k sign rule first second e c d f g h few a b args count sides = record {
  first_stands = a.stands ∙ ap (nat_le 1) count;
  second_stands = b.stands ∙ ap (nat_le 2) count;
  first_fits = a.fits;
  second_fits = b.fits;
  vars = omega (arith, sides.vars, few);
  args = subst (λ (v : ℕ). ArgsFit arities v rule) (sym sides.vars) args;
  left = subst (λ (v : ℕ). FormulaFits arities v e.left) (sym sides.vars) sides.left;
  right = subst (λ (v : ℕ). FormulaFits arities v e.right) (sym sides.vars) sides.right;
}

step_made : (arities : List ℕ) (n : ℕ) (sign : RuleSign) (k : ℕ) (rule : Rule) (first second : Option ℕ) (e : Entail) (bytes a a' b b' c d f g h rest : List ℕ) → bytes ≡ decimal n ++ a → a ≡ 32 ∷ a' → a' ≡ sign_text sign ++ b → b ≡ 32 ∷ b' → b' ≡ decimal k ++ c → k ≤ MAX_LINE_VARIABLES → CiteFound n (nat_le 1 (count_of sign)) c first d → CiteFound n (nat_le 2 (count_of sign)) d second f → f ≡ args_text rule g → ArgsFit arities k rule → sign_text sign ≡ rule_name rule → count_of sign ≡ premise_count rule → EntailFound arities k g e h → h ≡ 10 ∷ rest → LineIsSpelled arities n bytes (Step rule first second e) rest
step_made arities n sign k rule first second e bytes a a' b b' c d f g h rest number space named space' vars few cite cite' args args_fit name count sides end =
    let sides_are : g ≡ entail_text e (10 ∷ rest) = sides.parts ∙ ap (entail_text e) end in
    let cites : c ≡ cite_text first (cite_text second (args_text rule (entail_text e (10 ∷ rest)))) = cite.parts ∙ ap (cite_text first) (cite'.parts ∙ ap (cite_text second) (args ∙ ap (args_text rule) sides_are)) in
    let vars_are : b ≡ 32 ∷ (decimal e.vars ++ c) = space' ∙ ap (λ x. 32 ∷ x) (vars ∙ ap (λ v. decimal v ++ c) (sym sides.vars)) in
    record {
      fits = fits_at arities n k sign rule first second e c d f g h few cite cite' args_fit count sides;
      spelled = number ∙ ap (λ x. decimal n ++ x) (space ∙ ap (λ x. 32 ∷ x) (named ∙ (ap (λ w. w ++ b) name ∙ ap (λ x. rule_name rule ++ x) (vars_are ∙ ap (λ x. 32 ∷ (decimal e.vars ++ x)) cites))));
    }

step_found : (arities : List ℕ) (n : ℕ) (bytes : List ℕ) (l : Line) (rest : List ℕ) → step_at arities n bytes ≡ Ok (l, rest) → LineIsSpelled arities n bytes l rest
step_found arities n bytes l rest h =
    let p = step_parts arities n bytes l rest h in
    let named = part_found (says_at rule_sign_of) p.a p.sign p.b p.named in
    let sign = sign_found named.at p.sign p.b named.read in
    let vars = part_found (says_at (up_to MAX_LINE_VARIABLES)) p.b p.k p.c p.vars in
    let number = up_to_found MAX_LINE_VARIABLES vars.at p.k p.c vars.read in
    let first = cite_found n (nat_le 1 (count_of p.sign)) p.c p.first p.d p.cites_first in
    let second = cite_found n (nat_le 2 (count_of p.sign)) p.d p.second p.f p.cites_second in
    let args = args_found arities p.k p.sign p.f p.rule p.g sign.listed p.args in
    let sides = entail_found arities p.k p.g p.e p.h p.sides in
    subst (λ (x : Line). LineIsSpelled arities n bytes x rest) p.is
    (step_made arities n p.sign p.k p.rule p.first p.second p.e bytes p.a named.at p.b vars.at p.c p.d p.f p.g p.h rest
    p.number named.parts sign.parts vars.parts number.parts number.within first second args.spelled args.fits args.named args.count sides p.end)

-- ---- statements' lines

qed_read : (n : ℕ) (name : List ℕ) (cited : ℕ) (a b rest : List ℕ) → says_at name_of a ≡ Ok (name, 32 ∷ b) → earlier_at n b ≡ Ok (cited, 10 ∷ rest) → qed_at n (32 ∷ a) ≡ Ok (Qed name cited, rest)
unfolding qed_at part_at skip_at ends_at
qed_read n name cited a b rest h k = rw h (rw k refl)

qed_again : (n : ℕ) (name : List ℕ) (cited : ℕ) (rest : List ℕ) → n < 2 ^ 64 → is_name name ≡ true → IsEarlier n cited → qed_at n (32 ∷ (name ++ (32 ∷ (decimal cited ++ (10 ∷ rest))))) ≡ Ok (Qed name cited, rest)
qed_again n name cited rest small named fits =
    qed_read n name cited (name ++ (32 ∷ (decimal cited ++ (10 ∷ rest)))) (decimal cited ++ (10 ∷ rest)) rest
    (name_again name (32 ∷ (decimal cited ++ (10 ∷ rest))) named refl)
    (earlier_again n cited (10 ∷ rest) small fits refl)

qed_found : (arities : List ℕ) (n : ℕ) (bytes : List ℕ) (l : Line) (rest : List ℕ) → bytes_eq (word bytes) (codes "qed") ≡ true → qed_at n (after bytes) ≡ Ok (l, rest) → LineIsSpelled arities n bytes l rest
unfolding qed_at
qed_found arities n bytes l rest is h =
    with_ok (part_at (says_at name_of) (after bytes)) _ (l, rest) h (λ name en hn.
    with_ok (part_at (earlier_at n) name.1) _ (l, rest) hn (λ c ec hc.
    let p = part_found (says_at name_of) (after bytes) name.0 name.1 en in
    let f = name_found p.at name.0 name.1 p.read in
    let q = part_found (earlier_at n) name.1 c.0 c.1 ec in
    let g = earlier_found n q.at c.0 c.1 q.read in
    let end = ends_found (Qed name.0 c.0) l c.1 rest hc in
    subst (λ (x : Line). LineIsSpelled arities n bytes x rest) end.1
    (record {
      fits = (f.named, g.fits);
      spelled = word_found (codes "qed") bytes is ∙ ap (λ x. codes "qed" ++ x) (p.parts ∙ ap (λ x. 32 ∷ x) (f.parts ∙ ap (λ x. name.0 ++ x) (q.parts ∙ ap (λ x. 32 ∷ x) (g.parts ∙ ap (λ x. decimal c.0 ++ x) end.0))));
    })))

-- ---- any line

-- a number is no other first word of a line
number_no_qed : (n : ℕ) (rest : List ℕ) → n < 2 ^ 64 → stops rest ≡ true → bytes_eq (word (decimal n ++ rest)) (codes "qed") ≡ false
number_no_qed n rest small e = go (bytes_eq (word (decimal n ++ rest)) (codes "qed")) refl
  where
    go : (b : Bool) → bytes_eq (word (decimal n ++ rest)) (codes "qed") ≡ b → bytes_eq (word (decimal n ++ rest)) (codes "qed") ≡ false
    go false is = is
    go true is =
        let same : decimal n ≡ codes "qed" = sym (word_again (decimal n) rest (decimal_word n small) e) ∙ (bytes_eq-Decides (word (decimal n ++ rest)) (codes "qed")).0 is in
        let first : get_or (decimal n) 0 0 ≡ 113 = ap (λ w. get_or w 0 0) same in
        absurd (omega (arith, first, (first_digit n small).1))

pub line_again : (arities : List ℕ) (n : ℕ) (l : Line) (rest : List ℕ) → length arities < 2 ^ 64 → n < 2 ^ 64 → LineFits arities n l → line_at arities n (line_text n l rest) ≡ Ok (l, rest)
unfolding line_at
line_again arities n (Step rule first second e) rest table small fits =
    let bytes = line_text n (Step rule first second e) rest in
    let number : bytes_eq (word bytes) (codes "qed") ≡ false = number_no_qed n (32 ∷ (rule_name rule ++ (32 ∷ (decimal e.vars ++ cite_text first (cite_text second (args_text rule (entail_text e (10 ∷ rest)))))))) small refl in
    if_false (bytes_eq (word bytes) (codes "qed")) (qed_at n (after bytes)) (step_at arities n bytes) number ∙ step_again arities n rule first second e rest table small fits
line_again arities n (Qed name cited) rest table small fits = qed_again n name cited rest small fits.0 fits.1

pub line_found : (arities : List ℕ) (n : ℕ) (bytes : List ℕ) (l : Line) (rest : List ℕ) → line_at arities n bytes ≡ Ok (l, rest) → LineIsSpelled arities n bytes l rest
unfolding line_at
line_found arities n bytes l rest e =
    elim (chosen (bytes_eq (word bytes) (codes "qed")) _ _ (Ok (l, rest)) e) [
      | inl c ↦ qed_found arities n bytes l rest c.0 c.1
      | inr c ↦ step_found arities n bytes l rest c.1
    ]
