-- Linear arithmetic: certificates, the box in which they are looked for, and goals that they close.
--
-- A certificate of facts f1 … fn and a conclusion g is a factor for the negated g and one for each fact. It closes the goal where
-- the sum of the factors times the forms, which is at most 0 where the facts hold and g doesn't, has no variable and is at least 1.
use Rattle.std.specs.Prelude.{ℕ, zero, suc, ◌^◌, ℤ, pos, neg_ℤ, Bool, true, false, ◌&&◌, ◌||◌, ◌==◌, not, is_some, List, [], ◌∷◌, ◌++◌, map, filter, length, take, Option, Some, None, if◌then◌else◌, int_le}
use Rattle.std.specs.List.{list_all, list_any, find, flat_map, filter_map}
use Rattle.std.specs.Ordering.{int_eq}
use Rattle.std.specs.Bool.{then_some}
use Rattle.pm_logic.specs.declared.formula.Term.{Term}
use Rattle.pm_logic.specs.declared.formula.Term.TheVariants.{Lit, Var}
use Rattle.pm_logic.specs.declared.formula.Pure.{Pure}
use Rattle.pm_logic.specs.declared.formula.Pure.TheVariants.{True, False, Eq, Le, Lt}
use Rattle.pm_logic.specs.declared.formula.Formula.{Formula}
use Rattle.pm_logic.specs.declared.formula.Formula.TheVariants.{Pure as Assert}
use Rattle.pm_logic.specs.Trees.{add, sub, neg, scale, both, either, nope}
use Rattle.pm_rules.specs.Linear.{coefficient_of, constant_of, atom, holds, fails, weighted}
use Rattle.pm_goal.specs.declared.goal.Fact.{Fact}
use Rattle.pm_goal.specs.declared.goal.Goal.{Goal}
use Rattle.pm_goal.specs.declared.refusal.Row.TheVariants.{NoSuchHypothesis, NameGivenTwice, ConclusionNotLinear, NoCertificate, FactNotLinear, CertificateFails, WrongCertificateCount, CoefficientTooLarge}
use Rattle.pm_goal.specs.Find.{first_of_two}
use Rattle.pm_patterns.specs.declared.pattern.Cert.{Cert}
use Rattle.pm_table.specs.Outcomes.{Outcome, closed, require_plain, require_entry}
use Rattle.pm_table.specs.Works.{Named, fact_named, has_fact}
use Rattle.pm_table.specs.Basic.{refuse_where, repeated, passes}

-- ---- sizes

-- not larger than the bound in size
abbrev pub is_within : ℕ → ℤ → Bool
is_within bound z = int_le (neg_ℤ (pos bound)) z && int_le z (pos bound)

-- the indices of the term; every other one has the coefficient 0
unfoldable pub indices : Term → List ℕ
indices (Lit z) = []
indices (Var i) = i ∷ []
indices (add s t) = indices s ++ indices t
indices (sub s t) = indices s ++ indices t
indices (neg t) = indices t
indices (scale z t) = indices t

-- no entry of the term's form is larger than 2^62 in size
abbrev pub has_small_form : Term → Bool
has_small_form t = list_all (λ i. is_within (2 ^ 62) (coefficient_of t i)) (indices t) && is_within (2 ^ 62) (constant_of t)

-- and so it is with each subterm
unfoldable pub is_small : Term → Bool
is_small (Lit z) = has_small_form (Lit z)
is_small (Var i) = has_small_form (Var i)
is_small (add s t) = has_small_form (add s t) && is_small s && is_small t
is_small (sub s t) = has_small_form (sub s t) && is_small s && is_small t
is_small (neg t) = has_small_form (neg t) && is_small t
is_small (scale z t) = has_small_form (scale z t) && is_small t

-- and with each term of the pure formula
unfoldable pub are_small : Pure → Bool
are_small True = true
are_small False = true
are_small (Eq s t) = is_small s && is_small t
are_small (Le s t) = is_small s && is_small t
are_small (Lt s t) = is_small s && is_small t
are_small (both a b) = are_small a && are_small b
are_small (either a b) = are_small a && are_small b
are_small (nope a) = are_small a

-- ---- certificates

abbrev pub is_atom : Pure → Bool
is_atom f = is_some (atom f)

-- the equation read the other way
unfoldable pub turned : Pure → Option Pure
turned (Eq s t) = Some (Eq t s)
turned _ = None

abbrev pub is_equation : Pure → Bool
is_equation f = is_some (turned f)

-- what the factors are for: the forms of the negated g and of the facts
abbrev pub forms : List Pure → Pure → List Term
forms fs g = fails g ∷ map holds fs

abbrev pub all_indices : List Term → List ℕ
all_indices ts = flat_map indices ts

-- the sum has no variable and is at least 1
abbrev pub adds_up : List ℤ → List Pure → Pure → Bool
adds_up cs fs g =
    list_all (λ i. int_eq (weighted (λ t. coefficient_of t i) cs (forms fs g)) (pos 0)) (all_indices (forms fs g))
    && int_le (pos 1) (weighted constant_of cs (forms fs g))

-- what a certificate is wanted for: g, and an equation read the other way too
abbrev pub other_reading : Option Pure → List Pure
other_reading (Some h) = h ∷ []
other_reading None = []

abbrev pub readings : Pure → List Pure
readings g = g ∷ other_reading (turned g)

-- ---- the box

-- conjunctions taken apart, from left to right
unfoldable pub conjuncts : Pure → List Pure
conjuncts (both a b) = conjuncts a ++ conjuncts b
conjuncts p = p ∷ []

-- what isn't an atom, or has an entry above 2^62, is passed over
abbrev pub is_usable : Pure → Bool
is_usable p = is_atom p && are_small p

-- the first 64 atoms
abbrev pub atoms : List Fact → List Pure
atoms facts = take 64 (filter is_usable (flat_map (λ f. conjuncts f.pure) facts))

abbrev pub few : List ℤ
few = pos 1 ∷ pos 2 ∷ pos 3 ∷ pos 4 ∷ []

-- the factors of a fact that is used: 1 to 4, and for an equation -1 to -4 too
abbrev pub factors : Pure → List ℤ
factors f = few ++ (if is_equation f then map neg_ℤ few else [])

-- the factors of the facts, where at most n of these are used; 0 is that of a fact that isn't
abbrev pub choices : ℕ → List Pure → List (List ℤ)
choices n [] = [] ∷ []
choices zero (f ∷ fs) = map (λ cs. pos 0 ∷ cs) (choices zero fs)
choices (suc n) (f ∷ fs) = map (λ cs. pos 0 ∷ cs) (choices (suc n) fs) ++ flat_map (λ c. map (λ cs. c ∷ cs) (choices n fs)) (factors f)

-- that of the negated conclusion is 0 to 4
abbrev pub box : List Pure → List (List ℤ)
box fs = flat_map (λ cs. map (λ c. c ∷ cs) (pos 0 ∷ few)) (choices 3 fs)

-- a certificate of the box exists; an equation needs two
abbrev pub in_box : List Pure → Pure → Bool
in_box fs g = list_all (λ h. list_any (λ cs. adds_up cs fs h) (box fs)) (readings g)

-- ---- the directives

-- the linear atom that the conclusion is
unfoldable pub linear_conclusion : Formula → Option Pure
linear_conclusion (Assert g) = then_some (is_atom g) g
linear_conclusion _ = None

abbrev pub linear : Goal → Outcome
linear goal =
    require_entry (linear_conclusion goal.concl) ConclusionNotLinear (λ g.
    require_plain (are_small g) CoefficientTooLarge (
    require_plain (in_box (atoms goal.pures) g) NoCertificate
    closed))

-- ---- with certificates

abbrev pub names_of : Cert → List Named
names_of cert = map (λ i. i.fact) cert.facts

-- the factors, that of the negated conclusion first, and the facts that they are for
abbrev pub factors_of : Cert → List ℤ
factors_of cert = cert.goal ∷ map (λ i. i.factor) cert.facts

abbrev pub facts_of : Goal → Cert → List Pure
facts_of goal cert = filter_map (λ n. fact_named n goal.pures) (names_of cert)

-- the first name that a certificate gives twice
abbrev pub given_twice : List Cert → Option Named
given_twice [] = None
given_twice (c ∷ cs) = first_of_two (repeated (names_of c)) (given_twice cs)

-- the fact of this name passes
abbrev pub fact_passes : (Pure → Bool) → Goal → Named → Bool
fact_passes test goal n = passes test (fact_named n goal.pures)

-- a factor is negative only at an equation
abbrev pub have_signs : List ℤ → List Pure → Bool
have_signs [] fs = true
have_signs (c ∷ cs) [] = true
have_signs (c ∷ cs) (f ∷ fs) = (int_le (pos 0) c || is_equation f) && have_signs cs fs

-- the factors are at most 2^31 in size, have their signs and add up
abbrev pub certifies : Goal → Cert → Pure → Bool
certifies goal cert g =
    list_all (is_within (2 ^ 31)) (factors_of cert)
    && have_signs (factors_of cert) (nope g ∷ facts_of goal cert)
    && adds_up (factors_of cert) (facts_of goal cert) g

-- the first certificate is for the conclusion, the second for it read the other way
abbrev pub certify : Goal → List Cert → List Pure → Bool
certify goal [] [] = true
certify goal (c ∷ cs) (g ∷ gs) = certifies goal c g && certify goal cs gs
certify goal [] (g ∷ gs) = false
certify goal (c ∷ cs) [] = false

abbrev pub linear_with : List Cert → Goal → Outcome
linear_with certs goal =
    require_entry (linear_conclusion goal.concl) ConclusionNotLinear (λ g.
    require_plain (are_small g) CoefficientTooLarge (
    require_plain (length certs == length (readings g)) WrongCertificateCount (
    refuse_where (find (λ n. not (has_fact goal n)) (flat_map names_of certs)) NoSuchHypothesis (
    refuse_where (given_twice certs) NameGivenTwice (
    refuse_where (find (λ n. not (fact_passes is_atom goal n)) (flat_map names_of certs)) FactNotLinear (
    require_plain (list_all (fact_passes are_small goal) (flat_map names_of certs)) CoefficientTooLarge (
    require_plain (certify goal certs (readings g)) CertificateFails
    closed)))))))
