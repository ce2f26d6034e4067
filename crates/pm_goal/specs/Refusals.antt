-- The rows of refusals, and what a refusal names.
use Rattle.std.specs.Prelude.{ℕ, Bool, true, false, List, Option, Some, None}
use Rattle.pm_goal.specs.declared.refusal.Row.{Row}
use Rattle.pm_goal.specs.declared.refusal.Row.TheVariants.{NoSuchHypothesis, NameInUse, NotSpatial, NameGivenTwice, NoSuchVariable, NoHypothesisToIntroduce, ImplicationOverSpatial, NoVariableToIntroduce, NotPair, NotAlternatives, NotFalsehood, NotPure, NotPersistent, NotEquation, NotUniversal, NotWand, NotThePremise, PremiseNotPersistent, PremiseNotPure, PremiseNotClosed, NoSuchLemma, ConclusionNotReached, ConclusionNotSplit, ConclusionNotStar, ConclusionNotDisjunction, ConclusionNotExistential, NotTheConclusion, NoAssumption, NotDone, VariableMentioned, NothingFramed, NoModality, ContextNotAllowed, NotUpdate, ConclusionNotUpdate, NotPredicateCall, NotPredicateBody, NotFullPointsTo, ConclusionNotPure, ConclusionNotLinear, NoCertificate, FactNotLinear, CertificateFails, FactNotEquation, TermNotFound, WrongCertificateCount, NoOpenProof, ProofIsOpen, GoalsRemain, NameIsDefined, TooFewStates, WrongBrace, NotGuarded, OutsideSession, NoGoalInFocus, TooManyVariables, TooManyHypotheses, TooManyNodes, TooDeep, CoefficientTooLarge, TooManyPredicates, TooManyLemmas}
use Rattle.pm_goal.specs.declared.refusal.Refusal.{Refusal}

-- the letters of the families, in ASCII
abbrev N : ℕ
N = 78

abbrev I : ℕ
I = 73

abbrev E : ℕ
E = 69

abbrev S : ℕ
S = 83

abbrev A : ℕ
A = 65

abbrev B : ℕ
B = 66

abbrev F : ℕ
F = 70

abbrev M : ℕ
M = 77

abbrev L : ℕ
L = 76

abbrev H : ℕ
H = 72

abbrev P : ℕ
P = 80

abbrev Q : ℕ
Q = 81

abbrev X : ℕ
X = 88

-- the letter of the family, the number in it, and whether a refusal by the row names the thing in question, where that
-- was written as a name: `$` and groups have none
abbrev pub entry : Row → ℕ × ℕ × Bool
entry NoSuchHypothesis = (N, 1, true)
entry NameInUse = (N, 2, true)
entry NotSpatial = (N, 3, true)
entry NameGivenTwice = (N, 4, true)
entry NoSuchVariable = (N, 5, true)
entry NoHypothesisToIntroduce = (I, 1, false)
entry ImplicationOverSpatial = (I, 2, false)
entry NoVariableToIntroduce = (I, 3, false)
entry NotPair = (E, 1, false)
entry NotAlternatives = (E, 2, false)
entry NotFalsehood = (E, 3, false)
entry NotPure = (E, 4, false)
entry NotPersistent = (E, 5, false)
entry NotEquation = (E, 6, false)
entry NotUniversal = (S, 1, false)
entry NotWand = (S, 2, false)
entry NotThePremise = (S, 3, true)
entry PremiseNotPersistent = (S, 4, false)
entry PremiseNotPure = (S, 5, false)
entry PremiseNotClosed = (S, 6, false)
entry NoSuchLemma = (S, 7, true)
entry ConclusionNotReached = (A, 1, false)
entry ConclusionNotSplit = (B, 1, false)
entry ConclusionNotStar = (B, 2, false)
entry ConclusionNotDisjunction = (B, 3, false)
entry ConclusionNotExistential = (B, 4, false)
entry NotTheConclusion = (B, 5, false)
entry NoAssumption = (B, 6, false)
entry NotDone = (B, 7, false)
entry VariableMentioned = (B, 8, false)
entry NothingFramed = (F, 1, true)
entry NoModality = (M, 1, false)
entry ContextNotAllowed = (M, 2, false)
entry NotUpdate = (M, 3, false)
entry ConclusionNotUpdate = (M, 4, false)
entry NotPredicateCall = (L, 1, false)
entry NotPredicateBody = (L, 2, false)
entry NotFullPointsTo = (H, 1, false)
entry ConclusionNotPure = (P, 1, false)
entry ConclusionNotLinear = (P, 2, false)
entry NoCertificate = (P, 3, false)
entry FactNotLinear = (P, 4, true)
entry CertificateFails = (P, 5, false)
entry FactNotEquation = (P, 6, false)
entry TermNotFound = (P, 7, false)
entry WrongCertificateCount = (P, 8, false)
entry NoOpenProof = (Q, 1, false)
entry ProofIsOpen = (Q, 2, false)
entry GoalsRemain = (Q, 3, false)
entry NameIsDefined = (Q, 4, true)
entry TooFewStates = (Q, 5, false)
entry WrongBrace = (Q, 6, false)
entry NotGuarded = (Q, 7, true)
entry OutsideSession = (Q, 8, false)
entry NoGoalInFocus = (Q, 9, false)
entry TooManyVariables = (X, 1, false)
entry TooManyHypotheses = (X, 2, false)
entry TooManyNodes = (X, 3, false)
entry TooDeep = (X, 4, false)
entry CoefficientTooLarge = (X, 5, false)
entry TooManyPredicates = (X, 6, false)
entry TooManyLemmas = (X, 7, false)

abbrev pub family : Row → ℕ
family row = (entry row).0

abbrev pub number : Row → ℕ
number row = (entry row).1

abbrev pub gives_name : Row → Bool
gives_name row = (entry row).2

abbrev pub name_if : Bool → List ℕ → Option (List ℕ)
name_if true name = Some name
name_if false name = None

-- a refusal by the row of what is about the name
abbrev pub refusal : Row → List ℕ → Refusal
refusal row name = record { row = row; name = name_if (gives_name row) name }
