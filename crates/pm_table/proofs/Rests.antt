-- Actions on goals leave nothing in hand, or one hypothesis that they hold.
use Rattle.std.proofs.Common.{◌≡◌, Bool, true, false, not, find, flat_map, ◌||◌, ◌==◌, length, List, [], ◌∷◌, refl, Option, Some, None, is_some}
use Rattle.std.specs.List.{list_all}
use Rattle.pm_logic.specs.declared.formula.Term.{Term}
use Rattle.pm_logic.specs.declared.formula.Pure as P
use Rattle.pm_logic.specs.declared.formula.Formula.{Formula}
use Rattle.pm_logic.specs.declared.formula.Preds.{Preds}
use Rattle.pm_goal.specs.declared.goal.Goal.{Goal}
use Rattle.pm_goal.specs.declared.work.Held.{Held}
use Rattle.pm_patterns.specs.declared.pattern.Cert.{Cert}
use Rattle.pm_classes.specs.Classes.{Parts, from_pure, combine}
use Rattle.pm_table.specs.declared.place.Place.{Place}
use Rattle.pm_table.specs.Works.{Named, has_fact, has_hyp, has_hyp_or_fact, hyp_named, fact_named, index_named, fits}
use Rattle.pm_table.specs.Destructs.{is_falsehood}
use Rattle.pm_table.specs.Basic.{split_parts, star_parts, or_parts, body_of_ex, list_given, is_exact, is_hypothesis, is_fact, reverted, mentions, split, split_at, sides, side, exists, exfalso, exact, assumption, done, try_done, is_done, clear, rename, revert, revert_var}
use Rattle.pm_table.specs.Modalities.{under_update, Modality, passed, mod_intro, later, head_intro, next, modality_of}
use Rattle.pm_table.specs.Rewriting.{Equation, equation_of, occurs, occurs_in_pure, rewrite_at, rewrite, pure_intro, cases}
use Rattle.pm_table.specs.Heap.{full_location, combine_held, write, allocate}
use Rattle.pm_table.specs.Loeb.{body_of_call, formula_named, loeb, unfold_call, fold_call}
use Rattle.pm_table.specs.Linears.{names_of, is_atom, linear_conclusion, are_small, in_box, atoms, readings, given_twice, fact_passes, certify, linear, linear_with}
use Rattle.pm_table.specs.Equality.{formula_eq}
use Rattle.pm_table.proofs.Placing.{Gives, choice_gives, require_gives, require_plain_gives, require_some_gives, require_entry_gives, refuse_where_gives, all_spatial_gives}
use Rattle.pm_table.proofs.Holding.{Stands}

abbrev Rest : Place → Type 0
Rest = Stands 0 0

-- neither a pattern nor a hypothesis in hand
here : (length {A = Bool} [] ≡ 0) × (length {A = Held} [] ≡ 0)
here = (refl, refl)

pub split_rests : (g : Goal) → Gives Rest (split g)
split_rests g = require_entry_gives Rest (split_parts g.concl) _ _ (λ p. (here, (here, tt)))

sides_rest : (left : Bool) (p : Parts) (list : Option (List Named)) (g : Goal) → Gives Rest (sides left p list g)
sides_rest true p list g = (here, (here, tt))
sides_rest false p list g = (here, (here, tt))

pub split_at_rests : (left : Bool) (list : Option (List Named)) (g : Goal) → Gives Rest (split_at left list g)
split_at_rests left list g = require_entry_gives Rest (star_parts g.concl) _ _ (λ p. all_spatial_gives Rest g (list_given list) _ (sides_rest left p list g))

pub side_rests : (left : Bool) (g : Goal) → Gives Rest (side left g)
side_rests left g = require_entry_gives Rest (or_parts g.concl) _ _ (λ p. (here, tt))

pub exists_rests : (t : Term) (g : Goal) → Gives Rest (exists t g)
exists_rests t g = require_entry_gives Rest (body_of_ex g.concl) _ _ (λ b. (here, tt))

pub exfalso_rests : (g : Goal) → Gives Rest (exfalso g)
exfalso_rests g = (here, tt)

pub exact_rests : (x : Named) (g : Goal) → Gives Rest (exact x g)
exact_rests x g = require_gives Rest (has_hyp_or_fact g x) _ _ _ (require_plain_gives Rest (is_exact x g) _ _ tt)

pub assumption_rests : (g : Goal) → Gives Rest (assumption g)
assumption_rests g = require_plain_gives Rest (is_hypothesis g || is_fact g) _ _ tt

pub done_rests : (g : Goal) → Gives Rest (done g)
done_rests g = require_plain_gives Rest (is_done g) _ _ tt

pub try_done_rests : (g : Goal) → Gives Rest (try_done g)
try_done_rests g = choice_gives Rest (is_done g) _ _ tt (here, tt)

pub clear_rests : (x : Named) (g : Goal) → Gives Rest (clear x g)
clear_rests x g = require_gives Rest (has_hyp_or_fact g x) _ _ _ (here, tt)

pub rename_rests : (x y : Named) (g : Goal) → Gives Rest (rename x y g)
rename_rests x y g = require_gives Rest (has_hyp_or_fact g x) _ _ _ (require_gives Rest (fits g y) _ _ _ (here, tt))

pub revert_rests : (x : Named) (g : Goal) → Gives Rest (revert x g)
revert_rests x g = require_some_gives Rest (reverted x g) _ _ _ (λ a. (here, tt))

pub revert_var_rests : (x : Named) (g : Goal) → Gives Rest (revert_var x g)
revert_var_rests x g = require_some_gives Rest (index_named x g.vars) _ _ _ (λ i. require_plain_gives Rest (not (mentions i g)) _ _ (here, tt))

mod_intro_rests : (m : Modality) (g : Goal) → Gives Rest (mod_intro m g)
mod_intro_rests m g = require_entry_gives Rest (m.strip g.concl) _ _ (λ c. require_entry_gives Rest (passed m m.intuitionistic g.ints) _ _ (λ ints. require_entry_gives Rest (passed m m.spatial g.spats) _ _ (λ spats. (here, tt))))

pub head_intro_rests : (g : Goal) → Gives Rest (head_intro g)
head_intro_rests g = require_entry_gives Rest (modality_of g.concl) _ _ (λ m. mod_intro_rests m g)

pub next_rests : (g : Goal) → Gives Rest (next g)
next_rests g = mod_intro_rests later g

pub write_rests : (x : Named) (t : Term) (g : Goal) → Gives Rest (write x t g)
write_rests x t g = require_gives Rest (has_hyp g x) _ _ _ (require_some_gives Rest (hyp_named x g.spats) _ _ _ (λ f. require_entry_gives Rest (full_location f) _ _ (λ l. require_plain_gives Rest (is_some (under_update g.concl)) _ _ (here, tt))))

pub loeb_rests : (x : Named) (g : Goal) → Gives Rest (loeb x g)
loeb_rests x g = require_gives Rest (fits g x) _ _ _ (here, tt)

pub unfold_rests : (preds : Preds) (x : Option Named) (g : Goal) → Gives Rest (unfold_call preds x g)
unfold_rests preds None g = require_entry_gives Rest (body_of_call preds g.concl) _ _ (λ b. (here, tt))
unfold_rests preds (Some x) g = require_some_gives Rest (formula_named x g) _ _ _ (λ f. require_entry_gives Rest (body_of_call preds f) _ _ (λ b. (here, tt)))

pub fold_rests : (preds : Preds) (f : Formula) (x : Named) (g : Goal) → Gives Rest (fold_call preds f x g)
fold_rests preds f x g = require_entry_gives Rest (body_of_call preds f) _ _ (λ b. require_some_gives Rest (formula_named x g) _ _ _ (λ h. require_plain_gives Rest (formula_eq h b) _ _ (here, tt)))

pub pure_intro_rests : (g : Goal) → Gives Rest (pure_intro g)
pure_intro_rests g = require_entry_gives Rest (from_pure g.concl) _ _ (λ p. (here, tt))

rewrite_at_rests : (e : Equation) (target : Option Named) (g : Goal) → Gives Rest (rewrite_at e target g)
rewrite_at_rests e None g = require_plain_gives Rest (occurs e g.concl) _ _ (here, tt)
rewrite_at_rests e (Some x) g = choice_gives Rest (has_fact g x) _ _
    (require_some_gives Rest (fact_named x g.pures) _ _ _ (λ p. require_plain_gives Rest (occurs_in_pure e p) _ _ (here, tt)))
    (require_some_gives Rest (formula_named x g) _ _ _ (λ f. require_plain_gives Rest (occurs e f) _ _ (here, tt)))

pub rewrite_rests : (back : Bool) (x : Named) (target : Option Named) (g : Goal) → Gives Rest (rewrite back x target g)
rewrite_rests back x target g = require_some_gives Rest (fact_named x g.pures) _ _ _ (λ p. require_entry_gives Rest (equation_of back p) _ _ (λ q. rewrite_at_rests q target g))

pub cases_rests : (p : P.Pure) (x : Named) (g : Goal) → Gives Rest (cases p x g)
cases_rests p x g = require_gives Rest (fits g x) _ _ _ (here, (here, tt))

pub linear_rests : (g : Goal) → Gives Rest (linear g)
linear_rests g = require_entry_gives Rest (linear_conclusion g.concl) _ _ (λ c. require_plain_gives Rest (are_small c) _ _ (require_plain_gives Rest (in_box (atoms g.pures) c) _ _ tt))

pub linear_with_rests : (certs : List Cert) (g : Goal) → Gives Rest (linear_with certs g)
linear_with_rests certs g = require_entry_gives Rest (linear_conclusion g.concl) _ _ (λ c. require_plain_gives Rest (are_small c) _ _ (require_plain_gives Rest (length certs == length (readings c)) _ _ (refuse_where_gives Rest (find (λ n. not (has_fact g n)) (flat_map names_of certs)) _ _ (refuse_where_gives Rest (given_twice certs) _ _ (refuse_where_gives Rest (find (λ n. not (fact_passes is_atom g n)) (flat_map names_of certs)) _ _ (require_plain_gives Rest (list_all (fact_passes are_small g) (flat_map names_of certs)) _ _ (require_plain_gives Rest (certify g certs (readings c)) _ _ tt)))))))

-- ---- one is held

pub combine_holds : (x y : Named) (g : Goal) → Gives (Stands 0 1) (combine_held x y g)
combine_holds x y g = all_spatial_gives (Stands 0 1) g (x ∷ y ∷ []) _ (require_some_gives (Stands 0 1) (hyp_named x g.spats) _ _ _ (λ f. require_some_gives (Stands 0 1) (hyp_named y g.spats) _ _ _ (λ h. choice_gives (Stands 0 1) (is_falsehood (combine f h)) _ _ tt ((refl, refl), tt))))

pub allocate_holds : (t : Term) (l : Named) (g : Goal) → Gives (Stands 0 1) (allocate t l g)
allocate_holds t l g = require_plain_gives (Stands 0 1) (is_some (under_update g.concl)) _ _ (require_gives (Stands 0 1) (fits g l) _ _ _ ((refl, refl), tt))
