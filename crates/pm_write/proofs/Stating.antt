-- What is stated after each proof of a list.
use Rattle.std.proofs.Common.{◌≡◌, ℕ, zero, suc, ◌+◌, ◌<◌, ◌≤◌, ◌^◌, List, [], ◌∷◌, ◌++◌, length, take, drop, get_or, refl, sym, ◌∙◌, ap, subst, arith, append-nil, Some}
use Rattle.std.specs.Prelude.{map}
use Rattle.std.specs.Option.{option_map, option_to_list}
use Rattle.pm_logic.specs.declared.formula.Pred.{Pred}
use Rattle.pm_logic.specs.declared.formula.Preds.{Preds}
use Rattle.pm_proof.specs.Trees.{Tree, conclusion}
use Rattle.pm_proof.specs.Valid.{Valid, Fits}
use Rattle.pm_dtext.specs.declared.line.Line.{Line}
use Rattle.pm_dtext.specs.declared.line.Line.TheVariants.{Qed}
use Rattle.pm_dtext.specs.Texts.{arities_of}
use Rattle.pm_check.specs.Table.{table_text, BeginsTable}
use Rattle.pm_check.specs.Lines.{steps, names, proof_line, is_used, statement, statements_behind}
use Rattle.pm_check.specs.Derivation.{lines_text, IsNext, IsDerivation}
use Rattle.pm_write.specs.declared.written.Written.{Written}
use Rattle.pm_write.specs.declared.written.Earlier.{Earlier}
use Rattle.pm_write.specs.declared.writing.Named.{Named}
use Rattle.pm_write.specs.Writing.{Keeps, Holds, Closes, Reaches, AreThere}
use Rattle.pm_write.specs.Derived.{statement_of, names_of, IsWritable, AreWritable, States}
use Rattle.pm_write.proofs.Growing.{steps_grown, names_grown, states_grown, there_kept, each_none, each_more}
use Rattle.pm_write.proofs.Fitting.{earlier}
use Rattle.pm_write.proofs.Looping.{there_grown}
use Rattle.pm_write.proofs.Tables.{table_before}
use Rattle.pm_write.proofs.Spelled.{take_all}

pub record Stated (preds : Preds) (w : Written) (xs : List Named) (known : List Earlier) : Type 0 where
  pub states : States preds w xs
  pub there : AreThere states.lines known

pub stated_none : (preds : Preds) (w : Written) → Keeps w [] → Stated preds w [] []
stated_none preds w k = record {
  states = record { lines = []; holds = record { keeps = k; few = omega arith; each = each_none preds }; names_are = refl; states = refl };
  there = tt;
}

map_grown : {A B : Type 0} (f : A → B) (xs : List A) (x : A) → map f (xs ++ x ∷ []) ≡ map f xs ++ f x ∷ []
map_grown f [] x = refl
map_grown f (y ∷ xs) x = ap (λ ys. f y ∷ ys) (map_grown f xs x)

there_more : (lines : List Line) (l : Line) (known : List Earlier) (k : Earlier) → AreThere lines known → proof_line (steps lines) k.number ≡ Some k.entail.now → AreThere (lines ++ l ∷ []) (known ++ k ∷ [])
there_more lines l [] k h at = (there_kept lines l k.entail.now k.number at, tt)
there_more lines l (x ∷ known) k h at = (there_kept lines l x.entail.now x.number h.0, there_more lines l known k h.1 at)

qed_next : (preds : Preds) (lines : List Line) (xs : List Named) (x : Named) (n : ℕ) → length (steps lines) < 2 ^ 64 → names lines ≡ names_of xs → proof_line (steps lines) n ≡ Some (conclusion x.proof) → IsWritable preds xs x → IsNext preds lines (Qed x.name n)
qed_next preds lines xs x n few named at w = record {
  fits = (w.named, earlier lines n (conclusion x.proof) few at);
  follows = record { line = conclusion x.proof; there = at; closed = w.closed; left = w.left; new = ap (λ ns. is_used ns x.name) named ∙ w.new };
}

-- what is said of a proof's lines
abbrev pub Proved : Written → Written → List Earlier → Tree → ℕ → Type 0
Proved old new known proof n = (preds : Preds) (base : List Line) → Holds preds old base → AreThere base known → Valid preds proof → Fits preds proof → Reaches preds base new n (conclusion proof)

pub stated_more : (preds : Preds) (u v w : Written) (xs : List Named) (known : List Earlier) (x : Named) (k : Earlier) (n : ℕ) → Stated preds u xs known → IsWritable preds xs x → Proved u v known x.proof n → Closes v w x.name n → k.entail.now ≡ conclusion x.proof → k.number ≡ n → Stated preds w (xs ++ x ∷ []) (known ++ k ∷ [])
stated_more preds u v w xs known x k n s can proved closes is number =
    let r : Reaches preds s.states.lines v n (conclusion x.proof) = proved preds s.states.lines s.states.holds s.there can.valid can.fits in
    let lines : List Line = r.grows.lines in
    let l : Line = Qed x.name n in
    let named : names lines ≡ names_of xs = r.grows.names_are ∙ s.states.names_are in
    let at : proof_line (steps lines) k.number ≡ Some k.entail.now = ap (λ m. proof_line (steps lines) m) number ∙ r.there ∙ ap (λ e. Some e) (sym is) in
    record {
      states = record {
        lines = lines ++ l ∷ [];
        holds = record {
          keeps = closes.behind lines r.grows.holds.keeps;
          few = subst (λ es. length es < 2 ^ 64) (sym (steps_grown lines l ∙ append-nil (steps lines))) r.grows.holds.few;
          each = each_more preds lines l r.grows.holds.each (qed_next preds lines xs x n r.grows.holds.few named r.there can);
        };
        names_are = names_grown lines l ∙ ap (λ ns. ns ++ x.name ∷ []) named ∙ sym (map_grown (λ (y : Named). y.name) xs x);
        states = states_grown lines l
            ∙ ap (λ o. statements_behind [] lines ++ (option_to_list (option_map (statement x.name) o) ++ [])) r.there
            ∙ ap (λ ss. ss ++ statement_of x ∷ []) (r.grows.states ∙ s.states.states)
            ∙ sym (map_grown statement_of xs x);
      };
      there = there_more lines l known k (there_grown preds s.states.lines v r.grows known s.there) at;
    }

-- ---- the loop over the proofs

split : {A : Type 0} (xs : List A) (i : ℕ) (x : A) → i < length xs → x ≡ get_or xs i x → xs ≡ take i xs ++ x ∷ drop (suc i) xs
split [] i x less at = absurd (omega arith)
split (y ∷ xs) zero x less at = ap (λ z. z ∷ xs) (sym at)
split (y ∷ xs) (suc i) x less at = ap (λ zs. y ∷ zs) (split xs i x (omega (arith, less)) at)

take_more : {A : Type 0} (xs : List A) (i : ℕ) (x : A) → i < length xs → x ≡ get_or xs i x → take (suc i) xs ≡ take i xs ++ x ∷ []
take_more [] i x less at = absurd (omega arith)
take_more (y ∷ xs) zero x less at = ap (λ z. z ∷ []) (sym at)
take_more (y ∷ xs) (suc i) x less at = ap (λ zs. y ∷ zs) (take_more xs i x (omega (arith, less)) at)

-- where the proofs can be written, what is stated of the first ones
abbrev pub SoFar : Written → Written → List Named → List Named → List Earlier → Type 0
SoFar old w xs done known = (preds : Preds) → AreWritable preds xs → Keeps old [] → Stated preds w done known

pub so_far_more : (old u v w : Written) (xs : List Named) (i : ℕ) (known : List Earlier) (x : Named) (k : Earlier) (n : ℕ) → i < length xs → x ≡ get_or xs i x → SoFar old u xs (take i xs) known → Proved u v known x.proof n → Closes v w x.name n → k.entail.now ≡ conclusion x.proof → k.number ≡ n → SoFar old w xs (take (suc i) xs) (known ++ k ∷ [])
so_far_more old u v w xs i known x k n less at so proved closes is number preds all keeps =
    subst (λ ys. Stated preds w ys (known ++ k ∷ [])) (sym (take_more xs i x less at))
    (stated_more preds u v w (take i xs) known x k n (so preds all keeps) (all (take i xs) x (drop (suc i) xs) (split xs i x less at)) proved closes is number)

pub so_far_pushed : (old u v w : Written) (xs : List Named) (i : ℕ) (known slice final : List Earlier) (x : Named) (k : Earlier) (n : ℕ) → i < length xs → x ≡ get_or xs i x → SoFar old u xs (take i xs) known → slice ≡ known → Proved u v slice x.proof n → Closes v w x.name n → k.entail.now ≡ conclusion x.proof → k.number ≡ n → final ≡ known ++ k ∷ [] → SoFar old w xs (take (i + 1) xs) final
so_far_pushed old u v w xs i known slice final x k n less at so same proved closes is number e =
    let up : suc i ≡ i + 1 = omega arith in
    subst (λ m. SoFar old w xs (take m xs) final) up (subst (λ ks. SoFar old w xs (take (suc i) xs) ks) (sym e)
    (so_far_more old u v w xs i known x k n less at so (subst (λ ks. Proved u v ks x.proof n) same proved) closes is number))

pub so_far_whole : (old w : Written) (xs : List Named) (i : ℕ) (known : List Earlier) → length xs ≤ i → SoFar old w xs (take i xs) known → (preds : Preds) → AreWritable preds xs → Keeps old [] → States preds w xs
so_far_whole old w xs i known all so preds can keeps = subst (λ ys. States preds w ys) (take_all xs i all) (so preds can keeps).states

-- ---- the whole text

pub finished : (old w : Written) (preds : Preds) (none front piece text : List ℕ) (list : List Pred) (slice xs : List Named) → none ≡ [] → list ≡ preds.list → piece ≡ w.text → front ≡ none ++ table_text (arities_of list) list [] → text ≡ front ++ piece → BeginsTable (arities_of preds.list) preds.list
    → slice ≡ xs → ((ps : Preds) → AreWritable ps slice → Keeps old [] → States ps w slice) → AreWritable preds xs → Keeps old [] → IsDerivation text preds (map statement_of xs)
finished old w preds none front piece text list slice xs empty same lines_are head all table named wrote can keeps =
    let first : front ≡ table_text (arities_of preds.list) preds.list [] = head ∙ ap (λ t. t ++ table_text (arities_of list) list []) empty ∙ ap (λ ps. table_text (arities_of ps) ps []) same in
    let s : States preds w xs = subst (λ ys. States preds w ys) named (wrote preds (subst (λ ys. AreWritable preds ys) (sym named) can) keeps) in
    record {
      lines = s.lines;
      whole = record {
        text = all ∙ ap (λ t. t ++ piece) first ∙ ap (λ t. table_text (arities_of preds.list) preds.list [] ++ t) (lines_are ∙ s.holds.keeps.text_is) ∙ sym (table_before (arities_of preds.list) preds.list (lines_text 1 s.lines []));
        table = table;
        each = s.holds.each;
      };
      states = sym s.states;
    }
