-- The lines of whole proofs, part by part.
use Rattle.std.proofs.Common.{◌≡◌, ℕ, List, [], ◌∷◌, ◌++◌, sym, ◌∙◌, ap, subst, append_assoc, append-nil, Option}
use Rattle.std.specs.Prelude.{reverse}
use Rattle.std.specs.List.{AllByRecursion}
use Rattle.std.proofs.lemmas.List.{reverse-append}
use Rattle.pm_logic.specs.declared.formula.Preds.{Preds}
use Rattle.pm_proof.specs.Trees.{Tree, Hole, Axiom, First, Second, Both, conclusion}
use Rattle.pm_proof.specs.Parts.{premises_of, parts_of, parts_of_all}
use Rattle.pm_proof.specs.Valid.{Valid, Fits}
use Rattle.pm_proof.proofs.Copies.{unfold_parts, same_trees, behind}
use Rattle.pm_dtext.specs.declared.line.Line.{Line}
use Rattle.pm_write.specs.declared.written.Written.{Written}
use Rattle.pm_write.specs.declared.written.Earlier.{Earlier}
use Rattle.pm_write.specs.Writing.{Holds, Grows, Reaches, Recalls, Places, Stand, Cites, AreThere, AreRecalled, IsSound}
use Rattle.pm_write.proofs.Growing.{grows_none, grows_then}

-- ---- parts

append_all : {A : Type 0} (P : A → Type 0) (xs ys : List A) → AllByRecursion P xs → AllByRecursion P ys → AllByRecursion P (xs ++ ys)
append_all P [] ys h k = k
append_all P (x ∷ xs) ys h k = (h.0, append_all P xs ys h.1 k)

parts_sound : (preds : Preds) (t : Tree) → Valid preds t → Fits preds t → AllByRecursion (IsSound preds) (parts_of t)
parts_sound preds (Hole e) v f = (tt, tt)
parts_sound preds (Axiom r e) v f = ((v, f), tt)
parts_sound preds (First r e a) v f = ((v.0, f.0), parts_sound preds a v.1 f.1)
parts_sound preds (Second r e b) v f = ((v.0, f.0), parts_sound preds b v.1 f.1)
parts_sound preds (Both r e a b) v f = ((v.0, f.0), append_all (IsSound preds) (parts_of a) (parts_of b) (parts_sound preds a v.1 f.1) (parts_sound preds b v.2 f.2))

all_at : (P : Tree → Type 0) (before : List Tree) (t : Tree) (behind : List Tree) → AllByRecursion P (before ++ t ∷ behind) → P t
all_at P [] t behind h = h.0
all_at P (x ∷ before) t behind h = all_at P before t behind h.1

part_sound : (preds : Preds) (proof : Tree) (before : List Tree) (t : Tree) (rest : List Tree) → before ++ t ∷ rest ≡ parts_of_all (proof ∷ []) → Valid preds proof → Fits preds proof → IsSound preds t
part_sound preds proof before t rest e v f = all_at (IsSound preds) before t rest (subst (AllByRecursion (IsSound preds)) (sym (e ∙ append-nil (parts_of proof))) (parts_sound preds proof v f))

pub there_grown : (preds : Preds) (base : List Line) (w : Written) (g : Grows preds base w) (earlier : List Earlier) → AreThere base earlier → AreThere g.lines earlier
there_grown preds base w g [] h = tt
there_grown preds base w g (k ∷ earlier) h = (g.kept k.number k.entail.now h.0, there_grown preds base w g earlier h.1)

-- ---- the loop over the parts of a proof

-- what the lines come to of trees that are done, where the parts ahead are still to be done
pub record Goes (old w : Written) (earlier : List Earlier) (proof : Tree) (ahead : List Tree) (numbers : List ℕ) (recalled : List (Option Earlier)) : Type 0 where
  pub done : List Tree
  pub whole : ahead ++ parts_of_all done ≡ parts_of_all (proof ∷ [])
  pub places : (preds : Preds) (base : List Line) → Holds preds old base → AreThere base earlier → Valid preds proof → Fits preds proof → Places preds base w done numbers recalled

pub goes_none : (w : Written) (earlier : List Earlier) (proof : Tree) (ahead : List Tree) (numbers : List ℕ) (recalled : List (Option Earlier)) → ahead ≡ parts_of_all (proof ∷ []) → numbers ≡ [] → ((lines : List Line) → AreRecalled lines recalled) → Goes w w earlier proof ahead (reverse numbers) recalled
goes_none w earlier proof ahead numbers recalled all none known = record {
  done = [];
  whole = append-nil ahead ∙ all;
  places = λ preds base h there v f. record { grows = grows_none preds w base h; stand = subst (λ ns. Stand base [] (reverse ns)) (sym none) tt; recalled = known base };
}

-- what is said of a part's line
abbrev pub Parted : Written → Written → List Earlier → Tree → List ℕ → List ℕ → List (Option Earlier) → List (Option Earlier) → Type 0
Parted old new earlier t numbers numbers' recalled recalled' = (preds : Preds) (lines : List Line) (rest : List Tree) → Holds preds old lines → AreThere lines earlier → AreRecalled lines recalled → IsSound preds t → Stand lines (premises_of t ++ rest) numbers → Places preds lines new (t ∷ rest) numbers' recalled'

stand_grown : (preds : Preds) (base : List Line) (w : Written) (g : Grows preds base w) (ts : List Tree) (ns : List ℕ) → Stand base ts ns → Stand g.lines ts ns
stand_grown preds base w g [] [] h = tt
stand_grown preds base w g [] (n ∷ ns) h = absurd h
stand_grown preds base w g (t ∷ ts) [] h = absurd h
stand_grown preds base w g (t ∷ ts) (n ∷ ns) h = (g.kept n (conclusion t) h.0, stand_grown preds base w g ts ns h.1)

pub parted : (old new : Written) (earlier : List Earlier) (t : Tree) (first second : Option ℕ) (numbers mid final : List ℕ) (recalled recalled' : List (Option Earlier)) (n : ℕ)
    → ((lines : List Line) (rest : List Tree) → Stand lines (premises_of t ++ rest) numbers → Cites lines (premises_of t) first second × Stand lines rest mid)
    → ((preds : Preds) (lines : List Line) → Holds preds old lines → AreThere lines earlier → AreRecalled lines recalled → IsSound preds t → Cites lines (premises_of t) first second → Recalls preds lines new n (conclusion t) recalled')
    → final ≡ n ∷ mid → Parted old new earlier t numbers final recalled recalled'
parted old new earlier t first second numbers mid final recalled recalled' n taken placed is preds lines rest h there known sound stand =
    let c : Cites lines (premises_of t) first second × Stand lines rest mid = taken lines rest stand in
    let r : Recalls preds lines new n (conclusion t) recalled' = placed preds lines h there known sound c.0 in
    record { grows = r.grows; stand = subst (λ ns. Stand r.grows.lines (t ∷ rest) ns) (sym is) (r.there, stand_grown preds lines new r.grows rest mid c.1); recalled = r.recalled }

pub pushed : (items new : List ℕ) (n : ℕ) → new ≡ items ++ n ∷ [] → reverse new ≡ n ∷ reverse items
pushed items new n e = ap reverse e ∙ reverse-append items (n ∷ [])

pub goes_more : (old w v : Written) (earlier : List Earlier) (proof t : Tree) (before ahead : List Tree) (numbers numbers' : List ℕ) (recalled recalled' : List (Option Earlier)) → before ≡ ahead ++ t ∷ [] → Goes old w earlier proof before numbers recalled → Parted w v earlier t numbers numbers' recalled recalled' → Goes old v earlier proof ahead numbers' recalled'
goes_more old w v earlier proof t before ahead numbers numbers' recalled recalled' last g part =
    let e : ahead ++ t ∷ parts_of_all g.done ≡ parts_of_all (proof ∷ []) = sym (append_assoc ahead (t ∷ []) (parts_of_all g.done)) ∙ ap (λ l. l ++ parts_of_all g.done) (sym last) ∙ g.whole in
    let b = behind ahead t (parts_of_all g.done) (proof ∷ []) e in
    let is : g.done ≡ premises_of t ++ b.rest = same_trees g.done (premises_of t ++ b.rest) b.is in
    record {
      done = t ∷ b.rest;
      whole = ap (λ l. ahead ++ l) (unfold_parts t b.rest ∙ ap (λ l. t ∷ l) (sym b.is)) ∙ e;
      places = λ preds base h there v f.
          let p : Places preds base w g.done numbers recalled = g.places preds base h there v f in
          let q = part preds p.grows.lines b.rest p.grows.holds (there_grown preds base w p.grows earlier there) p.recalled (part_sound preds proof ahead t (parts_of_all g.done) e v f) (subst (λ ts. Stand p.grows.lines ts numbers) is p.stand) in
          record { grows = grows_then preds base w _ p.grows q.grows; stand = q.stand; recalled = q.recalled };
    }

pub goes_whole : (old w : Written) (earlier : List Earlier) (proof : Tree) (ahead : List Tree) (numbers front : List ℕ) (recalled : List (Option Earlier)) (n : ℕ) → ahead ≡ [] → numbers ≡ front ++ n ∷ [] → Goes old w earlier proof ahead (reverse numbers) recalled
    → (preds : Preds) (base : List Line) → Holds preds old base → AreThere base earlier → Valid preds proof → Fits preds proof → Reaches preds base w n (conclusion proof)
goes_whole old w earlier proof ahead numbers front recalled n none last g preds base h there v f =
    let done : g.done ≡ proof ∷ [] = same_trees g.done (proof ∷ []) (ap (λ l. l ++ parts_of_all g.done) (sym none) ∙ g.whole) in
    let p : Places preds base w g.done (reverse numbers) recalled = g.places preds base h there v f in
    let ns : reverse numbers ≡ n ∷ reverse front = ap reverse last ∙ reverse-append front (n ∷ []) in
    let s : Stand p.grows.lines (proof ∷ []) (n ∷ reverse front) = subst (λ ts. Stand p.grows.lines ts (n ∷ reverse front)) done (subst (λ l. Stand p.grows.lines g.done l) ns p.stand) in
    record { grows = p.grows; there = s.0 }
