-- Items of a list and what stands before them.
use Rattle.std.specs.Prelude.{◌≡◌, List, ◌∷◌, ◌++◌}

-- this holds of the items before each item, and the item
abbrev pub EachBehind : {A : Type 0} → (List A → A → Type 0) → List A → Type 0
EachBehind {A} holds xs = (before : List A) (x : A) (behind : List A) → xs ≡ before ++ x ∷ behind → holds before x
