-- A set of names, and one name more.
use Rattle.std.proofs.Common.{◌≡◌, ℕ, Bool, true, false, ◌||◌, not, List, [], ◌∷◌, map, refl, sym, ◌∙◌, ap}
use Rattle.std.specs.Prelude.{Vec}
use Rattle.std.specs.List.{list_any}
use Rattle.std.specs.List.Sorted.{IsPermutation}
use Rattle.std.specs.Bool.{MatchBool}
use Rattle.std.specs.Str.{bytes_eq}
use Rattle.std.specs.declared.alloc.Global.{Global}
use Rattle.std.proofs.lemmas.List.Sorted.{list_any-IsPermutation}
use Rattle.pm_name_sets.specs.Sets.{has, Adds}
use Rattle.pm_name_sets.proofs.Names.{equal, either_way, nothing_new}

-- the names of the keys
abbrev pub names_of : List (Vec ℕ Global) → List (List ℕ)
names_of keys = map (λ (key : Vec ℕ Global). key.items) keys

pub in_keys : (keys : List (Vec ℕ Global)) (name : List ℕ) → has (names_of keys) name ≡ list_any (λ (key : Vec ℕ Global). bytes_eq name key.items) keys
in_keys [] name = refl
in_keys (key ∷ keys) name = ap (λ b. bytes_eq name key.items || b) (in_keys keys name)

-- whether the insertion of a key was of a new one, and what it leaves
pub added : (is_new : Bool) (old new : List (Vec ℕ Global)) (key : Vec ℕ Global) (name : List ℕ) → key.items ≡ name → is_new ≡ not (has (names_of old) name) → MatchBool is_new (IsPermutation (key ∷ old) new) (new ≡ old) → Adds (names_of old) (names_of new) name
added true old new key name is new_one puts = record {
  has = λ other.
      in_keys new other
      ∙ sym (list_any-IsPermutation (λ (k : Vec ℕ Global). bytes_eq other k.items) (key ∷ old) new puts)
      ∙ either_way (bytes_eq other key.items) (list_any (λ (k : Vec ℕ Global). bytes_eq other k.items) old)
      ∙ ap (λ b. b || bytes_eq other key.items) (sym (in_keys old other))
      ∙ ap (λ n. has (names_of old) other || bytes_eq other n) is;
}
added false old new key name is new_one puts = record {
  has = λ other.
      ap (λ keys. has (names_of keys) other) puts
      ∙ nothing_new (has (names_of old) other) (bytes_eq other name)
      (λ same. ap (λ n. has (names_of old) n) (equal other name same) ∙ there (has (names_of old) name) new_one);
}
  where
    there : (b : Bool) → false ≡ not b → b ≡ true
    there true e = refl
    there false e = cc
