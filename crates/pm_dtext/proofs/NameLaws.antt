-- Names: what is spelled is read again, and what was read is a name.
use Rattle.std.proofs.Common.{◌≡◌, ◌&&◌, ℕ, Bool, true, not, List, ◌++◌, ◌∙◌, ap, subst, Some, None, Ok}
use Rattle.std.specs.List.{list_any}
use Rattle.std.specs.Str.{bytes_eq}
use Rattle.pm_names.specs.Names.{is_name}
use Rattle.pm_names.proofs.Words.{name_word}
use Rattle.pm_dtext.specs.Reading.{says_at, name_of, new_name_of}
use Rattle.pm_dtext.proofs.Steps.{both_true, if_true, some_is}
use Rattle.pm_dtext.proofs.WordLaws.{stops, says_again, says_found}

pub name_again : (w rest : List ℕ) → is_name w ≡ true → stops rest ≡ true → says_at name_of (w ++ rest) ≡ Ok (w, rest)
unfolding name_of
name_again w rest h e = says_again name_of w rest w (name_word w h) e (if_true (is_name w) (Some w) None h)

pub record NameFound (bytes name rest : List ℕ) : Type 0 where
  pub parts : bytes ≡ name ++ rest
  pub named : is_name name ≡ true

pub name_found : (bytes name rest : List ℕ) → says_at name_of bytes ≡ Ok (name, rest) → NameFound bytes name rest
unfolding name_of
name_found bytes name rest e =
    let s = says_found name_of bytes name rest e in
    let c = some_is (is_name s.w) s.w name s.says_it in
    record { parts = s.parts ∙ ap (λ w. w ++ rest) c.1; named = subst (λ w. is_name w ≡ true) c.1 c.0 }

abbrev pub is_new : List (List ℕ) → List ℕ → Bool
is_new names w = not (list_any (λ x. bytes_eq x w) names)

pub new_name_again : (names : List (List ℕ)) (w rest : List ℕ) → is_name w ≡ true → is_new names w ≡ true → stops rest ≡ true → says_at (new_name_of names) (w ++ rest) ≡ Ok (w, rest)
unfolding new_name_of
new_name_again names w rest h new e = says_again (new_name_of names) w rest w (name_word w h) e (if_true (is_name w && is_new names w) (Some w) None (rw h new))

pub record NewNameFound (names : List (List ℕ)) (bytes name rest : List ℕ) : Type 0 where
  pub parts : bytes ≡ name ++ rest
  pub named : is_name name ≡ true
  pub new : is_new names name ≡ true

pub new_name_found : (names : List (List ℕ)) (bytes name rest : List ℕ) → says_at (new_name_of names) bytes ≡ Ok (name, rest) → NewNameFound names bytes name rest
unfolding new_name_of
new_name_found names bytes name rest e =
    let s = says_found (new_name_of names) bytes name rest e in
    let c = some_is (is_name s.w && is_new names s.w) s.w name s.says_it in
    let b = both_true (is_name s.w) (is_new names s.w) c.0 in
    record {
      parts = s.parts ∙ ap (λ w. w ++ rest) c.1;
      named = subst (λ w. is_name w ≡ true) c.1 b.0;
      new = subst (λ w. is_new names w ≡ true) c.1 b.1;
    }
