-- Numbers that are cut at a greatest.
use Rattle.std.proofs.Common.{◌≡◌, ℕ, suc, ◌+◌, ◌*◌, ◌-◌, ◌^◌, ◌≤◌, ◌<◌, min, List, [], ◌∷◌, length, get_or, take, drop, ◌∙◌, arith}
use Rattle.std.proofs.lemmas.List.{take_all}
use Rattle.pm_tokens.specs.Characters.{number_behind, number_of}

-- what is cut early is cut at the end
cut_behind : (m a b : ℕ) (ds : List ℕ) → min a m ≡ min b m → min (number_behind a ds) m ≡ min (number_behind b ds) m
cut_behind m a b [] e = e
cut_behind m a b (d ∷ ds) e = cut_behind m (a * 10 + (d - 48)) (b * 10 + (d - 48)) ds (omega arith)

pub number_step : (ds all : List ℕ) (n tenfold digit more : ℕ) → 1 ≤ length ds → min (number_behind n ds) (2 ^ 64 - 1) ≡ number_of all
    → tenfold ≡ min (n * 10) (2 ^ 64 - 1) → digit ≡ get_or ds 0 0 - 48 → more ≡ min (tenfold + digit) (2 ^ 64 - 1)
    → min (number_behind more (take (length ds - 1) (drop 1 ds))) (2 ^ 64 - 1) ≡ number_of all
number_step [] all n tenfold digit more some kept e f g = absurd (omega arith)
number_step (d ∷ ds) all n tenfold digit more some kept e f g =
    let rest : take (suc (length ds) - 1) ds ≡ ds = take_all (suc (length ds) - 1) ds (omega arith) in
    rw rest (cut_behind (2 ^ 64 - 1) more (n * 10 + (d - 48)) ds (omega arith) ∙ kept)

pub number_end : (ds all : List ℕ) (n : ℕ) → length ds < 1 → n < 2 ^ 64 → min (number_behind n ds) (2 ^ 64 - 1) ≡ number_of all → n ≡ number_of all
number_end [] all n none small kept = omega arith
number_end (d ∷ ds) all n none small kept = absurd (omega arith)
