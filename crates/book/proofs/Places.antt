-- Where the swap of a number stands.
use Rattle.std.proofs.Common.{◌≡◌, ℕ, ◌+◌, Bool, true, false, cond, not, List, [], ◌∷◌, suc, length, Some, None, Ok, Err, Result, refl, ◌∙◌, sym, arith}
use Rattle.std.specs.Prelude.{position, ok_or, nat_lt, ◌==◌}
use Rattle.std.specs.List.{position_or_len}
use Rattle.std.proofs.lemmas.Bool.Decides.{nat_tests}
use Rattle.refusal.specs.declared.Refusal.{Refusal}
use Rattle.refusal.specs.declared.Refusal.TheVariants.{NoSuchSwap}
use Rattle.swaps.specs.declared.swap.Swap.{Swap}
use Rattle.book.specs.Calls.{place_from}

place_counted : (i n : ℕ) (ss : List Swap) → place_from i n ss ≡ cond (nat_lt (position_or_len (λ s. s.number == n) ss) (length ss)) (Ok (i + position_or_len (λ s. s.number == n) ss)) (Err NoSuchSwap)
place_counted i n [] = refl
place_counted i n (s ∷ ss) = go (s.number == n) (place_counted (i + 1) n ss)
  where
    go : (b : Bool) → place_from (i + 1) n ss ≡ cond (nat_lt (position_or_len (λ s. s.number == n) ss) (length ss)) (Ok (i + 1 + position_or_len (λ s. s.number == n) ss)) (Err NoSuchSwap) →
        cond b (Ok i) (place_from (i + 1) n ss) ≡ cond (nat_lt (cond (not b) (1 + position_or_len (λ s. s.number == n) ss) 0) (suc (length ss))) (Ok (i + cond (not b) (1 + position_or_len (λ s. s.number == n) ss) 0)) (Err NoSuchSwap)
    go true h =
        let none : i + 0 ≡ i = omega arith in
        let some : nat_lt 0 (suc (length ss)) ≡ true = grind (arith, nat_tests) in
        rw (some, none) refl
    go false h =
        let p = position_or_len (λ s. s.number == n) ss in
        let later : nat_lt (1 + p) (suc (length ss)) ≡ nat_lt p (length ss) = grind (arith, nat_tests) in
        let on : i + (1 + p) ≡ i + 1 + p = omega arith in
        rw (later, on) h

-- the library's search is the definition's
pub place_is : (n : ℕ) (ss : List Swap) → ok_or (position (λ s. s.number == n) ss) NoSuchSwap ≡ place_from 0 n ss
place_is n ss = go (nat_lt (position_or_len (λ s. s.number == n) ss) (length ss)) (position_or_len (λ s. s.number == n) ss) ∙ sym (place_counted 0 n ss)
  where
    go : (b : Bool) (p : ℕ) → ◌≡◌ {A = Result ℕ Refusal} (ok_or (cond b (Some p) None) NoSuchSwap) (cond b (Ok (0 + p)) (Err NoSuchSwap))
    go true p = let same : 0 + p ≡ p = omega arith in rw same refl
    go false p = refl
