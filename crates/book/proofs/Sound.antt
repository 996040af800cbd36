-- What keeps the swaps as they should be.
use Rattle.std.proofs.Common.{◌≡◌, ℕ, zero, suc, ◌<◌, true, List, [], ◌∷◌, ◌++◌, length, get_or, set, ap, arith}
use Rattle.std.proofs.lemmas.Bool.Decides.{nat_tests}
use Rattle.std.proofs.ByRecursion.{All-get_or, All-from_get_or, All-push, All-set}
use Rattle.swaps.specs.declared.swap.Swap.{Swap}
use Rattle.swaps.specs.Swaps.{blank, Each, rising}

pub each_none : (P : Swap → Type 0) (ss : List Swap) → ss ≡ [] → Each P ss
each_none P ss e k l = let n = ap length e in absurd (omega arith)

pub each_push : (P : Swap → Type 0) (ss ys : List Swap) (s : Swap) → ys ≡ ss ++ s ∷ [] → Each P ss → P s → Each P ys
each_push P ss ys s e f h = rw e (λ k l. All-get_or P (ss ++ s ∷ []) k blank l (All-push P ss s (All-from_get_or P ss blank f) h))

pub each_set : (P : Swap → Type 0) (ss : List Swap) (i : ℕ) (s : Swap) → Each P ss → P s → Each P (set ss i s)
each_set P ss i s f h k l = All-get_or P (set ss i s) k blank l (All-set P ss i s h (All-from_get_or P ss blank f))

rising_push : (low high : ℕ) (ss : List Swap) (s : Swap) → rising low high ss ≡ true → high < s.number → rising low s.number (ss ++ s ∷ []) ≡ true
rising_push low high [] s r h = grind (arith, nat_tests)
rising_push low high (x ∷ ss) s r h =
    let rest : rising x.number high ss ≡ true = grind (arith, nat_tests) in
    let more = rising_push x.number high ss s rest h in
    grind (arith, nat_tests)

pub rising-more : (high : ℕ) (ss ys : List Swap) (s : Swap) → ys ≡ ss ++ s ∷ [] → rising 0 high ss ≡ true → high < s.number → rising 0 s.number ys ≡ true
rising-more high ss ys s e r h = rw e (rising_push 0 high ss s r h)

pub rising-set : (low high : ℕ) (ss : List Swap) (i : ℕ) (s : Swap) → rising low high ss ≡ true → s.number ≡ (get_or ss i s).number → rising low high (set ss i s) ≡ true
rising-set low high [] i s r e = r
rising-set low high (x ∷ ss) zero s r e = rw e r
rising-set low high (x ∷ ss) (suc i) s r e =
    let rest : rising x.number high ss ≡ true = grind (arith, nat_tests) in
    let more = rising-set x.number high ss i s rest e in
    grind (arith, nat_tests)
