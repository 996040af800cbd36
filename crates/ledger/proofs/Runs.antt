-- Lists of transfers, one after the other.
use Rattle.std.proofs.Common.{◌≡◌, ℕ, suc, ◌+◌, ◌<◌, Bool, true, ◌&&◌, List, [], ◌∷◌, ◌++◌, length, get_or, take, drop, set, Decides, Ok, Err, refl, sym, ap, ◌∙◌, append_assoc, add-one, arith}
use Rattle.std.proofs.lemmas.Bool.Decides.{Decides-and}
use Rattle.std.proofs.lemmas.List.{set_at, take_more}
use Rattle.std.proofs.Math.Seq.{drop-cons}
use Rattle.std.specs.Result.{result_eq}
use Rattle.ledger.specs.declared.Rejected.{Rejected}
use Rattle.ledger.specs.declared.transfers.Transfer.{Transfer}
use Rattle.ledger.specs.declared.transfers.Transfer.TheVariants.{Charge}
use Rattle.ledger.specs.Funds.{Decision, Funds}
use Rattle.ledger.specs.Transfers.{decides, after, decisions, funds_after}

-- two lists, one after the other
funds_after-append : (f : Funds) (xs ys : List Transfer) → funds_after f (xs ++ ys) ≡ funds_after (funds_after f xs) ys
unfolding funds_after
funds_after-append f [] ys = refl
funds_after-append f (x ∷ xs) ys = funds_after-append (after f x (decides f x)) xs ys

decisions-append : (f : Funds) (xs ys : List Transfer) → decisions f (xs ++ ys) ≡ decisions f xs ++ decisions (funds_after f xs) ys
unfolding decisions funds_after
decisions-append f [] ys = refl
decisions-append f (x ∷ xs) ys = ap (λ ds. decides f x ∷ ds) (decisions-append (after f x (decides f x)) xs ys)

pub length-decisions : (f : Funds) (ts : List Transfer) → length (decisions f ts) ≡ length ts
unfolding decisions
length-decisions f [] = refl
length-decisions f (t ∷ ts) = ap suc (length-decisions (after f t (decides f t)) ts)

-- one more transfer, made on the funds after those so far
module _ (f g g' : Funds) (ts : List Transfer) (i : ℕ) (d : Decision) (within : i < length ts) (made : g ≡ funds_after f (take i ts)) (answer : d ≡ decides g (get_or ts i (Charge 0 0))) where
  pub funds_more : g' ≡ after g (get_or ts i (Charge 0 0)) d → g' ≡ funds_after f (take (i + 1) ts)
  unfolding funds_after
  funds_more moved =
      let t = get_or ts i (Charge 0 0) in
      moved ∙ ap (after g t) answer ∙ ap (λ x. after x t (decides x t)) made ∙ sym (ap (funds_after f) (take_more ts i (Charge 0 0) within) ∙ funds_after-append f (take i ts) (t ∷ []))

  pub decisions-more : decisions f (take (i + 1) ts) ≡ decisions f (take i ts) ++ d ∷ []
  unfolding decisions
  decisions-more =
      let t = get_or ts i (Charge 0 0) in
      ap (decisions f) (take_more ts i (Charge 0 0) within) ∙ decisions-append f (take i ts) (t ∷ []) ∙ ap (λ x. decisions f (take i ts) ++ x ∷ []) (sym (answer ∙ ap (λ x. decides x t) made))

-- one more answer written behind those that were decided
pub answers_more : (ds old : List Decision) (i : ℕ) (d : Decision) → length ds ≡ i → i < length old → set (ds ++ drop i old) i d ≡ (ds ++ d ∷ []) ++ drop (i + 1) old
answers_more ds old i d long h =
    ap (λ rest. set (ds ++ rest) i d) (drop-cons old i d h)
    ∙ set_at ds (get_or old i d) (drop (suc i) old) d i long
    ∙ sym (append_assoc ds (d ∷ []) (drop (suc i) old))
    ∙ ap (λ k. (ds ++ d ∷ []) ++ drop k old) (sym (add-one i))

-- two lists of answers are alike with one more where they were, and the two more are
last_same : (xs ys : List Decision) (d e : Decision) → length xs ≡ length ys → xs ++ d ∷ [] ≡ ys ++ e ∷ [] → (xs ≡ ys) × (d ≡ e)
last_same [] [] d e long p = (refl, cc)
last_same [] (y ∷ ys) d e long p = absurd (omega arith)
last_same (x ∷ xs) [] d e long p = absurd (omega arith)
last_same (x ∷ xs) (y ∷ ys) d e long p = let rest : xs ++ d ∷ [] ≡ ys ++ e ∷ [] = cc in let q = last_same xs ys d e (omega arith) rest in let r = q.0 in (cc, q.1)

pub alike_more : (a b : Bool) (xs ys : List Decision) (d e : Decision) → length xs ≡ length ys → Decides a (xs ≡ ys) → Decides b (d ≡ e) → Decides (a && b) (xs ++ d ∷ [] ≡ ys ++ e ∷ [])
alike_more a b xs ys d e long so-far here =
    let both = Decides-and a b so-far here in (
      (λ t. let p = both.0 t in let q = p.0 in let r = p.1 in cc),
      (λ p. both.1 (last_same xs ys d e long p)),
    )

-- `==` tells whether two answers are the same
pub answers_equal : (E : Unit {0} → Unit {0} → Bool) (F : Rejected → Rejected → Bool) → E tt tt ≡ true → F (record {}) (record {}) ≡ true → (d e : Decision) → Decides (result_eq E F d e) (d ≡ e)
answers_equal E F p q (Ok u) (Ok v) = ((λ t. refl), (λ t. p))
answers_equal E F p q (Ok u) (Err y) = ((λ t. cc), (λ t. cc))
answers_equal E F p q (Err x) (Ok v) = ((λ t. cc), (λ t. cc))
answers_equal E F p q (Err x) (Err y) = ((λ t. refl), (λ t. q))
