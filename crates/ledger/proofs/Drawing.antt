-- The funds of a line book after something was drawn on a member's line, or paid back.
use Rattle.std.proofs.Common.{◌≡◌, ◌+◌, ◌-◌, ◌<◌, ◌≤◌, ℕ, List, map, length, get_or, set, pos, neg_ℤ, refl, sym, ap, ◌∙◌, subst, arith}
use Rattle.std.proofs.lemmas.List.{get_or-map}
use Rattle.ledger.specs.declared.line.Line.{Line}
use Rattle.ledger.specs.Lines.{left, DrawnBy}
use Rattle.ledger.specs.Drawn.{drawn_left, repaid_left, funds_put}

-- the member's place comes as a number that is the member's
module _ (ls : List Line) (i m a : ℕ) (d l : Line) (wide : length ls ≡ 32) (same : i ≡ m) (h : m < 32) where
  here : get_or (map left ls) m 0 ≡ left (get_or ls i d)
  here = rw same (get_or-map left ls m d 0 (omega arith))

  put : (x : ℕ) → left l ≡ x → map left (set ls i l) ≡ set (map left ls) m x
  put x e = rw same (funds_put ls (set ls m l) m l x refl e)

  pub drawn_funds : a ≤ get_or (map left ls) m 0 → DrawnBy (get_or ls i d) (pos a) l → map left (set ls i l) ≡ set (map left ls) m (get_or (map left ls) m 0 - a)
  drawn_funds covered by = put _ (drawn_left (get_or ls i d) l a (subst (λ x. a ≤ x) here covered) by ∙ ap (λ x. x - a) (sym here))

  pub repaid_funds : DrawnBy (get_or ls i d) (neg_ℤ (pos a)) l → map left (set ls i l) ≡ set (map left ls) m (get_or (map left ls) m 0 + a)
  repaid_funds by = put _ (repaid_left (get_or ls i d) l a by ∙ ap (λ x. x + a) (sym here))
