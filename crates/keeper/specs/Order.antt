-- A total order, and a list in order.
use Rattle.std.specs.Prelude.{◌≡◌, ℕ, Bool, true, false, cond, List, [], ◌∷◌, take, fold}

-- a test of whether the first of two comes before the second
abbrev pub Test : Type 0 → Type 0
Test T = T → T → Bool

-- neither comes before the other: the two are equal in the order
abbrev pub Equal : {T : Type 0} → Test T → T → T → Type 0
Equal before x y = (before x y ≡ false) × (before y x ≡ false)

-- of two entries one comes first, and then the other does not, or they are equal; both carry through a third
pub record TotalOrder {T : Type 0} (before : Test T) : Type 0 where
  pub one-first : (x y : T) → before x y ≡ true → before y x ≡ false
  pub carries : (x y z : T) → before x y ≡ true → before y z ≡ true → before x z ≡ true
  pub equal-carries : (x y z : T) → Equal before x y → Equal before y z → Equal before x z

-- one more in its place: after all that come before it or are equal
abbrev pub insert : {T : Type 0} → Test T → T → List T → List T
insert before e [] = e ∷ []
insert before e (x ∷ xs) = cond (before e x) (e ∷ x ∷ xs) (x ∷ insert before e xs)

-- all of them in order; equal ones stay in the order in which they came
abbrev pub ordered : {T : Type 0} → Test T → List T → List T
ordered before items = fold (λ held e. insert before e held) [] items

-- the first k in order
abbrev pub first_of : {T : Type 0} → Test T → ℕ → List T → List T
first_of before k items = take k (ordered before items)
