-- What the book promises, whatever calls it has had.
use Rattle.std.specs.Prelude.{◌≡◌, ℕ, ◌<◌, ◌≤◌, false, List, [], ◌∷◌, ◌++◌, length, ℤ, pos, Ok, Err, Result, ◌≢◌, slice_index_or}
use Rattle.refusal.specs.declared.Refusal.{Refusal}
use Rattle.book.specs.declared.book.Book.{Book}
use Rattle.book.specs.declared.calls.Offer.{Offer}
use Rattle.book.specs.declared.words.Request.{Request}
use Rattle.book.specs.declared.words.Reply.{Reply}
use Rattle.swaps.specs.declared.state.State.{State}
use Rattle.swaps.specs.declared.swap.Swap.{Swap}
use Rattle.swaps.specs.Swaps.{blank, Each, Fair}
use Rattle.book.specs.Reading.{Reading, reading}
use Rattle.book.specs.Calls.{offered, asked, replied, after, taken, changed, with_state}

-- live numbers rise strictly, and none is above the last one given
pub record Numbered (b : Reading) : Type 0 where
  pub rise : (i j : ℕ) → i < j → j < length b.swaps → (slice_index_or b.swaps i blank).number < (slice_index_or b.swaps j blank).number
  pub issued : (k : ℕ) → k < length b.swaps → (slice_index_or b.swaps k blank).number ≤ b.given

-- any call that does not open the book anew
pub data Call : Type 0 where
  accept : Offer → Call
  ask : Request → Call
  answer : Reply → Call

abbrev pub book_after : Reading → Call → Reading
book_after b (accept o) = after (offered b o) b (taken b)
book_after b (ask r) = after (asked b r) b (changed b)
book_after b (answer r) = after (replied b r) b (changed b)

-- the number that a granted acceptance gives
abbrev pub number_in : Result Swap Refusal → List ℕ
number_in (Ok s) = s.number ∷ []
number_in (Err e) = []

abbrev pub number_of : Reading → Call → List ℕ
number_of b (accept o) = number_in (offered b o)
number_of b (ask r) = []
number_of b (answer r) = []

-- the numbers that a list of calls gives, each call on what the one before left
abbrev pub numbers_of : Reading → List Call → List ℕ
numbers_of b [] = []
numbers_of b (c ∷ cs) = number_of b c ++ numbers_of (book_after b c) cs

-- each is above all before it
abbrev pub RisesFrom : ℕ → List ℕ → Type 0
RisesFrom low [] = Unit {0}
RisesFrom low (n ∷ ns) = (low < n) × RisesFrom n ns

-- a call on the swap of that number changes its state, and no other swap and nothing else in the book
pub record OneChanged (b : Reading) (number : ℤ) (q : ℕ × State) : Type 0 where
  pub that : pos (slice_index_or b.swaps q.0 blank).number ≡ number
  pub its_state : slice_index_or (changed b q).swaps q.0 blank ≡ with_state (slice_index_or b.swaps q.0 blank) q.1
  pub others : (k : ℕ) → (k ≢ q.0) → slice_index_or (changed b q).swaps k blank ≡ slice_index_or b.swaps k blank
  pub as_many : length (changed b q).swaps ≡ length b.swaps
  pub members : (changed b q).members ≡ b.members
  pub accounts : (changed b q).accounts ≡ b.accounts
  pub closed : (changed b q).closed ≡ b.closed
  pub given : (changed b q).given ≡ b.given

pub record BookLaws : Type 0 where
  pub numbered : (b : Book) → Numbered (reading b)
  -- every live swap has two different accounts of the house, and figures within their limits
  pub fair : (b : Book) → Each (Fair (length (reading b).accounts) (reading b).closed) (reading b).swaps
  -- a number once given is never given again
  pub never_again : (b : Reading) (cs : List Call) → RisesFrom b.given (numbers_of b cs)
  -- after an ask and a no, the book is what it was before the ask
  pub ask_then_no : (b : Reading) (r : Request) (p : Reply) (q z : ℕ × State) → asked b r ≡ Ok q → p.number ≡ r.number → p.agrees ≡ false → replied (changed b q) p ≡ Ok z → changed (changed b q) z ≡ b
  pub ask_one : (b : Reading) (r : Request) (q : ℕ × State) → asked b r ≡ Ok q → OneChanged b r.number q
  pub answer_one : (b : Reading) (r : Reply) (q : ℕ × State) → replied b r ≡ Ok q → OneChanged b r.number q
