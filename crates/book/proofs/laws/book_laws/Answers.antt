use Rattle.book.proofs.Lawful.{numbered, never_again, ask_one, answer_one}
use Rattle.book.proofs.Restored.{ask_then_no}
use Rattle.book.proofs.laws.book_laws.Goals as goal

pub returns : goal.returns
returns c = record {
  numbered = numbered;
  fair = λ b k l. (b.between k l, b.limited k l, b.due k l);
  never_again = never_again;
  ask_then_no = ask_then_no;
  ask_one = ask_one;
  answer_one = answer_one;
}
