use Rattle.book_recorder.proofs.Books.{are_theory}
use Rattle.book_recorder.proofs.books_are_theory.Goals as goal

pub returns : goal.returns
returns c = λ pages. are_theory pages
