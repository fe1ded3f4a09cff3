use Rattle.book_recorder.proofs.Books.{booted_are_term_books, later_are_term_books, revived_are_term_books}
use Rattle.book_recorder.proofs.term_books.Goals as goal

pub returns-clause-booted : goal.returns-clause-booted
returns-clause-booted c = booted_are_term_books

pub returns-clause-later : goal.returns-clause-later
returns-clause-later c = later_are_term_books

pub returns-clause-revived : goal.returns-clause-revived
returns-clause-revived c = revived_are_term_books
