use Rattle.check_book.proofs.BoardLaws.{few_words, opened_read, opened_words, state_read, state_words}
use Rattle.check_book.proofs.GenerationLaws.{book_is_state}
use Rattle.check_book.proofs.laws.board_shows_standings.Goals as goal

pub returns-clause-words : goal.returns-clause-words
returns-clause-words c = λ setup start room history. opened_words setup start room history

pub returns-clause-read : goal.returns-clause-read
returns-clause-read c = λ setup start room history object valid there. opened_read setup start room history object valid there

pub returns-clause-bounded : goal.returns-clause-bounded
returns-clause-bounded c = λ book. few_words book

pub returns-clause-words_from : goal.returns-clause-words_from
returns-clause-words_from c = λ opened history is. state_words opened history is

pub returns-clause-read_from : goal.returns-clause-read_from
returns-clause-read_from c = λ opened history object is there. state_read opened history object is there

pub returns-clause-opened : goal.returns-clause-opened
returns-clause-opened c = λ book. book.opened

pub returns-clause-state : goal.returns-clause-state
returns-clause-state c = λ book. book_is_state book
