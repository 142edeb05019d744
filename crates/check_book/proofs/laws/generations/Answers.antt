use Rattle.check_book.proofs.GenerationLaws.{joined_book, joined_book_state, joined_legal, joined_setup, joined_state, resumed_book, resumed_book_state}
use Rattle.check_book.proofs.laws.generations.Goals as goal

pub returns-clause-legal : goal.returns-clause-legal
returns-clause-legal c = λ opened earlier later legal goes_on. joined_legal opened earlier later legal goes_on

pub returns-clause-state : goal.returns-clause-state
returns-clause-state c = λ opened earlier later. joined_state opened earlier later

pub returns-clause-book : goal.returns-clause-book
returns-clause-book c = λ opened room earlier later legal goes_on. joined_book opened room earlier later legal goes_on

pub returns-clause-book_state : goal.returns-clause-book_state
returns-clause-book_state c = λ opened room earlier later. joined_book_state opened room earlier later

pub returns-clause-setup : goal.returns-clause-setup
returns-clause-setup c = λ opened later. joined_setup opened later

pub returns-clause-resumed : goal.returns-clause-resumed
returns-clause-resumed c = λ opened start room earlier later is legal goes_on. resumed_book opened start room earlier later is legal goes_on

pub returns-clause-resumed_state : goal.returns-clause-resumed_state
returns-clause-resumed_state c = λ opened start room earlier later is. resumed_book_state opened start room earlier later is
