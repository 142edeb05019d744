-- The laws of `laws.rt` as lemmas, for the proofs of crates above; above each line stands the law whose clauses they are.

-- board_shows_standings: bounded, read, read_from, state, words, words_from
pub use Rattle.check_book.proofs.BoardLaws.{few_words, opened_read, opened_words, state_read, state_words}
pub use Rattle.check_book.proofs.GenerationLaws.{book_is_state}
-- histories: books
pub use Rattle.check_book.proofs.HistoryLaws.{book_is_legal}
-- replies: report, take
pub use Rattle.check_book.proofs.ReplyLaws.{report_reply, take_reply}
-- generations: book, book_state, legal, setup, state
pub use Rattle.check_book.proofs.GenerationLaws.{joined_book, joined_book_state, joined_legal, joined_setup, joined_state}
