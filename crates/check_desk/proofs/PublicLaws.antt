-- The laws of `laws.rt` as lemmas, for the proofs of crates above; above each line stands the law whose clauses they are.

-- every_pass: bounded, bounded_calls, legal, nonempty
pub use Rattle.check_desk.proofs.PassLemmas.{bounded_calls, bounded_numbers, seen_history, nonempty_numbers}
