-- The laws of `laws.rt` as lemmas, for the proofs of crates above; above each line stands the law whose clauses they are.

-- runs_once: numbers, once
pub use Rattle.check_sched.proofs.RunLaws.{taken_next, taken_once}
-- standings_are_lawful
pub use Rattle.check_sched.proofs.StandingLaws.{opened_standing}
-- runs_from_any_state: out, numbers
pub use Rattle.check_sched.proofs.RunLaws.{taken_after, taken_number}
-- opening_states
pub use Rattle.check_sched.proofs.NewObjectLaws.{opening_can_be}
-- resumed_states: saved
pub use Rattle.check_sched.proofs.SaveLaws.{saved_of_state}
