-- The bytes that a reader has left and those that a writer holds, before a job and after it; the input of the job, and its outcome.
use Rattle.std.specs.Prelude.{ℕ, ◌≡◌, List, Option, Result, Ok, Err, IfSome, take}
use Rattle.std.specs.Io.KnownBytes.{Consumes}
use Rattle.nagsched_protocol.specs.declared.input.TheConstants.{MAX_READ_BYTES}
use Rattle.nagsched_protocol.specs.declared.outcome.Outcome.{Outcome}
use Rattle.nagsched_protocol.specs.declared.outcome.Outcome.TheVariants as outcome
use Rattle.nagsched_protocol.specs.declared.refusal.InputRefusal.{InputRefusal}

-- None marks a field that isn't known
pub record Streams : Type 0 where
  -- the bytes that the reader has left, before and after
  pub had : Option (List ℕ)
  pub left : Option (List ℕ)
  -- the bytes that the writer holds, before and after
  pub held : Option (List ℕ)
  pub holds : Option (List ℕ)

-- those of a reader, before and after, and of a writer, before and after
abbrev pub streams : Option (List ℕ) → Option (List ℕ) → Option (List ℕ) → Option (List ℕ) → Streams
streams had left held holds = record { had = had; left = left; held = held; holds = holds }

-- The whole input was read, or one byte more than an input may have.
abbrev pub HasRead : Option (List ℕ) → Option (List ℕ) → List ℕ → Type 0
HasRead had left input = Consumes had left (take MAX_READ_BYTES input)

-- An input of a reader. If it is known what the reader had, the input is that.
abbrev pub IsInput : Option (List ℕ) → List ℕ → Type 0
IsInput had input = IfSome had (λ bytes. input ≡ bytes)

-- the outcome of a reading: a run, or a refusal
abbrev pub outcome_by : {A : Type 0} → Result A InputRefusal → Outcome
outcome_by (Ok x) = outcome.Ran
outcome_by (Err r) = outcome.Refused
