-- Lines of a conversation that are taken in parts.
use Rattle.std.proofs.Common.{◌≡◌, ℕ, ◌+◌, ◌<◌, ◌⊎◌, inl, inr, length, List, [], ◌++◌, Option, None, Some, ◌∙◌}
use Rattle.std.proofs.Common.{arith, refl, true, zero, suc}
use Rattle.std.specs.Prelude.{Result, Ok, Err, IfErr}
use Rattle.std.specs.Io.KnownBytes.{Consumes, Keeps}
use Rattle.nagsched_protocol.specs.declared.live_error.LiveError.{LiveError}
use Rattle.nagsched_protocol.specs.declared.live_error.LiveError.TheVariants as errors
use Rattle.nagsched_protocol.specs.declared.drive_error.DriveError.{DriveError}
use Rattle.nagsched_protocol.specs.LiveError.{IsLineReadingError, IsInputError, IsWriteResult}
use Rattle.nagsched_protocol.specs.LiveInput.{LinePrefix, prefix_of, has_feed}
use Rattle.nagsched_protocol.proofs.LiveInputLemmas.{Begun, Taking, never_asked, takes_first, takes_more}
use Rattle.nagsched_protocol.proofs.WrittenLemmas.{Keeps-same}

pub Keeps-then : (held mid holds : Option (List ℕ)) → Keeps held mid → Keeps mid holds → Keeps held holds
Keeps-then None mid holds h k = tt
Keeps-then (Some a) None holds h k = absurd h
Keeps-then (Some a) (Some b) None h k = absurd k
Keeps-then (Some a) (Some b) (Some c) h k = k ∙ h

-- A line of a conversation that is being read, and the text that the writer holds. If the buffer had a line feed at first, nothing was read.
pub record TakingAndWriting (most : ℕ) (buffered : List ℕ) (had left held holds : Option (List ℕ)) (line : LinePrefix) (rest : List ℕ)
    (reads : ℕ) : Type 0 where
  pub taking : Taking most buffered had left line rest reads
  pub written : Keeps held holds
  pub unread : has_feed buffered ≡ true → reads ≡ 0

-- nothing was taken yet
pub writes_first : (most : ℕ) (buffered : List ℕ) (had held : Option (List ℕ)) (line : LinePrefix) → line ≡ prefix_of most []
    → TakingAndWriting most buffered had had held held line buffered 0
writes_first most buffered had held line kept = record { taking = takes_first most buffered had line kept; written = Keeps-same held; unread = λ feed. refl }

-- no reads are spent if the buffer had a line feed
pub never_spent : {P : Type 0} {most reads : ℕ} {buffered rest : List ℕ} {had left held holds : Option (List ℕ)} {line : LinePrefix}
    (s : TakingAndWriting most buffered had left held holds line rest reads) → 0 < reads → has_feed buffered ≡ true → P
never_spent s asked feed = let none = s.unread feed in let clash : zero ≡ suc zero = omega (arith, none, asked) in cc

-- the reader gave some
pub writes_more : {most reads : ℕ} {buffered rest : List ℕ} {had mid held wrote : Option (List ℕ)} {line : LinePrefix}
    (s : TakingAndWriting most buffered had mid held wrote line rest reads) (behind : List ℕ) (new : LinePrefix) (left holds : Option (List ℕ))
    (part now : List ℕ)
    → Begun most (buffered ++ s.taking.bytes_read) new behind → Consumes mid left part → Keeps wrote holds → now ≡ part → 0 < length now
    → TakingAndWriting most buffered had left held holds new now (reads + 1)
writes_more {most} {reads} {buffered} {rest} {had} {mid} {held} {wrote} s behind new left holds part now begun read keeps same some = record {
  taking = takes_more s.taking behind new left part now begun read same some;
  written = Keeps-then held wrote holds s.written keeps;
  unread = never_asked most buffered s.taking.bytes_read behind new begun;
}

-- ---- errors

-- no read is spent if a device failed, or if there was no memory
pub after_ask : (bytes_read : List ℕ) (e : LiveError) → IsInputError e ⊎ (e ≡ errors.Writer) → IsLineReadingError bytes_read e
after_ask bytes_read (errors.Reader fault) h = tt
after_ask bytes_read errors.Memory h = tt
after_ask bytes_read errors.Writer h = tt
after_ask bytes_read errors.LinesSpent (inl h) = absurd h
after_ask bytes_read errors.LinesSpent (inr h) = cc
after_ask bytes_read errors.ReadsSpent (inl h) = absurd h
after_ask bytes_read errors.ReadsSpent (inr h) = cc

pub written_asked : {T : Type 0} (e : LiveError) (written : Result T DriveError) → IsWriteResult (Err e) written → IsInputError e ⊎ (e ≡ errors.Writer)
written_asked e written (same, inl writer) = inr writer
written_asked e written (same, inr memory) = inl (rw memory tt)

pub read_asked : {T : Type 0} (r : Result T LiveError) → IfErr r IsInputError → IfErr r (λ e. IsInputError e ⊎ (e ≡ errors.Writer))
read_asked (Ok x) h = tt
read_asked (Err e) h = inl h
