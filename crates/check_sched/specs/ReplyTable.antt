-- The table of replies: of each kind its number, its word and its fields. The words, the JSON objects and the structs for C are made from it.
use Rattle.std.specs.Prelude.{ℕ, Bool, List, [], ◌∷◌, Option, Some, codes}
use Rattle.check_states.specs.declared.standing.Standing.{Standing}
use Rattle.check_sched.specs.declared.call.Reply.{Reply}
use Rattle.check_sched.specs.declared.call.Reply.TheVariants as reply
use Rattle.check_sched.specs.declared.call.Refusal.{Refusal}
use Rattle.check_sched.specs.declared.call.Refusal.TheVariants as refused

-- a field of a reply
pub data Field : Type 0 where
  -- the number of a run
  run : ℕ → Field
  -- the object with this number
  object : ℕ → Field
  -- the object that the call asked for
  asked_object : Field
  -- the time of a next check, if there is one
  next_check : Option ℕ → Field
  -- an object's standing, and whether its state differs from the one before
  standing : Standing → Bool → Field
  -- why a call was refused, by a code and a name
  reason : List ℕ → Field

-- a kind of reply, and its fields in the order in which they are written
pub record Row : Type 0 where
  pub number : ℕ
  pub word : List ℕ
  pub fields : List Field

abbrev pub row : ℕ → List ℕ → List Field → Row
row number word fields = record { number = number; word = word; fields = fields }

-- a refusal of a call: its number, and its code and its name with a space between them
pub record RefusalRow : Type 0 where
  pub number : ℕ
  pub reason : List ℕ

abbrev pub refusal_row : Refusal → RefusalRow
refusal_row refused.UnknownObject = record { number = 101; reason = codes "C1 UnknownObject" }
refusal_row refused.TimeRange = record { number = 102; reason = codes "C2 TimeRange" }
refusal_row refused.NotRunning = record { number = 103; reason = codes "C3 NotRunning" }
refusal_row refused.WrongRun = record { number = 104; reason = codes "C4 WrongRun" }
refusal_row refused.RunsSpent = record { number = 105; reason = codes "C5 RunsSpent" }

abbrev pub row_of : Reply → Row
row_of (reply.Taken i n) = row 0 (codes "taken") (run n ∷ object i ∷ [])
row_of (reply.PutOff i until) = row 1 (codes "putoff") (next_check until ∷ object i ∷ [])
row_of (reply.Idle next) = row 2 (codes "idle") (next_check next ∷ [])
row_of reply.AtLimit = row 3 (codes "atlimit") []
row_of (reply.Standing s changed next) = row 4 (codes "standing") (standing s changed ∷ next_check next ∷ asked_object ∷ [])
row_of (reply.Freed next) = row 5 (codes "freed") (next_check (Some next) ∷ asked_object ∷ [])
row_of reply.Done = row 6 (codes "done") (asked_object ∷ [])
row_of (reply.Refused why) = row (refusal_row why).number (codes "refused") (reason (refusal_row why).reason ∷ [])
