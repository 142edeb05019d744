-- Refusals of a document, with their numbers and reasons; and how a function of the code agrees with their definitions.
use Rattle.std.specs.Prelude.{ℕ, ◌==◌, List, [], ◌∷◌, Option, Some, None, Result, codes, find}
use Rattle.setup_model.specs.declared.error.LoadError.{LoadError}
use Rattle.setup_model.specs.declared.error.LoadError.TheVariants as errors
use Rattle.setup_model.specs.declared.place.Place.{Place}
use Rattle.setup_model.specs.Agreement as agreement

-- ---- numbers, reasons and places

pub record ErrorRow : Type 0 where
  pub number : ℕ
  pub reason : List ℕ
  pub place : Option Place

abbrev pub row : ℕ → List ℕ → Option Place → ErrorRow
row number reason place = record { number = number; reason = reason; place = place }

-- the table of refusals: the number in C, the reason in the line, and the place of the fault if there is one
abbrev pub error_row : LoadError → ErrorRow
error_row errors.TooLong = row 212 (codes "L12 TooLong") None
error_row errors.NotJson = row 201 (codes "L1 NotJson") None
error_row (errors.Shape p) = row 202 (codes "L2 Shape") (Some p)
error_row errors.TooMany = row 203 (codes "L3 TooMany") None
error_row (errors.BadName p) = row 204 (codes "L4 BadName") (Some p)
error_row (errors.Duplicate p) = row 205 (codes "L5 Duplicate") (Some p)
error_row (errors.UnknownHost p) = row 206 (codes "L6 UnknownHost") (Some p)
error_row (errors.UnknownMaster p) = row 207 (codes "L7 UnknownMaster") (Some p)
error_row (errors.Range p) = row 208 (codes "L8 Range") (Some p)
error_row errors.DependencyCycle = row 209 (codes "L9 DependencyCycle") None
error_row errors.ParentCycle = row 210 (codes "L10 ParentCycle") None
error_row errors.Memory = row 900 (codes "L11 Memory") None

abbrev pub error_number : LoadError → ℕ
error_number e = (error_row e).number

abbrev pub error_reason : LoadError → List ℕ
error_reason e = (error_row e).reason

abbrev pub place_of : LoadError → Option Place
place_of e = (error_row e).place

-- each refusal but out of memory, at this place if it has one
abbrev pub errors_at : Place → List LoadError
errors_at p =
    errors.TooLong ∷ errors.NotJson ∷ errors.Shape p ∷ errors.TooMany ∷ errors.BadName p ∷ errors.Duplicate p ∷ errors.UnknownHost p
    ∷ errors.UnknownMaster p ∷ errors.Range p ∷ errors.DependencyCycle ∷ errors.ParentCycle ∷ []

-- the refusal of this number, at this place if it has one
abbrev pub numbered_error : ℕ → Place → Option LoadError
numbered_error number p = find (λ e. error_number e == number) (errors_at p)

-- ---- agreement

-- the refusal that an error of the code is; None if the code is out of memory
abbrev pub refusal : LoadError → Option LoadError
refusal errors.Memory = None
refusal e = Some e

-- the result of the code, seen by view, is the defined one, unless memory ran out
abbrev pub IsExpectedResult : {X Y : Type 0} → (X → Y) → Result X LoadError → Result Y LoadError → Type 0
IsExpectedResult view result expected = agreement.IsExpectedResult refusal view result expected
