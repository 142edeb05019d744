-- What the program's words ask for.
use Rattle.std.proofs.Common.{rules, ◌≡◌, ◌∙◌, ℕ, ◌^◌, ◌<◌, ◌≤◌, Bool, true, false, List, refl, sym, ap, subst}
use Rattle.std.proofs.Common.{None, Some, Ok, Err, IfOk, IfErr, Option, inl, inr}
use Rattle.std.specs.Prelude.{if◌then◌else◌, Result, ◌⊎◌}
use Rattle.std.specs.Str.Parse.{IsNumeral, digits_value, without_leading_plus}
use Rattle.clap.specs.ValueTests.{is_unsigned_in}
use Rattle.clap.specs.Words.{IsAmong, Text, fault_of}
use Rattle.clap.specs.declared.builder.value_parser.ValueParser.TheVariants as vp
use Rattle.clap.specs.declared.error.kind.ErrorKind.{ErrorKind}
use Rattle.clap.specs.declared.error.kind.ErrorKind.TheVariants as kind
use Rattle.clap.proofs.ValueTestLemmas.{accepts-Accepts, Accepts-accepts}
use Rattle.nagsched_cli.specs.Arguments.{number_between, requested_job, program, Explains, IsExpectedJob, IsErrorFor}
use Rattle.nagsched_cli.specs.declared.arguments.Job.{Job}
use Rattle.nagsched_cli.specs.declared.arguments.WordsError.{WordsError}
use Rattle.nagsched_cli.specs.declared.arguments.WordsError.TheVariants as error

-- a text that std reads as a number within the limits
pub number_some : (least most : ℕ) (text : Text) (n : ℕ)
    → IsNumeral 10 (without_leading_plus text) × (digits_value 10 (without_leading_plus text) < 2 ^ 64)
    → n ≡ digits_value 10 (without_leading_plus text) → least ≤ n → n ≤ most → Some n ≡ number_between least most text
number_some least most text n h e above below =
    rw (Accepts-accepts false (vp.Unsigned least most) text (h.0, h.1, rw (← e) above, rw (← e) below)) (ap Some e)

none_by : (b : Bool) (n : ℕ) → (b ≡ true → ⊥) → None ≡ (if b then Some n else None)
none_by true n h = absurd (h refl)
none_by false n h = refl

-- a text that std doesn't read
pub number_none : (least most : ℕ) (text : Text)
    → (IsNumeral 10 (without_leading_plus text) × (digits_value 10 (without_leading_plus text) < 2 ^ 64) → ⊥)
    → None ≡ number_between least most text
number_none least most text h =
    none_by (is_unsigned_in least most text) _ (λ e. let a = accepts-Accepts false (vp.Unsigned least most) text e in h (a.0, a.1))

-- ---- what a reading says

pub reads_asked : (r : Result Job WordsError) (e f : Option Job) → e ≡ f → IsExpectedJob r e → IfOk r (λ job. f ≡ Some job)
reads_asked (Ok job) e f same h = sym same ∙ h
reads_asked (Err w) e f same h = tt

pub reads_errors : (words : List Text) (r : Result Job WordsError) (e : Option Job) → e ≡ requested_job words → IsExpectedJob r e → IfErr r (Explains words)
reads_errors words (Ok job) e same h = tt
reads_errors words (Err (error.Help text)) e same h = absurd h
reads_errors words (Err error.Refused) e same h = inr (sym same ∙ h)
reads_errors words (Err error.Memory) e same h = absurd h

-- an error of `clap` that is among the kinds of the words' faults
pub error_explains : (words : List Text) (k : ErrorKind) (e : WordsError)
    → (k ≡ kind.OutOfMemory) ⊎ IsAmong k (fault_of program words) → IsErrorFor k e → Explains words e
error_explains words k (error.Help text) (inl h) (inl t) = let bad : kind.DisplayHelp ≡ kind.OutOfMemory = sym t ∙ h in absurd (search (rules, bad))
error_explains words k (error.Help text) (inl h) (inr t) =
    let bad : kind.DisplayVersion ≡ kind.OutOfMemory = sym t.0 ∙ h in absurd (search (rules, bad))
error_explains words k (error.Help text) (inr h) (inl t) = inl (subst (λ (q : ErrorKind). IsAmong q (fault_of program words)) t h)
error_explains words k (error.Help text) (inr h) (inr t) =
    inr (subst (λ (q : ErrorKind). IsAmong q (fault_of program words)) t.0 h, t.1)
error_explains words k error.Refused (inl h) t = absurd (t.1 h)
error_explains words k error.Refused (inr h) t = inl (k, t.0, h)
error_explains words k error.Memory h t = tt
