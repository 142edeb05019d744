-- What a check of a setup and a saved state prints by a prefix of its input that was read.
use Rattle.std.proofs.Common.{◌≡◌, ℕ, ◌<◌, List, length, take, Option, None, Ok, Err, refl, subst}
use Rattle.std.specs.Prelude.{IfSome}
use Rattle.nagsched_protocol.specs.declared.input.TheConstants.{MAX_READ_BYTES}
use Rattle.nagsched_protocol.specs.declared.script.TheConstants.{MAX_INPUT_BYTES}
use Rattle.nagsched_protocol.specs.declared.outcome.Outcome.{Outcome}
use Rattle.nagsched_protocol.proofs.ReadLemmas.{input_of, input_of-says, is_too_long, read_part_agrees}
use Rattle.setup_model.specs.declared.error.LoadError.{LoadError}
use Rattle.check_objects.specs.Configuration.{Configuration}
use Rattle.check_objects.specs.Setup.{setup_of}
use Rattle.nagsched_jobs.specs.Check.{IsRefusalReport}
use Rattle.nagsched_jobs.specs.CheckResumed.{IsSetupAndSavedReport, IsTwoLinesReport, IsResumedReport, IsSavedTextReport, two_lines_of}

two_long : (bytes : List ℕ) → MAX_INPUT_BYTES < length bytes → two_lines_of bytes ≡ None
two_long bytes h = rw (is_too_long bytes h) refl

-- what was printed of what was read is what is printed of the input
pub resumed_report_of : (start : Option ℕ) (had : Option (List ℕ)) (read text : List ℕ) (report : Outcome)
    → IfSome had (λ bytes. read ≡ take MAX_READ_BYTES bytes) → IsResumedReport start read text report → IsResumedReport start (input_of had read) text report
resumed_report_of start had read text report all h =
    subst (λ lines. IsTwoLinesReport start lines text report) (input_of-says two_lines_of (read_part_agrees two_lines_of None two_long) had read all) h

-- the report on a good setup, and on a refused one
pub both_good : (start : Option ℕ) (document text : List ℕ) (c : Configuration) (printed : List ℕ) (report : Outcome) → setup_of document ≡ Ok c
    → IsSavedTextReport start c text printed report → IsSetupAndSavedReport start document text printed report
both_good start document text c printed report good h = rw good h

pub both_refused : (start : Option ℕ) (document text printed : List ℕ) (report : Outcome)
    → (e : LoadError) × (setup_of document ≡ Err e) × IsRefusalReport document e printed report → IsSetupAndSavedReport start document text printed report
both_refused start document text printed report (e, is, h) = rw is h
