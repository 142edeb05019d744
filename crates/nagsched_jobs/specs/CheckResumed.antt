-- The text that a check prints for a setup and a saved state.
use Rattle.std.specs.Prelude.{ℕ, ◌≡◌, List, [], ◌∷◌, ◌++◌, codes, length, nat_lt, unwrap_or, Option, Some, None, Result, Ok, Err, if◌then◌else◌}
use Rattle.std.specs.Result.{result_ok}
use Rattle.setup_summary.specs.ChangeText.{changes_text}
use Rattle.setup_diagnostics.specs.Explanation.{tree_or_null}
use Rattle.setup_diagnostics.specs.Feeds.{HasNoLineFeed}
use Rattle.setup_diagnostics.specs.SavedExplanation.{IsSavedExplanation}
use Rattle.serde_json.specs.Data.{Data}
use Rattle.check_objects.specs.Configuration.{Configuration}
use Rattle.check_objects.specs.Setup.{setup_of}
use Rattle.check_saved_state.specs.Saved.{Saved}
use Rattle.check_saved_state.specs.Text.{saved_of_text, saved_tree_of}
use Rattle.check_saved_state.specs.declared.fault.SavedFault.{SavedFault}
use Rattle.nagsched_protocol.specs.declared.refusal.InputRefusal.TheVariants as refusal
use Rattle.nagsched_protocol.specs.declared.refusal.LineFault.TheVariants as line_fault
use Rattle.nagsched_protocol.specs.declared.script.TheConstants.{MAX_INPUT_BYTES}
use Rattle.nagsched_protocol.specs.Input.{first_line_of}
use Rattle.nagsched_protocol.specs.LiveInput.{rest_after_line}
use Rattle.setup_summary.specs.Summary.{summary_of}
use Rattle.setup_summary.specs.SummaryText.{summary_text}
use Rattle.nagsched_protocol.specs.Text.{refusal_line}
use Rattle.nagsched_protocol.specs.declared.outcome.Outcome.{Outcome}
use Rattle.nagsched_protocol.specs.declared.outcome.Outcome.TheVariants as outcome
use Rattle.nagsched_jobs.specs.Check.{IsReportBy}

-- The text for a good setup and a saved state with this tree. For a good saved state it is the figures of the setup, and what becomes of the objects.
-- The first checks in the figures are those of a scheduler that starts at this moment, or at the saved start. For a refused saved state it is the line
-- of a run, and one line more, which explains the fault over the tree; null where there is none.
abbrev pub IsSavedReport : Option ℕ → Configuration → Data → Result Saved SavedFault → List ℕ → Outcome → Type 0
IsSavedReport start c tree (Ok saved) text ended =
    (text ≡ summary_text (summary_of c (unwrap_or start saved.start)) ++ changes_text c saved) × (ended ≡ outcome.Ran)
IsSavedReport start c tree (Err e) text ended =
    ((words : List ℕ) × HasNoLineFeed words × IsSavedExplanation tree e words × (text ≡ refusal_line (refusal.Saved e) ++ (words ++ 10 ∷ [])))
    × (ended ≡ outcome.Refused)

-- the same for a saved state with this text
abbrev pub IsSavedTextReport : Option ℕ → Configuration → List ℕ → List ℕ → Outcome → Type 0
IsSavedTextReport start c text = IsSavedReport start c (tree_or_null (result_ok (saved_tree_of text))) (saved_of_text text)

-- the text for a setup document and the text of a saved state: the setup is tested first
abbrev pub IsSetupAndSavedReport : Option ℕ → List ℕ → List ℕ → List ℕ → Outcome → Type 0
IsSetupAndSavedReport start document text = IsReportBy (λ c. IsSavedTextReport start c text) document (setup_of document)

-- Line 1 is the setup document, and line 2 the text of the saved state, if the input isn't longer than that of a run may be. A missing line counts as
-- an empty one. A check ignores the bytes after the two lines.
abbrev pub two_lines_of : List ℕ → Option (List ℕ × List ℕ)
two_lines_of input =
    if nat_lt MAX_INPUT_BYTES (length input) then None else Some (first_line_of input, first_line_of (rest_after_line input))

-- the text for a longer input
abbrev pub IsLengthReport : List ℕ → Outcome → Type 0
IsLengthReport text ended =
    (text ≡ refusal_line (refusal.Line line_fault.TooLong 0) ++ codes "the input has more than 67108864 bytes\n") × (ended ≡ outcome.Refused)

abbrev pub IsTwoLinesReport : Option ℕ → Option (List ℕ × List ℕ) → List ℕ → Outcome → Type 0
IsTwoLinesReport start None = IsLengthReport
IsTwoLinesReport start (Some (document, text)) = IsSetupAndSavedReport start document text

-- the text for an input: its length is tested first
abbrev pub IsResumedReport : Option ℕ → List ℕ → List ℕ → Outcome → Type 0
IsResumedReport start input = IsTwoLinesReport start (two_lines_of input)
