-- What a check of a setup from a reader to a writer leaves, fault or none.
use Rattle.std.specs.Prelude.{ℕ, ◌≡◌, ◌<◌, ◌≤◌, ◌⊎◌, List, ◌∷◌, [], ◌++◌, length, Option, Some, None, Result, Ok, Err}
use Rattle.std.specs.Io.KnownBytes.{Appends, Keeps}
use Rattle.serde_json.specs.Data.{Data}
use Rattle.serde_json.specs.Written.{compact_text}
use Rattle.setup_diagnostics.specs.Feeds.{HasNoLineFeed}
use Rattle.setup_reader.specs.JsonTree.{tree_of}
use Rattle.setup_model.specs.declared.error.LoadError.{LoadError}
use Rattle.check_objects.specs.Configuration.{Configuration}
use Rattle.setup_model.specs.Fault.{Fault, load_error, too_long}
use Rattle.check_objects.specs.Setup.{document_tree, setup_of, IsFaultOf}
use Rattle.nagsched_protocol.specs.declared.drive_error.DriveError.{DriveError}
use Rattle.nagsched_protocol.specs.declared.drive_error.DriveError.TheVariants as fault
use Rattle.nagsched_protocol.specs.declared.refusal.InputRefusal.TheVariants as refusal
use Rattle.setup_diagnostics.specs.Explanation.{tree_or_null, IsExplanation}
use Rattle.setup_summary.specs.Summary.{summary_of}
use Rattle.setup_summary.specs.SummaryText.{summary_text}
use Rattle.nagsched_protocol.specs.Output.{WroteFront}
use Rattle.nagsched_protocol.specs.Text.{refusal_line}
use Rattle.nagsched_protocol.specs.declared.outcome.Outcome.{Outcome}
use Rattle.nagsched_protocol.specs.declared.outcome.Outcome.TheVariants as outcome

-- ---- what is printed of a document

-- a good setup: its figures
abbrev pub IsSummaryReport : ℕ → Configuration → List ℕ → Outcome → Type 0
IsSummaryReport start c text ended = (text ≡ summary_text (summary_of c start)) × (ended ≡ outcome.Ran)

-- A refusal is reported by the line that a run on the document writes, and by one line more, which explains this fault over the document's tree; null
-- where there is none.
abbrev pub IsFaultReport : Data → Fault → List ℕ → Outcome → Type 0
IsFaultReport tree f text ended =
    ((words : List ℕ) × HasNoLineFeed words × IsExplanation tree f words × (text ≡ refusal_line (refusal.Setup (load_error f)) ++ (words ++ 10 ∷ [])))
    × (ended ≡ outcome.Refused)

-- the tree that was read, if one was
abbrev pub tree_in : Result Data Fault → Option Data
tree_in (Ok tree) = Some tree
tree_in (Err f) = None

-- A refused document: the report is its fault, which has this refusal.
pub record IsRefusalReport (document : List ℕ) (e : LoadError) (text : List ℕ) (ended : Outcome) : Type 0 where
  pub found : Fault
  pub is : IsFaultOf document found
  pub refused : load_error found ≡ e
  pub explained : IsFaultReport (tree_or_null (tree_in (document_tree document))) found text ended

-- a good document, its setup and its tree
abbrev pub IsGood : List ℕ → Configuration → Data → Type 0
IsGood document c tree = (document_tree document ≡ Ok tree) × (setup_of document ≡ Ok c)

-- of the document's tree
abbrev pub OfTree : List ℕ → (Data → Type 0) → Type 0
OfTree document P = (tree : Data) → tree_of document ≡ Some tree → P tree

-- A line is of a document where it is the compact text of the document's tree, and so is read to the same setup; it is no longer
-- than a setup may be.
pub record IsLineOf (document line : List ℕ) : Type 0 where
  pub same : setup_of line ≡ setup_of document
  pub compact : OfTree document (λ tree. line ≡ compact_text tree)
  pub fits : length line ≤ 16777216

-- a good one, on one line
abbrev pub IsDocumentLine : List ℕ → List ℕ → Outcome → Type 0
IsDocumentLine document text ended = ((line : List ℕ) × IsLineOf document line × (text ≡ line ++ 10 ∷ [])) × (ended ≡ outcome.Ran)

-- a good one whose line would be too long: that is reported
abbrev pub IsTooLong : List ℕ → List ℕ → Outcome → Type 0
IsTooLong document text ended = OfTree document (λ tree. (16777216 < length (compact_text tree)) × IsFaultReport tree too_long text ended)

-- a document by what it is, its setup or its refusal
abbrev pub IsReportBy : (Configuration → List ℕ → Outcome → Type 0) → List ℕ → Result Configuration LoadError → List ℕ → Outcome → Type 0
IsReportBy Good document (Ok c) text ended = Good c text ended
IsReportBy Good document (Err e) text ended = IsRefusalReport document e text ended

-- with the flag `--line`
abbrev pub IsLineReport : List ℕ → List ℕ → Outcome → Type 0
IsLineReport document = IsReportBy (λ c text ended. IsDocumentLine document text ended ⊎ IsTooLong document text ended) document (setup_of document)

-- with its figures
abbrev pub IsDocumentReport : ℕ → List ℕ → List ℕ → Outcome → Type 0
IsDocumentReport start document = IsReportBy (IsSummaryReport start) document (setup_of document)

-- ---- a whole check

-- What a check that ended so has printed, where these texts and outcomes can be: all of it, after a fault of the writer a prefix of it, and
-- after any other error nothing.
abbrev pub HasPrinted : (List ℕ → Outcome → Type 0) → Result Outcome DriveError → Option (List ℕ) → Option (List ℕ) → Type 0
HasPrinted Can (Ok ended) held holds = (text : List ℕ) × Can text ended × Appends held holds text
HasPrinted Can (Err fault.Write) held holds = (text : List ℕ) × (ended : Outcome) × Can text ended × WroteFront held holds text
HasPrinted Can (Err e) held holds = Keeps held holds
