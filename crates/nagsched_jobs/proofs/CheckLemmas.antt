-- A whole check of a setup, and what its faults leave.
use Rattle.std.proofs.Common.{◌≡◌, ◌≢◌, ℕ, ◌<◌, ◌≤◌, ◌++◌, Bool, true, false, cond, List, [], ◌∷◌, length, Option, Some, None, Ok, Err, refl, sym, ap, subst}
use Rattle.std.proofs.Common.{◌∙◌}
use Rattle.std.proofs.Common.{append_assoc, arith, inl, inr, ◌⊎◌}
use Rattle.std.specs.Prelude.{nat_lt, ok_or, IfSome, Result}
use Rattle.nagsched_protocol.specs.declared.outcome.Outcome.TheVariants as outcome
use Rattle.nagsched_jobs.specs.Check.{tree_in, HasPrinted, IsFaultReport, IsGood, IsLineReport, IsRefusalReport, IsSummaryReport, IsDocumentReport, IsReportBy}
use Rattle.nagsched_jobs.specs.Check.{IsTooLong, IsDocumentLine}
use Rattle.std.specs.Io.KnownBytes.{Appends, Consumes}
use Rattle.std.proofs.lemmas.Bool.{cases_lt}
use Rattle.std.proofs.lemmas.Bool.Decides.{nat_tests}
use Rattle.nagsched_protocol.specs.declared.drive_error.DriveError.{DriveError}
use Rattle.nagsched_protocol.specs.declared.drive_error.DriveError.TheVariants as errors
use Rattle.nagsched_protocol.specs.Input.{without_last_feed}
use Rattle.nagsched_protocol.proofs.KeptLemmas.{too_long}
use Rattle.nagsched_protocol.specs.Output.{WroteFront}
use Rattle.nagsched_protocol.specs.declared.outcome.Outcome.{Outcome}
use Rattle.nagsched_protocol.specs.Streams.{streams}
use Rattle.nagsched_protocol.specs.Input.{HasStartedReading}
use Rattle.nagsched_protocol.specs.declared.start.Start.{Start}
use Rattle.nagsched_protocol.specs.declared.start.Start.TheVariants as start
use Rattle.nagsched_jobs.specs.CheckEnded.{CheckEnded, IsSetupLineReport, IsReportFrom}
use Rattle.nagsched_jobs.specs.Reading.{check_input_of, document_input_of}
use Rattle.nagsched_jobs.proofs.CheckResumedLemmas.{resumed_report_of}
use Rattle.nagsched_jobs.proofs.ReadingLemmas.{cut_length, read_all, read_long}
use Rattle.nagsched_protocol.proofs.ReadLemmas.{input_of, input_of-is}
use Rattle.nagsched_protocol.proofs.WrittenLemmas.{Keeps-same}
use Rattle.serde_json.specs.Data.{Data, null}
use Rattle.serde_json.specs.Written.{compact_text, has_float}
use Rattle.setup_reader.specs.Reading.{parsed_setup}
use Rattle.setup_reader.specs.JsonTree.{tree_of}
use Rattle.setup_model.specs.Agreement.{◌>>=◌, with_error}
use Rattle.setup_model.specs.ParsedSetup.{ParsedSetup}
use Rattle.setup_model.specs.declared.error.LoadError.{LoadError}
use Rattle.setup_model.specs.declared.error.LoadError.TheVariants as load
use Rattle.setup_model.specs.Fault as fault
use Rattle.setup_model.specs.Fault.{Fault, load_error}
use Rattle.check_objects.specs.Verification.{verification}
use Rattle.check_objects.specs.Numbering.{configuration}
use Rattle.check_objects.specs.Setup.{document_tree, setup_of, setup_of_tree, without_cycles, IsFaultIn, IsRefusedTree}
use Rattle.check_objects.specs.Configuration.{Configuration}
use Rattle.setup_diagnostics.specs.Explanation.{tree_or_null}
use Rattle.setup_diagnostics.proofs.NumberLemmas.{no_float, whole_numbers}

-- ---- an input of which a prefix was read

document_long : (bs : List ℕ) → 16777216 < length bs → document_tree bs ≡ Err fault.too_long
document_long bs h = let a : nat_lt 16777216 (length bs) ≡ true = grind (arith, nat_tests, h) in rw a refl

refused_alike : (one other : List ℕ) (e : LoadError) (text : List ℕ) (report : Outcome) → document_tree one ≡ document_tree other
    → IsRefusalReport one e text report → IsRefusalReport other e text report
refused_alike one other e text report same r = record {
  found = r.found;
  is = subst (λ d. IsFaultIn d r.found) same r.is;
  refused = r.refused;
  explained = subst (λ d. IsFaultReport (tree_or_null (tree_in d)) r.found text report) same r.explained;
}

-- what is printed of a document by what it is; `Good` says what is of a good one
abbrev pub IsReportAs : (List ℕ → Configuration → List ℕ → Outcome → Type 0) → List ℕ → List ℕ → Outcome → Type 0
IsReportAs Good document = IsReportBy (Good document) document (setup_of document)

long_report : (Good : List ℕ → Configuration → List ℕ → Outcome → Type 0) (one other text : List ℕ) (report : Outcome) → setup_of one ≡ Err load.TooLong
    → setup_of other ≡ Err load.TooLong → document_tree one ≡ document_tree other → IsReportAs Good one text report → IsReportAs Good other text report
long_report Good one other text report e f same h = rw f (refused_alike one other load.TooLong text report same (rw e at h))

read_by : (Good : List ℕ → Configuration → List ℕ → Outcome → Type 0) (bytes text : List ℕ) (report : Outcome)
    → (16777217 < length bytes) ⊎ (length bytes ≤ 16777217)
    → IsReportAs Good (without_last_feed (document_input_of bytes)) text report → IsReportAs Good (without_last_feed bytes) text report
read_by Good bytes text report (inl long) h =
    let cut = cut_length bytes in
    long_report Good (without_last_feed (document_input_of bytes)) (without_last_feed bytes) text report
    (too_long (without_last_feed (document_input_of bytes)) (read_long bytes long))
    (too_long (without_last_feed bytes) (omega (arith, cut, long)))
    (document_long (without_last_feed (document_input_of bytes)) (read_long bytes long) ∙ sym (document_long (without_last_feed bytes) (omega (arith, cut, long)))) h
read_by Good bytes text report (inr short) h = subst (λ read. IsReportAs Good (without_last_feed read) text report) (read_all bytes short) h

-- what was printed of as much of an input as is read of a document is what is printed of the input
pub report_of : (Good : List ℕ → Configuration → List ℕ → Outcome → Type 0) (had : Option (List ℕ)) (read text : List ℕ) (report : Outcome)
    → IfSome had (λ bytes. read ≡ document_input_of bytes)
    → IsReportAs Good (without_last_feed read) text report → IsReportAs Good (without_last_feed (input_of had read)) text report
report_of Good None read text report all h = h
report_of Good (Some bytes) read text report all h =
    read_by Good bytes text report (cases_lt 16777217 (length bytes)) (subst (λ l. IsReportAs Good (without_last_feed l) text report) all h)

pub line_report_of : (had : Option (List ℕ)) (read text : List ℕ) (report : Outcome) → IfSome had (λ bytes. read ≡ document_input_of bytes)
    → IsSetupLineReport read text report → IsSetupLineReport (input_of had read) text report
line_report_of had read text report all h = report_of (λ d c t o. IsDocumentLine d t o ⊎ IsTooLong d t o) had read text report all h

-- the same of what was read for a start
pub start_report_of : (how : Start) (had : Option (List ℕ)) (read text : List ℕ) (report : Outcome) → IfSome had (λ bytes. read ≡ check_input_of how bytes)
    → IsReportFrom how read text report → IsReportFrom how (input_of had read) text report
start_report_of (start.Fresh moment) had read text report all h = report_of (λ d. IsSummaryReport moment) had read text report all h
start_report_of (start.Resumed moment) had read text report all h = resumed_report_of moment had read text report all h

-- ---- how a check ends, where these texts and outcomes can be printed of an input

pub memory_is_no_write : (e : DriveError) → e ≡ errors.Memory → e ≢ errors.Write
memory_is_no_write e memory write = let both : errors.Memory ≡ errors.Write = sym memory ∙ write in cc

write_is_no_memory : {A : Type 0} (e : DriveError) → e ≡ errors.Write → e ≡ errors.Memory → A
write_is_no_memory e write memory = let both : errors.Write ≡ errors.Memory = sym write ∙ memory in cc

unprinted_report : (Can : List ℕ → Outcome → Type 0) (e : DriveError) (held : Option (List ℕ)) → e ≢ errors.Write → HasPrinted Can (Err e) held held
unprinted_report Can errors.Read held n = Keeps-same held
unprinted_report Can errors.Write held n = absurd (n refl)
unprinted_report Can errors.Memory held n = Keeps-same held

-- an error before anything was written
pub unwritten_check : (Can : List ℕ → List ℕ → Outcome → Type 0) (reads : List ℕ → List ℕ) (e : DriveError) (had left held : Option (List ℕ)) → e ≢ errors.Write
    → (e ≡ errors.Memory → HasStartedReading had left) → CheckEnded Can reads (Err e) (streams had left held held)
unwritten_check Can reads e had left held n memory =
    record { input = input_of had []; is_input = input_of-is had []; report = unprinted_report (Can (input_of had [])) e held n; read = tt; memory = memory }

-- it couldn't be printed
pub torn_check : (Can : List ℕ → List ℕ → Outcome → Type 0) (reads : List ℕ → List ℕ) (e : DriveError) (had left held holds : Option (List ℕ)) (read text : List ℕ)
    (report : Outcome) → e ≡ errors.Write → Can (input_of had read) text report → WroteFront held holds text
    → CheckEnded Can reads (Err e) (streams had left held holds)
torn_check Can reads e had left held holds read text report is_write can front =
    rw is_write
    (record {
      input = input_of had read;
      is_input = input_of-is had read;
      report = (text, report, can, front);
      read = tt;
      memory = λ m. write_is_no_memory errors.Write refl m;
    })

read_as : (reads : List ℕ → List ℕ) (had left : Option (List ℕ)) (read : List ℕ) → IfSome had (λ bytes. read ≡ reads bytes) → Consumes had left read
    → Consumes had left (reads (input_of had read))
read_as reads None left read all c = tt
read_as reads (Some bytes) left read all c = subst (λ l. Consumes (Some bytes) left l) all c

-- all was printed
pub printed_check : (Can : List ℕ → List ℕ → Outcome → Type 0) (reads : List ℕ → List ℕ) (had left held holds : Option (List ℕ)) (read text : List ℕ) (report : Outcome)
    → IfSome had (λ bytes. read ≡ reads bytes) → Consumes had left read → Can (input_of had read) text report → Appends held holds text
    → CheckEnded Can reads (Ok report) (streams had left held holds)
printed_check Can reads had left held holds read text report all c can a =
    record { input = input_of had read; is_input = input_of-is had read; report = (text, can, a); read = read_as reads had left read all c; memory = tt }

-- ---- a document that was examined

setup_by : (document : List ℕ) (r : Result Data Fault) → document_tree document ≡ r → setup_of document ≡ (with_error load_error r >>= setup_of_tree)
unfolding setup_of
setup_by document r is = ap (λ d. with_error load_error d >>= setup_of_tree) is

-- a document that has no tree
pub unread : (document : List ℕ) (f : Fault) (text : List ℕ) (report : Outcome) → document_tree document ≡ Err f → IsFaultReport null f text report
    → (e : LoadError) × (setup_of document ≡ Err e) × IsRefusalReport document e text report
unread document f text report is h = (
  load_error f,
  setup_by document (Err f) is,
  record {
    found = f;
    is = subst (λ d. IsFaultIn d f) (sym is) refl;
    refused = refl;
    explained = subst (λ d. IsFaultReport (tree_or_null (tree_in d)) f text report) (sym is) h;
  },
)

-- a document whose tree is refused
pub refused_tree : (document : List ℕ) (tree : Data) (f : Fault) (text : List ℕ) (report : Outcome) → document_tree document ≡ Ok tree
    → IsRefusedTree tree (Some f) → IsFaultReport tree f text report → (e : LoadError) × (setup_of document ≡ Err e) × IsRefusalReport document e text report
refused_tree document tree f text report is refused h = (
  load_error f,
  setup_by document (Ok tree) is ∙ refused.1,
  record {
    found = f;
    is = subst (λ d. IsFaultIn d f) (sym is) refused.0;
    refused = refl;
    explained = subst (λ d. IsFaultReport (tree_or_null (tree_in d)) f text report) (sym is) h;
  },
)

pub good_tree : (document : List ℕ) (tree : Data) (c : Configuration) → document_tree document ≡ Ok tree → setup_of_tree tree ≡ Ok c → IsGood document c tree
good_tree document tree c is good = (is, setup_by document (Ok tree) is ∙ good)

-- an error that isn't that memory ran out
pub real_fault : (o : Option Fault) (f : Fault) (P : Option Fault → Type 0) → o ≡ Some f → P o → P (Some f)
real_fault o f P real h = subst P real h

-- ---- the line of a good document

tree_found : (b : Bool) (o : Option Data) (tree : Data) → cond b (Err fault.too_long) (ok_or o fault.not_json) ≡ Ok tree → o ≡ Some tree
tree_found true o tree e = cc
tree_found false None tree e = cc
tree_found false (Some d) tree e = let same : d ≡ tree = cc in ap Some same

pub tree_of_document : (document : List ℕ) (tree : Data) → document_tree document ≡ Ok tree → tree_of document ≡ Some tree
tree_of_document document tree is = tree_found (nat_lt 16777216 (length document)) (tree_of document) tree is

document_by : (line : List ℕ) (tree : Data) → length line ≤ 16777216 → tree_of line ≡ Some tree → document_tree line ≡ Ok tree
document_by line tree fits is =
    let bounded : nat_lt 16777216 (length line) ≡ false = grind (arith, nat_tests, fits) in
    ap (λ b. cond b (Err fault.too_long) (ok_or (tree_of line) fault.not_json)) bounded ∙ ap (λ o. ok_or o fault.not_json) is

parsed_by : (r : Result ParsedSetup Fault) (f : ParsedSetup → Result Configuration LoadError) (c : Configuration)
    → (with_error load_error (r >>= λ ds. (verification ds >>= λ _. Ok ds)) >>= f) ≡ Ok c → (ds : ParsedSetup) × (r ≡ Ok ds)
parsed_by (Ok ds) f c e = (ds, refl)
parsed_by (Err x) f c e = cc

parsed_found : (tree : Data) (c : Configuration) → setup_of_tree tree ≡ Ok c → (ds : ParsedSetup) × (parsed_setup tree ≡ Ok ds)
unfolding setup_of_tree
parsed_found tree c e = parsed_by (parsed_setup tree) (λ ds. without_cycles (configuration ds)) c e

-- a good document has no float
good_floats : (document : List ℕ) (c : Configuration) (tree : Data) → IsGood document c tree → has_float tree ≡ false
good_floats document c tree good =
    let parsed = parsed_found tree c (sym (setup_by document (Ok tree) good.0) ∙ good.1) in
    no_float tree (whole_numbers document tree parsed.0 (tree_of_document document tree good.0) parsed.1)

same_tree : (document : List ℕ) (one other : Data) → tree_of document ≡ Some one → tree_of document ≡ Some other → one ≡ other
same_tree document one other is there = let both : Some one ≡ Some other = sym is ∙ there in cc

pub line_written : (document : List ℕ) (c : Configuration) (tree : Data) (line text : List ℕ) → IsGood document c tree
    → ((d : List ℕ) → tree_of d ≡ Some tree → tree_of line ≡ Some tree) → (has_float tree ≡ false → line ≡ compact_text tree) → length line ≤ 16777216
    → text ≡ line ++ 10 ∷ [] → IsLineReport document text outcome.Ran
line_written document c tree line text good same compact fits is =
    let read = tree_of_document document tree good.0 in
    let setup : setup_of line ≡ setup_of document = setup_by line (Ok tree) (document_by line tree fits (same document read)) ∙ sym (setup_by document (Ok tree) good.0) in
    rw good.1 (inl (
      (
        line,
        record {
          same = setup;
          compact = λ other there. compact (good_floats document c tree good) ∙ ap compact_text (same_tree document tree other read there);
          fits = fits;
        },
        is,
      ),
      refl,
    ))

pub line_too_long : (document : List ℕ) (c : Configuration) (tree : Data) (text : List ℕ) (report : Outcome) → IsGood document c tree
    → (has_float tree ≡ false → 16777216 < length (compact_text tree)) → IsFaultReport tree fault.too_long text report → IsLineReport document text report
line_too_long document c tree text report good long h =
    let read = tree_of_document document tree good.0 in
    rw good.1 (inr (λ other there.
    subst (λ t. (16777216 < length (compact_text t)) × IsFaultReport t fault.too_long text report) (same_tree document tree other read there)
    (long (good_floats document c tree good), h)))

-- ---- the report on a document

pub summary_report : (start : ℕ) (document : List ℕ) (c : Configuration) (tree : Data) (text : List ℕ) (report : Outcome) → IsGood document c tree
    → IsSummaryReport start c text report → IsDocumentReport start document text report
summary_report start document c tree text report good h = rw good.1 h

pub refused_report : (Good : Configuration → List ℕ → Outcome → Type 0) (document text : List ℕ) (report : Outcome)
    → (e : LoadError) × (setup_of document ≡ Err e) × IsRefusalReport document e text report → IsReportBy Good document (setup_of document) text report
refused_report Good document text report (e, is, h) = rw is h

-- ---- the lines of a refusal

-- a line, then words and a line feed, appended one after another to nothing
pub two_lines : (line words none first second third : List ℕ) → none ≡ [] → first ≡ none ++ line → second ≡ first ++ words → third ≡ second ++ (10 ∷ [])
    → third ≡ line ++ (words ++ 10 ∷ [])
two_lines line words none first second third e0 e1 e2 e3 =
    e3 ∙ ap (λ (t : List ℕ). t ++ (10 ∷ [])) (e2 ∙ ap (λ (t : List ℕ). t ++ words) (e1 ∙ ap (λ (t : List ℕ). t ++ line) e0)) ∙ append_assoc line words (10 ∷ [])
