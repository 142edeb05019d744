-- What comes after the setup of a conversation, whatever its scheduler begins with, and the whole of it.
use Rattle.std.proofs.Common.{◌≡◌, ℕ, suc, ◌-◌, ◌^◌, ◌==◌, ◌<◌, ◌≤◌, Bool, true, false, cond, List, [], ◌∷◌, ◌++◌, length, take, Option, Result, Ok}
use Rattle.std.proofs.Common.{Err, refl, sym, ap, ◌∙◌}
use Rattle.std.proofs.Common.{arith, inl, inr, ◌⊎◌, append_assoc, append-nil, length-append, subst}
use Rattle.std.specs.Prelude.{IfOk, OnOk, IfErr, nat_lt}
use Rattle.std.specs.Io.KnownBytes.{Appends, Consumes, IsAtEnd, Keeps}
use Rattle.std.proofs.lemmas.Bool.Decides.{nat_tests}
use Rattle.check_objects.specs.Configuration.{Configuration}
use Rattle.check_objects.specs.Setup.{setup_of}
use Rattle.setup_model.specs.Agreement.{◌>>=◌}
use Rattle.setup_model.specs.declared.error.LoadError.{LoadError}
use Rattle.check_saved_state.specs.Saved.{Saved}
use Rattle.check_saved_state.specs.Text.{saved_of_text}
use Rattle.check_saved_state.specs.declared.fault.SavedFault.{SavedFault}
use Rattle.check_saved_state.specs.declared.fault.SavedFault.TheVariants as faults
use Rattle.nagsched_protocol.specs.Agreement.{IsExpectedResult}
use Rattle.nagsched_protocol.specs.declared.answer_form.AnswerForm.{AnswerForm}
use Rattle.nagsched_protocol.specs.declared.drive_error.DriveError.{DriveError}
use Rattle.nagsched_protocol.specs.declared.live_error.LiveError.{LiveError}
use Rattle.nagsched_protocol.specs.declared.live_error.LiveError.TheVariants as live
use Rattle.nagsched_protocol.specs.declared.line_reader.TheConstants.{SAVED_PREFIX_BYTES, SETUP_PREFIX_BYTES}
use Rattle.nagsched_protocol.specs.declared.refusal.InputRefusal.{InputRefusal}
use Rattle.nagsched_protocol.specs.declared.refusal.InputRefusal.TheVariants as refusal
use Rattle.nagsched_protocol.specs.declared.refusal.ScriptError.{ScriptError}
use Rattle.nagsched_protocol.specs.LiveError.{IsSpent, IsWriteResult, drive_error_of, drive_result_of}
use Rattle.nagsched_protocol.specs.Input.{first_line_of, lines_of}
use Rattle.nagsched_protocol.specs.LiveInput.{IsBoundedReading, rest_after_line, has_feed}
use Rattle.nagsched_protocol.specs.declared.start.Start.{Start}
use Rattle.nagsched_protocol.specs.declared.start.Start.TheVariants as start
use Rattle.nagsched_protocol.specs.Script.{Beginning, beginning_of, beginning_over, with_saved_refusal, with_setup_refusal, state_after_resume_at}
use Rattle.nagsched_protocol.proofs.InputLemmas.{behind_fewer}
use Rattle.check_sched.specs.State.{State, opening}
use Rattle.nagsched_protocol.proofs.KeptLemmas.{line_stays}
use Rattle.nagsched_protocol.proofs.LiveInputLemmas.{Consumes-none, Consumes-then, behind_none, behind_on, behind_soon, behind_stays, first_all, first_stays}
use Rattle.nagsched_protocol.proofs.ScriptLemmas.{length-lines_of}
use Rattle.nagsched_protocol.proofs.OutputLemmas.{Appends-none}
use Rattle.nagsched_protocol.specs.LiveText.{answers_from, answers_over, live_text}
use Rattle.nagsched_protocol.specs.Forms.{refusal_text}
use Rattle.nagsched_protocol.specs.declared.outcome.Outcome.{Outcome}
use Rattle.nagsched_protocol.specs.declared.outcome.Outcome.TheVariants as outcome
use Rattle.nagsched_protocol.specs.Streams.{IsInput, outcome_by}
use Rattle.nagsched_protocol.specs.Streams.{streams}
use Rattle.nagsched_run.specs.Live.{IsSpentAfterInput, IsSpentAfterSetup, IsSpentAfterLines, ConversationEnded, HasHadAtLeast, HasReadLive, LeavesText, ReadBy}
use Rattle.nagsched_run.specs.Live.{ReadOver, AnsweringEnded, HasTakenDocument, IsContinuation, saved_at_start}
use Rattle.nagsched_protocol.proofs.ReadLemmas.{prefix_agrees}
use Rattle.nagsched_protocol.proofs.WrittenLemmas.{Keeps-same}
use Rattle.nagsched_run.proofs.LiveLemmas.{end_input, input_all, input_on, leaves_kept, live_failed}
use Rattle.nagsched_run.proofs.LiveLemmas.{not_long, refused_stays, rest_input, rest_of, setup_is, setup_refused, written_errs, written_ifs, written_oks}

-- ---- what is kept of line 2

saved_too_long : (line : List ℕ) → 16777216 < length line → saved_of_text line ≡ Err faults.TooLong
saved_too_long line h = let a : nat_lt 16777216 (length line) ≡ true = grind (arith, nat_tests, h) in rw a refl

pub kept_saved : (line : List ℕ) → saved_of_text (take SAVED_PREFIX_BYTES line) ≡ saved_of_text line
kept_saved line = prefix_agrees saved_of_text 16777216 SAVED_PREFIX_BYTES (Err faults.TooLong) (omega arith) saved_too_long line

-- nothing follows the setup: line 2 has no byte
pub unfollowed : (buffered : List ℕ) (r : Result Saved ScriptError) (left : Option (List ℕ)) → buffered ≡ [] → IsAtEnd left
    → IsExpectedResult (λ saved. saved) r (with_saved_refusal (saved_of_text []))
    → IsExpectedResult (λ saved. saved) r (saved_at_start (buffered ++ [])) × HasTakenDocument SAVED_PREFIX_BYTES (buffered ++ []) false buffered left
unfollowed buffered r left e end g = rw e (g, record { follows = refl; buffer_is = refl; ended = λ f. inl end })

pub unread : (buffered : List ℕ) → buffered ≡ [] → IsBoundedReading SAVED_PREFIX_BYTES (buffered ++ [])
unread buffered e = rw e (record { at_the_bound = omega arith; at_the_feed = omega arith })

-- what holds anyway holds of a value
on_ok_any : {T E P : Type 0} (r : Result T E) → P → OnOk r P
on_ok_any (Ok x) p = p
on_ok_any (Err e) p = tt

-- ---- what was saved

saved_is : (r : Result Saved SavedFault) (saved : Saved) → with_saved_refusal r ≡ Ok saved → r ≡ Ok saved
saved_is (Ok other) saved e = cc
saved_is (Err f) saved e = cc

-- what a scheduler starts with that continues from this saved state, or its refusal
abbrev pub from_saved : Option ℕ → Configuration → List ℕ → Result Saved InputRefusal → Result Beginning InputRefusal
from_saved moment c bytes r = r >>= λ saved. Ok (record { state = state_after_resume_at c saved moment; number = 3; rest = rest_after_line bytes })

over_refused : (moment : Option ℕ) (c : Configuration) (bytes : List ℕ) (why : InputRefusal) → saved_at_start bytes ≡ Err why
    → beginning_over (start.Resumed moment) c bytes ≡ Err why
over_refused moment c bytes why s = ap (from_saved moment c bytes) s

none_text : (form : AnswerForm) (moment : Option ℕ) (c : Configuration) (saved : Saved) (bytes : List ℕ) → saved_at_start bytes ≡ Ok saved → has_feed bytes ≡ false
    → answers_over form (beginning_over (start.Resumed moment) c bytes) ≡ []
none_text form moment c saved bytes s free =
    ap (λ r. answers_over form (from_saved moment c bytes r)) s
    ∙ ap (λ l. answers_from form (state_after_resume_at c saved moment) 3 (lines_of l)) (behind_none bytes free)

saved_stays : (bytes more : List ℕ) → has_feed bytes ≡ true → saved_at_start (bytes ++ more) ≡ saved_at_start bytes
saved_stays bytes more feed = ap (λ l. with_saved_refusal (saved_of_text l)) (first_stays bytes more feed)

long_stays : (bytes more : List ℕ) → has_feed bytes ≡ false → SAVED_PREFIX_BYTES ≤ length bytes → saved_at_start (bytes ++ more) ≡ saved_at_start bytes
long_stays bytes more free long = ap with_saved_refusal (line_stays saved_of_text (Err faults.TooLong) saved_too_long bytes more (inr (free, inr long)))

-- what was saved wasn't too long
ends_at : (bytes : List ℕ) (saved : Saved) (left : Option (List ℕ)) → saved_at_start bytes ≡ Ok saved → has_feed bytes ≡ false
    → IsAtEnd left ⊎ (SAVED_PREFIX_BYTES ≤ length bytes) → IsAtEnd left
ends_at bytes saved left s free (inl end) = end
ends_at bytes saved left s free (inr long) =
    let all = ap length (first_all bytes free) in
    let r = sym (saved_too_long (first_line_of bytes) (omega (arith, long, all))) ∙ saved_is (saved_of_text (first_line_of bytes)) saved s in
    cc

pub saved_ends : (bytes : List ℕ) (saved : Saved) (left : Option (List ℕ)) (follow : Bool) → saved_at_start bytes ≡ Ok saved → follow ≡ has_feed bytes
    → (follow ≡ false → IsAtEnd left ⊎ (SAVED_PREFIX_BYTES ≤ length bytes)) → follow ≡ false → IsAtEnd left
saved_ends bytes saved left follow s feed ended f = ends_at bytes saved left s (sym feed ∙ f) (ended f)

on_text : (form : AnswerForm) (moment : Option ℕ) (c : Configuration) (saved : Saved) (bytes more : List ℕ) → saved_at_start bytes ≡ Ok saved → has_feed bytes ≡ true
    → answers_over form (beginning_over (start.Resumed moment) c (bytes ++ more))
    ≡ answers_from form (state_after_resume_at c saved moment) 3 (lines_of (rest_after_line bytes ++ more))
on_text form moment c saved bytes more s feed =
    ap (λ r. answers_over form (from_saved moment c (bytes ++ more) r)) (saved_stays bytes more feed ∙ s)
    ∙ ap (λ l. answers_from form (state_after_resume_at c saved moment) 3 (lines_of l)) (behind_stays bytes more feed)

-- no line feed came where nothing may follow
never_follows : (may_follow : Bool) (buffered part : List ℕ) (had : Option (List ℕ)) → (may_follow ≡ false → part ≡ [])
    → (may_follow ≡ false → (buffered ≡ []) × IsAtEnd had) → has_feed (buffered ++ part) ≡ true → may_follow ≡ false → ⊥
never_follows may_follow buffered part had none end feed f =
    let here : has_feed (buffered ++ part) ≡ has_feed [] = rw ((end f).0, none f) refl in
    let e : true ≡ false = sym feed ∙ here in
    cc

-- nor this many bytes
never_long : (may_follow : Bool) (buffered part : List ℕ) (had : Option (List ℕ)) → (may_follow ≡ false → part ≡ [])
    → (may_follow ≡ false → (buffered ≡ []) × IsAtEnd had) → SAVED_PREFIX_BYTES ≤ length (buffered ++ part) → may_follow ≡ false → ⊥
never_long may_follow buffered part had none end long f =
    let size : length (buffered ++ part) ≡ 0 = rw ((end f).0, none f) refl in
    omega (arith, size, long)

-- ---- after a setup

-- an error before anything was written, where these bytes come
gone_by : {form : AnswerForm} (how : Start) (c : Configuration) (may_follow : Bool) (buffered coming : List ℕ) (e : LiveError) (had left held holds : Option (List ℕ))
    → IsInput had coming → (may_follow ≡ false → coming ≡ []) → Keeps held holds → IsContinuation form how c may_follow buffered (Err e) (streams had left held holds)
gone_by {form = form} how c may_follow buffered coming e had left held holds input none kept =
    record { coming = coming; is_input = input; short = none; outcome_is = tt; written = tt; read = tt; fault = leaves_kept (drive_error_of e) held holds _ kept }

pub gone_unwritten : {form : AnswerForm} (how : Start) (c : Configuration) (may_follow : Bool) (buffered part : List ℕ) (e : LiveError) (had left held holds : Option (List ℕ))
    → Consumes had left part → (may_follow ≡ false → (buffered ≡ []) × IsAtEnd had) → Keeps held holds
    → IsContinuation form how c may_follow buffered (Err e) (streams had left held holds)
gone_unwritten {form = form} how c true buffered part e had left held holds read end kept =
    gone_by how c true buffered (part ++ rest_of left) e had left held holds (input_on had left part (rest_of left) read (rest_input left)) (λ f. cc) kept
gone_unwritten {form = form} how c false buffered part e had left held holds read end kept =
    gone_by how c false buffered [] e had left held holds (end_input had (end refl).1) (λ f. refl) kept

-- an error before any line was answered
pub unanswered : (form : AnswerForm) (begins : ℕ) (first : State) (buffered : List ℕ) (e : LiveError) (had held : Option (List ℕ))
    → AnsweringEnded {T = Outcome} form begins first buffered (streams had had held held) (Err e)
unanswered form begins first buffered e had held =
    (rest_of had, rest_input had, tt, tt, leaves_kept (drive_error_of e) held held _ (Keeps-same held))

-- what is shown of the lines after a setup from whose start on a scheduler is spoken to is what is shown of all after it
pub gone_opened : {form : AnswerForm} (moment : ℕ) (c : Configuration) (may_follow : Bool) (buffered : List ℕ) (had left held holds : Option (List ℕ)) (r : Result Outcome LiveError)
    → (may_follow ≡ false → (buffered ≡ []) × IsAtEnd had) → IfOk r (λ o. o ≡ outcome.Ran)
    → (may_follow ≡ false → (r ≡ Ok outcome.Ran) × (left ≡ had) × (holds ≡ held))
    → (may_follow ≡ true → AnsweringEnded form 2 (opening c moment) buffered (streams had left held holds) r)
    → IsContinuation form (start.Fresh moment) c may_follow buffered r (streams had left held holds)
gone_opened {form = form} moment c false buffered had left held holds r end ran unread lines =
    let n = unread refl in
    let none = end refl in
    rw (n.0, n.1, n.2, none.0)
    (record {
      coming = [];
      is_input = end_input had none.1;
      short = λ f. refl;
      outcome_is = refl;
      written = Appends-none held;
      read = Consumes-none had;
      fault = tt;
    })
gone_opened {form = form} moment c true buffered had left held holds r end ran unread lines =
    let t = lines refl in
    record { coming = t.0; is_input = t.1; short = λ f. cc; outcome_is = ran; written = t.3; read = t.2; fault = t.4 }

-- an input by which what was saved is refused
pub record Refuses (may_follow : Bool) (buffered : List ℕ) (had left : Option (List ℕ)) (why : InputRefusal) : Type 0 where
  pub coming : List ℕ
  pub is_input : IsInput had coming
  pub short : may_follow ≡ false → coming ≡ []
  pub refused : saved_at_start (buffered ++ coming) ≡ Err why

refuses_on : (may_follow : Bool) (buffered part : List ℕ) (had left : Option (List ℕ)) (why : InputRefusal) → Consumes had left part
    → (may_follow ≡ false → ⊥) → saved_at_start ((buffered ++ part) ++ rest_of left) ≡ Err why → Refuses may_follow buffered had left why
refuses_on may_follow buffered part had left why read never s = record {
  coming = part ++ rest_of left;
  is_input = input_on had left part (rest_of left) read (rest_input left);
  short = λ f. absurd (never f);
  refused = ap saved_at_start (sym (append_assoc buffered part (rest_of left))) ∙ s;
}

refuses_by : (may_follow : Bool) (buffered part : List ℕ) (had left : Option (List ℕ)) (why : InputRefusal)
    → saved_at_start (buffered ++ part) ≡ Err why → Consumes had left part → (may_follow ≡ false → part ≡ [])
    → (may_follow ≡ false → (buffered ≡ []) × IsAtEnd had) → has_feed (buffered ++ part) ≡ false
    → IsAtEnd left ⊎ (SAVED_PREFIX_BYTES ≤ length (buffered ++ part)) → Refuses may_follow buffered had left why
refuses_by may_follow buffered part had left why s read none end free (inl ended) =
    record { coming = part; is_input = input_all had left part read ended; short = none; refused = s }
refuses_by may_follow buffered part had left why s read none end free (inr long) =
    refuses_on may_follow buffered part had left why read (never_long may_follow buffered part had none end long)
    (long_stays (buffered ++ part) (rest_of left) free long ∙ s)

refuses : (may_follow follow : Bool) (buffered part : List ℕ) (had left : Option (List ℕ)) (why : InputRefusal)
    → saved_at_start (buffered ++ part) ≡ Err why → Consumes had left part → (may_follow ≡ false → part ≡ [])
    → (may_follow ≡ false → (buffered ≡ []) × IsAtEnd had) → follow ≡ has_feed (buffered ++ part)
    → (follow ≡ false → IsAtEnd left ⊎ (SAVED_PREFIX_BYTES ≤ length (buffered ++ part))) → Refuses may_follow buffered had left why
refuses may_follow true buffered part had left why s read none end feed ended =
    refuses_on may_follow buffered part had left why read (never_follows may_follow buffered part had none end (sym feed))
    (saved_stays (buffered ++ part) (rest_of left) (sym feed) ∙ s)
refuses may_follow false buffered part had left why s read none end feed ended =
    refuses_by may_follow buffered part had left why s read none end (sym feed) (ended refl)

gone_refused_by : {form : AnswerForm} (moment : Option ℕ) (c : Configuration) (may_follow : Bool) (buffered part : List ℕ)
    (had left held holds : Option (List ℕ))
    (why : InputRefusal) (wrote : Result Outcome DriveError) (r : Result Outcome LiveError)
    → Refuses may_follow buffered had left why → Consumes had left part → IsBoundedReading SAVED_PREFIX_BYTES (buffered ++ part)
    → IfOk wrote (λ o. o ≡ outcome.Refused) → OnOk wrote (Appends held holds (refusal_text form [] why))
    → IfErr wrote (λ e. LeavesText e held holds (refusal_text form [] why)) → IsWriteResult r wrote
    → IsContinuation form (start.Resumed moment) c may_follow buffered r (streams had left held holds)
gone_refused_by {form = form} moment c may_follow buffered part had left held holds why wrote r z read soon refused written fault w =
    let line = refusal_text form [] why in
    let over = sym (over_refused moment c (buffered ++ z.coming) why z.refused) in
    let text = ap (answers_over form) over in
    record {
      coming = z.coming;
      is_input = z.is_input;
      short = z.short;
      outcome_is = subst (λ k. IfOk r (λ o. o ≡ k)) (ap outcome_by over) (written_ifs r wrote (λ o. o ≡ outcome.Refused) w refused);
      written = subst (λ l. OnOk r (Appends held holds l)) text (written_oks r wrote (Appends held holds line) w written);
      read = on_ok_any r (subst (λ q. ReadOver (λ bytes_read. buffered ++ bytes_read) q had left z.coming) over (part, read, soon));
      fault = subst (λ l. IfErr r (λ e. LeavesText (drive_error_of e) held holds l)) text (written_errs r wrote (λ e. LeavesText e held holds line) w fault);
    }

-- what is shown of the refusal of what was saved is what is shown of all after the setup
pub gone_refused : {form : AnswerForm} (moment : Option ℕ) (c : Configuration) (may_follow follow : Bool) (buffered part : List ℕ) (had left held holds : Option (List ℕ))
    (why : InputRefusal) (wrote : Result Outcome DriveError) (r : Result Outcome LiveError)
    → saved_at_start (buffered ++ part) ≡ Err why → Consumes had left part → (may_follow ≡ false → part ≡ [])
    → IsBoundedReading SAVED_PREFIX_BYTES (buffered ++ part) → (may_follow ≡ false → (buffered ≡ []) × IsAtEnd had) → follow ≡ has_feed (buffered ++ part)
    → (follow ≡ false → IsAtEnd left ⊎ (SAVED_PREFIX_BYTES ≤ length (buffered ++ part)))
    → IfOk wrote (λ o. o ≡ outcome.Refused) → OnOk wrote (Appends held holds (refusal_text form [] why))
    → IfErr wrote (λ e. LeavesText e held holds (refusal_text form [] why)) → IsWriteResult r wrote
    → IsContinuation form (start.Resumed moment) c may_follow buffered r (streams had left held holds)
gone_refused {form = form} moment c may_follow follow buffered part had left held holds why wrote r s read none soon end feed ended refused written fault w =
    gone_refused_by moment c may_follow buffered part had left held holds why wrote r
    (refuses may_follow follow buffered part had left why s read none end feed ended) read soon refused written fault w

-- what is shown of the lines after what was saved is what is shown of all after the setup
pub gone_answered : {form : AnswerForm} (moment : Option ℕ) (c : Configuration) (saved : Saved) (may_follow follow : Bool) (buffered part : List ℕ)
    (had mid left held holds : Option (List ℕ)) (r : Result Outcome LiveError)
    → saved_at_start (buffered ++ part) ≡ Ok saved → Consumes had mid part → (may_follow ≡ false → part ≡ [])
    → (may_follow ≡ false → (buffered ≡ []) × IsAtEnd had) → follow ≡ has_feed (buffered ++ part) → (follow ≡ false → IsAtEnd mid)
    → IfOk r (λ o. o ≡ outcome.Ran)
    → (follow ≡ false → IfErr r (λ e. e ≡ live.Memory) × (left ≡ mid) × (holds ≡ held))
    → (follow ≡ true → AnsweringEnded form 3 (state_after_resume_at c saved moment) (rest_after_line (buffered ++ part)) (streams mid left held holds) r)
    → IsContinuation form (start.Resumed moment) c may_follow buffered r (streams had left held holds)
gone_answered {form = form} moment c saved may_follow false buffered part had mid left held holds (Ok o) s read none end feed ended ran unread lines =
    let n = unread refl in
    let text = none_text form moment c saved (buffered ++ part) s (sym feed) in
    rw (ran, n.1, n.2)
    (record {
      coming = part;
      is_input = input_all had mid part read (ended refl);
      short = none;
      outcome_is = sym (ap (λ r. outcome_by (from_saved moment c (buffered ++ part) r)) s);
      written = subst (λ l. Appends held held l) (sym text) (Appends-none held);
      read = subst (λ q. ReadOver (λ bytes_read. buffered ++ bytes_read) (from_saved moment c (buffered ++ part) q) had mid part) (sym s) read;
      fault = tt;
    })
gone_answered {form = form} moment c saved may_follow false buffered part had mid left held holds (Err e) s read none end feed ended ran unread lines =
    let n = unread refl in
    rw (n.1, n.2) (gone_unwritten (start.Resumed moment) c may_follow buffered part e had mid held held read end (Keeps-same held))
gone_answered {form = form} moment c saved may_follow true buffered part had mid left held holds (Ok o) s read none end feed ended ran unread lines =
    let t = lines refl in
    let bytes = append_assoc buffered part t.0 in
    let stays = ap saved_at_start (sym bytes) ∙ saved_stays (buffered ++ part) t.0 (sym feed) ∙ s in
    let text = ap (λ l. answers_over form (beginning_over (start.Resumed moment) c l)) (sym bytes) ∙ on_text form moment c saved (buffered ++ part) t.0 s (sym feed) in
    record {
      coming = part ++ t.0;
      is_input = input_on had mid part t.0 read t.1;
      short = λ f. absurd (never_follows may_follow buffered part had none end (sym feed) f);
      outcome_is = ran ∙ sym (ap (λ r. outcome_by (from_saved moment c (buffered ++ (part ++ t.0)) r)) stays);
      written = subst (λ l. Appends held holds l) (sym text) t.3;
      read = subst (λ q. ReadOver (λ bytes_read. buffered ++ bytes_read) (from_saved moment c (buffered ++ (part ++ t.0)) q) had left (part ++ t.0)) (sym stays) (Consumes-then had mid left part t.0 read t.2);
      fault = tt;
    }
gone_answered {form = form} moment c saved may_follow true buffered part had mid left held holds (Err e) s read none end feed ended ran unread lines =
    let t = lines refl in
    let text = ap (λ l. answers_over form (beginning_over (start.Resumed moment) c l)) (sym (append_assoc buffered part t.0)) ∙ on_text form moment c saved (buffered ++ part) t.0 s (sym feed) in
    record {
      coming = part ++ t.0;
      is_input = input_on had mid part t.0 read t.1;
      short = λ f. absurd (never_follows may_follow buffered part had none end (sym feed) f);
      outcome_is = tt;
      written = tt;
      read = tt;
      fault = subst (λ l. LeavesText (drive_error_of e) held holds l) (sym text) t.4;
    }

-- ---- the whole

-- nothing is buffered, and nothing comes, where no line feed followed a good setup
ends_by : (c : Configuration) (bytes_read buffered : List ℕ) (mid : Option (List ℕ)) → with_setup_refusal (setup_of (first_line_of bytes_read)) ≡ Ok c
    → has_feed bytes_read ≡ false → buffered ≡ rest_after_line bytes_read → IsAtEnd mid ⊎ (SETUP_PREFIX_BYTES ≤ length bytes_read)
    → (buffered ≡ []) × IsAtEnd mid
ends_by c bytes_read buffered mid s free behind (inl at_end) = (behind ∙ behind_none bytes_read free, at_end)
ends_by c bytes_read buffered mid s free behind (inr long) = absurd (not_long c bytes_read s free long)

pub ends_short : (c : Configuration) (bytes_read buffered : List ℕ) (mid : Option (List ℕ)) (whole : Bool) → with_setup_refusal (setup_of (first_line_of bytes_read)) ≡ Ok c
    → whole ≡ has_feed bytes_read → buffered ≡ rest_after_line bytes_read → (whole ≡ false → IsAtEnd mid ⊎ (SETUP_PREFIX_BYTES ≤ length bytes_read))
    → whole ≡ false → (buffered ≡ []) × IsAtEnd mid
ends_short c bytes_read buffered mid whole s feed behind end f = ends_by c bytes_read buffered mid s (sym feed ∙ f) behind (end f)

-- the parts of an input of which its setup was given, and of which no more comes where no line feed followed
parts_stay : (bytes_read coming : List ℕ) (whole : Bool) → whole ≡ has_feed bytes_read → (whole ≡ false → coming ≡ [])
    → (first_line_of (bytes_read ++ coming) ≡ first_line_of bytes_read) × (rest_after_line (bytes_read ++ coming) ≡ rest_after_line bytes_read ++ coming)
parts_stay bytes_read coming true feed none = (first_stays bytes_read coming (sym feed), behind_stays bytes_read coming (sym feed))
parts_stay bytes_read coming false feed none =
    rw (none refl) (ap first_line_of (append-nil bytes_read), ap rest_after_line (append-nil bytes_read) ∙ sym (append-nil (rest_after_line bytes_read)))

-- no more after the setup than shows it, whether the setup's line feed was given before or not
soon_behind : (bytes_read more : List ℕ) (whole : Bool) → whole ≡ has_feed bytes_read → IsBoundedReading SAVED_PREFIX_BYTES (rest_after_line bytes_read ++ more)
    → IsBoundedReading SAVED_PREFIX_BYTES (rest_after_line (bytes_read ++ more))
soon_behind bytes_read more true feed soon = rw (behind_stays bytes_read more (sym feed)) soon
soon_behind bytes_read more false feed soon =
    rw (behind_on bytes_read more (sym feed)) (behind_soon SAVED_PREFIX_BYTES more (omega arith) (rw (behind_none bytes_read (sym feed)) at soon))

read_behind : (r : Result Beginning InputRefusal) (had mid left : Option (List ℕ)) (bytes_read coming : List ℕ) (whole : Bool) → whole ≡ has_feed bytes_read
    → Consumes had mid bytes_read → ReadOver (λ more. rest_after_line bytes_read ++ more) r mid left coming → ReadOver rest_after_line r had left (bytes_read ++ coming)
read_behind (Ok b) had mid left bytes_read coming whole feed read more = Consumes-then had mid left bytes_read coming read more
read_behind (Err e) had mid left bytes_read coming whole feed read more =
    (bytes_read ++ more.0, Consumes-then had mid left bytes_read more.0 read more.1, soon_behind bytes_read more.0 whole feed more.2)

-- an input whose setup is this one
live_over : (how : Start) (c : Configuration) (input behind : List ℕ) → setup_of (first_line_of input) ≡ Ok c → rest_after_line input ≡ behind
    → beginning_of how input ≡ beginning_over how c behind
live_over how c input behind s b = ap (λ r. with_setup_refusal r >>= λ d. beginning_over how d (rest_after_line input)) s ∙ ap (beginning_over how c) b

text_over : (form : AnswerForm) (how : Start) (input : List ℕ) (r : Result Beginning InputRefusal) → beginning_of how input ≡ r → live_text form how input ≡ answers_over form r
unfolding live_text
text_over form how input r e = ap (answers_over form) e

live_read : (how : Start) (c : Configuration) (bytes_read coming : List ℕ) (had mid left : Option (List ℕ)) (whole : Bool) → whole ≡ has_feed bytes_read
    → setup_of (first_line_of (bytes_read ++ coming)) ≡ Ok c → rest_after_line (bytes_read ++ coming) ≡ rest_after_line bytes_read ++ coming → Consumes had mid bytes_read
    → ReadOver (λ more. rest_after_line bytes_read ++ more) (beginning_over how c (rest_after_line bytes_read ++ coming)) mid left coming
    → HasReadLive how had left (bytes_read ++ coming)
live_read how c bytes_read coming had mid left whole feed s b read later =
    subst (λ q. ReadBy how q had left (bytes_read ++ coming)) (sym s)
    (subst (λ l. ReadOver rest_after_line (beginning_over how c l) had left (bytes_read ++ coming)) (sym b)
    (read_behind (beginning_over how c (rest_after_line bytes_read ++ coming)) had mid left bytes_read coming whole feed read later))

-- what is shown of all after a setup is what is shown of the whole
pub whole_gone : {form : AnswerForm} (how : Start) (c : Configuration) (bytes_read : List ℕ) (had mid left held holds : Option (List ℕ)) (whole : Bool)
    (r : Result Outcome LiveError)
    → with_setup_refusal (setup_of (first_line_of bytes_read)) ≡ Ok c → whole ≡ has_feed bytes_read → Consumes had mid bytes_read
    → IsContinuation form how c whole (rest_after_line bytes_read) r (streams mid left held holds) → ConversationEnded form how (drive_result_of r) (streams had left held holds)
whole_gone {form = form} how c bytes_read had mid left held holds whole (Ok o) s feed read w =
    let input = bytes_read ++ w.coming in
    let parts = parts_stay bytes_read w.coming whole feed w.short in
    let setup = ap setup_of parts.0 ∙ setup_is (setup_of (first_line_of bytes_read)) c s in
    let over = live_over how c input (rest_after_line bytes_read ++ w.coming) setup parts.1 in
    record {
      input = input;
      is_input = input_on had mid bytes_read w.coming read w.is_input;
      outcome_is = w.outcome_is ∙ sym (ap outcome_by over);
      written = subst (Appends held holds) (sym (text_over form how input _ over)) w.written;
      read = live_read how c bytes_read w.coming had mid left whole feed setup parts.1 read w.read;
      fault = tt;
    }
whole_gone {form = form} how c bytes_read had mid left held holds whole (Err e) s feed read w =
    let input = bytes_read ++ w.coming in
    let parts = parts_stay bytes_read w.coming whole feed w.short in
    let setup = ap setup_of parts.0 ∙ setup_is (setup_of (first_line_of bytes_read)) c s in
    let over = live_over how c input (rest_after_line bytes_read ++ w.coming) setup parts.1 in
    live_failed how (drive_error_of e) had left held holds input
    (input_on had mid bytes_read w.coming read w.is_input) (subst (LeavesText (drive_error_of e) held holds) (sym (text_over form how input _ over)) w.fault)

-- ---- a refused setup

begins_refused : (how : Start) (input : List ℕ) (e : LoadError) → setup_of (first_line_of input) ≡ Err e
    → beginning_of how input ≡ Err (refusal.Setup e)
begins_refused how input e s = ap (λ r. with_setup_refusal r >>= λ d. beginning_over how d (rest_after_line input)) s

refusal_read : (how : Start) (input bytes_read : List ℕ) (e : LoadError) (had left : Option (List ℕ)) → setup_of (first_line_of input) ≡ Err e
    → Consumes had left bytes_read → IsBoundedReading SETUP_PREFIX_BYTES bytes_read → HasReadLive how had left input
refusal_read how input bytes_read e had left s read soon = rw s (bytes_read, read, soon)

-- what is shown of a setup's refusal is what is shown of the whole
pub setup_refusal : {form : AnswerForm} (how : Start) (bytes_read : List ℕ) (had left held holds : Option (List ℕ)) (why : InputRefusal) (whole : Bool)
    (r : Result Outcome DriveError)
    → with_setup_refusal (setup_of (first_line_of bytes_read)) ≡ Err why → Consumes had left bytes_read → IsBoundedReading SETUP_PREFIX_BYTES bytes_read → whole ≡ has_feed bytes_read
    → (whole ≡ false → IsAtEnd left ⊎ (SETUP_PREFIX_BYTES ≤ length bytes_read)) → IfOk r (λ o. o ≡ outcome.Refused)
    → OnOk r (Appends held holds (refusal_text form [] why)) → IfErr r (λ e. LeavesText e held holds (refusal_text form [] why))
    → ConversationEnded form how r (streams had left held holds)
setup_refusal {form = form} how bytes_read had left held holds why whole (Ok o) s read soon feed end refused wrote f =
    let no = setup_refused (setup_of (first_line_of bytes_read)) why s in
    let input = bytes_read ++ rest_of left in
    let setup = refused_stays bytes_read left whole feed end ∙ no.1 in
    let over = begins_refused how input no.0 setup in
    record {
      input = input;
      is_input = input_on had left bytes_read (rest_of left) read (rest_input left);
      outcome_is = refused ∙ sym (ap outcome_by over);
      written = subst (Appends held holds) (ap (refusal_text form []) no.2 ∙ sym (text_over form how input _ over)) wrote;
      read = refusal_read how input bytes_read no.0 had left setup read soon;
      fault = tt;
    }
setup_refusal {form = form} how bytes_read had left held holds why whole (Err e) s read soon feed end refused wrote f =
    let no = setup_refused (setup_of (first_line_of bytes_read)) why s in
    let input = bytes_read ++ rest_of left in
    let over = begins_refused how input no.0 (refused_stays bytes_read left whole feed end ∙ no.1) in
    live_failed how e had left held holds input
    (input_on had left bytes_read (rest_of left) read (rest_input left))
    (subst (LeavesText e held holds) (ap (refusal_text form []) no.2 ∙ sym (text_over form how input _ over)) f)

-- ---- a loop that is spent

pub memory_later : (e : LiveError) (buffered : List ℕ) (had left : Option (List ℕ)) → e ≡ live.Memory → IsSpentAfterSetup buffered had left e
memory_later e buffered had left is = λ s. absurd (subst IsSpent is s)

-- each line that was answered has a byte at least
lines_many : (form : AnswerForm) (e : LiveError) (begins : ℕ) (first : State) (buffered : List ℕ) (had left held holds : Option (List ℕ))
    → IsSpentAfterLines form begins first buffered (streams had left held holds) e → IsSpent e → HasHadAtLeast (2 ^ 64 - 1 - begins) buffered had left
lines_many form (live.Reader fault) begins first buffered had left held holds a s = absurd s
lines_many form live.Writer begins first buffered had left held holds a s = absurd s
lines_many form live.Memory begins first buffered had left held holds a s = absurd s
lines_many form live.LinesSpent begins first buffered had left held holds a s =
    let there = length-append buffered a.bytes_read in
    let parts = ap length a.parts in
    let sizes = length-append a.front a.rest in
    let least = length-lines_of a.front in
    (a.bytes_read, a.consumed, omega (arith, there, parts, sizes, least, a.lines))
lines_many form live.ReadsSpent begins first buffered had left held holds g s = (g.0, g.1, omega (arith, g.2))

pub opened_later : (form : AnswerForm) {T : Type 0} (r : Result T LiveError) (first : State) (buffered : List ℕ) (had left held holds : Option (List ℕ))
    → IfErr r (IsSpentAfterLines form 2 first buffered (streams had left held holds)) → IfErr r (IsSpentAfterSetup buffered had left)
opened_later form (Ok x) first buffered had left held holds h = tt
opened_later form (Err e) first buffered had left held holds h = λ s.
    let many = lines_many form e 2 first buffered had left held holds h s in (many.0, many.1, omega (arith, many.2))

-- a line with its line feed has one byte at least
behind_less : (bytes : List ℕ) → has_feed bytes ≡ true → length (rest_after_line bytes) < length bytes
behind_less [] feed = cc
behind_less (b ∷ bs) feed =
    (elim (b == 10) as (λ v. cond v true (has_feed bs) ≡ true → length (cond v bs (rest_after_line bs)) < suc (length bs)) [
      | true ↦ λ h. omega arith
      | false ↦ λ h. let again = behind_less bs h in omega (arith, again)
    ]) feed

-- the loops after a saved state whose line feed was given
lines_later : (form : AnswerForm) (e : LiveError) (first : State) (buffered part : List ℕ) (had mid left held holds : Option (List ℕ)) → has_feed (buffered ++ part) ≡ true
    → Consumes had mid part → IsSpentAfterLines form 3 first (rest_after_line (buffered ++ part)) (streams mid left held holds) e → IsSpentAfterSetup buffered had left e
lines_later form e first buffered part had mid left held holds feed read a = λ s.
    let many = lines_many form e 3 first (rest_after_line (buffered ++ part)) mid left held holds a s in
    let all = length-append part many.0 in
    let both = length-append buffered part in
    let less = behind_less (buffered ++ part) feed in
    (part ++ many.0, Consumes-then had mid left part many.0 read many.1, omega (arith, all, both, less, many.2))

pub answered_later : (form : AnswerForm) {T : Type 0} (r : Result T LiveError) (first : State) (buffered part : List ℕ) (had mid left held holds : Option (List ℕ)) (follow : Bool)
    → follow ≡ has_feed (buffered ++ part) → Consumes had mid part → (follow ≡ false → IfErr r (λ e. e ≡ live.Memory))
    → IfErr r (IsSpentAfterLines form 3 first (rest_after_line (buffered ++ part)) (streams mid left held holds))
    → IfErr r (IsSpentAfterSetup buffered had left)
answered_later form (Ok y) first buffered part had mid left held holds follow feed read none h = tt
answered_later form (Err e) first buffered part had mid left held holds false feed read none h = memory_later e buffered had left (none refl)
answered_later form (Err e) first buffered part had mid left held holds true feed read none h =
    lines_later form e first buffered part had mid left held holds (sym feed) read h

-- the loops after a setup that was given so
later_spends : (e : LiveError) (bytes_read : List ℕ) (had mid left : Option (List ℕ)) → Consumes had mid bytes_read
    → IsSpentAfterSetup (rest_after_line bytes_read) mid left e → IsSpentAfterInput had left e
later_spends e bytes_read had mid left read h = λ s.
    let all = h s in
    let bounded = behind_fewer bytes_read in
    let sizes = length-append bytes_read all.0 in
    (bytes_read ++ all.0, Consumes-then had mid left bytes_read all.0 read all.1, omega (arith, bounded, sizes, all.2))

pub if_later : {T : Type 0} (r : Result T LiveError) (bytes_read : List ℕ) (had mid left : Option (List ℕ)) → Consumes had mid bytes_read
    → IfErr r (IsSpentAfterSetup (rest_after_line bytes_read) mid left) → IfErr r (IsSpentAfterInput had left)
if_later (Ok x) bytes_read had mid left read h = tt
if_later (Err e) bytes_read had mid left read h = later_spends e bytes_read had mid left read h
