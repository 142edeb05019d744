-- A run that is cut after some of its lines, saved there, and continued from over the same setup.
use Rattle.std.proofs.Common.{◌≡◌, ℕ, ◌+◌, ◌≤◌, ◌^◌, Bool, true, false, cond, List, [], ◌∷◌, ◌++◌, length, Option, Some, None, Result, Ok, Err}
use Rattle.std.proofs.Common.{refl, sym, ap, ◌∙◌, arith, append_assoc, append-nil}
use Rattle.std.proofs.lemmas.Str.{is_utf8-from_IsUtf8}
use Rattle.json.proofs.Printed.Utf8.{IsUtf8-are_ascii}
use Rattle.json.specs.Print.{escape_byte}
use Rattle.std.specs.Prelude.{codes, nat_lt, ok_or}
use Rattle.std.proofs.lemmas.Bool.Decides.{nat_tests}
use Rattle.serde_json.specs.Data.{Data, Items, array, item, no_items, string}
use Rattle.serde_json.specs.Read.{read}
use Rattle.serde_json.specs.Written.{compact_text}
use Rattle.check_objects.specs.Configuration.{Configuration}
use Rattle.check_objects.specs.Setup.{setup_of}
use Rattle.check_objects.specs.JsonTree.{tree_of}
use Rattle.setup_model.specs.Agreement.{◌>>=◌}
use Rattle.check_saved_state.specs.Saved.{Saved}
use Rattle.check_saved_state.specs.Text.{saved_of_text, saved_text}
use Rattle.check_saved_state.proofs.InverseLemmas.{inverse}
use Rattle.check_saved_state.proofs.PlainLemmas.{read_compact}
use Rattle.check_sched.specs.Saved.{state_after_resume, saved_of}
use Rattle.check_sched.specs.State.{IsState, State, opening}
use Rattle.check_sched.proofs.PublicLaws.{opening_can_be, saved_of_state}
use Rattle.check_sched.proofs.SavedLaws.{resumed_same}
use Rattle.check_sched.proofs.StateLaws.{step_is_state}
use Rattle.nagsched_protocol.specs.declared.command.RunCommand.{RunCommand}
use Rattle.nagsched_protocol.specs.declared.command.RunCommand.TheVariants as command
use Rattle.nagsched_protocol.specs.declared.refusal.InputRefusal.{InputRefusal}
use Rattle.nagsched_protocol.specs.declared.refusal.InputRefusal.TheVariants as refusal
use Rattle.nagsched_protocol.specs.declared.refusal.LineFault.{LineFault}
use Rattle.nagsched_protocol.specs.declared.refusal.LineFault.TheVariants as fault
use Rattle.nagsched_protocol.specs.Command.{command_by}
use Rattle.nagsched_protocol.specs.LiveInput.{rest_after_line, has_feed}
use Rattle.nagsched_protocol.specs.Line.{at_line, command_in, command_of, is_blank}
use Rattle.nagsched_protocol.specs.declared.script.TheConstants.{MAX_INPUT_BYTES}
use Rattle.nagsched_protocol.specs.declared.start.Start.{Start}
use Rattle.nagsched_protocol.specs.declared.start.Start.TheVariants as starts
use Rattle.nagsched_protocol.specs.Input.{first_line_of, lines_of}
use Rattle.nagsched_protocol.specs.Script.{Script, beginning_of, beginning_over, commands_of_lines, with_saved_refusal, with_setup_refusal}
use Rattle.nagsched_protocol.specs.Script.{state_after_resume_at, script_from, script_of}
use Rattle.nagsched_protocol.proofs.LiveInputLemmas.{behind_on, first_on}
use Rattle.nagsched_protocol.proofs.ScriptLemmas.{commands_by_number, commands_from}
use Rattle.nagsched_protocol.specs.Text.{answer_line, saved_line, script_text, state_after_command, text, text_from}
use Rattle.nagsched_protocol.proofs.LiveLaws.{accepted, begun, lines_by, script_with}
use Rattle.nagsched_protocol.proofs.TextLemmas.{command_keeps}
use Rattle.nagsched_run.specs.Cut.{first_part, second_part, whole_input}
use Rattle.nagsched_protocol.specs.Output.{AreWholeLines}
use Rattle.nagsched_run.proofs.FeedLemmas.{saved_free}
use Rattle.nagsched_run.proofs.LiveLemmas.{setup_is}
use Rattle.nagsched_run.proofs.ReadSetupLemmas.{setup_by}

-- ---- commands, whatever the numbers of their lines

at_again : {K : Type 0} (r : Result K LineFault) (n k : ℕ) (x : K) → at_line n r ≡ Ok x → at_line k r ≡ Ok x
at_again (Ok y) n k x e = e
at_again (Err f) n k x e = cc

again_by : {K : Type 0} (long : Bool) (tree : Option Data) (made : Data → Result K LineFault) (n k : ℕ) (x : K)
    → cond long (Err (refusal.Line fault.TooLong n)) (ok_or tree (refusal.Line fault.NotJson n) >>= λ d. at_line n (made d)) ≡ Ok x
    → cond long (Err (refusal.Line fault.TooLong k)) (ok_or tree (refusal.Line fault.NotJson k) >>= λ d. at_line k (made d)) ≡ Ok x
again_by true tree made n k x e = cc
again_by false None made n k x e = cc
again_by false (Some d) made n k x e = at_again (made d) n k x e

command_again : {K : Type 0} (meaning : List ℕ → Items → Result K LineFault) (n k : ℕ) (line : List ℕ) (x : K)
    → command_of meaning n line ≡ Ok x → command_of meaning k line ≡ Ok x
unfolding command_of
command_again meaning n k line x e = again_by (nat_lt 4096 (length line)) (tree_of line) (command_in meaning) n k x e

-- the commands that continue with a first one
abbrev goes_on : {K : Type 0} → Result K InputRefusal → Result (List K) InputRefusal → Result (List K) InputRefusal
goes_on r rest = r >>= λ first. (rest >>= λ more. Ok (first ∷ more))

bind_parts : {K : Type 0} (r : Result K InputRefusal) (rest : Result (List K) InputRefusal) (b : List K) → goes_on r rest ≡ Ok b
    → (x : K) × (m : List K) × (r ≡ Ok x) × (rest ≡ Ok m) × (x ∷ m ≡ b)
bind_parts (Ok x) (Ok m) b e = (x, m, refl, refl, cc)
bind_parts (Ok x) (Err f) b e = cc
bind_parts (Err f) rest b e = cc

commands_again : {K : Type 0} (meaning : List ℕ → Items → Result K LineFault) (ls : List (List ℕ)) (n : ℕ) (b : List K)
    → commands_from meaning n ls ≡ Ok b → (k : ℕ) → commands_from meaning k ls ≡ Ok b
commands_again meaning [] n b e k = e
commands_again meaning (l ∷ ls) n b e k =
    (elim (is_blank l) as (λ v. cond v (commands_from meaning (n + 1) ls) (goes_on (command_of meaning n l) (commands_from meaning (n + 1) ls)) ≡ Ok b
    → cond v (commands_from meaning (k + 1) ls) (goes_on (command_of meaning k l) (commands_from meaning (k + 1) ls)) ≡ Ok b) [
      | true ↦ λ h. commands_again meaning ls (n + 1) b h (k + 1)
      | false ↦ λ h.
          let p = bind_parts (command_of meaning n l) (commands_from meaning (n + 1) ls) b h in
          ap (λ r. goes_on r (commands_from meaning (k + 1) ls)) (command_again meaning n k l p.0 p.2)
          ∙ ap (goes_on (Ok p.0)) (commands_again meaning ls (n + 1) p.1 p.3 (k + 1)) ∙ ap Ok p.4
    ]) e

-- the commands of lines are those of the first of them, and of the others after them
split : {K : Type 0} (meaning : List ℕ → Items → Result K LineFault) (xs ys : List (List ℕ)) (n : ℕ) (all : List K)
    → commands_from meaning n (xs ++ ys) ≡ Ok all
    → (a : List K) × (b : List K) × ((k : ℕ) → commands_from meaning k xs ≡ Ok a) × ((k : ℕ) → commands_from meaning k ys ≡ Ok b) × (all ≡ a ++ b)
split meaning [] ys n all e = ([], all, λ k. refl, commands_again meaning ys n all e, refl)
split {K = K} meaning (x ∷ xs) ys n all e =
    (elim (is_blank x) as (λ v. cond v (commands_from meaning (n + 1) (xs ++ ys))
    (goes_on (command_of meaning n x) (commands_from meaning (n + 1) (xs ++ ys))) ≡ Ok all
    → (a : List K) × (b : List K)
    × ((k : ℕ) → cond v (commands_from meaning (k + 1) xs) (goes_on (command_of meaning k x) (commands_from meaning (k + 1) xs)) ≡ Ok a)
    × ((k : ℕ) → commands_from meaning k ys ≡ Ok b) × (all ≡ a ++ b)) [
      | true ↦ λ h. let s = split meaning xs ys (n + 1) all h in (s.0, s.1, λ k. s.2 (k + 1), s.3, s.4)
      | false ↦ λ h.
          let p = bind_parts (command_of meaning n x) (commands_from meaning (n + 1) (xs ++ ys)) all h in
          let s = split meaning xs ys (n + 1) p.1 p.3 in (
            p.0 ∷ s.0,
            s.1,
            λ k. ap (λ r. goes_on r (commands_from meaning (k + 1) xs)) (command_again meaning n k x p.0 p.2) ∙ ap (goes_on (Ok p.0)) (s.2 (k + 1)),
            s.3,
            sym p.4 ∙ ap (λ l. p.0 ∷ l) s.4,
          )
    ]) e

join : {K : Type 0} (meaning : List ℕ → Items → Result K LineFault) (xs ys : List (List ℕ)) (a b : List K)
    → ((k : ℕ) → commands_from meaning k xs ≡ Ok a) → ((k : ℕ) → commands_from meaning k ys ≡ Ok b)
    → (n : ℕ) → commands_from meaning n (xs ++ ys) ≡ Ok (a ++ b)
join meaning [] ys a b f g n = let h : Ok [] ≡ Ok a = f 0 in let none : [] ≡ a = cc in g n ∙ ap (λ l. Ok (l ++ b)) none
join meaning (x ∷ xs) ys a b f g n =
    (elim (is_blank x) as (λ v. cond v (commands_from meaning (n + 1) xs) (goes_on (command_of meaning n x) (commands_from meaning (n + 1) xs)) ≡ Ok a
    → cond v (commands_from meaning (n + 1) (xs ++ ys)) (goes_on (command_of meaning n x) (commands_from meaning (n + 1) (xs ++ ys))) ≡ Ok (a ++ b)) [
      | true ↦ λ h. join meaning xs ys a b (commands_again meaning xs (n + 1) a h) g (n + 1)
      | false ↦ λ h.
          let p = bind_parts (command_of meaning n x) (commands_from meaning (n + 1) xs) a h in
          ap (λ r. goes_on r (commands_from meaning (n + 1) (xs ++ ys))) p.2
          ∙ ap (goes_on (Ok p.0)) (join meaning xs ys p.1 b (commands_again meaning xs (n + 1) p.1 p.3) g (n + 1)) ∙ ap (λ l. Ok (l ++ b)) p.4
    ]) (f n)

-- ---- states

abbrev through : State → List RunCommand → State
through s [] = s
through s (c ∷ cs) = through (state_after_command s c) cs

text_on : (s : State) (a b : List RunCommand) → text_from s (a ++ b) ≡ text_from s a ++ text_from (through s a) b
text_on s [] b = refl
text_on s (c ∷ a) b =
    ap (λ l. answer_line s c ++ l) (text_on (state_after_command s c) a b)
    ∙ sym (append_assoc (answer_line s c) (text_from (state_after_command s c) a) (text_from (through (state_after_command s c) a) b))

by_is : (s : State) (c : RunCommand) → IsState s → IsState (state_after_command s c)
by_is s (command.Call call) is = step_is_state s call is
by_is s command.Save is = is
by_is s command.List is = is

through_is : (s : State) (a : List RunCommand) → IsState s → IsState (through s a)
through_is s [] is = is
through_is s (c ∷ a) is = through_is (state_after_command s c) a (by_is s c is)

through_keeps : (s : State) (a : List RunCommand) → (through s a).setup ≡ s.setup
through_keeps s [] = refl
through_keeps s (c ∷ a) = through_keeps (state_after_command s c) a ∙ command_keeps s c

-- over the same setup, from the saved start, the state is the one that was saved
goes_on_there : (c : Configuration) (t : State) → IsState t → t.setup ≡ c → state_after_resume_at c (saved_of t) None ≡ t
goes_on_there c t is same = ap (λ d. state_after_resume d (saved_of t) t.start) (sym same) ∙ resumed_same t t.start is

-- ---- the line that saves

abbrev save_text : List ℕ
save_text = codes "[\"save\"]"

abbrev save_tree : Data
save_tree = array (item (string (codes "save")) no_items)

save_read : tree_of save_text ≡ Some save_tree
unfolding tree_of escape_byte
save_read =
    let text : compact_text save_tree ≡ save_text = refl in
    let back : read save_text ≡ Some save_tree =
    ap read (sym text) ∙ read_compact save_tree (IsUtf8-are_ascii (codes "save") refl, tt) (omega arith) in
    rw (is_utf8-from_IsUtf8 save_text (IsUtf8-are_ascii save_text refl), back) refl

save_said : (c : Configuration) (n : ℕ) → command_of (command_by c) n save_text ≡ Ok command.Save
unfolding command_of
save_said c n = rw save_read refl

save_line : (c : Configuration) (n : ℕ) → commands_from (command_by c) n (save_text ∷ []) ≡ Ok (command.Save ∷ [])
save_line c n = rw (save_said c n) refl

-- ---- scripts by what comes after the setup document

-- an input of a document and these bytes begins as they do over its setup
begins_with : (how : Start) (document bytes : List ℕ) → has_feed document ≡ false
    → beginning_of how (document ++ 10 ∷ bytes) ≡ (with_setup_refusal (setup_of document) >>= λ c. beginning_over how c bytes)
begins_with how document bytes free =
    ap (λ l. with_setup_refusal (setup_of l) >>= λ c. beginning_over how c (rest_after_line (document ++ 10 ∷ bytes)))
    (first_on document (10 ∷ bytes) free ∙ append-nil document)
    ∙ ap (λ l. with_setup_refusal (setup_of document) >>= λ c. beginning_over how c l) (behind_on document (10 ∷ bytes) free)

over_made : (s : State) (lines : List (List ℕ)) (commands : Result (List RunCommand) InputRefusal) (script : Script)
    → commands_from (command_by s.setup) 2 lines ≡ commands → (commands >>= λ all. Ok (script_with s all)) ≡ Ok script
    → (all : List RunCommand) × (commands_from (command_by s.setup) 2 lines ≡ Ok all) × (script_with s all ≡ script)
over_made s lines (Ok all) script same h = (all, same, cc)
over_made s lines (Err e) script same h = cc

over_parts : (start : ℕ) (setup : Result Configuration InputRefusal) (bytes : List ℕ) (script : Script)
    → ((setup >>= λ c. beginning_over (starts.Fresh start) c bytes) >>= script_from) ≡ Ok script
    → (c : Configuration) × (all : List RunCommand) × (setup ≡ Ok c) × (commands_from (command_by c) 2 (lines_of bytes) ≡ Ok all)
    × (script_with (opening c start) all ≡ script)
over_parts start (Err e) bytes script h = cc
over_parts start (Ok c) bytes script h =
    let lines = lines_of bytes in
    let p = over_made (opening c start) lines (commands_of_lines 2 (command_by c) lines) script (sym (commands_by_number (command_by c) 2 lines)) h in
    (c, p.0, refl, p.1, p.2)

over_back : (start : ℕ) (c : Configuration) (bytes : List ℕ) (all : List RunCommand) → commands_from (command_by c) 2 (lines_of bytes) ≡ Ok all
    → (beginning_over (starts.Fresh start) c bytes >>= script_from) ≡ Ok (script_with (opening c start) all)
over_back start c bytes all f =
    let g : commands_of_lines 2 (command_by c) (lines_of bytes) ≡ Ok all = commands_by_number (command_by c) 2 (lines_of bytes) ∙ f in rw g refl

resumed_back : (c : Configuration) (text rest : List ℕ) (saved : Saved) (b : List RunCommand) → has_feed text ≡ false
    → saved_of_text text ≡ Ok saved → commands_from (command_by c) 3 (lines_of rest) ≡ Ok b
    → (beginning_over (starts.Resumed None) c (text ++ 10 ∷ rest) >>= script_from) ≡ Ok (script_with (state_after_resume_at c saved None) b)
resumed_back c text rest saved b free v f =
    let first : first_line_of (text ++ 10 ∷ rest) ≡ text = first_on text (10 ∷ rest) free ∙ append-nil text in
    let w : with_saved_refusal (saved_of_text (first_line_of (text ++ 10 ∷ rest))) ≡ Ok saved = ap (λ l. with_saved_refusal (saved_of_text l)) first ∙ ap with_saved_refusal v in
    let g : commands_of_lines 3 (command_by c) (lines_of rest) ≡ Ok b = commands_by_number (command_by c) 3 (lines_of rest) ∙ f in
    ap (λ r. (r >>= λ d. Ok (begun (state_after_resume_at c d None) 3 (rest_after_line (text ++ 10 ∷ rest)))) >>= script_from) w
    ∙ ap (λ l. script_from (begun (state_after_resume_at c saved None) 3 l)) (behind_on text (10 ∷ rest) free)
    ∙ ap (λ r. r >>= λ all. Ok (script_with (state_after_resume_at c saved None) all)) g

text_by : (how : Start) (input : List ℕ) (script : Script) → script_of how input ≡ Ok script → text how input ≡ text_from script.state script.commands
unfolding text
text_by how input script e = ap script_text e

script_short : (how : Start) (input : List ℕ) → length input ≤ MAX_INPUT_BYTES → script_of how input ≡ (beginning_of how input >>= script_from)
unfolding script_of
script_short how input bounded = let short : nat_lt MAX_INPUT_BYTES (length input) ≡ false = grind (arith, nat_tests, bounded) in rw short refl

-- the text of a document and these bytes, by the script that they are over its setup
text_with : (how : Start) (document bytes : List ℕ) (c : Configuration) (script : Script) → has_feed document ≡ false → with_setup_refusal (setup_of document) ≡ Ok c
    → (beginning_over how c bytes >>= script_from) ≡ Ok script → length (document ++ 10 ∷ bytes) ≤ MAX_INPUT_BYTES
    → text how (document ++ 10 ∷ bytes) ≡ text_from script.state script.commands
text_with how document bytes c script free setup made bounded =
    text_by how (document ++ 10 ∷ bytes) script
    (script_short how (document ++ 10 ∷ bytes) bounded
    ∙ ap (λ r. r >>= script_from) (begins_with how document bytes free ∙ ap (λ r. r >>= λ d. beginning_over how d bytes) setup) ∙ made)

-- ---- the cut

pub cut_and_gone_on : (start : ℕ) (document front rest : List ℕ) (script : Script) → start ≤ 2 ^ 60
    → has_feed document ≡ false → AreWholeLines front → script_of (starts.Fresh start) (whole_input document front rest) ≡ Ok script
    → (before : List ℕ) × (s : State)
    × (length (first_part document front) ≤ MAX_INPUT_BYTES → text (starts.Fresh start) (first_part document front) ≡ before ++ saved_line s)
    × (length (second_part document s rest) ≤ MAX_INPUT_BYTES
    → text (starts.Fresh start) (whole_input document front rest) ≡ before ++ text (starts.Resumed None) (second_part document s rest))
cut_and_gone_on start document front rest script moment free whole e =
    let how = starts.Fresh start in
    let input = whole_input document front rest in
    let there : (beginning_of how input >>= script_from) ≡ Ok script = accepted how input script e in
    let p = over_parts start (with_setup_refusal (setup_of document)) (front ++ rest) script
    (ap (λ r. r >>= script_from) (sym (begins_with how document (front ++ rest) free)) ∙ there) in
    let c = p.0 in
    let q = split (command_by c) (lines_of front) (lines_of rest) 2 p.1 (ap (commands_from (command_by c) 2) (sym (lines_by front rest whole)) ∙ p.3) in
    let a = q.0 in
    let b = q.1 in
    let valid = setup_by document c (setup_is (setup_of document) c p.2) in
    let opened = opening c start in
    let s = through opened a in
    let is = through_is opened a (opening_can_be c start valid moment) in
    let keeps = through_keeps opened a in
    let saved = saved_text (saved_of s) in
    let text_is = inverse (saved_of s) (saved_of_state s is) in
    let with_save = ap (commands_from (command_by c) 2) (lines_by front save_text whole)
    ∙ join (command_by c) (lines_of front) (save_text ∷ []) a (command.Save ∷ []) q.2 (save_line c) 2 in
    let again = resumed_back c saved rest (saved_of s) b (saved_free (saved_of s)) text_is (q.3 3) in (
      text_from opened a,
      s,
      λ bounded.
          text_with how document (front ++ save_text) c (script_with opened (a ++ command.Save ∷ [])) free p.2
          (over_back start c (front ++ save_text) (a ++ command.Save ∷ []) with_save) bounded
          ∙ text_on opened a (command.Save ∷ []) ∙ ap (λ l. text_from opened a ++ l) (append-nil (saved_line s)),
      λ bounded.
          text_by how input script e ∙ ap (λ (t : Script). text_from t.state t.commands) (sym p.4) ∙ ap (text_from opened) q.4 ∙ text_on opened a b
          ∙ ap (λ t. text_from opened a ++ text_from t b) (sym (goes_on_there c s is keeps))
          ∙ ap (λ l. text_from opened a ++ l) (sym (text_with (starts.Resumed None) document (saved ++ 10 ∷ rest) c
          (script_with (state_after_resume_at c (saved_of s) None) b) free p.2 again bounded)),
    )
