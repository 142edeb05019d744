-- The lines of a script.
use Rattle.std.proofs.Common.{ℕ, suc, ◌≡◌, ◌==◌, ◌+◌, ◌≤◌, Bool, true, false, not, if◌then◌else◌, cond, List, [], ◌∷◌, length, map}
use Rattle.std.proofs.Common.{Result, Ok, Err, ◌++◌, refl, sym, ◌∙◌, ap, append_assoc, arith}
use Rattle.std.specs.Prelude.{IfOk}
use Rattle.serde_json.specs.Data.{Items}
use Rattle.setup_model.specs.Agreement.{◌>>=◌, with_front, IsExpectedError}
use Rattle.nagsched_protocol.specs.Agreement.{refusal}
use Rattle.nagsched_protocol.specs.Line.{command_of, is_blank}
use Rattle.nagsched_protocol.specs.Input.{lines_of, onto_first}
use Rattle.nagsched_protocol.specs.Script.{all_or_first, commands_of_lines, numbered_from}
use Rattle.nagsched_protocol.specs.declared.script.TheConstants.{MAX_INPUT_BYTES}
use Rattle.nagsched_protocol.specs.declared.refusal.InputRefusal.{InputRefusal}
use Rattle.nagsched_protocol.specs.declared.refusal.LineFault.{LineFault}
use Rattle.nagsched_protocol.specs.declared.refusal.ScriptError.{ScriptError}
use Rattle.nagsched_protocol.specs.declared.refusal.ScriptError.TheVariants as errors

pub with_front-nothing : {K : Type 0} (rest : Result (List K) InputRefusal) → with_front [] rest ≡ rest
with_front-nothing (Ok more) = refl
with_front-nothing (Err e) = refl

-- ---- line after line

-- The commands of the lines from number n on, one line after another.
abbrev pub commands_from : {K : Type 0} → (List ℕ → Items → Result K LineFault) → ℕ → List (List ℕ) → Result (List K) InputRefusal
commands_from meaning n [] = Ok []
commands_from meaning n (line ∷ lines) = if is_blank line then commands_from meaning (n + 1) lines
    else (command_of meaning n line >>= λ first. (commands_from meaning (n + 1) lines >>= λ more. Ok (first ∷ more)))

abbrev pub commands_at : {K : Type 0} → (List ℕ → Items → Result K LineFault) → List (ℕ × List ℕ) → Result (List K) InputRefusal
commands_at meaning numbered_lines = all_or_first (map (λ p. command_of meaning p.0 p.1) numbered_lines)

-- one line after another gives the commands of all
pub commands_by_number : {K : Type 0} (meaning : List ℕ → Items → Result K LineFault) (n : ℕ) (ls : List (List ℕ))
    → commands_of_lines n meaning ls ≡ commands_from meaning n ls
commands_by_number meaning n [] = refl
commands_by_number meaning n (line ∷ ls) =
    let again = commands_by_number meaning (n + 1) ls in
    elim (is_blank line) as (λ v. commands_at meaning (cond (not v) ((n, line) ∷ numbered_from (n + 1) ls) (numbered_from (n + 1) ls))
    ≡ cond v (commands_from meaning (n + 1) ls)
    (command_of meaning n line >>= λ first. (commands_from meaning (n + 1) ls >>= λ more. Ok (first ∷ more)))) [
      | true ↦ again
      | false ↦ ap (λ r. command_of meaning n line >>= λ first. (r >>= λ more. Ok (first ∷ more))) again
    ]

-- a blank line is passed over, and counted
pub blank_passed : {K : Type 0} (meaning : List ℕ → Items → Result K LineFault) (n : ℕ) (all : Result (List K) InputRefusal) (front : List K)
    (lines : List (List ℕ)) (line : List ℕ) (rest : List (List ℕ))
    → all ≡ with_front front (commands_from meaning n lines) → lines ≡ line ∷ rest → is_blank line ≡ true
    → all ≡ with_front front (commands_from meaning (n + 1) rest)
blank_passed meaning n all front lines line rest h l b =
    h ∙ ap (λ ls. with_front front (commands_from meaning n ls)) l
    ∙ ap (λ v. with_front front (cond v (commands_from meaning (n + 1) rest)
    (command_of meaning n line >>= λ first. (commands_from meaning (n + 1) rest >>= λ more. Ok (first ∷ more))))) b

front_and_first : {K : Type 0} (front : List K) (first : K) (more : Result (List K) InputRefusal)
    → with_front front (more >>= λ rest. Ok (first ∷ rest)) ≡ with_front (front ++ first ∷ []) more
front_and_first front first (Ok rest) = ap Ok (sym (append_assoc front (first ∷ []) rest))
front_and_first front first (Err e) = refl

-- a line's command comes after those before it
pub command_read : {K : Type 0} (meaning : List ℕ → Items → Result K LineFault) (n : ℕ) (all : Result (List K) InputRefusal) (front : List K)
    (lines : List (List ℕ)) (line : List ℕ) (rest : List (List ℕ)) (first : K)
    → all ≡ with_front front (commands_from meaning n lines) → lines ≡ line ∷ rest → is_blank line ≡ false → command_of meaning n line ≡ Ok first
    → all ≡ with_front (front ++ first ∷ []) (commands_from meaning (n + 1) rest)
command_read meaning n all front lines line rest first h l b f =
    let more = commands_from meaning (n + 1) rest in
    h ∙ ap (λ ls. with_front front (commands_from meaning n ls)) l
    ∙ ap (λ v. with_front front (cond v more (command_of meaning n line >>= λ c. (more >>= λ cs. Ok (c ∷ cs))))) b
    ∙ ap (λ r. with_front front (r >>= λ c. (more >>= λ cs. Ok (c ∷ cs)))) f
    ∙ front_and_first front first more

-- ---- how many lines there are

length-onto_first : (b : ℕ) (ls : List (List ℕ)) → length (onto_first b ls) ≤ length ls + 1
length-onto_first b [] = omega arith
length-onto_first b (l ∷ ls) = omega arith

length_by : (b : ℕ) (ls : List (List ℕ)) (n : ℕ) (t : Bool) → length ls ≤ n → length (cond t ([] ∷ ls) (onto_first b ls)) ≤ n + 1
length_by b ls n true h = omega arith
length_by b ls n false h = omega (arith, length-onto_first b ls)

pub length-lines_of : (bs : List ℕ) → length (lines_of bs) ≤ length bs
length-lines_of [] = omega arith
length-lines_of (b ∷ bs) = let h = length_by b (lines_of bs) (length bs) (b == 10) (length-lines_of bs) in omega (arith, h)

pub few_lines : (bs : List ℕ) → length bs ≤ MAX_INPUT_BYTES → length (lines_of bs) ≤ MAX_INPUT_BYTES
few_lines bs h = omega (arith, length-lines_of bs, h)

-- ---- where the reading fails or comes to its end

-- a part that is refused refuses the whole
pub part_fails : {X Y : Type 0} (e : ScriptError) (part : Result X InputRefusal) (next : X → Result Y InputRefusal)
    → IsExpectedError (refusal e) part → IsExpectedError (refusal e) (part >>= next)
part_fails errors.Memory part next f = tt
part_fails (errors.Refused r) part next f = rw f refl

-- so does a part that follows one that was read
pub part_stops : {X Y : Type 0} (e : ScriptError) (part : Result X InputRefusal) (next : X → Result Y InputRefusal) (x : X)
    → part ≡ Ok x → IsExpectedError (refusal e) (next x) → IsExpectedError (refusal e) (part >>= next)
part_stops errors.Memory part next x s f = tt
part_stops (errors.Refused r) part next x s f = rw (s, f) refl

-- ---- how many commands there are

few_more : {K : Type 0} (first : Result K InputRefusal) (more : Result (List K) InputRefusal) (n : ℕ) → IfOk more (λ all. length all ≤ n)
    → IfOk (first >>= λ x. (more >>= λ all. Ok (x ∷ all))) (λ all. length all ≤ suc n)
few_more (Err e) more n h = tt
few_more (Ok x) (Err e) n h = tt
few_more (Ok x) (Ok all) n h = omega (arith, h)

few_by : {K : Type 0} (blank : Bool) (first : Result K InputRefusal) (more : Result (List K) InputRefusal) (n : ℕ) → IfOk more (λ all. length all ≤ n)
    → IfOk (cond blank more (first >>= λ x. (more >>= λ all. Ok (x ∷ all)))) (λ all. length all ≤ suc n)
few_by true first (Ok all) n h = omega (arith, h)
few_by true first (Err e) n h = tt
few_by false first more n h = few_more first more n h

-- no more commands than lines
few_commands : {K : Type 0} (meaning : List ℕ → Items → Result K LineFault) (n : ℕ) (ls : List (List ℕ))
    → IfOk (commands_from meaning n ls) (λ all. length all ≤ length ls)
few_commands meaning n [] = omega arith
few_commands meaning n (l ∷ ls) =
    few_by (is_blank l) (command_of meaning n l) (commands_from meaning (n + 1) ls) (length ls) (few_commands meaning (n + 1) ls)

-- no more commands after line 1 than bytes
pub few_behind : {K : Type 0} (meaning : List ℕ → Items → Result K LineFault) (n : ℕ) (bytes : List ℕ) (all : List K)
    → commands_of_lines n meaning (lines_of bytes) ≡ Ok all → length all ≤ length bytes
few_behind meaning n bytes all e =
    let bounded = few_commands meaning n (lines_of bytes) in
    let read : commands_from meaning n (lines_of bytes) ≡ Ok all = sym (commands_by_number meaning n (lines_of bytes)) ∙ e in
    let most : length all ≤ length (lines_of bytes) = rw read at bounded in
    omega (arith, most, length-lines_of bytes)
