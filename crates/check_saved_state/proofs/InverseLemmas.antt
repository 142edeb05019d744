-- The text of what is saved is one line, short enough, and read as what is saved.
use Rattle.std.proofs.Common.{◌≡◌, ℕ, ◌≤◌, false, List, length, Some, IsUtf8, Ok, ap, sym, ◌∙◌, arith}
use Rattle.std.specs.Prelude.{nat_lt}
use Rattle.std.proofs.lemmas.Bool.Decides.{nat_tests}
use Rattle.json.specs.Print.{print}
use Rattle.serde_json.specs.Read.{read}
use Rattle.serde_json.proofs.Texts.{print-outline}
use Rattle.setup_reader.specs.Feeds.{HasNoLineFeed}
use Rattle.setup_reader.proofs.FeedLemmas.{compact_free}
use Rattle.setup_reader.proofs.TreeLemmas.{tree_some}
use Rattle.setup_model.specs.Agreement.{◌>>=◌}
use Rattle.check_saved_state.specs.Saved.{IsSaved, Saved}
use Rattle.check_saved_state.specs.Text.{saved_of_text, saved_of_tree, saved_text}
use Rattle.check_saved_state.specs.declared.fault.SavedFault.TheVariants as faults
use Rattle.check_saved_state.specs.Tree.{saved_tree}
use Rattle.check_saved_state.specs.Verification.{verified_saved}
use Rattle.check_saved_state.proofs.FitLemmas.{saved_fits}
use Rattle.check_saved_state.proofs.PlainLemmas.{read_compact, text_is_utf8, tokens_of_text}
use Rattle.check_saved_state.proofs.TreeLemmas.{draft_back}
use Rattle.check_saved_state.proofs.VerifiedLemmas.{verified_is}

tree_back : (saved : Saved) → IsSaved saved → saved_of_tree (saved_tree saved) ≡ Ok saved
tree_back saved is = ap (λ r. r >>= verified_saved) (draft_back saved is) ∙ verified_is saved is

text_back : (saved : Saved) (text : List ℕ) → IsSaved saved → length text ≤ 16777216 → IsUtf8 text → read text ≡ Some (saved_tree saved)
    → saved_of_text text ≡ Ok saved
text_back saved text is bounded utf8 back =
    let short : nat_lt 16777216 (length text) ≡ false = grind (arith, nat_tests, bounded) in
    rw short (ap (λ r. r >>= saved_of_tree) (tree_some text (saved_tree saved) faults.NotJson utf8 back) ∙ tree_back saved is)

pub inverse : (saved : Saved) → IsSaved saved → saved_of_text (saved_text saved) ≡ Ok saved
inverse saved is =
    let fit = saved_fits saved is in
    let tree = saved_tree saved in
    text_back saved (saved_text saved) is fit.2 (text_is_utf8 tree fit.0) (read_compact tree fit.0 fit.1)

pub fits : (saved : Saved) → IsSaved saved → length (saved_text saved) ≤ 16777216
fits saved is = (saved_fits saved is).2

pub one_line : (saved : Saved) → IsSaved saved → HasNoLineFeed (saved_text saved)
one_line saved is =
    let tree = saved_tree saved in
    compact_free (saved_text saved) (sym (ap print (tokens_of_text tree (saved_fits saved is).0) ∙ print-outline tree))
