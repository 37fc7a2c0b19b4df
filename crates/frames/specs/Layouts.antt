-- An input by rows and one by columns that say the same numbers are answered alike. Assumes nothing.
use Rattle.std.specs.Prelude.{Ok, Some, ◌≡◌, List, ℕ}
use Rattle.std.proofs.Common.{sym, ap, ◌∙◌}
use Rattle.places.specs.declared.Layout.{Layout}
use Rattle.rule.specs.Tasks.{laid}
use Rattle.rule.specs.declared.Task.{Task}
use Rattle.reader.specs.Header.{head_of}
use Rattle.exchange.specs.Exchange.{answer_lines}
use Rattle.exchange.specs.Layouts.{SameNumbers, inputs_alike}
use Rattle.frames.specs.Exchange.{checked, fit_asked, fit_lines, answer_of}
use Rattle.frames.specs.Cases.{answer_good}

-- byte for byte, whichever way each stores theta
pub answers_alike : (s t : List ℕ) (task : Task) (l m : Layout) → head_of s ≡ Some (laid l task) → head_of t ≡ Some (laid m task)
    → checked s (laid l task) ≡ Ok tt → checked t (laid m task) ≡ Ok tt → SameNumbers s t (laid l task) (laid m task) → answer_of s ≡ answer_of t
unfolding answer_lines fit_asked
answers_alike s t task l m e f ok fine same =
    answer_good s (laid l task) (Ok tt) e ok ∙ ap fit_lines (inputs_alike s t task l m same) ∙ sym (answer_good t (laid m task) (Ok tt) f fine)
