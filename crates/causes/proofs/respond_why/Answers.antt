-- `respond_why` answers by what its check does. Assumes nothing.
use Rattle.std.proofs.Common.{◌≡◌, List, ℕ, sym, arith}
use Rattle.std.specs.Prelude.{Ok}
use Rattle.exchange.specs.Laws.{exchanged, passed_ok}
use Rattle.exchange.specs.Exchange.{Accepted, passed}
use Rattle.reader.specs.Header.{head_of}
use Rattle.rule.specs.declared.Task.{Task}
use Rattle.causes.specs.Exchange.{why_checked}
use Rattle.causes.specs.Cases.{causes_passed, causes_refused, why_was_accepted}
use Rattle.causes.proofs.respond_why.Goals as goal

-- an input that the check passes is accepted
passed_accepted : (s : List ℕ) (task : Task) → passed (why_checked s) (head_of s) ≡ Ok task → Accepted s task
passed_accepted s task e = why_was_accepted s task (passed_ok (why_checked s) (head_of s) task e)

pub causes_rows-requires : goal.causes_rows-requires
causes_rows-requires c = (passed_accepted _ _ (sym c.in-Ok.ensures), omega arith)

pub returns-in-Ok : goal.returns-in-Ok
returns-in-Ok c = exchanged (causes_passed _ _ (sym c.in-Ok.ensures)) c.causes_rows.ensures

pub returns-in-Err : goal.returns-in-Err
returns-in-Err c = exchanged (causes_refused _ _ (sym c.in-Err.ensures)) c.write_refusal.ensures
