-- `respond` answers by what its check does. Assumes nothing.
use Rattle.std.proofs.Common.{sym, arith}
use Rattle.exchange.specs.Laws.{exchanged}
use Rattle.frames.specs.Cases.{answer_passed, answer_refused, passed_accepted}
use Rattle.frames.proofs.respond.Goals as goal

pub fit_rows-requires : goal.fit_rows-requires
fit_rows-requires c = (passed_accepted _ _ (sym c.in-Ok.ensures), omega arith)

pub returns-in-Ok : goal.returns-in-Ok
returns-in-Ok c = exchanged (answer_passed _ _ (sym c.in-Ok.ensures)) c.fit_rows.ensures

pub returns-in-Err : goal.returns-in-Err
returns-in-Err c = exchanged (answer_refused _ _ (sym c.in-Err.ensures)) c.write_refusal.ensures
