-- `write_causes` writes a line a turn. Assumes nothing.
use Rattle.std.proofs.Common.{◌∙◌, arith}
use Rattle.rule.specs.Sizes.{ready_lent}
use Rattle.exchange.specs.Room.{ready_within}
use Rattle.causes.proofs.Telling.{told_none, told_next, told_end}
use Rattle.causes.proofs.terms.write_causes.Goals as goal

pub loop-j-init : goal.loop-j-init
loop-j-init c = (omega arith, omega arith, told_none _ _)

pub cause_in-cause-requires : goal.cause_in-cause-requires
cause_in-cause-requires c =
    ready_lent (ready_within c.requires.0 c.args.given.sized (c.loop-j.invariant.0 ∙ c.requires.1) (c.loop-j.invariant.1 ∙ c.requires.2))

pub write_cause-next-requires : goal.write_cause-next-requires
write_cause-next-requires c = omega (arith, c.loop-j.invariant.2.place, c.loop-j.invariant.2.long, c.requires.0.few_cols)

pub loop-j-preserved : goal.loop-j-preserved
loop-j-preserved c =
    (omega arith, omega arith, told_next _ _ c.cause_in-cause.ensures (omega arith) c.loop-j.invariant.2 c.write_cause-next.ensures)

pub returns : goal.returns
returns c = told_end _ _ (omega arith) (omega arith) c.loop-j.invariant.2
