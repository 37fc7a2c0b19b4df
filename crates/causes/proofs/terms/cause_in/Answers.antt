-- `cause_in` makes the cause of what the fit saw of the term. Assumes nothing.
use Rattle.std.proofs.Common.{◌∙◌}
use Rattle.why.proofs.Answer.{cause_found}
use Rattle.causes.proofs.terms.cause_in.Goals as goal

pub returns : goal.returns
returns c = let g = c.args.given in c.cause_of.ensures ∙ cause_found g.task g.theta.now g.target.now c.args.term_idx.0 c.fit_in-watched.ensures.0 c.fit_in-watched.ensures.1
