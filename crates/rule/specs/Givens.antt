-- The problem and the fit of what is given. Assumes nothing.
use Rattle.rule.specs.Rule.{Problem, Fit}
use Rattle.rule.specs.Fits.{problem_of, fit_of}
use Rattle.rule.specs.declared.given.Given.{Given}

abbrev pub problem_given : Given → Problem
problem_given g = problem_of g.task g.theta.now g.target.now

abbrev pub fit_given : Given → Fit
fit_given g = fit_of g.task g.theta.now g.target.now
