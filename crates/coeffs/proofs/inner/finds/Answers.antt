-- `finds` meets its contract: the bit of a term is what a look says of its coefficient, and no support has a term beyond the coefficients.
use mathlib.Core.Path.{sym, ap, ◌∙◌}
use lib.Ieee.{nan}
use Rattle.support.specs.WordLaws.{word_lt, has_word, has_beyond}
use Rattle.rule.specs.Fits.{keeps}
use Rattle.coeffs.proofs.inner.finds.Goals as goal

pub returns-in-Some : goal.returns-in-Some
unfolding keeps
returns-in-Some c =
    let found = c.in-Some.ensures.lookup.3 in
    c.kept.ensures ∙ ap (keeps c.args.setup 0) (found.1 nan) ∙ sym (has_word _ _ _ found.0)

pub returns-in-None : goal.returns-in-None
returns-in-None c = sym (has_beyond _ _ _ (word_lt _ _) c.in-None.ensures.lookup.3)
