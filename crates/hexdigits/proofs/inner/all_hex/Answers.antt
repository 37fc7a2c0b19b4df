-- `all_hex` looks for a byte that is no digit. Assumes nothing.
use Rattle.std.proofs.Common.{◌≤◌, ◌<◌, rules}
use Rattle.std.proofs.lemmas.Iterator.{cases_from_all, YieldsList-from_slice}
use Rattle.std.proofs.lemmas.Bool.Decides.{nat_tests}
use Rattle.hexdigits.specs.Hex.{value, digit}
use Rattle.hexdigits.proofs.Runs.{run, hex_answer}
use Rattle.hexdigits.proofs.inner.all_hex.Goals as goal

pub returns : goal.returns
unfolding digit
returns c =
    let a = c.args in
    hex_answer a.s.now a.at a.n _ c.requires
    (cases_from_all _ _ _ (λ b. value b < 16) (λ b. 16 ≤ value b) c.all.ensures.ran (YieldsList-from_slice (run a.s.now a.at a.n) (search rules)) (λ x q k. search (rules, nat_tests)) (λ x q k. search (rules, nat_tests)))
