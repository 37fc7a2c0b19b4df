-- `formed` tests the length, then each frame. Assumes nothing.
use Rattle.std.proofs.Common.{◌≡◌, true, false, rules, ◌∙◌, arith}
use Rattle.std.proofs.lemmas.Iterator.{cases_from_all, YieldsList-from_range, serves_from_Range}
use Rattle.std.proofs.lemmas.Bool.Decides.{nat_tests}
use Rattle.reader.specs.Frames.{frame_formed, frames_formed}
use Rattle.reader.proofs.FrameLaws.{frame_fits, frames_answer}
use Rattle.reader.proofs.inner.frames.Frames.formed.Goals as goal

pub all-requires-clause-callable : goal.all-requires-clause-callable
all-requires-clause-callable c = serves_from_Range (λ x q k. search rules) (λ k l h. let fits = frame_fits _ _ (c.if-s-at.true ∙ c.at.ensures) k h in search rules)

pub returns-then-s-at : goal.returns-then-s-at
returns-then-s-at c =
    let a = c.args in
    frames_answer a.s.now a.self.count a.self.width _ (c.if-s-at.true ∙ c.at.ensures)
    (cases_from_all _ _ _ (λ k. frame_formed a.s.now a.self.width k ≡ true) (λ k. frame_formed a.s.now a.self.width k ≡ false) c.all.ensures.ran (YieldsList-from_range 0 a.self.count a.self.count (search rules) (omega arith)) (λ k q h. search rules) (λ k q h. search rules))

pub returns-else-s-at : goal.returns-else-s-at
unfolding frames_formed
returns-else-s-at c = grind (arith, nat_tests)
