-- `term_at` walks the terms and counts those that are in. The loop's invariant: `seen` is the count of the terms below j, and has not passed
-- the place that is looked for. The measure is what is left of the 64 terms. Assumes nothing.
-- the term that is met when the place is reached
use mathlib.Core.Path.{◌≡◌, sym, ap, ◌∙◌}
use mathlib.Core.Bool.{true}
use Prim.Native.Nat.{ℕ, ◌-◌, ◌<◌}
use native.Mathlib.Omega.{arith}
use Rattle.support.specs.Word.{has, count, term_at}
use Rattle.support.specs.WordLaws.{passed}
use Rattle.support.specs.CountLaws.{count_none, count_take, count_skip}
use Rattle.support.specs.TermLaws.{term_of_place, term_beyond}
use Rattle.support.proofs.Support.term_at.Goals.{then-contains+else-seen-c, else-contains}
use Rattle.support.proofs.Support.term_at.Goals as goal

found : (w j p : ℕ) {seen : ℕ} → j < 64 → has w j ≡ true → seen ≡ count (has w) j → seen ≡ p → j ≡ term_at w p
found w j p l e s q = sym (term_of_place 64 w j l (passed e)) ∙ ap (term_at w) (sym s ∙ q)

pub loop-j-init : goal.loop-j-init
loop-j-init c = (omega arith, sym (count_none _), omega arith)

pub returns-then-seen-c : goal.returns-then-seen-c
returns-then-seen-c c =
    found c.args.self.0 c.loop-j.j _ (omega arith)
    (sym c.contains.ensures ∙ c.if-contains.true) c.loop-j.invariant.1 c.if-seen-c.true

pub loop-j-preserved : goal.loop-j-preserved
loop-j-preserved c =
    let test = sym c.contains.ensures in
    let w = c.args.self.0 in
    elim c.if-contains.branch [
      | then-contains+else-seen-c in_it ↦ (omega arith, omega (arith, count_take (has w) c.loop-j.j (test ∙ in_it.if-contains.true), in_it.seen-is), omega (arith, in_it.seen-is))
      | else-contains not_in ↦ (omega arith, omega (arith, count_skip (has w) c.loop-j.j (test ∙ not_in.if-contains.false), not_in.seen-is), omega (arith, not_in.seen-is))
    ]

pub returns : goal.returns
returns c =
    let w = c.args.self.0 in
    let all : c.loop-j.j ≡ 64 = omega arith in
    sym (term_beyond 64 w _ (omega (arith, ap (count (has w)) all)))
