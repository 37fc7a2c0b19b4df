-- `each_column` meets its contract. The loop's invariant: the matrix has had the columns passed, and their betas stand in b.
-- one more column
use Rattle.std.specs.Prelude.{◌≡◌, List, ℕ, ◌+◌, ◌<◌, length, set, Float}
use Rattle.std.proofs.Common.{sym, ap, ◌∙◌, arith}
use Rattle.steps.specs.Loops.{loop_none, loop_more}
use Rattle.steps.specs.Table.{filled, filled_none, filled_more, filled_end}
use Rattle.householder.specs.Qr.{column, after, beta, betas}
use Rattle.householder.proofs.inner.each_column.Goals as goal

after_more : (m n j : ℕ) (a t u : List Float) (x : Float) → t ≡ after m n a j → (u, x) ≡ column m n j t → u ≡ after m n a (j + 1)
unfolding after
after_more m n j a t u x is step = loop_more 0 j (λ j l. (column m n j l).0) a (omega arith) is (ap (λ (p : List Float × Float). p.0) step)

beta-more : (m n j : ℕ) (a t u b b₀ : List Float) (x : Float) → t ≡ after m n a j → (u, x) ≡ column m n j t → j < length b₀ → b ≡ filled (beta m n a) j b₀ → set b j x ≡ filled (beta m n a) (j + 1) b₀
unfolding beta
beta-more m n j a t u b b₀ x is step h fill =
    let now-beta : x ≡ beta m n a j = ap (λ (p : List Float × Float). p.1) step ∙ ap (λ (z : List Float). (column m n j z).1) is in
    rw (now-beta, fill) (filled_more (beta m n a) j b₀ h)

pub loop-j-init : goal.loop-j-init
unfolding after
loop-j-init c = (sym (loop_none _ _ _), filled_none _ _)

pub loop-j-preserved : goal.loop-j-preserved
loop-j-preserved c =
    let turn = c.loop-j in
    let args = c.args in
    let a = args.a.now in
    let made = c.qr_column in
    let room : turn.j < length args.b.now = omega (arith, c.loop-j-test.true, c.requires.1) in (
      after_more args.m args.n turn.j a turn.a made.new.a made.result turn.invariant.0 made.ensures,
      beta-more args.m args.n turn.j a turn.a made.new.a turn.b args.b.now made.result turn.invariant.0 made.ensures room turn.invariant.1,
    )

pub returns : goal.returns
unfolding betas
returns c =
    let end = c.loop-j in
    let all : end.j ≡ c.args.n = omega arith in
    (rw all at end.invariant.0, (rw all at end.invariant.1) ∙ filled_end _ _ _ c.requires.1)
