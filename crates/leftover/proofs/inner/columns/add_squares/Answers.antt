-- `add_squares` meets its contract: a square more.
use mathlib.Core.Path.{◌≡◌, sym, ap₂, ◌∙◌}
use mathlib.Core.List.{◌∷◌, ◌++◌, []}
use Prim.Native.Nat.{◌+◌}
use native.Mathlib.Omega.{arith}
use lib.Ieee.{Float, nan}
use denote.Ref.{Bor}
use Rattle.std.proofs.Common.{rules}
use lib.ListN.{length, length-append}
use Rattle.std.proofs.lemmas.Slice.Zip.{zip_turn}
use Rattle.steps.specs.Num.{less}
use Rattle.steps.specs.Sums.{sum_none, sum_more}
use Rattle.leftover.specs.Error.{square}
use Rattle.leftover.proofs.inner.columns.add_squares.Goals as goal

pub loop-t-init : goal.loop-t-init
loop-t-init c = sym (sum_none _ _ _)

pub loop-t-preserved : goal.loop-t-preserved
loop-t-preserved c =
    let xs = c.loop-t.yielded in
    let pair : Bor Float × Bor Float = (c.in-Some.t, c.in-Some.s) in
    let here = zip_turn c.args.target.now c.args.sums.now xs c.into_iter-t-iterator.result c.loop-t.t-iterator c.next.new.self _ (search rules) (search rules) c.loop-t.yielded_by pair c.in-Some.is c.next.ensures.steps in
    let long : length (xs ++ (pair ∷ [])) ≡ length xs + 1 = length-append xs (pair ∷ []) in
    rw long
    (c.add_square-error.ensures
    ∙ sum_more _ 0 (length xs) _ (omega arith) c.loop-t.invariant (ap₂ (λ (x y : Float). square (less x y)) (here.2 nan) (here.3 nan)))
