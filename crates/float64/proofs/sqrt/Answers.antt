-- `float64::sqrt` meets its contract. What each way out gives is `root_of x` by a fact of `proofs/Ways.antt`, and so the root (`given`). Assumes nothing.
use Rattle.std.proofs.Common.{◌≡◌, T, sym, ◌∙◌, subst}
use lib.Ieee.{Float, binary64, fits}
use Rattle.float64.specs.Root.{root_of}
use Rattle.float64.specs.Rule.{SqrtCall}
use Rattle.float64.proofs.Rule.{root_call}
use Rattle.float64.proofs.Tests.{told_nan, told_number, below_inf}
use Rattle.float64.proofs.Values.{in_range, value}
use Rattle.float64.proofs.Ways.{root_nan, root_zero, root_neg, root_inf, root_of_units}
use Rattle.float64.proofs.sqrt.Goals.{Start}
use Rattle.float64.proofs.sqrt.Goals as goal

in_binary64 : (c : Start) → T (fits binary64 c.args.x)
in_binary64 c = subst T (sym c.well_formed.0.1) tt

given : (c : Start) {r : Float} → r ≡ root_of c.args.x → SqrtCall c.args.x r
given c {r} = root_call c.args.x r (in_binary64 c)

pub returns-then-is_nan : goal.returns-then-is_nan
returns-then-is_nan c = given (goal.at.returns-then-is_nan c).Start (root_nan c.args.x (told_nan c.args.x (sym c.is_nan.ensures.value ∙ c.if-is_nan.true)))

pub returns-then-x : goal.returns-then-x
returns-then-x c = given (goal.at.returns-then-x c).Start (root_zero c.args.x c.if-x.true)

pub returns-then-x-2 : goal.returns-then-x-2
returns-then-x-2 c = given (goal.at.returns-then-x-2 c).Start (root_neg c.args.x c.if-x-2.true)

pub returns-then-b-eq9218868437227405312 : goal.returns-then-b-eq9218868437227405312
returns-then-b-eq9218868437227405312 c = given (goal.at.returns-then-b-eq9218868437227405312 c).Start (root_inf c.args.x (in_binary64 (goal.at.returns-then-b-eq9218868437227405312 c).Start) c.if-b-eq9218868437227405312.true)

pub root_pattern-requires : goal.root_pattern-requires
root_pattern-requires c =
    let range = in_range c.args.x (in_binary64 (goal.at.root_pattern-requires c).Start) (told_number c.args.x (sym c.is_nan.ensures.value ∙ c.if-is_nan.false)) c.if-x.false c.if-x-2.false c.if-b-eq9218868437227405312.false in
    record { positive = range.0; finite = range.1 }

pub float_from_bits-result : goal.float_from_bits-result
float_from_bits-result c = below_inf c.root_pattern.result c.root_pattern.ensures.small

pub returns : goal.returns
returns c =
    let units = value c.args.x (in_binary64 (goal.at.returns c).Start) (told_number c.args.x (sym c.is_nan.ensures.value ∙ c.if-is_nan.false)) c.if-x.false c.if-x-2.false c.if-b-eq9218868437227405312.false in
    given (goal.at.returns c).Start (c.root_pattern.ensures.reads ∙ root_of_units c.args.x _ units c.if-x.false)
