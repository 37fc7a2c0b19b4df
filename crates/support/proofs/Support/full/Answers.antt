-- `full` gives every term below n_cols: one less than a shifted one below 64, and all ones from there on. Assumes nothing.
use mathlib.Core.Path.{sym, ap, ◌∙◌}
use Prim.Native.Nat.{ℕ, ◌-◌}
use native.Mathlib.Omega.{arith}
use Rattle.support.specs.SupportLaws.{full_is, full_beyond}
use Rattle.support.proofs.Masks.{shl_is, shl_pos}
use Rattle.support.proofs.Support.full.Goals as goal

pub returns-then-n_cols-ge64 : goal.returns-then-n_cols-ge64
returns-then-n_cols-ge64 c = sym (full_beyond _ c.if-n_cols-ge64.true)

pub overflow_sub-result : goal.overflow_sub-result
overflow_sub-result c = shl_pos _ c.if-n_cols-ge64.false

pub returns : goal.returns
returns c = ap (λ (x : ℕ). x - 1) (shl_is _ c.if-n_cols-ge64.false) ∙ sym (full_is _ (omega arith))
