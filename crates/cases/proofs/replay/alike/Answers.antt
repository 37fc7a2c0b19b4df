-- `alike` meets its contract: what is compared is the answer, whole. Assumes nothing.
use Rattle.std.proofs.Common.{◌≡◌, ◌∙◌, sym, ap, ℕ, List, length, take, drop}
use Rattle.std.proofs.Math.Seq.{take_at}
use Rattle.std.proofs.lemmas.Bool.Decides.{Decides-eqb}
use Rattle.std.proofs.lemmas.Slice.Eq.{slice_eq-Decides}
use Rattle.frames.specs.Exchange.{answer_of, Exchange}
use Rattle.cases.proofs.replay.alike.Goals as goal

-- the bytes that `respond` counts are the answer
answered : (input was out : List ℕ) (r : ℕ) → Exchange input was out r → take r out ≡ answer_of input
answered input was out r p = ap (take r) p.bytes ∙ take_at (answer_of input) (drop (length (answer_of input)) was) r (sym p.long)

pub returns : goal.returns
returns c =
    let is = answered _ _ _ _ c.respond-k.ensures in
    let same = slice_eq-Decides Decides-eqb _ _ _ c.eq.ensures in
    (λ t. sym is ∙ same.0 t, λ e. same.1 (is ∙ e))
