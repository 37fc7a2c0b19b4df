-- `list_terms` meets its contract: the place of a term is one of the table.
use mathlib.Core.Path.{sym, ◌∙◌}
use mathlib.Core.Path.{◌≡◌}
use mathlib.Core.Bool.{true}
use Prim.Native.Nat.{ℕ, ◌^◌, ◌≤◌, ◌<◌}
use native.Mathlib.Omega.{arith}
use lib.Count.{ones-le}
use lib.ListN.{length}
use Rattle.support.specs.Word.{has, place}
use Rattle.places.proofs.Places.{place_below, list_none, list_take, list_skip, list_end}
use Rattle.places.proofs.inner.list_terms.Goals.{then-contains, else-contains}
use Rattle.places.proofs.inner.list_terms.Goals as goal

room_for : (w n j : ℕ) {long most : ℕ} → w < 2 ^ n → n ≤ most → long ≡ most → has w j ≡ true → place w j < long
room_for w n j terms fits e h = omega (arith, fits, e, ones-le _ _ terms, place_below _ _ terms j h)

pub loop-j-init : goal.loop-j-init
loop-j-init c = list_none _ _ c.requires.0 _

pub put_term-requires : goal.put_term-requires
put_term-requires c =
    omega (arith, c.place-col.ensures, room_for _ _ _ c.requires.0 c.requires.1 c.loop-j.auto.terms (sym c.contains.ensures ∙ c.if-contains.true))

pub loop-j-preserved : goal.loop-j-preserved
loop-j-preserved c =
    let turn = c.loop-j in
    let terms = c.requires.0 in
    let test = sym c.contains.ensures in
    elim c.if-contains.branch [
      | then-contains in_it ↦
          let room : place c.args.support.0 turn.j < length turn.terms = room_for _ _ _ terms c.requires.1 turn.auto.terms (test ∙ in_it.if-contains.true) in
          rw (in_it.terms-is, in_it.put_term.ensures, in_it.place-col.ensures) (list_take _ _ terms turn.j turn.terms (test ∙ in_it.if-contains.true) room turn.invariant)
      | else-contains not_in ↦ rw not_in.terms-is (list_skip _ _ terms turn.j turn.terms (test ∙ not_in.if-contains.false) turn.invariant)
    ]

pub returns : goal.returns
returns c = list_end _ _ c.requires.0 c.loop-j.j _ (omega arith) c.loop-j.invariant
