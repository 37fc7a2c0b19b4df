-- Sums side by side: before a page's first row, and after one more. Assumes nothing.
use mathlib.Core.Path.{◌≡◌, sym, ap₂, ◌∙◌}
use mathlib.Core.List.{List}
use Prim.Native.Nat.{ℕ, ◌+◌}
use native.Mathlib.Omega.{arith}
use lib.Ieee.{Float}
use Rattle.steps.specs.Num.{plus, times, cell}
use Rattle.steps.specs.Sums.{sum_none, sum_more}
use Rattle.pairs.specs.declared.fours.Four.{Four}
use Rattle.pairs.specs.declared.fours.Tile.{Tile}
use Rattle.pairs.specs.Grown.{grown, with_rows}
use Rattle.pairs.specs.Tiles.{FourOf, TileOf, Took, TileTook}

module _ (page : List Float) (n : ℕ) (s : List Float) where
  -- one sum
  pub one_none : (r c : ℕ) → cell n s r c ≡ with_rows page n 0 s r c
  unfolding with_rows grown
  one_none r c = sym (sum_none _ _ _)

  pub one_more : (i r c : ℕ) {z x y : Float} → z ≡ with_rows page n i s r c → x ≡ cell n page i r → y ≡ cell n page i c → plus z (times x y) ≡ with_rows page n (i + 1) s r c
  unfolding with_rows grown
  one_more i r c e e' e'' = sum_more _ 0 i _ (omega arith) e (ap₂ times e' e'')

  -- four of row r
  pub four_none : (r q : ℕ) (f : Four) → FourOf (cell n s r) q f → FourOf (with_rows page n 0 s r) q f
  four_none r q f o =
      record {
        first = o.first ∙ one_none r q;
        second = o.second ∙ one_none r (q + 1);
        third = o.third ∙ one_none r (q + 2);
        fourth = o.fourth ∙ one_none r (q + 3);
      }

  pub four_more : (i r q : ℕ) (f : Four) (x : Float) (y g : Four) → FourOf (with_rows page n i s r) q f → x ≡ cell n page i r → FourOf (cell n page i) q y → Took f x y g →
      FourOf (with_rows page n (i + 1) s r) q g
  four_more i r q f x y g o e o' k =
      record {
        first = k.first ∙ one_more i r q o.first e o'.first;
        second = k.second ∙ one_more i r (q + 1) o.second e o'.second;
        third = k.third ∙ one_more i r (q + 2) o.third e o'.third;
        fourth = k.fourth ∙ one_more i r (q + 3) o.fourth e o'.fourth;
      }

  -- four by four
  pub tile_none : (p q : ℕ) (t : Tile) → TileOf (cell n s) p q t → TileOf (with_rows page n 0 s) p q t
  tile_none p q t o =
      record {
        first = four_none p q t.a o.first;
        second = four_none (p + 1) q t.b o.second;
        third = four_none (p + 2) q t.c o.third;
        fourth = four_none (p + 3) q t.d o.fourth;
      }

  pub tile_more : (i p q : ℕ) (t : Tile) (x y : Four) (u : Tile) → TileOf (with_rows page n i s) p q t → FourOf (cell n page i) p x → FourOf (cell n page i) q y → TileTook t x y u →
      TileOf (with_rows page n (i + 1) s) p q u
  tile_more i p q t x y u o ox oy k =
      record {
        first = four_more i p q t.a x.a y u.a o.first ox.first oy k.first;
        second = four_more i (p + 1) q t.b x.b y u.b o.second ox.second oy k.second;
        third = four_more i (p + 2) q t.c x.c y u.c o.third ox.third oy k.third;
        fourth = four_more i (p + 3) q t.d x.d y u.d o.fourth ox.fourth oy k.fourth;
      }
