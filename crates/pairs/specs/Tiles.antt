-- Four numbers and four by four, and what putting them back leaves. Assumes nothing.
use Rattle.std.specs.Prelude.{◌≡◌, List, ℕ, ◌+◌, Float}
use Rattle.steps.specs.Num.{plus, times, Entry}
use Rattle.pairs.specs.Grown.{Changed}
use Rattle.pairs.specs.declared.fours.Four.{Four}
use Rattle.pairs.specs.declared.fours.Tile.{Tile}

-- four numbers of g from q on
pub record FourOf (g : ℕ → Float) (q : ℕ) (f : Four) : Type 0 where
  pub first : f.a ≡ g q
  pub second : f.b ≡ g (q + 1)
  pub third : f.c ≡ g (q + 2)
  pub fourth : f.d ≡ g (q + 3)

-- those of the four rows of e from p on
pub record TileOf (e : Entry) (p q : ℕ) (t : Tile) : Type 0 where
  pub first : FourOf (e p) q t.a
  pub second : FourOf (e (p + 1)) q t.b
  pub third : FourOf (e (p + 2)) q t.c
  pub fourth : FourOf (e (p + 3)) q t.d

-- four sums and the products of x and four numbers
pub record Took (s : Four) (x : Float) (y r : Four) : Type 0 where
  pub first : r.a ≡ plus s.a (times x y.a)
  pub second : r.b ≡ plus s.b (times x y.b)
  pub third : r.c ≡ plus s.c (times x y.c)
  pub fourth : r.d ≡ plus s.d (times x y.d)

-- so in each row, with the row's own number
pub record TileTook (t : Tile) (x y : Four) (r : Tile) : Type 0 where
  pub first : Took t.a x.a y r.a
  pub second : Took t.b x.b y r.b
  pub third : Took t.c x.c y r.c
  pub fourth : Took t.d x.d y r.d

-- t is s with four numbers put to row i from column q on
pub record PutFour (n i q : ℕ) (f : Four) (s t : List Float) : Type 0 where
  pub put : (e : Entry) → FourOf (e i) q f → Changed (λ r c x. e r c) n i (i + 1) q (q + 4) s t

-- t is s with four by four put to the rows from p on and the columns from q on
pub record PutTile (n p q : ℕ) (f : Tile) (s t : List Float) : Type 0 where
  pub put : (e : Entry) → TileOf e p q f → Changed (λ r c x. e r c) n p (p + 4) q (q + 4) s t
