-- Four numbers put to a row, and four by four. Assumes nothing.
use mathlib.Core.Path.{◌≡◌}
use mathlib.Core.List.{List}
use Prim.Native.Nat.{ℕ, ◌+◌, ◌*◌, ◌≤◌, ◌<◌}
use native.Mathlib.Omega.{arith}
use lib.ListN.{length, set, length-set}
use lib.Ieee.{Float}
use Rattle.steps.specs.Num.{cell}
use Rattle.pairs.specs.declared.fours.Four.{Four}
use Rattle.pairs.specs.declared.fours.Tile.{Tile}
use Rattle.pairs.specs.Grown.{Change, Changed}
use Rattle.pairs.specs.Tiles.{PutFour, PutTile}
use Rattle.pairs.proofs.Changes.{beside, below, one_entry}

-- the four stores
module _ (n i q : ℕ) (f : Four) (s : List Float) where
  abbrev s1 : List Float
  s1 = set s (i * n + q) f.a

  abbrev s2 : List Float
  s2 = set s1 (i * n + (q + 1)) f.b

  abbrev s3 : List Float
  s3 = set s2 (i * n + (q + 2)) f.c

  pub four_put : (i + 1) * n ≤ length s → q + 4 ≤ n → PutFour n i q f s (set s3 (i * n + (q + 3)) f.d)
  four_put room hq =
      record {
        put = λ e o.
            let put : Change = λ r c x. e r c in
            next put (q + 3) (q + 4) s3 f.d (simp length-set room) (omega arith) (omega arith) (omega arith)
            (next put (q + 2) (q + 3) s2 f.c (simp length-set room) (omega arith) (omega arith) (omega arith)
            (next put (q + 1) (q + 2) s1 f.b (simp length-set room) (omega arith) (omega arith) (omega arith)
            (one_entry put n i q s f.a room (omega arith) o.first) o.second) o.third) o.fourth;
      }
    where
      next : (g : Change) (k k' : ℕ) (t : List Float) (x : Float) → (i + 1) * n ≤ length t → k < n → q ≤ k → k' ≡ k + 1 →
          Changed g n i (i + 1) q k s t → x ≡ g i k (cell n t i k) → Changed g n i (i + 1) q k' s (set t (i * n + k) x)
      next g k k' t x room hk le e w is = beside g n i (i + 1) q k (k + 1) k' s t _ le (omega arith) e w (one_entry g n i k t x room hk is)

-- the four rows
pub tile_put : (n p q : ℕ) (f : Tile) (s s1 s2 s3 s4 : List Float) →
    PutFour n p q f.a s s1 → PutFour n (p + 1) q f.b s1 s2 → PutFour n (p + 2) q f.c s2 s3 → PutFour n (p + 3) q f.d s3 s4 → PutTile n p q f s s4
tile_put n p q f s s1 s2 s3 s4 a b c d =
    record {
      put = λ e o.
          let put : Change = λ r c x. e r c in
          below put n p (p + 3) (p + 3 + 1) (p + 4) q (q + 4) s s3 s4 (omega arith) (omega arith) (omega arith)
          (below put n p (p + 2) (p + 2 + 1) (p + 3) q (q + 4) s s2 s3 (omega arith) (omega arith) (omega arith)
          (below put n p (p + 1) (p + 1 + 1) (p + 2) q (q + 4) s s1 s2 (omega arith) (omega arith) (omega arith)
          (a.put e o.first) (b.put e o.second)) (c.put e o.third)) (d.put e o.fourth);
    }
