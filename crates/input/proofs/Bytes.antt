-- Known bytes, read after one another into a room. Assumes nothing.
use Rattle.std.proofs.Common.{◌≡◌, sym, refl, subst, ℕ, zero, suc, ◌+◌, ◌-◌, ◌<◌, ◌≤◌, List, ◌++◌, length, take, drop, Option, None, Some, Result, Ok, Err, arith, append_assoc, length-take-le}
use Rattle.std.proofs.Math.Seq.{take-append-add}
use Rattle.std.proofs.lemmas.List.{take-append-le}
use Rattle.std.specs.Io.{ReadsAtMost}
use Rattle.std.specs.Io.KnownBytes.{Consumes, ReadConsumes}
use Rattle.input.specs.Read.{after_read}
use borrow.Rule.Slice.PartMut.{put_mid}

-- one run of bytes after another
consumes_both : (a b c : Option (List ℕ)) (xs ys : List ℕ) → Consumes a b xs → Consumes b c ys → Consumes a c (xs ++ ys)
consumes_both None b c xs ys f g = tt
consumes_both (Some p) None c xs ys f g = absurd f
consumes_both (Some p) (Some q) None xs ys f g = absurd g
consumes_both (Some p) (Some q) (Some r) xs ys f g = rw (f, g) (sym (append_assoc xs ys r))

-- k more bytes, read behind the first n of a room
pub consumes_more : (a b c : Option (List ℕ)) (room buf : List ℕ) (n k : ℕ) → n ≤ length room → k ≤ length buf
    → Consumes a b (take n room) → Consumes b c (take k buf) → Consumes a c (take (n + k) (put_mid n (length room - n) room buf))
consumes_more a b c room buf n k h l f g =
    let front = take n room in
    let rest = drop (length room - n) (drop n room) in
    let came : take (n + k) (front ++ (buf ++ rest)) ≡ front ++ take k (buf ++ rest) = subst (λ (x : ℕ). take (x + k) (front ++ (buf ++ rest)) ≡ front ++ take k (buf ++ rest)) (length-take-le n room h) (take-append-add front (buf ++ rest) k) in
    rw (came, take-append-le k buf rest l) (consumes_both a b c (take n room) (take k buf) f g)

-- the count that an answer tells
abbrev tells : {E : Type 0} → Result (Option ℕ) E → ℕ → Type 0
tells (Err e) m = ⊥
tells (Ok None) m = ⊥
tells (Ok (Some k)) m = k ≡ m

-- what a read behind the first n bytes of a room brought, where its answer is that m have come
pub came_more : {E : Type 0} (r : Result ℕ E) (a b c : Option (List ℕ)) (room buf : List ℕ) (n m : ℕ) → after_read n r ≡ Ok (Some m) → n ≤ length room
    → ReadsAtMost r buf → Consumes a b (take n room) → ReadConsumes b c r buf
    → (n < m) × (m ≤ n + length buf) × Consumes a c (take m (put_mid n (length room - n) room buf))
came_more (Err e) a b c room buf n m q h l f g = absurd (subst (λ t. tells t m) (sym q) refl)
came_more (Ok zero) a b c room buf n m q h l f g = absurd (subst (λ t. tells t m) (sym q) refl)
came_more (Ok (suc k)) a b c room buf n m q h l f g =
    let e : n + suc k ≡ m = subst (λ t. tells t m) (sym q) refl in
    rw (sym e) (omega arith, omega (arith, l.0), consumes_more a b c room buf n (suc k) h l.0 f g.0)
