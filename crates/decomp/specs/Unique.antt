-- The contract of `qr` determines its answer and every number that it leaves. Assumes nothing.
use Rattle.std.specs.Prelude.{◌≡◌, List, ℕ, Float}
use Rattle.refusal.specs.Answers.{Answer}
use Rattle.decomp.specs.Calls.{QrCall}

pub qr_unique : (a : List Float) (m n : ℕ) (d b w d' b' w' d'' b'' w'' : List Float) (r s : Answer) →
    QrCall a m n d d' b b' w w' r → QrCall a m n d d'' b b'' w w'' s → (r ≡ s) × (d' ≡ d'') × (b' ≡ b'') × (w' ≡ w'')
qr_unique a m n d b w d' b' w' d'' b'' w'' r s p q = (cc, cc, cc, cc)
