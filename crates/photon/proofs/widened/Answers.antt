-- `photon::widened` meets its contract: the table is in front, and behind it are zeros. Assumes nothing.
use Rattle.std.proofs.Common.{◌≡◌, ℕ, zero, suc, refl, List, [], ◌∷◌, ◌++◌, get_or}
use lib.ListN.{replicate}
use Rattle.photon.proofs.widened.Goals as goal

zero-at : (n k : ℕ) → ◌≡◌ {A = ℕ} (get_or (replicate n 0) k 0) 0
zero-at zero k = refl
zero-at (suc n) zero = refl
zero-at (suc n) (suc k) = zero-at n k

-- zeros after a list are not seen
padded : (xs : List ℕ) (n k : ℕ) → ◌≡◌ {A = ℕ} (get_or (xs ++ replicate n 0) k 0) (get_or xs k 0)
padded [] n k = zero-at n k
padded (x ∷ xs) n zero = refl
padded (x ∷ xs) n (suc k) = padded xs n k

pub returns : goal.returns
returns c k = rw c.copy_from_slice.ensures.after (padded c.args.table 240 k)
