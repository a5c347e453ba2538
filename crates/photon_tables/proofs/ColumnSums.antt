-- The column step is linear: it is the sum of what each cell gives alone. For any size, width and coefficients.
-- Assumes nothing.
use mathlib.Core.Path.{◌≡◌, refl, sym, ap, ap₂, ◌∙◌, subst}
use mathlib.Core.Bool.{Bool, cond}
use mathlib.Core.List.{List, [], ◌∷◌, ◌++◌}
use mathlib.Core.Logic.{⊎_elim}
use Prim.Native.Nat.{ℕ, zero, suc, ◌*◌, ◌^◌, ◌≤◌, ◌<◌}
use native.Mathlib.Nat.{not-suc-le-zero, le_of_suc-le-suc, suc_inj, suc-ne-zero, eq-or-lt_of_le}
use native.Mathlib.Omega.{arith}
use lib.Bits.{bit_xor, xor_zero_r, xor_self}
use lib.Dec.{eqb, ltb}
use lib.Pow.{pow_pos}
use lib.ListN.{get_or, length}
use borrow.Author.Tests.{lt-ltb, le-ltb, eq-eqb, ne_eqb}
use Rattle.standard.specs.Rounds.{iterate}
use Rattle.standard.specs.Grid.{tab}
use Rattle.standard.specs.Field.{mul, dot}
use Rattle.standard.specs.Photon.{PhotonParameters, serial}
use Rattle.standard.proofs.Xor.{xor-exchange}
use Rattle.standard.proofs.Tab.{length-tab, get_d-tab, tab-cong, tab-self}
use Rattle.standard.proofs.Undo.{All, all-at, all_of}
use Rattle.standard.proofs.FieldLaws.{mul-xor}
use Rattle.standard.proofs.SerialLaws.{Column, serial-column}
use Rattle.standard.proofs.PhotonLaws.{Sound}
use Rattle.standard.proofs.Tests.{lt-or-le}
use Rattle.photon_tables.specs.Columns.{only, mixed, sum_of}
use Rattle.photon_tables.proofs.WordCells.{cond-lt}

-- cell by cell
abbrev both : List ℕ → List ℕ → List ℕ
both [] ys = []
both (x ∷ xs) [] = []
both (x ∷ xs) (y ∷ ys) = bit_xor x y ∷ both xs ys

both-snoc : (xs ys : List ℕ) (a b : ℕ) → length xs ≡ length ys → both (xs ++ (a ∷ [])) (ys ++ (b ∷ [])) ≡ both xs ys ++ (bit_xor a b ∷ [])
both-snoc [] [] a b e = refl
both-snoc [] (y ∷ ys) a b e = absurd (suc-ne-zero (length ys) (sym e))
both-snoc (x ∷ xs) [] a b e = absurd (suc-ne-zero (length xs) e)
both-snoc (x ∷ xs) (y ∷ ys) a b e = ap (λ (l : List ℕ). bit_xor x y ∷ l) (both-snoc xs ys a b (suc_inj e))

both_at : (xs ys : List ℕ) (i : ℕ) → length xs ≡ length ys → i < length xs → get_or (both xs ys) i 0 ≡ bit_xor (get_or xs i 0) (get_or ys i 0)
both_at [] ys i e h = absurd (not-suc-le-zero h)
both_at (x ∷ xs) [] i e h = absurd (suc-ne-zero (length xs) e)
both_at (x ∷ xs) (y ∷ ys) zero e h = refl
both_at (x ∷ xs) (y ∷ ys) (suc i) e h = both_at xs ys i (suc_inj e) (le_of_suc-le-suc h)

both-tab : (n : ℕ) (f g : ℕ → ℕ) → both (tab n f) (tab n g) ≡ tab n (λ j. bit_xor (f j) (g j))
both-tab zero f g = refl
both-tab (suc n) f g = ap (λ (l : List ℕ). bit_xor (f 0) (g 0) ∷ l) (both-tab n (λ k. f (suc k)) (λ k. g (suc k)))

module _ (d s poly : ℕ) (low : 2 ^ s ≤ poly) (high : poly < 2 ^ s * 2) where
  dot-both : (zs xs ys : List ℕ) → All (λ x. x < 2 ^ s) xs → All (λ y. y < 2 ^ s) ys → length xs ≡ length ys
      → dot (2 ^ s) poly zs (both xs ys) ≡ bit_xor (dot (2 ^ s) poly zs xs) (dot (2 ^ s) poly zs ys)
  unfolding dot
  dot-both [] xs ys a b e = refl
  dot-both (z ∷ zs) [] [] a b e = refl
  dot-both (z ∷ zs) [] (y ∷ ys) a b e = absurd (suc-ne-zero (length ys) (sym e))
  dot-both (z ∷ zs) (x ∷ xs) [] a b e = absurd (suc-ne-zero (length xs) e)
  dot-both (z ∷ zs) (x ∷ xs) (y ∷ ys) a b e =
      ap₂ bit_xor (mul-xor s poly low high z x y a.0 b.0) (dot-both zs xs ys a.1 b.1 (suc_inj e))
      ∙ xor-exchange (mul (2 ^ s) poly z x) (mul (2 ^ s) poly z y) (dot (2 ^ s) poly zs xs) (dot (2 ^ s) poly zs ys)

  serial-both : (z xs ys : List ℕ) → Column d (2 ^ s) xs → Column d (2 ^ s) ys → 0 < d
      → serial (2 ^ s) poly z (both xs ys) ≡ both (serial (2 ^ s) poly z xs) (serial (2 ^ s) poly z ys)
  unfolding serial
  serial-both z [] ys a b h = absurd (omega (arith, a.size))
  serial-both z (x ∷ xs) [] a b h = absurd (omega (arith, b.size))
  serial-both z (x ∷ xs) (y ∷ ys) a b h =
      let e : length (x ∷ xs) ≡ length (y ∷ ys) = a.size ∙ sym b.size in
      ap (λ (v : ℕ). both xs ys ++ (v ∷ [])) (dot-both z (x ∷ xs) (y ∷ ys) a.cells b.cells e)
      ∙ sym (both-snoc xs ys (dot (2 ^ s) poly z (x ∷ xs)) (dot (2 ^ s) poly z (y ∷ ys)) (suc_inj e))

  steps-column : (n : ℕ) (z c : List ℕ) → 0 < d → Column d (2 ^ s) c → Column d (2 ^ s) (iterate n (serial (2 ^ s) poly z) c)
  steps-column zero z c h k = k
  steps-column (suc n) z c h k = steps-column n z (serial (2 ^ s) poly z c) h (serial-column d s poly low high z h c k)

  steps-both : (n : ℕ) (z xs ys : List ℕ) → Column d (2 ^ s) xs → Column d (2 ^ s) ys → 0 < d
      → iterate n (serial (2 ^ s) poly z) (both xs ys) ≡ both (iterate n (serial (2 ^ s) poly z) xs) (iterate n (serial (2 ^ s) poly z) ys)
  steps-both zero z xs ys a b h = refl
  steps-both (suc n) z xs ys a b h =
      ap (iterate n (serial (2 ^ s) poly z)) (serial-both z xs ys a b h)
      ∙ steps-both n z (serial (2 ^ s) poly z xs) (serial (2 ^ s) poly z ys) (serial-column d s poly low high z h xs a) (serial-column d s poly low high z h ys b) h

module _ (p : PhotonParameters) (h : Sound p) where
  pub tab-column : (f : ℕ → ℕ) → ((j : ℕ) → j < p.d → f j < 2 ^ p.s) → Column p.d (2 ^ p.s) (tab p.d f)
  tab-column f b =
      record {
        size = length-tab p.d f;
        cells = all_of (λ x. x < 2 ^ p.s) 0 (tab p.d f)
            (λ k l. let hk : k < p.d = subst (λ (m : ℕ). k < m) (length-tab p.d f) l in
            subst (λ (x : ℕ). x < 2 ^ p.s) (sym (get_d-tab p.d f k 0 hk)) (b k hk));
      }

  pub mixed-column : (c : List ℕ) → Column p.d (2 ^ p.s) c → Column p.d (2 ^ p.s) (mixed p c)
  unfolding mixed
  mixed-column c k = steps-column p.d p.s p.poly h.poly-low h.poly-high p.d p.z c h.pos k

  mixed-both : (xs ys : List ℕ) → Column p.d (2 ^ p.s) xs → Column p.d (2 ^ p.s) ys → (i : ℕ) → i < p.d
      → get_or (mixed p (both xs ys)) i 0 ≡ bit_xor (get_or (mixed p xs) i 0) (get_or (mixed p ys) i 0)
  unfolding mixed
  mixed-both xs ys a b i hi =
      ap (λ (l : List ℕ). get_or l i 0) (steps-both p.d p.s p.poly h.poly-low h.poly-high p.d p.z xs ys a b h.pos)
      ∙ both_at (mixed p xs) (mixed p ys) i ((mixed-column xs a).size ∙ sym (mixed-column ys b).size) (omega (arith, (mixed-column xs a).size))

  -- a column of nothing gives nothing: it is twice itself
  pub mixed-none : (i : ℕ) → i < p.d → get_or (mixed p (tab p.d (λ j. 0))) i 0 ≡ 0
  mixed-none i hi =
      let z : List ℕ = tab p.d (λ j. 0) in
      let kz : Column p.d (2 ^ p.s) z = tab-column (λ j. 0) (λ j hj. pow_pos p.s) in
      ap (λ (l : List ℕ). get_or (mixed p l) i 0) (sym (both-tab p.d (λ j. 0) (λ j. 0)))
      ∙ mixed-both z z kz kz i hi ∙ xor_self (get_or (mixed p z) i 0)

  module _ (c : List ℕ) (k : Column p.d (2 ^ p.s) c) where
    pub column-cell : (j : ℕ) → j < p.d → get_or c j 0 < 2 ^ p.s
    column-cell j hj = all-at (λ x. x < 2 ^ p.s) 0 c k.cells j (omega (arith, k.size))

    -- its first n cells
    upper : ℕ → ℕ → ℕ
    upper n j = cond (ltb j n) (get_or c j 0) 0

    alone : ℕ → ℕ → ℕ
    alone r j = cond (eqb j r) (get_or c r 0) 0

    none : (j : ℕ) → upper 0 j ≡ 0
    unfolding upper
    none j = ap (λ (a : Bool). cond a (get_or c j 0) 0) (le-ltb j 0 (omega arith))

    small-upper : (m j : ℕ) → j < p.d → upper m j < 2 ^ p.s
    unfolding upper
    small-upper m j hj = cond-lt (ltb j m) (column-cell j hj) (pow_pos p.s)

    small-alone : (m j : ℕ) → m < p.d → alone m j < 2 ^ p.s
    unfolding alone
    small-alone m j hm = cond-lt (eqb j m) (column-cell m hm) (pow_pos p.s)

    one_more : (n j : ℕ) → bit_xor (upper n j) (alone n j) ≡ upper (suc n) j
    unfolding upper alone
    one_more n j =
        ⊎_elim
        (λ l. ap₂ (λ (a b : Bool). bit_xor (cond a (get_or c j 0) 0) (cond b (get_or c n 0) 0)) (lt-ltb j n l) (ne_eqb j n (λ q. omega arith))
        ∙ xor_zero_r (get_or c j 0) ∙ sym (ap (λ (a : Bool). cond a (get_or c j 0) 0) (lt-ltb j (suc n) (omega arith))))
        (λ l. ⊎_elim
        (λ q. ap₂ (λ (a b : Bool). bit_xor (cond a (get_or c j 0) 0) (cond b (get_or c n 0) 0)) (le-ltb j n l) (eq-eqb j n (sym q))
        ∙ ap (λ (m : ℕ). get_or c m 0) q ∙ sym (ap (λ (a : Bool). cond a (get_or c j 0) 0) (lt-ltb j (suc n) (omega arith))))
        (λ g. ap₂ (λ (a b : Bool). bit_xor (cond a (get_or c j 0) 0) (cond b (get_or c n 0) 0)) (le-ltb j n l) (ne_eqb j n (λ q. omega arith))
        ∙ sym (ap (λ (a : Bool). cond a (get_or c j 0) 0) (le-ltb j (suc n) (omega arith))))
        (eq-or-lt_of_le l))
        (lt-or-le j n)

    sum_to : (i : ℕ) → i < p.d → (n : ℕ) → n ≤ p.d
        → get_or (mixed p (tab p.d (upper n))) i 0 ≡ sum_of n (λ r. get_or (mixed p (tab p.d (alone r))) i 0)
    sum_to i hi zero hn =
        ap (λ (l : List ℕ). get_or (mixed p l) i 0) (tab-cong p.d (upper 0) (λ j. 0) (λ j hj. none j)) ∙ mixed-none i hi
    sum_to i hi (suc n) hn =
        ap (λ (l : List ℕ). get_or (mixed p l) i 0)
        (tab-cong p.d (upper (suc n)) (λ j. bit_xor (upper n j) (alone n j)) (λ j hj. sym (one_more n j)) ∙ sym (both-tab p.d (upper n) (alone n)))
        ∙ mixed-both (tab p.d (upper n)) (tab p.d (alone n))
        (tab-column (upper n) (λ j hj. small-upper n j hj)) (tab-column (alone n) (λ j hj. small-alone n j (omega arith))) i hi
        ∙ ap (λ (x : ℕ). bit_xor x (get_or (mixed p (tab p.d (alone n))) i 0)) (sum_to i hi n (omega arith))

    -- the column step is the sum of what each cell gives alone
    pub mixed-sum : (i : ℕ) → i < p.d
        → get_or (mixed p c) i 0 ≡ sum_of p.d (λ r. get_or (mixed p (only p.d r (get_or c r 0))) i 0)
    unfolding upper alone
    mixed-sum i hi =
        ap (λ (l : List ℕ). get_or (mixed p l) i 0)
        (sym (tab-cong p.d (upper p.d) (λ j. get_or c j 0) (λ j hj. ap (λ (a : Bool). cond a (get_or c j 0) 0) (lt-ltb j p.d hj)) ∙ tab-self p.d c 0 k.size))
        ∙ sum_to i hi p.d (omega arith)
