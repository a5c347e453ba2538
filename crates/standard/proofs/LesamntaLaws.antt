-- Lesamnta-LW: a Feistel-like round is undone whatever its inner function, and so the cipher by its inverse under every key; one step tells blocks apart; its padding, and how many blocks it makes.
-- Assumes nothing.
use mathlib.Core.Path.{◌≡◌, refl, sym, subst, ap, ap₂, ◌∙◌}
use mathlib.Core.Bool.{Bool, true, false}
use mathlib.Core.List.{List, [], ◌∷◌, ◌++◌, map}
use Prim.Native.Nat.{ℕ, zero, suc, ◌+◌, ◌-◌, ◌*◌, ◌/◌, ◌%◌, ◌^◌, ◌<◌}
use native.Mathlib.Nat.{mod-lt, le_trans, min-le_left}
use native.Mathlib.Omega.{arith}
use lib.Bits.{bit_xor, xor_lt}
use lib.ListN.{length, get_or, take, drop, replicate, length-append, length-map, length-take, length-replicate, length-drop}
use lib.Seq.{take_at, drop_at, drop-append-add}
use lib.Pow.{pow_mono}
use Rattle.standard.specs.Bits.{high_first, bits_of, value_of, cut, xor_into}
use Rattle.standard.specs.Rounds.{opposite, rounds}
use Rattle.standard.specs.declared.Direction.{Direction}
use Rattle.standard.specs.declared.Direction.TheVariants.{Forward, Backward}
use Rattle.standard.specs.Lesamnta.{four_words, bits_of_words, feistel, mixing, round_keys, cipher_constants, cipher, lesamnta_start, lesamnta_step, lesamnta_padding, word_of, bytes_r, word_q, word_g, bytes_of}
use Rattle.standard.specs.Promises.{CipherUndo}
use Rattle.standard.proofs.Xor.{xor-twice}
use Rattle.standard.proofs.Undo.{All, all-at, all_of, get_d_map, rounds-keep, rounds-undo}
use Rattle.standard.proofs.BitLaws.{length-bits_of, value_of-bits_of, bits_of-value_of, value_of-lt, false-xor, xor_into-twice, xor_into-zeros, xor_into-nil, xor_into-append}
use Rattle.standard.proofs.Differences.{difference-of}
use Rattle.standard.proofs.HighBits.{value-mod}
use Rattle.standard.proofs.Tab.{tab-self}
use Rattle.standard.proofs.CutLaws.{length_cut, cut_at, length-flat_map, map-cut, flat_map-map, flat_map-cut}

-- ---- a Feistel-like round

-- four words of w bits
pub record Four (w : ℕ) (x : List ℕ) : Type 0 where
  pub count : length x ≡ 4
  pub below : All (λ (n : ℕ). n < 2 ^ w) x

-- what holds of every list of four holds where the length is 4
of_four : (P : List ℕ → Type 0) → ((a b c d : ℕ) → P (a ∷ b ∷ c ∷ d ∷ [])) → (x : List ℕ) → length x ≡ 4 → P x
of_four P p x e = subst P (tab-self 4 x 0 e) (p (get_or x 0 0) (get_or x 1 0) (get_or x 2 0) (get_or x 3 0))

-- any round is undone by that round taken back, and the other way round, whatever its inner function
pub feistel-undo : (f : ℕ → ℕ) (w : Direction) (x : List ℕ) → length x ≡ 4 → feistel f (opposite w) (feistel f w x) ≡ x
unfolding feistel
feistel-undo f Forward = of_four (λ x. feistel f Backward (feistel f Forward x) ≡ x) (λ a b c d. ap (λ (n : ℕ). a ∷ b ∷ c ∷ n ∷ []) (xor-twice d (f c)))
feistel-undo f Backward = of_four (λ x. feistel f Forward (feistel f Backward x) ≡ x) (λ a b c d. ap (λ (n : ℕ). n ∷ b ∷ c ∷ d ∷ []) (xor-twice a (f d)))

-- words of w bits stay words of w bits, where the inner function gives such
pub feistel-keeps : (f : ℕ → ℕ) (bits : ℕ) → ((y : ℕ) → f y < 2 ^ bits) → (w : Direction) (x : List ℕ) → Four bits x → Four bits (feistel f w x)
unfolding feistel
feistel-keeps f bits small w x h =
    let at : (k : ℕ) → k < 4 → get_or x k 0 < 2 ^ bits = λ k l. all-at (λ n. n < 2 ^ bits) 0 x h.below k (omega (arith, h.count)) in
    go w (at 0 (omega arith)) (at 1 (omega arith)) (at 2 (omega arith)) (at 3 (omega arith))
  where
    go : (d : Direction) → get_or x 0 0 < 2 ^ bits → get_or x 1 0 < 2 ^ bits → get_or x 2 0 < 2 ^ bits → get_or x 3 0 < 2 ^ bits → Four bits (feistel f d x)
    go Forward a b c d = record { count = refl; below = (xor_lt bits (get_or x 3 0) (f (get_or x 2 0)) d (small (get_or x 2 0)), (a, (b, (c, tt)))) }
    go Backward a b c d = record { count = refl; below = (b, (c, (d, (xor_lt bits (get_or x 0 0) (f (get_or x 3 0)) a (small (get_or x 3 0)), tt)))) }

-- ---- words and bits

module _ (w : ℕ) where
  -- bits make four words, whatever they are
  pub words-four : (bs : List Bool) → Four w (four_words w bs)
  unfolding four_words
  words-four bs =
      let four : length (map (value_of high_first) (cut w 4 bs)) ≡ 4 = simp (length-map, length_cut) in
      record {
        count = four;
        below = all_of (λ n. n < 2 ^ w) 0 (map (value_of high_first) (cut w 4 bs))
            (λ k l.
            let l4 : k < 4 = omega arith in
            let piece : List Bool = take w (drop (k * w) bs) in
            let is : get_or (map (value_of high_first) (cut w 4 bs)) k 0 ≡ value_of high_first piece =
            get_d_map (value_of high_first) (cut w 4 bs) k 0 [] (rw length_cut l4) ∙ ap (value_of high_first) (cut_at w 4 bs k l4) in
            rw is (le_trans (value_of-lt high_first (length piece) piece refl) (pow_mono (rw length-take (min-le_left w _)))));
      }

  pub bits-length : (x : List ℕ) → length (bits_of_words w x) ≡ length x * w
  unfolding bits_of_words
  bits-length x = length-flat_map w (bits_of high_first w) 0 x (λ k l. length-bits_of high_first w (get_or x k 0))

  pub words-bits : (x : List ℕ) → Four w x → four_words w (bits_of_words w x) ≡ x
  unfolding four_words bits_of_words
  words-bits x h =
      map-cut w (bits_of high_first w) 0 (value_of high_first) 4 x h.count (λ k l. length-bits_of high_first w (get_or x k 0))
      (λ k l. value_of-bits_of high_first w (get_or x k 0) (all-at (λ n. n < 2 ^ w) 0 x h.below k (omega (arith, h.count))))

  pub bits-words : (bs : List Bool) → length bs ≡ 4 * w → bits_of_words w (four_words w bs) ≡ bs
  unfolding four_words bits_of_words
  bits-words bs e =
      flat_map-map (value_of high_first) (bits_of high_first w) (cut w 4 bs)
      ∙ flat_map-cut w (λ piece. bits_of high_first w (value_of high_first piece)) (bits_of-value_of high_first w) 4 bs e

-- ---- the cipher

-- a word of eight bytes
pub word_g-lt : (y k : ℕ) → word_g y k < 2 ^ 64
unfolding word_g bytes_r
word_g-lt y k =
    eight (word_q (bit_xor (y / 2 ^ 32) k)) (word_q (y % 2 ^ 32))
  where
    eight : (a b : ℕ) → word_of (bytes_r (bytes_of 4 a ++ bytes_of 4 b)) < 2 ^ 64
    eight a b =
        omega (
          arith,
          mod-lt (a / 256 ^ 3) {m = 256} (omega arith),
          mod-lt (a / 256 ^ 2) {m = 256} (omega arith),
          mod-lt (a / 256 ^ 1) {m = 256} (omega arith),
          mod-lt (a / 256 ^ 0) {m = 256} (omega arith),
          mod-lt (b / 256 ^ 3) {m = 256} (omega arith),
          mod-lt (b / 256 ^ 2) {m = 256} (omega arith),
          mod-lt (b / 256 ^ 1) {m = 256} (omega arith),
          mod-lt (b / 256 ^ 0) {m = 256} (omega arith),
        )

abbrev Any : ℕ → Type 0
Any c = Unit {0}

any : (cs : List ℕ) → All Any cs
any [] = tt
any (c ∷ cs) = (tt, any cs)

mixing-keeps : (w : Direction) (x : List ℕ) (k : ℕ) → Four 64 x → Any k → Four 64 (mixing w x k)
unfolding mixing
mixing-keeps w x k h a = feistel-keeps (λ y. word_g y k) 64 (λ y. word_g-lt y k) w x h

mixing-undo : (w : Direction) (x : List ℕ) (k : ℕ) → Four 64 x → Any k → mixing (opposite w) (mixing w x k) k ≡ x
unfolding mixing
mixing-undo w x k h a = feistel-undo (λ y. word_g y k) w x h.count

module _ (w : Direction) (key s : List Bool) where
  mixed : Four 64 (rounds mixing w (round_keys cipher_constants (four_words 32 key)) (four_words 64 s))
  mixed =
      let ks : List ℕ = round_keys cipher_constants (four_words 32 key) in
      rounds-keep (Four 64) Any mixing mixing-keeps mixing-undo w ks (any ks) (four_words 64 s) (words-four 64 s)

  pub cipher-length : length (cipher w key s) ≡ 256
  unfolding cipher
  cipher-length = bits-length 64 _ ∙ ap (λ (n : ℕ). n * 64) mixed.count

-- the cipher and its inverse undo each other, under every key and on every state, in both orders
pub cipher-undo : CipherUndo
unfolding cipher
cipher-undo w key s e =
    let ks : List ℕ = round_keys cipher_constants (four_words 32 key) in
    let x : List ℕ = four_words 64 s in
    ap (λ (y : List ℕ). bits_of_words 64 (rounds mixing (opposite w) ks y)) (words-bits 64 (rounds mixing w ks x) (mixed w key s))
    ∙ ap (bits_of_words 64) (rounds-undo (Four 64) Any mixing mixing-keeps mixing-undo w ks (any ks) x (words-four 64 s))
    ∙ bits-words 64 s e

-- ---- the chain's step

module _ (s : List Bool) (ls : length s ≡ 256) where
  joined_length : (b : List Bool) → length b ≡ 128 → length (b ++ drop 128 s) ≡ 256
  joined_length b lb = length-append b (drop 128 s) ∙ omega (arith, length-drop 128 s)

  -- the block and the half that the step takes in are what the inverse of the cipher gives
  pub step_back : (b : List Bool) → length b ≡ 128 → cipher Backward (take 128 s) (lesamnta_step s b) ≡ b ++ drop 128 s
  unfolding lesamnta_step
  step_back b lb = cipher-undo Forward (take 128 s) (b ++ drop 128 s) (joined_length b lb)

  -- From one chaining value, two different blocks never lead to one next value.
  pub step-tells : (a b : List Bool) → length a ≡ 128 → length b ≡ 128 → lesamnta_step s a ≡ lesamnta_step s b → a ≡ b
  step-tells a b la lb e =
      let same : a ++ drop 128 s ≡ b ++ drop 128 s = sym (step_back a la) ∙ ap (cipher Backward (take 128 s)) e ∙ step_back b lb in
      sym (take_at a (drop 128 s) 128 la) ∙ ap (take 128) same ∙ take_at b (drop 128 s) 128 lb

zeros-xor : (s : List Bool) (n : ℕ) → length s ≡ n → xor_into (replicate n false) s ≡ s
unfolding xor_into
zeros-xor [] zero e = refl
zeros-xor [] (suc n) e = absurd (omega arith)
zeros-xor (b ∷ s) zero e = absurd (omega arith)
zeros-xor (b ∷ s) (suc n) e = ap₂ (λ (x : Bool) (xs : List Bool). x ∷ xs) (false-xor b) (zeros-xor s n (omega arith))

-- The block that leads from one chaining value to another: what the inverse of the cipher gives, with the half that the step takes in xored out, is the block and zeros
-- just where the block leads there.
module _ (s e : List Bool) (ls : length s ≡ 256) (le : length e ≡ 256) (b : List Bool) (lb : length b ≡ 128) where
  abbrev half : List Bool
  half = drop 128 s

  half-long : length half ≡ 128
  half-long = length-drop 128 s ∙ omega arith

  -- the half stands behind as many zeros
  abbrev behind : List Bool
  behind = replicate 128 false ++ drop 128 s

  pub step-found : lesamnta_step s b ≡ e → xor_into (cipher Backward (take 128 s) e) behind ≡ b ++ replicate 128 false
  step-found f =
      let same : xor_into half half ≡ replicate (length half - 0) false = difference-of half [] half (omega arith) (xor_into-nil half) in
      ap (λ (x : List Bool). xor_into x behind) (ap (cipher Backward (take 128 s)) (sym f) ∙ step_back s ls b lb)
      ∙ xor_into-append b half (replicate 128 false) half (lb ∙ sym (length-replicate 128 false))
      ∙ ap₂ (λ (x y : List Bool). x ++ y) (xor_into-zeros b 128) (same ∙ ap (λ (n : ℕ). replicate (n - 0) false) half-long)

  pub step-finds : xor_into (cipher Backward (take 128 s) e) behind ≡ b ++ replicate 128 false → lesamnta_step s b ≡ e
  unfolding lesamnta_step
  step-finds f =
      let x : List Bool = cipher Backward (take 128 s) e in
      let taken : x ≡ b ++ half =
      sym (xor_into-twice x behind)
      ∙ ap (λ (y : List Bool). xor_into y behind) f
      ∙ xor_into-append b (replicate 128 false) (replicate 128 false) half (lb ∙ sym (length-replicate 128 false))
      ∙ ap₂ (λ (y z : List Bool). y ++ z) (xor_into-zeros b 128) (zeros-xor half 128 half-long) in
      ap (cipher Forward (take 128 s)) (sym taken) ∙ cipher-undo Backward (take 128 s) e le

pub start-length : length lesamnta_start ≡ 256
unfolding lesamnta_start
start-length = bits-length 32 (replicate 8 0x256)

pub step-length : (s b : List Bool) → length (lesamnta_step s b) ≡ 256
unfolding lesamnta_step
step-length s b = cipher-length Forward (take 128 s) (b ++ drop 128 s)

-- ---- padding

pub padding-length : (n : ℕ) → length (lesamnta_padding n) ≡ (128 - n % 128) % 128 + 128
unfolding lesamnta_padding
padding-length n =
    simp (length-append, length-replicate, length-bits_of) (omega arith)

-- the last block filled: n rounded up to whole blocks, and one more
pub padding-whole : (n : ℕ) → n + length (lesamnta_padding n) ≡ ((n + 127) / 128 + 1) * 128
padding-whole n = omega (arith, padding-length n)

-- the length stands in the last 64 bits
last-64 : (z : List Bool) → drop (length z + (length (lesamnta_padding (length z)) - 64)) (z ++ lesamnta_padding (length z)) ≡ bits_of high_first 64 (length z)
unfolding lesamnta_padding
last-64 z =
    let zeros : List Bool = true ∷ replicate ((128 - length z % 128) % 128 + 63) false in
    drop-append-add z (lesamnta_padding (length z)) (length (lesamnta_padding (length z)) - 64)
    ∙ drop_at zeros (bits_of high_first 64 (length z)) (length (lesamnta_padding (length z)) - 64) (omega (arith, padding-length (length z), length-replicate ((128 - length z % 128) % 128 + 63) false))

-- two messages with one padded string are one
pub padding-tells : (x y : List Bool) → x ++ lesamnta_padding (length x) ≡ y ++ lesamnta_padding (length y) → x ≡ y
padding-tells x y e =
    let n : ℕ = length x in
    let m : ℕ = length y in
    let sizes : n + length (lesamnta_padding n) ≡ m + length (lesamnta_padding m) =
    sym (length-append x (lesamnta_padding n)) ∙ ap length e ∙ length-append y (lesamnta_padding m) in
    let cuts : n + (length (lesamnta_padding n) - 64) ≡ m + (length (lesamnta_padding m) - 64) = omega (arith, padding-length n, padding-length m) in
    let ends : bits_of high_first 64 n ≡ bits_of high_first 64 m =
    sym (last-64 x) ∙ ap₂ (λ (c : ℕ) (bs : List Bool). drop c bs) cuts e ∙ last-64 y in
    let values : n % 2 ^ 64 ≡ m % 2 ^ 64 = sym (value-mod high_first 64 n) ∙ ap (value_of high_first) ends ∙ value-mod high_first 64 m in
    let same : n ≡ m = omega (arith, padding-length n, padding-length m) in
    sym (take_at x (lesamnta_padding n) n refl) ∙ ap₂ (λ (c : ℕ) (bs : List Bool). take c bs) same e ∙ take_at y (lesamnta_padding m) m refl
