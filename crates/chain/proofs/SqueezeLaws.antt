-- Output blocks appended to the digest: half byte by half byte, block by block.
-- Assumes nothing.
use mathlib.Core.Path.{◌≡◌, refl, sym, ap, ◌∙◌}
use mathlib.Core.Bool.{Bool, true, false}
use mathlib.Core.List.{List, [], ◌∷◌, ◌++◌, append_assoc, append-nil, flat_map}
use mathlib.Core.Logic.{◌⊎◌, inl, inr, ⊎_elim}
use Prim.Native.Nat.{ℕ, zero, suc, ◌+◌, ◌-◌, ◌*◌, ◌/◌, ◌%◌, ◌≤◌, ◌<◌}
use native.Mathlib.Nat.{not-suc-le-zero, le_of_suc-le-suc, add-mul-div_right, div-eq_of_lt, le-div_iff_mul-le, min-le_left, sub-zero, zero-mul}
use native.Mathlib.Numerals.{add-one}
use native.Mathlib.Omega.{arith}
use lib.ListN.{length, take, drop, length-append, length-drop, length-take, replicate}
use lib.Seq.{length-take-le, take-add, take_all, take-take, take-append-le}
use Rattle.standard.specs.Bits.{Order, high_first, bits_of, bits_in, pack, unpack, filled, bytes_for, turned}
use Rattle.standard.proofs.Turned.{turned-high, turned-out, turned-zeros}
use Rattle.standard.specs.Rounds.{iterate}
use Rattle.standard.specs.declared.Direction.TheVariants.{Forward}
use Rattle.standard.specs.Sponge.{output_count}
use Rattle.standard.specs.Families.{Variant, is_sponge, order}
use Rattle.standard.proofs.Outputs.{outputs}
use Rattle.standard.specs.Chain.{step, run, given_out}
use Rattle.standard.specs.ForCode.{output_bits}
use Rattle.standard.specs.Variants.{variant, known}
use Rattle.standard.proofs.BitLaws.{filled-take, filled-short, length-bits_in, length-unpack, length-pack, bits_of-value_of, bits_in-take, bits_in-zeros, take-pack, pack-none, xor_into-zeros}
use Rattle.standard.proofs.Streaming.{run-one, run_none}
use Rattle.standard.proofs.Variants.{Bounds, bounds, Rates, rates, WholeBytes, layouts, is-sponge, given-outputs}
use Rattle.standard.specs.Layout.{state_room, block_room, packed_state}
use Rattle.chain.specs.Blocks.{held_then, first_blocks}
use Rattle.octets.specs.Cells.{cell_in}
use Rattle.chain.specs.TakenBack.{permuted_state}
use Rattle.chain.proofs.TakenBack.{permuted-same, permuted-length, step-permutes}
use Rattle.octets.proofs.LayoutLaws.{packed-bits}
use Rattle.chain.proofs.BlockRows.{first-none, first_more, filled-zeros, pack-filled, held_then-alone}
use Rattle.octets.proofs.RowsIntoBytes.{read_back, kept_back}

-- r holds p half bytes of the digest, and the first i of the bytes s behind them
module _ (out s : List ℕ) (lo : length out ≡ state_room) (ls : length s ≡ state_room) (p i : ℕ) (h : p + i ≤ 64) (r : List ℕ)
    (er : r ≡ pack high_first state_room (unpack high_first (4 * p) out ++ take (4 * i) (bits_in high_first s))) where
  size : length (unpack high_first (4 * p) out ++ take (4 * i) (bits_in high_first s)) ≡ 4 * (p + i)
  size =
      rw (length-append, length-unpack high_first (4 * p) out (omega arith), length-take-le (4 * i) (bits_in high_first s) (omega (arith, length-bits_in high_first s))) (omega arith)

  pub front-size : length r ≡ state_room
  front-size = ap length er ∙ length-pack high_first state_room _

  front-again : unpack high_first (4 * (p + i)) r ≡ unpack high_first (4 * p) out ++ take (4 * i) (bits_in high_first s)
  front-again = read_back r _ (p + i) (omega arith) size er

  pub front_kept : r ≡ pack high_first state_room (unpack high_first (4 * (p + i)) r)
  front_kept = kept_back r _ (p + i) (omega arith) size er

  -- one half byte more
  front-half : i < 64 → (X : List Bool) → (X ++ take (4 * i) (bits_in high_first s)) ++ bits_of high_first 4 (cell_in 4 s i) ≡ X ++ take (4 * (i + 1)) (bits_in high_first s)
  unfolding cell_in
  front-half l X =
      let here : i * 4 ≡ 4 * i = omega arith in
      let more : 4 * (i + 1) ≡ 4 * i + 4 = omega arith in
      let four : length (take 4 (drop (i * 4) (bits_in high_first s))) ≡ 4 =
      length-take-le 4 (drop (i * 4) (bits_in high_first s)) (omega (arith, length-drop (i * 4) (bits_in high_first s), length-bits_in high_first s)) in
      rw (bits_of-value_of high_first 4 (take 4 (drop (i * 4) (bits_in high_first s))) four, append_assoc, here, more, take-add)

  pub front-next : i < 64 → (x : ℕ) (next : List ℕ) → x ≡ cell_in 4 s i
      → next ≡ pack high_first (length r) (unpack high_first (4 * (p + i)) r ++ bits_of high_first 4 x)
      → next ≡ pack high_first state_room (unpack high_first (4 * p) out ++ take (4 * (i + 1)) (bits_in high_first s))
  front-next l x next ex en = rw (en, front-size, front-again, ex, front-half l)

packed-front : (o : Order) (k m : ℕ) (S : List Bool) → k * 8 ≤ m → m ≤ length S → pack o k (take m S) ≡ pack o k S
packed-front o k m S hk hm =
    rw (← pack-filled o k (take m S), ← pack-filled o k S, filled-take (k * 8) (take m S) (omega (arith, length-take-le m S hm)), filled-take (k * 8) S (omega arith), take-take (k * 8) m S hk)

-- the first m bits of a state, as they are given out, are the first m bits of the bytes that hold it
pub output-bits : (o : Order) (t m : ℕ) (S : List Bool) → length S ≡ t → t ≤ state_room * 8 → m ≤ t → (high_first ≡ o) ⊎ (m % 8 ≡ 0)
    → turned o (take m S) ≡ take m (bits_in high_first (pack o state_room S))
unfolding unpack
output-bits o t m S l_s ht hm w =
    ⊎_elim
    (λ e. rw (← e, packed-bits high_first state_room S (omega arith), take-append-le m S _ (omega arith)) (turned-high (take m S)))
    (λ e.
    let size : length (take m S) ≡ m = length-take-le m S (omega arith) in
    let count : bytes_for m ≡ m / 8 = omega arith in
    let whole : 8 * (m / 8) ≡ m = omega arith in
    turned-out (take m S) o (inr (ap (λ (n : ℕ). n % 8) size ∙ e))
    ∙ rw (size, count, packed-front o (m / 8) m S (omega arith) (omega arith), ← take-pack o (m / 8) state_room S (omega arith))
    (rw (← bits_in-take, whole, take-take m m (bits_in high_first (pack o state_room S)) (omega arith))))
    w

-- ---- the step of a block of zeros

take-zeros : (m n : ℕ) → m ≤ n → take m (replicate n false) ≡ replicate m false
take-zeros zero n h = refl
take-zeros (suc m) zero h = absurd (not-suc-le-zero h)
take-zeros (suc m) (suc n) h = ap (λ (l : List Bool). false ∷ l) (take-zeros m n (le_of_suc-le-suc h))

-- is the permutation
zeros-permute : (v : ℕ) → is_sponge (variant v) ≡ true → (S : List Bool) → step (variant v) S (replicate (variant v).r false) ≡ permuted_state (variant v) Forward S
zeros-permute v q S = rw (step-permutes (variant v) (is-sponge v q), turned-zeros, xor_into-zeros)

pub zero-step : (v : ℕ) → is_sponge (variant v) ≡ true → (S : List Bool) (k : ℕ) → (variant v).r ≤ 8 * k
    → step (variant v) S (take (variant v).r (bits_in high_first (replicate k 0))) ≡ permuted_state (variant v) Forward S
zero-step v q S k h = rw (bits_in-zeros, take-zeros (variant v).r (8 * k) h) (zeros-permute v q S)

-- also where the block is a byte of zeros and what fills it up
pub zero-run : (v : ℕ) → is_sponge (variant v) ≡ true → (S : List Bool) (held : List ℕ)
    → run (variant v) S (first_blocks (variant v).r 1 (held_then held 0 (0 ∷ []))) ≡ permuted_state (variant v) Forward S
zero-run v q S held =
    let r : ℕ = (variant v).r in
    let zeros : filled r (replicate 8 false) ≡ replicate r false = filled-zeros r [] 8 ∙ filled-short r [] (omega arith) ∙ ap (λ (n : ℕ). replicate n false) (sub-zero r) in
    let one : first_blocks r 1 (replicate 8 false) ≡ replicate r false ∷ [] =
    first_more r (replicate 8 false) 0 ∙ rw (first-none, zero-mul, zeros) in
    rw (held_then-alone held (0 ∷ []), bits_in-zeros high_first 1, one, run-one, run_none) (zeros-permute v q S)

-- ---- output blocks, one after the other

abbrev pub blocks_for : ℕ → ℕ → ℕ
blocks_for r m = (m + (r - 1)) / r

module _ (f : List Bool → List Bool) (r m : ℕ) (pos : 0 < r) (s : List Bool) where
  -- more than a block is wanted
  pub outputs-more : r < m → outputs f r m (blocks_for r m) s ≡ take r s ∷ outputs f r (m - r) (blocks_for r (m - r)) (f s)
  unfolding outputs
  outputs-more h =
      let sum : m + (r - 1) ≡ m - r + (r - 1) + 1 * r = omega arith in
      let some : 0 < blocks_for r (m - r) = (le-div_iff_mul-le {k = r} pos).1 (omega arith) in
      rw (sum, add-mul-div_right (m - r + (r - 1)) 1 pos, add-one) (go (blocks_for r (m - r)) some)
    where
      go : (k : ℕ) → 0 < k → outputs f r m (suc k) s ≡ take r s ∷ outputs f r (m - r) k (f s)
      go zero z = absurd (not-suc-le-zero z)
      go (suc k) z = rw (take_all m (take r s) (omega (arith, length-take r s, min-le_left r (length s))))

  -- the last block
  pub outputs-last : 0 < m → m ≤ r → outputs f r m (blocks_for r m) s ≡ take m s ∷ []
  unfolding outputs
  outputs-last hm hr =
      let sum : m + (r - 1) ≡ m - 1 + 1 * r = omega arith in
      let less : m - 1 < r = omega arith in
      rw (sum, add-mul-div_right (m - 1) 1 pos, div-eq_of_lt less, take-take m r s hr)

  -- the permutations that are left, one fewer than the blocks
  pub ahead_more : r < m → iterate (blocks_for r m - 1) f s ≡ iterate (blocks_for r (m - r) - 1) f (f s)
  ahead_more h =
      let sum : m + (r - 1) ≡ m - r + (r - 1) + 1 * r = omega arith in
      let some : 0 < blocks_for r (m - r) = (le-div_iff_mul-le {k = r} pos).1 (omega arith) in
      rw (sum, add-mul-div_right (m - r + (r - 1)) 1 pos, add-one) (go (blocks_for r (m - r)) some)
    where
      go : (k : ℕ) → 0 < k → iterate (suc k - 1) f s ≡ iterate (k - 1) f (f s)
      go zero z = absurd (not-suc-le-zero z)
      go (suc k) z =
          let one : suc (suc k) - 1 ≡ suc k = omega arith in
          let two : suc k - 1 ≡ k = omega arith in
          rw (one, two)

  pub ahead-last : 0 < m → m ≤ r → iterate (blocks_for r m - 1) f s ≡ s
  ahead-last hm hr =
      let sum : m + (r - 1) ≡ m - 1 + 1 * r = omega arith in
      let less : m - 1 < r = omega arith in
      rw (sum, add-mul-div_right (m - 1) 1 pos, div-eq_of_lt less)

-- ---- the loop over output blocks

-- p of n half bytes of the digest are out, q with each output block, and what the state S still gives makes it whole: the digest out of the end state E
pub record Squeezing (v : ℕ) (E : List Bool) (n q : ℕ) (out : List ℕ) (S : List Bool) (p : ℕ) : Type 0 where
  pub number : known v ≡ true
  pub sponge : is_sponge (variant v) ≡ true
  pub digest : 4 * n ≡ (variant v).n
  pub digest-most : n ≤ 64
  pub block : 4 * q ≡ output_bits (variant v)
  pub block-least : 0 < q
  pub block-most : q ≤ 64
  pub wanted : p < n
  pub state : length S ≡ (variant v).t
  pub kept : out ≡ pack high_first state_room (unpack high_first (4 * p) out)
  pub layout : (high_first ≡ order (variant v)) ⊎ (((variant v).n - 4 * p) % 8 ≡ 0)
  pub left : unpack high_first (4 * p) out
      ++ flat_map (turned (order (variant v)))
      (outputs (permuted_state (variant v) Forward) (output_bits (variant v)) ((variant v).n - 4 * p) (blocks_for (output_bits (variant v)) ((variant v).n - 4 * p)) S)
      ≡ given_out (variant v).family (variant v) E
  pub ahead : iterate (blocks_for (output_bits (variant v)) ((variant v).n - 4 * p) - 1) (permuted_state (variant v) Forward) S
      ≡ iterate (output_count (output_bits (variant v)) (variant v).n - 1) (permuted_state (variant v) Forward) E

pub squeezing-start : (v : ℕ) → known v ≡ true → is_sponge (variant v) ≡ true → (E : List Bool) → length E ≡ (variant v).t → (n q : ℕ) → n ≡ (variant v).n / 8 * 2 → q ≡ output_bits (variant v) / 4
    → Squeezing v E n q (replicate state_room 0) E 0
unfolding unpack
squeezing-start v k z E l n q en eq =
    let H : Variant = variant v in
    let b : Bounds H = bounds v k in
    let f : Rates H = rates v z in
    record {
      number = k;
      sponge = z;
      digest = omega (arith, b.digest-whole);
      digest-most = omega (arith, b.digest-most);
      block = omega (arith, f.quarters);
      block-least = omega (arith, f.least);
      block-most = omega (arith, f.most);
      wanted = omega (arith, b.digest-least);
      state = l;
      kept = sym (pack-none high_first state_room);
      layout = inr (rw sub-zero b.digest-whole);
      left = rw (sub-zero, permuted-same H (is-sponge v z)) (sym (given-outputs v z E l));
      ahead = rw sub-zero;
    }

module _ (v : ℕ) (E : List Bool) (n q : ℕ) (out : List ℕ) (S : List Bool) (p : ℕ) (u : Squeezing v E n q out S p) where
  abbrev H : Variant
  H = variant v

  b : Bounds (variant v)
  b = bounds v u.number

  f : Rates (variant v)
  f = rates v u.sponge

  pub squeezing-room : length out ≡ state_room
  squeezing-room = ap length u.kept ∙ length-pack high_first state_room _

  -- bytes that begin with the bits that the state gives out
  module _ (s : List ℕ) (ls : length s ≡ state_room) (es : take (output_bits (variant v)) (bits_in high_first s) ≡ take (output_bits (variant v)) (bits_in high_first (packed_state (variant v) S))) where
    -- the first m of them
    given : (m : ℕ) → m ≤ output_bits H → (high_first ≡ order H) ⊎ (m % 8 ≡ 0) → take m (bits_in high_first s) ≡ turned (order H) (take m S)
    given m hm w =
        sym (take-take m (output_bits H) (bits_in high_first s) hm)
        ∙ ap (take m) es
        ∙ take-take m (output_bits H) (bits_in high_first (packed_state H S)) hm
        ∙ sym (output-bits (order H) H.t m S u.state b.state-most (omega (arith, f.fits)) w)

    pub squeezing-more : (more : List ℕ) (next : List Bool) → p + q < n
        → more ≡ pack high_first state_room (unpack high_first (4 * p) out ++ take (4 * q) (bits_in high_first s))
        → next ≡ step (variant v) S (take (variant v).r (bits_in high_first (replicate block_room 0))) → Squeezing v E n q more next (p + q)
    unfolding flat_map
    squeezing-more more next h em ex =
        let k = u.number in
        let stepped : next ≡ permuted_state H Forward S = ex ∙ zero-step v u.sponge S block_room (omega (arith, b.rate-most)) in
        let X : List Bool = unpack high_first (4 * p) out in
        let Y : List Bool = take (4 * q) (bits_in high_first s) in
        let again : unpack high_first (4 * (p + q)) more ≡ X ++ Y =
        front-again out s squeezing-room ls p q (omega arith) more em in
        let block : Y ≡ turned (order H) (take (output_bits H) S) =
        given (4 * q) (omega arith) (⊎_elim inl (λ (w : WholeBytes H). inr (rw u.block w.output)) (layouts v k))
        ∙ ap (λ (m : ℕ). turned (order H) (take m S)) u.block in
        let rest : H.n - 4 * p - output_bits H ≡ H.n - 4 * (p + q) = omega arith in
        record {
          number = k;
          sponge = u.sponge;
          digest = u.digest;
          digest-most = u.digest-most;
          block = u.block;
          block-least = u.block-least;
          block-most = u.block-most;
          wanted = h;
          state = ap length stepped ∙ permuted-length H (is-sponge v u.sponge) Forward S u.state;
          kept = front_kept out s squeezing-room ls p q (omega arith) more em;
          layout = ⊎_elim inl (λ e. ⊎_elim inl (λ (w : WholeBytes H). inr (omega arith)) (layouts v k)) u.layout;
          left =
              rw (again, stepped, block, ← rest, append_assoc)
              (rw (outputs-more (permuted_state H Forward) (output_bits H) (H.n - 4 * p) (omega (arith, f.least)) S (omega arith)) at u.left);
          ahead =
              rw (stepped, ← rest)
              (sym (ahead_more (permuted_state H Forward) (output_bits H) (H.n - 4 * p) (omega (arith, f.least)) S (omega arith)) ∙ u.ahead);
        }

    pub squeezing-last : (last : List ℕ) → n ≤ p + q
        → last ≡ pack high_first state_room (unpack high_first (4 * p) out ++ take (4 * (n - p)) (bits_in high_first s))
        → last ≡ pack high_first state_room (given_out (variant v).family (variant v) E)
    unfolding flat_map
    squeezing-last last h el =
        let m : ℕ = H.n - 4 * p in
        let size : 4 * (n - p) ≡ m = omega arith in
        rw (el, size, given m (omega arith) u.layout)
        (ap (pack high_first state_room)
        (rw (outputs-last (permuted_state H Forward) (output_bits H) m (omega (arith, f.least)) S (omega arith) (omega arith), append-nil) at u.left))

  -- the state that gives the last block
  pub squeezing-end : n ≤ p + q → S ≡ iterate (output_count (output_bits (variant v)) (variant v).n - 1) (permuted_state (variant v) Forward) E
  squeezing-end h = sym (ahead-last (permuted_state H Forward) (output_bits H) (H.n - 4 * p) (omega (arith, f.least)) S (omega arith) (omega arith)) ∙ u.ahead
