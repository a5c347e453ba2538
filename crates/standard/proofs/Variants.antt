-- The variants by number: what holds of each number of the table, the permutation and its inverse, block counts, and the changed block.
-- Assumes nothing.
use mathlib.Core.Path.{◌≡◌, refl, sym, ap, ◌∙◌, subst}
use mathlib.Core.Bool.{Bool, true, false, ◌&&◌}
use mathlib.Core.List.{List, ◌++◌, tail, flat_map}
use mathlib.Core.Logic.{◌⊎◌, inl, inr, ⊎_elim}
use Prim.Native.Nat.{ℕ, zero, suc, ◌+◌, ◌-◌, ◌*◌, ◌/◌, ◌%◌, ◌≤◌, ◌<◌}
use native.Mathlib.Nat.{mul-div_left}
use native.Mathlib.Omega.{arith}
use lib.Dec.{T, leb, ltb, leb-suc-suc}
use lib.ListN.{length, take, get_or-eq_default, length-append, length-replicate}
use lib.Seq.{get_or-take}
use borrow.Author.Tests.{ltb-true, lt-ltb, le-leb, lt-leb}
use Rattle.standard.specs.Bits.{high_first, turned}
use Rattle.standard.specs.Rounds.{opposite}
use Rattle.standard.specs.declared.Direction.{Direction}
use Rattle.standard.specs.declared.Direction.TheVariants.{Forward}
use Rattle.standard.specs.Sponge.{permutation, output_count, output_blocks, squeezed}
use Rattle.standard.specs.Families.{Permutation, photon, spongent, Family, sponge, lesamnta, Variant, sponge_of, is_sponge, bit_order, order, image_size}
use Rattle.standard.specs.Chain.{start_of, start_state, padding, padded, blocks_of, block_count, step, given_out}
use Rattle.standard.specs.Messages.{byte_bits}
use Rattle.standard.specs.Spongent.{SpongentParameters}
use Rattle.standard.specs.Lesamnta.{lesamnta_padding}
use Rattle.standard.specs.Variants.{none, variants, variant, known}
use Rattle.standard.specs.ForCode.{output_of, output_bits}
use Rattle.standard.specs.Promises.{PermutationUndo, RowsTell, BlocksTell, OneChangedBlock, CounterInEachRound, ReversedInEachRound}
use Rattle.standard.proofs.Tests.{and-true, true-not-false, either, lt-or-le, below, below_at, one-to-five, six-to-ten}
use Rattle.standard.proofs.Undo.{All, all-at}
use Rattle.standard.proofs.BitLaws.{length-bits_of, length-bits_in}
use Rattle.standard.proofs.PhotonLaws.{Sound}
use Rattle.standard.proofs.PhotonVariants.{sound100, sound144, sound196, sound256, sound288}
use Rattle.standard.proofs.MatrixLaws.{length-photon_permutation, photon_permutation-undo}
use Rattle.standard.proofs.SpongentLaws.{length-spongent_permutation, spongent_permutation-undo}
use Rattle.standard.proofs.CounterRounds.{SoundCounter, counter-stepped, reversed-stepped, sound88, sound136, sound176, sound240, sound272}
use Rattle.standard.proofs.LesamntaLaws as lw
use Rattle.standard.proofs.Streaming.{Streams, block-count, blocks-join}
use Rattle.standard.proofs.Outputs.{outputs, outputs-are}
use Rattle.standard.proofs.Sponge.{IsSponge, order-sponge, sponge-streams, sponge-count, step_block, blocks-injective}
use Rattle.standard.proofs.OneBlock.{changed_block}

-- ---- the numbers

pub known-true : (v : ℕ) → 1 ≤ v → v ≤ 11 → known v ≡ true
known-true v low high = rw (lt-ltb 0 v low, lt-ltb v 12 (omega arith))

pub known-low : (v : ℕ) → known v ≡ true → 1 ≤ v
known-low v k = ltb-true 0 v (and-true (ltb 0 v) (ltb v (length variants)) k).0

pub known-high : (v : ℕ) → known v ≡ true → v ≤ 11
known-high v k = omega (arith, ltb-true v 12 (and-true (ltb 0 v) (ltb v (length variants)) k).1)

pub unknown-low : (v : ℕ) → v ≡ 0 → known v ≡ false
unknown-low v e = ap known e

-- as a comparison with both ends
pub known_is : (v : ℕ) → known v ≡ (leb 1 v && leb v 11)
known_is v = ap (λ (b : Bool). ltb 0 v && b) (leb-suc-suc v 11)

-- what holds of each variant of the table holds of every known one
pub for-known : (P : Variant → Type 0) → All P (tail variants) → (v : ℕ) → known v ≡ true → P (variant v)
unfolding variant
for-known P ps zero k = absurd (omega (arith, known-low 0 k))
for-known P ps (suc i) k = all-at P none (tail variants) ps i (omega (arith, known-high (suc i) k))

-- one test, computed at every variant of the table
pub tested : (f : Variant → Bool) → T (below (λ i. f (variant (suc i))) (length variants - 1)) → (v : ℕ) → known v ≡ true → T (f (variant v))
tested f t zero k = absurd (omega (arith, known-low 0 k))
tested f t (suc i) k = below_at (λ j. f (variant (suc j))) (length variants - 1) t i (omega (arith, known-high (suc i) k))

-- ---- which are sponges

-- no number past the table
beyond : (v : ℕ) → 12 ≤ v → is_sponge (variant v) ≡ false
unfolding variant
beyond v h = ap is_sponge (get_or-eq_default variants none {n = v} h)

pub eleven-not : (v : ℕ) → v ≡ 11 → is_sponge (variant v) ≡ false
unfolding variant
eleven-not v e = ap (λ (n : ℕ). is_sponge (variant n)) e

zero-not : (v : ℕ) → v ≡ 0 → is_sponge (variant v) ≡ false
unfolding variant
zero-not v e = ap (λ (n : ℕ). is_sponge (variant n)) e

pub sponge-true : (v : ℕ) → 1 ≤ v → v ≤ 10 → is_sponge (variant v) ≡ true
unfolding variant
sponge-true v low high =
    ⊎_elim (λ l. one-to-five (λ n. is_sponge (variant n) ≡ true) refl refl refl refl refl v low (omega arith))
    (λ l. six-to-ten (λ n. is_sponge (variant n) ≡ true) refl refl refl refl refl v l high) (lt-or-le v 6)

pub sponge-false : (v : ℕ) → 11 ≤ v → is_sponge (variant v) ≡ false
sponge-false v h = ⊎_elim (λ l. eleven-not v (omega arith)) (λ l. beyond v l) (lt-or-le v 12)

-- a sponge has one of the numbers 1 to 10
pub sponge-low : (v : ℕ) → is_sponge (variant v) ≡ true → 1 ≤ v
sponge-low v e = ⊎_elim (λ l. absurd (true-not-false (sym e ∙ zero-not v (omega arith)))) (λ l. l) (lt-or-le v 1)

pub sponge-high : (v : ℕ) → is_sponge (variant v) ≡ true → v ≤ 10
sponge-high v e = ⊎_elim (λ l. omega arith) (λ l. absurd (true-not-false (sym e ∙ sponge-false v l))) (lt-or-le v 11)

-- and so is known
pub sponge-known : (v : ℕ) → is_sponge (variant v) ≡ true → known v ≡ true
sponge-known v e = known-true v (sponge-low v e) (omega (arith, sponge-high v e))

-- as a comparison with both ends
pub sponge-is : (v : ℕ) → is_sponge (variant v) ≡ (leb 1 v && leb v 10)
sponge-is v =
    ⊎_elim (λ l. zero-not v (omega arith) ∙ sym (ap (λ (b : Bool). b && leb v 10) (lt-leb 1 v l)))
    (λ l.
    ⊎_elim (λ h. sponge-true v l (omega arith) ∙ sym (rw (le-leb 1 v l, le-leb v 10 (omega arith))))
    (λ h. sponge-false v h ∙ sym (rw (le-leb 1 v l, lt-leb v 10 (omega arith)))) (lt-or-le v 11))
    (lt-or-le v 1)

-- of the known numbers one is none
pub not-sponge : (v : ℕ) → known v ≡ true → is_sponge (variant v) ≡ false → v ≡ 11
not-sponge v k e =
    ⊎_elim (λ l. absurd (true-not-false (sym (sponge-true v (known-low v k) (omega arith)) ∙ e))) (λ l. omega (arith, known-high v k)) (lt-or-le v 11)

-- what holds of each sponge of the table holds of every sponge
pub for-sponge : (P : Variant → Type 0) → All P (take 10 (tail variants)) → (v : ℕ) → is_sponge (variant v) ≡ true → P (variant v)
unfolding variant
for-sponge P ps zero e = absurd (omega (arith, sponge-low 0 e))
for-sponge P ps (suc i) e =
    let h : i < 10 = omega (arith, sponge-high (suc i) e) in
    subst P (get_or-take 10 (tail variants) i none h) (all-at P none (take 10 (tail variants)) ps i h)

-- ---- sizes

-- the sizes that the code and the laws rely on
pub record Bounds (H : Variant) : Type 0 where
  pub state-least : 24 ≤ H.t
  pub state-most : H.t ≤ 288
  pub image-least : 2 ≤ image_size H
  pub image-most : image_size H ≤ 36
  pub rate-least : 8 ≤ H.r
  pub rate-most : H.r ≤ 128
  pub rate-fits : H.r ≤ H.t
  pub rate-quarters : H.r % 4 ≡ 0
  pub digest-least : 8 ≤ H.n
  pub digest-most : H.n ≤ 256
  pub digest-whole : H.n % 8 ≡ 0

pub bounds : (v : ℕ) → known v ≡ true → Bounds (variant v)
bounds = for-known Bounds (search arith depth 12)

-- those of a sponge's output blocks
pub record Rates (H : Variant) : Type 0 where
  pub least : 8 ≤ output_bits H
  pub most : output_bits H ≤ 256
  pub fits : output_bits H ≤ H.t
  pub quarters : output_bits H % 4 ≡ 0

pub rates : (v : ℕ) → is_sponge (variant v) ≡ true → Rates (variant v)
rates = for-sponge Rates (search arith depth 12)

pub record WholeBytes (H : Variant) : Type 0 where
  pub state : H.t % 8 ≡ 0
  pub block : H.r % 8 ≡ 0
  pub output : output_bits H % 8 ≡ 0

-- a byte's highest bit comes first in the state, or states and blocks are whole bytes
pub layouts : (v : ℕ) → known v ≡ true → (high_first ≡ order (variant v)) ⊎ WholeBytes (variant v)
layouts = for-known (λ H. (high_first ≡ order H) ⊎ WholeBytes H) (search (inl, inr, arith) depth 12)

-- ---- each permutation, for any parameters

-- what the laws of a permutation of t bits ask
abbrev Permutes : ℕ → Permutation → Type 0
Permutes t (photon p) = Sound p × (t ≡ p.d * (p.d * p.s))
Permutes t (spongent p) = (p.t % 4 ≡ 0) × (t ≡ p.t)

permutes-keeps : (t : ℕ) (P : Permutation) → Permutes t P → (w : Direction) (s : List Bool) → length s ≡ t → length (permutation P w s) ≡ t
unfolding permutation
permutes-keeps t (photon p) h w s l = length-photon_permutation p h.0 w s ∙ sym h.1
permutes-keeps t (spongent p) h w s l = length-spongent_permutation p h.0 w s (l ∙ h.1) ∙ sym h.1

permutes-undoes : (t : ℕ) (P : Permutation) → Permutes t P → (w : Direction) (s : List Bool) → length s ≡ t → permutation P (opposite w) (permutation P w s) ≡ s
unfolding permutation
permutes-undoes t (photon p) h w s l = photon_permutation-undo p h.0 w s (l ∙ h.1)
permutes-undoes t (spongent p) h w s l = spongent_permutation-undo p h.0 w s (l ∙ h.1)

abbrev FamilyPermutes : ℕ → Family → Type 0
FamilyPermutes t (sponge P r') = Permutes t P
FamilyPermutes t lesamnta = Unit {0}

sponge-from : (H : Variant) (f : Family) → H.family ≡ f → sponge_of f ≡ true → FamilyPermutes H.t f → H.r ≤ H.t → IsSponge H
sponge-from H (sponge P r') e q h fits =
    record { inner = P; rate = r'; family-is = e; fits = fits; keeps = permutes-keeps H.t P h; undoes = permutes-undoes H.t P h }
sponge-from H lesamnta e q h fits = absurd (true-not-false (sym q))

start-sized : (H : Variant) (f : Family) → sponge_of f ≡ true → 24 ≤ H.t → length (start_of f H) ≡ H.t
start-sized H (sponge (photon p) r') e room = simp (length-append, length-replicate, length-bits_of) (omega arith)
start-sized H (sponge (spongent p) r') e room = length-replicate H.t false
start-sized H lesamnta e room = absurd (true-not-false (sym e))

-- ---- the theorems by number

permutes : (v : ℕ) → known v ≡ true → FamilyPermutes (variant v).t (variant v).family
permutes = for-known (λ H. FamilyPermutes H.t H.family) (search (sound100, sound144, sound196, sound256, sound288, arith) depth 12)

pub is-sponge : (v : ℕ) → is_sponge (variant v) ≡ true → IsSponge (variant v)
is-sponge v e =
    let k = sponge-known v e in
    sponge-from (variant v) (variant v).family refl e (permutes v k) (bounds v k).rate-fits

lesamnta-streams : Streams (variant 11)
unfolding start_state step padding variant
lesamnta-streams =
    record {
      rate-pos = omega arith;
      start-length = lw.start-length;
      step-length = λ s b l. lw.step-length s b;
      padding-fills = λ n. omega (arith, lw.padding-whole n);
    }

pub streams : (v : ℕ) → known v ≡ true → Streams (variant v)
unfolding start_state
streams v k =
    ⊎_elim
    (λ e. sponge-streams (variant v) (is-sponge v e) (omega (arith, (bounds v k).rate-least))
    (start-sized (variant v) (variant v).family e (bounds v k).state-least))
    (λ e. subst (λ (n : ℕ). Streams (variant n)) (sym (not-sponge v k e)) lesamnta-streams)
    (either (is_sponge (variant v)))

-- the permutation and its inverse undo each other, on every state of a sponge
pub permutation-undo : PermutationUndo
permutation-undo v P r' f w s l =
    permutes-undoes (variant v).t P (subst (FamilyPermutes (variant v).t) f (permutes v (sponge-known v (ap sponge_of f)))) w s l

-- L bytes give floor(8 L / r) + 1 blocks of a sponge
pub message-block-count : (v : ℕ) → is_sponge (variant v) ≡ true → (m : List ℕ) → length (blocks_of (variant v) (byte_bits m)) ≡ 8 * length m / (variant v).r + 1
message-block-count v e m =
    rw (block-count, length-bits_in) (sponge-count (variant v) (streams v (sponge-known v e)) (is-sponge v e) (8 * length m))

lesamnta-padded : (x y : List Bool) → padded (variant 11) x ≡ padded (variant 11) y → x ++ lesamnta_padding (length x) ≡ y ++ lesamnta_padding (length y)
unfolding padded padding variant
lesamnta-padded x y e = e

lesamnta-block : (s a b : List Bool) → length s ≡ (variant 11).t → length a ≡ (variant 11).r → length b ≡ (variant 11).r → step (variant 11) s a ≡ step (variant 11) s b → a ≡ b
unfolding step variant
lesamnta-block s a b ls la lb e = lw.step-tells s ls a b la lb e

-- what is given out of the state of a sponge: output blocks with the permutation between them, each with the bits that are still wanted
pub given-outputs : (v : ℕ) (q : is_sponge (variant v) ≡ true) (s : List Bool) → length s ≡ (variant v).t
    → given_out (variant v).family (variant v) s
    ≡ flat_map (turned (order (variant v)))
    (outputs (permutation (is-sponge v q).inner Forward) (output_bits (variant v)) (variant v).n (output_count (output_bits (variant v)) (variant v).n) s)
unfolding squeezed output_blocks
given-outputs v q s l =
    let H : Variant = variant v in
    let h : IsSponge (variant v) = is-sponge v q in
    let k = sponge-known v q in
    let rate : output_bits H ≡ h.rate = ap output_of h.family-is in
    let order_is : order H ≡ bit_order h.inner = order-sponge H h in
    let whole : (high_first ≡ order H) ⊎ (output_bits H % 8 ≡ 0) = ⊎_elim inl (λ (w : WholeBytes H). inr w.output) (layouts v k) in
    ap (λ (f : Family). given_out f H s) h.family-is
    ∙ rw (← rate, ← order_is)
    (outputs-are (order H) (permutation h.inner Forward) (output_bits H) H.t (rates v q).fits (h.keeps Forward) whole
    (output_count (output_bits H) H.n) H.n s l (inr (bounds v k).digest-whole))

-- n bits give n / 128, rounded up, and one block more of Lesamnta-LW
pub lesamnta-count : (n : ℕ) → block_count (variant 11) n ≡ (n + 127) / 128 + 1
unfolding block_count padding variant
lesamnta-count n = rw (lw.padding-whole n) (mul-div_left ((n + 127) / 128 + 1) {n = 128} (omega arith))

-- two different bit strings never have the same padded row
pub rows_tell : RowsTell
rows_tell v k x y e =
    ⊎_elim (λ s. blocks-injective (variant v) (streams v k) (is-sponge v s) x y e)
    (λ s. lesamnta-tells x y (subst (λ (n : ℕ). blocks_of (variant n) x ≡ blocks_of (variant n) y) (not-sponge v k s) e))
    (either (is_sponge (variant v)))
  where
    lesamnta-tells : (a b : List Bool) → blocks_of (variant 11) a ≡ blocks_of (variant 11) b → a ≡ b
    lesamnta-tells a b q =
        lw.padding-tells a b (lesamnta-padded a b (sym (blocks-join (variant 11) lesamnta-streams a) ∙ ap (flat_map (λ c. c)) q ∙ blocks-join (variant 11) lesamnta-streams b))

-- ---- SPONGENT's counters

abbrev SoundFamily : Family → Type 0
SoundFamily (sponge (photon p) r') = Unit {0}
SoundFamily (sponge (spongent p) r') = SoundCounter p
SoundFamily lesamnta = Unit {0}

sound-counter : (v : ℕ) (p : SpongentParameters) (r' : ℕ) → (variant v).family ≡ sponge (spongent p) r' → SoundCounter p
sound-counter v p r' f =
    subst SoundFamily f (for-known (λ H. SoundFamily H.family) (search (sound88, sound136, sound176, sound240, sound272) depth 12) v (sponge-known v (ap sponge_of f)))

pub counter-in-each-round : CounterInEachRound
counter-in-each-round v p r' f = counter-stepped p (sound-counter v p r' f)

pub reversed-in-each-round : ReversedInEachRound
reversed-in-each-round v p r' f = reversed-stepped p (sound-counter v p r' f)

-- ---- blocks

-- from one state two different blocks never lead to one next state
pub blocks-tell : BlocksTell
blocks-tell v k s a b ls la lb e =
    ⊎_elim (λ q. step_block (variant v) (is-sponge v q) s a b ls la lb e)
    (λ q. subst (λ (n : ℕ). length s ≡ (variant n).t → length a ≡ (variant n).r → length b ≡ (variant n).r → step (variant n) s a ≡ step (variant n) s b → a ≡ b)
    (sym (not-sponge v k q)) (lesamnta-block s a b) ls la lb e)
    (either (is_sponge (variant v)))

-- demand 3, first sentence
pub one-changed-block : OneChangedBlock
one-changed-block v e xs ys i k bx by d hk =
    let g = streams v (sponge-known v e) in
    changed_block (variant v) g (is-sponge v e) (start_state (variant v)) g.start-length xs ys i k bx by d hk
