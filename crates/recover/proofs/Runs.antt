-- The blocks of a message, as the code makes them, run forward and taken back on the bytes that hold states; and two states xored.
-- Assumes nothing.
use mathlib.Core.Path.{◌≡◌, refl, sym, ap, ap₂, ◌∙◌, subst}
use mathlib.Core.Bool.{Bool, true, false}
use mathlib.Core.List.{List, [], ◌∷◌, ◌++◌, append_assoc}
use Prim.Native.Nat.{ℕ, suc, ◌+◌, ◌-◌, ◌*◌, ◌/◌, ◌^◌, ◌≤◌, ◌<◌}
use native.Mathlib.Numerals.{add-one}
use native.Mathlib.Omega.{arith}
use lib.ListN.{length, take, drop, get_or, replicate, length-append, length-drop, length-replicate}
use lib.Seq.{drop-cons, drop-length, take-take, take-append-le, drop-append-le}
use Rattle.standard.specs.Bits.{Order, high_first, bits_in, unpack, pack, filled, xor_into}
use Rattle.standard.specs.declared.Direction.TheVariants.{Backward}
use Rattle.standard.specs.Sponge.{sponge_padding}
use Rattle.standard.specs.Families.{Variant, is_sponge, order, state_in}
use Rattle.standard.specs.Chain.{start_state, padded, whole_blocks, blocks_of, block_count, run}
use Rattle.standard.specs.Variants.{variant, known}
use Rattle.standard.proofs.BitLaws.{length-filled, length-unpack, length-pack, pack-whole, bits_in-append, bits_in-zeros, bits_in-drop, length-xor_into, xor_into-append, xor_into-zeros}
use Rattle.standard.proofs.LesamntaLaws.{cipher-length}
use Rattle.standard.proofs.Sponge.{padding-sponge}
use Rattle.standard.proofs.Streaming.{Streams, block-count, run_length}
use Rattle.standard.proofs.PartBytes.{bit-block-count}
use Rattle.standard.proofs.Variants.{bounds, streams, is-sponge}
use Rattle.standard.specs.Layout.{state_room, packed_state, packed_block}
use Rattle.chain.specs.Holding.{block_in, Holds}
use Rattle.chain.specs.TakenBack.{permuted_state, unstep, unrun}
use Rattle.chain.proofs.TakenBack.{unrun-one, unrun-none, unrun-length, wanted-length}
use Rattle.chain.specs.Blocks.{none_held, bits_after, block_from, first_blocks, after_blocks}
use Rattle.chain.specs.declared.stretch.Held.{Held}
use Rattle.chain.proofs.BlockRows.{with_one, length-first, first-take, marked-at, marked-blocks, held_then-alone}
use Rattle.chain.specs.Padding.{data_blocks, length_blocks}
use Rattle.chain.proofs.LastBlocks.{ending-blocks, place-marked, count_most}
use Rattle.chain.proofs.BlockRuns.{block_read, block-is, place-le}
use Rattle.octets.proofs.LayoutLaws.{packed-bits, holds}
use Rattle.chain.proofs.States.{stored, stored-ready}
use Rattle.recover.specs.Difference.{state_before, state_behind, between, difference}
use Rattle.recover.proofs.Searching.{between-sponge}
use Rattle.standard.specs.Lesamnta.{cipher}
use Rattle.chain.specs.declared.split.Split.{Split}
use Rattle.chain.specs.Splits.{message_held}
use Rattle.chain.proofs.MessageLaws.{held-length}

-- the blocks of a message of n bits that the code holds
pub count_held : (v : ℕ) (m : Split) {count : ℕ} → count ≡ block_count (variant v) m.bits → count ≡ length (blocks_of (variant v) (message_held m))
count_held v m e = e ∙ ap (block_count (variant v)) (sym (held-length m.holds)) ∙ sym (block-count (variant v) _)

-- what is held and the bytes after it are a message's, nothing held before it
abbrev pub AllOf : Split → Held → List ℕ → Type 0
AllOf m held bytes = (held ≡ none_held) × (bytes ≡ m.front.now ++ m.last ∷ [])

module _ (v : ℕ) (k : known v ≡ true) (m : Split) where
  abbrev H : Variant
  H = variant v

  abbrev M : List Bool
  M = message_held m

  abbrev bytes : List ℕ
  bytes = m.front.now ++ m.last ∷ []

  abbrev bs : List (List Bool)
  bs = blocks_of (variant v) (message_held m)

  -- there are few enough
  pub few : length bs ≤ 2 ^ 32
  few = omega (arith, block-count H M, count_most v k (length M), held-length m.holds, m.holds.short)

  -- and the place of each, in half bytes, is far below the limits of the machine's numbers
  module _ (q : ℕ) (eq : q ≡ H.r / 4) (j : ℕ) (l : j ≤ length bs) where
    pub place-low : j * q ≤ 2 ^ 40
    place-low = place-le v k q eq j (omega (arith, few))

  -- ---- the blocks of the padded message before the length's are those of the bytes

  first-blocks : (j : ℕ) → j < length bs → take j bs ≡ first_blocks H.r j (bits_in high_first bytes)
  unfolding blocks_of padded
  first-blocks j l =
      let n : ℕ = length M in
      let c : ℕ = data_blocks H n in
      let among : j ≤ c = place-marked v k n j (subst (λ (m : ℕ). j < m) (block-count H M) l) in
      ap (take j) (ending-blocks v k M n refl)
      ∙ take-append-le j (first_blocks H.r c (with_one M)) (length_blocks H n) (omega (arith, length-first H.r (with_one M) c))
      ∙ first-take H.r (with_one M) c j among
      ∙ sym (marked-blocks H.r j M bytes m.holds.marked)

  -- ---- run forward

  alone : {held : Held} {all : List ℕ} → AllOf m held all → bits_after held all ≡ bits_in high_first bytes
  alone is = ap₂ bits_after is.0 is.1 ∙ held_then-alone _ bytes

  run-before : (s x : List ℕ) {held : Held} {all : List ℕ} → AllOf m held all → (j : ℕ) → j < length bs → s ≡ packed_state H (start_state H)
      → x ≡ packed_state H (after_blocks H (state_in H s) held all j) → x ≡ packed_state H (run H (start_state H) (take j bs))
  run-before s x is j l es ex =
      ex
      ∙ ap₂ (λ (y z : List Bool). packed_state H (run H y (first_blocks H.r j z))) (stored v k s (start_state H) (streams v k).start-length es) (alone is)
      ∙ ap (λ (z : List (List Bool)). packed_state H (run H (start_state H) z)) (sym (first-blocks j l))

  -- ---- of a sponge, taken back from the state e

  module _ (q : is_sponge (variant v) ≡ true) (e : List Bool) (le : length e ≡ H.t) where
    count : length bs ≡ length M / H.r + 1
    count = bit-block-count v q M

    row : bs ≡ whole_blocks H.r (M ++ sponge_padding H.r (length M))
    unfolding blocks_of padded
    row = ap (λ (p : List Bool). whole_blocks H.r (M ++ p)) (padding-sponge H (is-sponge v q) (length M))

    block_at : (j : ℕ) → j < length bs → get_or bs j [] ≡ filled H.r (drop (j * H.r) (bits_in high_first bytes))
    block_at j l = ap (λ (x : List (List Bool)). get_or x j []) row ∙ marked-at H.r (streams v k).rate-pos M bytes m.holds.marked j (omega (arith, count))

    -- the state before block j
    abbrev before : ℕ → List Bool
    before j = unrun H e (drop j bs)

    before-size : (j : ℕ) → length (before j) ≡ H.t
    before-size j = unrun-length H (is-sponge v q) (drop j bs) e le

    pub back_start : (j : ℕ) → j ≡ length bs → e ≡ before j
    back_start j p = sym (ap before p ∙ ap (unrun H e) (drop-length bs) ∙ unrun-none H (is-sponge v q) e)

    pub back-ready : (j : ℕ) (s : List ℕ) → s ≡ packed_state H (before j) → Holds v s
    back-ready j s z = stored-ready v k s (before j) (before-size j) z

    -- the state before block i, with block j in front of it taken back
    pub back_more : (w : ℕ) → w ≡ H.r / 4 → (i j : ℕ) → i ≡ j + 1 → (s x next : List ℕ) {held : Held} {all : List ℕ} → AllOf m held all → j < length bs → s ≡ packed_state H (before i)
        → x ≡ packed_block (block_from held all (j * w) w)
        → next ≡ packed_state H (unstep H (state_in H s) (block_in H x)) → next ≡ packed_state H (before j)
    back_more w ew i j p s x next {held} {all} is l ei ex en =
        let B : List Bool = filled H.r (drop (j * H.r) (bits_in high_first bytes)) in
        let es : s ≡ packed_state H (before (j + 1)) = ei ∙ ap (λ (n : ℕ). packed_state H (before n)) p in
        let block : x ≡ packed_block B =
        ex ∙ ap packed_block (block-is v k w ew (bits_after held all) j) ∙ ap (λ (z : List Bool). packed_block (filled H.r (drop (j * H.r) z))) (alone is) in
        en
        ∙ ap₂ (λ (y z : List Bool). packed_state H (unstep H y z)) (stored v k s (before (j + 1)) (before-size (j + 1)) es)
        (block_read v k x B (length-filled H.r (drop (j * H.r) (bits_in high_first bytes))) block ∙ sym (block_at j l))
        ∙ ap (packed_state H)
        (sym (ap (unrun H e) (drop-cons bs j [] l ∙ ap (λ (n : ℕ). get_or bs j [] ∷ drop n bs) (sym (add-one j)))
        ∙ unrun-one H (is-sponge v q) e (get_or bs j []) (drop (j + 1) bs)))

-- ---- the difference of the two states

states-xored : (v : ℕ) → known v ≡ true → (p q x : List ℕ) (S Z : List Bool) → length S ≡ (variant v).t → length Z ≡ (variant v).t
    → ((i : ℕ) → get_or x i 0 < 256) → length x ≡ state_room → p ≡ packed_state (variant v) S → q ≡ packed_state (variant v) Z
    → ((o : Order) → bits_in o x ≡ xor_into (bits_in o p) (bits_in o q)) → x ≡ packed_state (variant v) (xor_into S Z)
states-xored v k p q x S Z l_s l_z hx lx ep eq ex =
    let o : Order = order (variant v) in
    let t : ℕ = (variant v).t in
    let small : t ≤ 288 = (bounds v k).state-most in
    let bits : (y : List ℕ) (Y : List Bool) → length Y ≡ t → y ≡ packed_state (variant v) Y → bits_in o y ≡ Y ++ replicate (288 - t) false =
    λ y Y l e. ap (bits_in o) e ∙ packed-bits o state_room Y (omega arith) ∙ ap (λ (n : ℕ). Y ++ replicate (288 - n) false) l in
    holds o t small x (xor_into S Z) hx lx (length-xor_into S Z ∙ l_s)
    (ex o
    ∙ ap₂ xor_into (bits p S l_s ep) (bits q Z l_z eq)
    ∙ xor_into-append S (replicate (288 - t) false) Z (replicate (288 - t) false) (l_s ∙ sym l_z)
    ∙ ap (λ (l : List Bool). xor_into S Z ++ l) (xor_into-zeros (replicate (288 - t) false) (288 - t)))

-- what lies between the state before the place, run forward, and the state after it
module _ (v : ℕ) (k : known v ≡ true) (message : Split) (e : List Bool) (le : length e ≡ (variant v).t)
    (place : ℕ) (within : place < length (blocks_of (variant v) (message_held message))) where
  abbrev K : Variant
  K = variant v

  abbrev m : List Bool
  m = message_held message

  before-long : length (state_before K m place) ≡ K.t
  before-long = run_length K (streams v k) (take place (blocks_of K m)) (start_state K) (streams v k).start-length

  module _ (s x : List ℕ) (es : s ≡ packed_state (variant v) (start_state (variant v))) {held : Held} {all : List ℕ} (is : AllOf message held all)
      (ex : x ≡ packed_state (variant v) (after_blocks (variant v) (state_in (variant v) s) held all place)) where
    before-held : x ≡ packed_state K (state_before K m place)
    before-held = run-before v k message s x is place within es ex

    pub before-ready : Holds v x
    before-ready = stored-ready v k x (state_before K m place) before-long before-held

    -- of a sponge: permuted back, and xored
    pub difference-held : is_sponge (variant v) ≡ true → (y z r : List ℕ) → y ≡ packed_state K (state_behind K m place e)
        → z ≡ packed_state K (permuted_state K Backward (state_in K y))
        → ((i : ℕ) → get_or r i 0 < 256) → length r ≡ state_room → ((o : Order) → bits_in o r ≡ xor_into (bits_in o x) (bits_in o z))
        → r ≡ packed_state K (difference K m place e)
    difference-held q y z r ey ez hr lr er =
        let g : Streams K = streams v k in
        states-xored v k x z r (state_before K m place) (permuted_state K Backward (state_behind K m place e)) before-long
        (wanted-length K g (is-sponge v q) (start_state K) g.start-length (blocks_of K m) place within e le)
        hr lr before-held
        (ez ∙ ap (λ (u : List Bool). packed_state K (permuted_state K Backward u)) (stored v k y (state_behind K m place e) (unrun-length K (is-sponge v q) _ e le) ey))
        er
        ∙ ap (packed_state K) (sym (between-sponge K.family q K (state_before K m place) (state_behind K m place e)))

    -- of what is no sponge, at the last place: no block is after it
    pub last-held : suc place ≡ length (blocks_of (variant v) (message_held message)) → (r : List ℕ) → r ≡ packed_state K (between K.family K (state_in K x) e) → r ≡ packed_state K (difference K m place e)
    unfolding unrun
    last-held final r er =
        let nothing : drop (suc place) (blocks_of K m) ≡ [] = ap (λ (j : ℕ). drop j (blocks_of K m)) final ∙ drop-length (blocks_of K m) in
        er ∙ ap₂ (λ (a b : List Bool). packed_state K (between K.family K a b)) (stored v k x (state_before K m place) before-long before-held) (sym (ap (unrun K e) nothing))

-- ---- Lesamnta-LW: what was enciphered, with the second half of the state xored out

module _ (before end : List ℕ) (hb : Holds 11 before) where
  abbrev S : List Bool
  S = state_in (variant 11) before

  abbrev X : List Bool
  X = cipher Backward (take 128 (state_in (variant 11) before)) (state_in (variant 11) end)

  abbrev Z : List Bool
  Z = replicate 128 false ++ drop 128 (state_in (variant 11) before)

  module _ (lb : length before ≡ state_room) where
    long : length S ≡ 256
    unfolding state_in variant
    long = length-unpack high_first 256 before (omega arith)

    before-bits : bits_in high_first before ≡ S ++ replicate 32 false
    unfolding variant
    before-bits = ap (bits_in high_first) hb ∙ packed-bits high_first 36 S (omega (arith, long)) ∙ ap (λ (n : ℕ). S ++ replicate (288 - n) false) long

    enciphered : (x y : List ℕ) → x ≡ pack high_first 32 (cipher Backward (take 128 (bits_in high_first before)) (take 256 (bits_in high_first end)))
        → y ≡ x ++ replicate (state_room - length x) 0 → bits_in high_first y ≡ X ++ replicate 32 false
    unfolding state_in unpack variant
    enciphered x y ex ey =
        let key : take 128 (bits_in high_first before) ≡ take 128 (take 256 (bits_in high_first before)) = sym (take-take 128 256 (bits_in high_first before) (omega arith)) in
        let x-is : x ≡ pack high_first 32 X = ex ∙ ap (λ (k : List Bool). pack high_first 32 (cipher Backward k (take 256 (bits_in high_first end)))) key in
        let lx : length x ≡ 32 = ap length x-is ∙ length-pack high_first 32 X in
        let l_x : length X ≡ 256 = cipher-length Backward (take 128 (take 256 (bits_in high_first before))) (take 256 (bits_in high_first end)) in
        ap (bits_in high_first) (ey ∙ ap₂ (λ (a : List ℕ) (n : ℕ). a ++ replicate (state_room - n) 0) x-is lx ∙ sym (pack-whole high_first 32 36 X (omega arith) l_x))
        ∙ packed-bits high_first 36 X (omega arith)
        ∙ ap (λ (n : ℕ). X ++ replicate (288 - n) false) l_x

    half-bits : (z : List ℕ) → z ≡ replicate 16 0 ++ drop 16 before → bits_in high_first z ≡ Z ++ replicate 32 false
    half-bits z ez =
        ap (bits_in high_first) ez
        ∙ bits_in-append high_first (replicate 16 0) (drop 16 before)
        ∙ ap₂ (λ (a b : List Bool). a ++ b) (bits_in-zeros high_first 16)
        (sym (bits_in-drop high_first 16 before) ∙ ap (drop 128) before-bits ∙ drop-append-le 128 S (replicate 32 false) (omega (arith, long)))
        ∙ sym (append_assoc (replicate 128 false) (drop 128 S) (replicate 32 false))

    pub cipher-between : (x y z r : List ℕ)
        → x ≡ pack high_first 32 (cipher Backward (take 128 (bits_in high_first before)) (take 256 (bits_in high_first end)))
        → y ≡ x ++ replicate (state_room - length x) 0
        → z ≡ replicate 16 0 ++ drop 16 before
        → ((i : ℕ) → get_or r i 0 < 256) → length r ≡ state_room → ((o : Order) → bits_in o r ≡ xor_into (bits_in o y) (bits_in o z))
        → r ≡ packed_state (variant 11) (between (variant 11).family (variant 11) (state_in (variant 11) before) (state_in (variant 11) end))
    unfolding variant
    cipher-between x y z r ex ey ez hr lr er =
        let l_x : length X ≡ 256 = cipher-length Backward (take 128 S) (state_in (variant 11) end) in
        let l_z : length Z ≡ 256 = length-append (replicate 128 false) (drop 128 S) ∙ omega (arith, length-replicate 128 false, length-drop 128 S, long) in
        holds high_first 256 (omega arith) r (xor_into X Z) hr lr (length-xor_into X Z ∙ l_x)
        (er high_first
        ∙ ap₂ xor_into (enciphered x y ex ey) (half-bits z ez)
        ∙ xor_into-append X (replicate 32 false) Z (replicate 32 false) (l_x ∙ sym l_z)
        ∙ ap (λ (l : List Bool). xor_into X Z ++ l) (xor_into-zeros (replicate 32 false) 32))
