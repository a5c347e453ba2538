-- The last byte of a message that may end inside it: what its bits are worth, the bytes that hold the message and the padding's 1 bit, and the limit by bytes and by bits.
-- Assumes nothing.
use mathlib.Core.Path.{◌≡◌, refl, sym, ap, ap₂, ◌∙◌, subst}
use mathlib.Core.Bool.{Bool, true, false, ◌&&◌}
use mathlib.Core.List.{List, [], ◌∷◌, ◌++◌, append_assoc, append-nil}
use mathlib.Core.Logic.{⊎_elim}
use Prim.Native.Nat.{ℕ, suc, ◌+◌, ◌-◌, ◌*◌, ◌/◌, ◌%◌, ◌^◌, ◌≤◌, ◌<◌}
use native.Mathlib.Nat.{one-mul, add-mul, mul_comm, mul_assoc, pow-suc}
use native.Mathlib.Omega.{arith}
use lib.Dec.{ltb, leb}
use lib.ListN.{length, take, replicate, length-append, length-take}
use lib.Seq.{take_at}
use lib.Pow.{shl_lt, shl_exact}
use borrow.Author.Tests.{ltb-true, ltb-false, not-true, lt-ltb, le-ltb, leb-true, le-leb}
use Rattle.answers.specs.declared.Refusal.TheVariants.{UnknownVariant, TooLong, BadBitNumber}
use Rattle.answers.specs.Refusals.{Status, Done, Refused}
use Rattle.answers.specs.Checks.{Check, unless, when, first_refusal}
use Rattle.answers.specs.Outputs.{when_done, max_bytes, max_bits}
use Rattle.answers.proofs.Rows.{passing-says, row-append, row-second, row-both}
use Rattle.standard.specs.Bits.{high_first, low_bits, ordered, bits_of, bits_in, unpack}
use Rattle.standard.specs.Families.{Variant}
use Rattle.standard.specs.Messages.{byte_bits, counted_of, message_bits, Given, partial, given_bits}
use Rattle.standard.specs.PartBytes.{before_last, last_of}
use Rattle.standard.specs.Variants.{variant, known}
use Rattle.standard.proofs.Tests.{and-true, either, one-to-five, six-to-ten}
use Rattle.standard.proofs.BitLaws.{length-bits_of, length-bits_in, bits_in-append}
use Rattle.standard.proofs.HighBits.{top-bits, top_one}
use Rattle.standard.proofs.PartBytes.{bits_are, bits-eight, bits-length, uncounted, same_bytes}
use Rattle.chain.specs.declared.message.Ending.{Ending}
use Rattle.chain.specs.declared.message.Ending.TheVariants.{Whole, Bits}
use Rattle.octets.proofs.Shifts.{power}
use Rattle.chain.specs.Messages.{is_bit_number, number_checks, Fits, message_checks, Alike}
use Rattle.chain.specs.Promises.{EightAlike, UncountedAlike}
use Rattle.chain.specs.MessageBytes.{given, count_of, message_in, HoldsMessage}
use Rattle.chain.specs.Padding.{Padded}

-- ---- bit numbers

pub record BitNumber (k n : ℕ) : Type 0 where
  pub some : 0 < n
  pub least : 1 ≤ k
  pub most : k ≤ 8

pub bit-number : (k n : ℕ) → is_bit_number k n ≡ true → BitNumber k n
bit-number k n e =
    let all = and-true (ltb 0 n && ltb 0 k) (leb k 8) e in
    let two = and-true (ltb 0 n) (ltb 0 k) all.0 in
    record { some = ltb-true 0 n two.0; least = ltb-true 0 k two.1; most = leb-true k 8 all.1 }

pub number_fits : (k n : ℕ) → 1 ≤ k → k ≤ 8 → 0 < n → is_bit_number k n ≡ true
number_fits k n least most some = rw (lt-ltb 0 n some, lt-ltb 0 k least, le-leb k 8 most)

-- 8 fits whatever has a byte
pub eight_fits : (n : ℕ) → 0 < n → is_bit_number 8 n ≡ true
eight_fits n some = number_fits 8 n (omega arith) (omega arith) some

-- ---- which bits count, by number

pub photon-counts : (v : ℕ) → 1 ≤ v → v ≤ 5 → (k b : ℕ) → counted_of (variant v).family k b ≡ b / 2 ^ (8 - k)
unfolding variant
photon-counts = one-to-five (λ v. (k b : ℕ) → counted_of (variant v).family k b ≡ b / 2 ^ (8 - k)) (λ k b. refl) (λ k b. refl) (λ k b. refl) (λ k b. refl) (λ k b. refl)

pub spongent-counts : (v : ℕ) → 6 ≤ v → v ≤ 10 → (k b : ℕ) → counted_of (variant v).family k b ≡ b % 2 ^ k
unfolding variant
spongent-counts = six-to-ten (λ v. (k b : ℕ) → counted_of (variant v).family k b ≡ b % 2 ^ k) (λ k b. refl) (λ k b. refl) (λ k b. refl) (λ k b. refl) (λ k b. refl)

pub lesamnta-counts : (v : ℕ) → v ≡ 11 → (k b : ℕ) → counted_of (variant v).family k b ≡ b / 2 ^ (8 - k)
unfolding variant
lesamnta-counts v e k b = ap (λ (n : ℕ). counted_of (variant n).family k b) e

-- ---- k bits at the high end of a byte

module _ (k z n : ℕ) (all : k + z ≡ 8) (small : n < 2 ^ k) where
  shifted : n * 2 ^ z % 2 ^ 32 ≡ n * 2 ^ z
  shifted = shl_exact k z 32 small (omega arith)

  pub shifted-lt : n * 2 ^ z % 2 ^ 32 < 256
  shifted-lt = subst (λ (m : ℕ). m < 256) (sym shifted) (subst (λ (w : ℕ). n * 2 ^ z < 2 ^ w) all (shl_lt k z small))

  pub shifted-bits : bits_of high_first 8 (n * 2 ^ z % 2 ^ 32) ≡ bits_of high_first k n ++ replicate z false
  shifted-bits = ap₂ (bits_of high_first) (sym all) shifted ∙ top-bits k z n

-- and a 1 bit behind them
module _ (k n : ℕ) (h : k ≤ 7) (small : n < 2 ^ k) where
  abbrev sum : ℕ
  sum = n * 2 ^ (8 - k) % 2 ^ 32 + 1 * 2 ^ (7 - k) % 2 ^ 32

  -- the two do not overlap
  sum_is : sum ≡ (2 * n + 1) * 2 ^ (7 - k)
  sum_is =
      let next : 8 - k ≡ suc (7 - k) = omega arith in
      let twice : n * 2 ^ suc (7 - k) ≡ 2 * n * 2 ^ (7 - k) =
      ap (λ (x : ℕ). n * x) (pow-suc 2 (7 - k) ∙ mul_comm (2 ^ (7 - k)) 2) ∙ sym (mul_assoc n 2 (2 ^ (7 - k))) ∙ ap (λ (x : ℕ). x * 2 ^ (7 - k)) (mul_comm n 2) in
      ap₂ (λ (x y : ℕ). x + y)
      (shifted k (8 - k) n (omega arith) small ∙ ap (λ (z : ℕ). n * 2 ^ z) next ∙ twice)
      (power (7 - k) (omega arith) ∙ sym (one-mul (2 ^ (7 - k))))
      ∙ sym (add-mul (2 * n) 1 (2 ^ (7 - k)))

  doubled-lt : 2 * n + 1 < 2 ^ suc k
  doubled-lt = omega (arith, small, pow-suc 2 k)

  width : suc k + (7 - k) ≡ 8
  width = omega arith

  pub one-lt : n * 2 ^ (8 - k) % 2 ^ 32 + 1 * 2 ^ (7 - k) % 2 ^ 32 < 256
  one-lt = subst (λ (m : ℕ). m < 256) (sym sum_is) (subst (λ (w : ℕ). (2 * n + 1) * 2 ^ (7 - k) < 2 ^ w) width (shl_lt (suc k) (7 - k) doubled-lt))

  pub one-bits : bits_of high_first 8 (n * 2 ^ (8 - k) % 2 ^ 32 + 1 * 2 ^ (7 - k) % 2 ^ 32) ≡ bits_of high_first k n ++ true ∷ replicate (7 - k) false
  one-bits =
      let same : 8 ≡ k + suc (7 - k) = omega arith in
      ap₂ (bits_of high_first) same sum_is ∙ top_one k (7 - k) n

-- ---- bytes that hold a message and the 1 bit

-- a last byte that has the bits c and the 1 bit
pub marked-last : (front : List ℕ) (x : ℕ) (c : List Bool) → length c ≤ 7 → bits_of high_first 8 x ≡ c ++ true ∷ replicate (7 - length c) false
    → Padded (byte_bits front ++ c) (front ++ x ∷ [])
unfolding bits_in
marked-last front x c h e =
    let z : 7 - length c ≡ 8 * length (front ++ x ∷ []) - length (byte_bits front ++ c) - 1 =
    omega (arith, length-append front (x ∷ []), length-append (byte_bits front) c, length-bits_in high_first front) in
    bits_in-append high_first front (x ∷ [])
    ∙ ap (λ (bs : List Bool). byte_bits front ++ bs) (append-nil (bits_of high_first 8 x) ∙ e ∙ ap (λ (n : ℕ). c ++ true ∷ replicate n false) z)
    ∙ sym (append_assoc (byte_bits front) c _)

one-alone : bits_of high_first 8 128 ≡ true ∷ replicate 7 false
unfolding bits_of ordered low_bits
one-alone = refl

-- whole bytes are followed by 80
pub marked-whole : (m : List ℕ) → Padded (byte_bits m) (m ++ 128 ∷ [])
marked-whole m = subst (λ (bs : List Bool). Padded bs (m ++ 128 ∷ [])) (append-nil (byte_bits m)) (marked-last m 128 [] (omega arith) one-alone)

module _ (H : Variant) (m : List ℕ) where
  pub marked-eight : Padded (message_bits H m 8) (m ++ 128 ∷ [])
  marked-eight = subst (λ (bs : List Bool). Padded bs (m ++ 128 ∷ [])) (sym (bits-eight H m)) (marked-whole m)

  pub marked-part : 0 < length m → (k x : ℕ) → k ≤ 7
      → bits_of high_first 8 x ≡ bits_of high_first k (counted_of H.family k (last_of m)) ++ true ∷ replicate (7 - k) false
      → Padded (message_bits H m k) (take (length m - 1) m ++ x ∷ [])
  marked-part some k x h e =
      let c : List Bool = bits_of high_first k (counted_of H.family k (last_of m)) in
      let lc : length c ≡ k = length-bits_of high_first k (counted_of H.family k (last_of m)) in
      subst (λ (bs : List Bool). Padded bs (before_last m ++ x ∷ [])) (sym (bits_are m some H k))
      (marked-last (before_last m) x c (omega (arith, lc)) (e ∙ ap (λ (n : ℕ). c ++ true ∷ replicate (7 - n) false) (sym lc)))

-- ---- a message as the code holds it

-- it has as many bits as is said
pub held-length : {front : List ℕ} {last n : ℕ} → HoldsMessage front last n → length (message_in front last n) ≡ n
unfolding unpack
held-length {front} {last} {n} h =
    omega (arith, length-take n (bits_in high_first (front ++ last ∷ [])), ap length h.marked ∙ length-append (message_in front last n) _)

-- bytes that hold the bits m and the 1 bit
module _ (m : List Bool) (front : List ℕ) (last n : ℕ) (e : n ≡ length m) (marked : Padded m (front ++ last ∷ [])) where
  pub message-held : message_in front last n ≡ m
  unfolding unpack
  message-held = ap₂ take e marked ∙ take_at m _ (length m) refl

  pub holds-message : length m ≤ max_bits → HoldsMessage front last n
  holds-message l = record { short = omega arith; marked = subst (λ (x : List Bool). Padded x (front ++ last ∷ [])) (sym message-held) marked }

-- ---- what a caller gives, and what the code makes of it

-- the bits are those of so many of the last byte
pub given-bits : (H : Variant) (m : List ℕ) (e : Ending) → given_bits H (given m e) ≡ message_bits H m (count_of e)
given-bits H m Whole = sym (bits-eight H m)
given-bits H m (Bits k) = refl

-- a number that is given and fits
pub fits-number : (m : List ℕ) (k : ℕ) → Fits (partial m k) → is_bit_number k (length m) ≡ true
fits-number m k e = (passing-says (number_checks (partial m k)) e).0

pub number-passes : (m : List ℕ) (k : ℕ) → is_bit_number k (length m) ≡ true → Fits (partial m k)
number-passes m k e = rw e

-- how many bits of the last byte count where the number fits; a byte of which not all count is there
pub record Counts (k n : ℕ) : Type 0 where
  pub least : 1 ≤ k
  pub most : k ≤ 8
  pub some : k ≤ 7 → 0 < n

pub fits-counts : (m : List ℕ) (e : Ending) → Fits (given m e) → Counts (count_of e) (length m)
fits-counts m Whole f = record { least = omega arith; most = omega arith; some = λ l. omega arith }
fits-counts m (Bits k) f =
    let b : BitNumber k (length m) = bit-number k (length m) (fits-number m k f) in
    record { least = b.least; most = b.most; some = λ l. b.some }

-- The bits pass their limit exactly when the bytes pass theirs, however many bits of the last one count.
-- how many bits they are
pub given-length : (H : Variant) (m : List ℕ) (e : Ending) → 0 < length m → length (given_bits H (given m e)) ≡ 8 * (length m - 1) + count_of e
given-length H m e some = ap length (given-bits H m e) ∙ bits-length m some H (count_of e)

pub given-none : (H : Variant) (e : Ending) → given_bits H (given [] e) ≡ []
unfolding message_bits
given-none H e = given-bits H [] e

module _ (H : Variant) (m : List ℕ) (e : Ending) (f : Fits (given m e)) where
  pub given-most : length (given_bits H (given m e)) ≤ 8 * length m
  given-most = go m f
    where
      go : (x : List ℕ) → Fits (given x e) → length (given_bits H (given x e)) ≤ 8 * length x
      go [] g = omega (arith, ap length (given-none H e))
      go (b ∷ x) g = omega (arith, given-length H (b ∷ x) e (omega arith), (fits-counts (b ∷ x) e g).most)

  pub given-least : 8 * length m < length (given_bits H (given m e)) + 8
  given-least = go m f
    where
      go : (x : List ℕ) → Fits (given x e) → 8 * length x < length (given_bits H (given x e)) + 8
      go [] g = omega arith
      go (b ∷ x) g = omega (arith, given-length H (b ∷ x) e (omega arith), (fits-counts (b ∷ x) e g).least)

  pub given-limit : ltb max_bits (length (given_bits H (given m e))) ≡ ltb max_bytes (length m)
  given-limit =
      let n : ℕ = length (given_bits H (given m e)) in
      ⊎_elim
      (λ l. lt-ltb max_bits n (omega (arith, given-least, ltb-true max_bytes (length m) l)) ∙ sym l)
      (λ l. le-ltb max_bits n (omega (arith, given-most, ltb-false max_bytes (length m) l)) ∙ sym l)
      (either (ltb max_bytes (length m)))

-- ---- what passing the checks says

pub record Asked (v : ℕ) (g : Given) : Type 0 where
  pub named : known v ≡ true
  pub fits : Fits g
  pub few : length (given_bits (variant v) g) ≤ max_bits

pub message-passed : (v : ℕ) (g : Given) → first_refusal (message_checks v g) ≡ Done → Asked v g
message-passed v g e =
    let p = row-both (unless (known v) UnknownVariant ∷ []) (number_checks g ++ when (ltb max_bits (length (given_bits (variant v) g))) TooLong ∷ []) e in
    let q = row-both (number_checks g) (when (ltb max_bits (length (given_bits (variant v) g))) TooLong ∷ []) p.1 in
    record {
      named = (passing-says (unless (known v) UnknownVariant ∷ []) p.0).0;
      fits = q.0;
      few = ltb-false _ _ (not-true _ (passing-says (when (ltb max_bits (length (given_bits (variant v) g))) TooLong ∷ []) q.1).0);
    }

pub message-short : (v : ℕ) (m : List ℕ) (e : Ending) → Asked v (given m e) → length m ≤ max_bytes
message-short v m e a = ltb-false _ _ (sym (given-limit (variant v) m e a.fits) ∙ le-ltb _ _ a.few)

-- they pass of what is known, fits and is within the limit
pub message-passes : (v : ℕ) (g : Given) → known v ≡ true → Fits g → length (given_bits (variant v) g) ≤ max_bits → first_refusal (message_checks v g) ≡ Done
message-passes v g k f few =
    row-second (unless (known v) UnknownVariant ∷ []) (number_checks g ++ when (ltb max_bits (length (given_bits (variant v) g))) TooLong ∷ []) (rw k)
    ∙ row-second (number_checks g) (when (ltb max_bits (length (given_bits (variant v) g))) TooLong ∷ []) f
    ∙ rw (le-ltb max_bits (length (given_bits (variant v) g)) few)

-- what is past the limit is refused for that
pub message-long : (v : ℕ) (g : Given) → known v ≡ true → Fits g → max_bits < length (given_bits (variant v) g) → first_refusal (message_checks v g) ≡ Refused TooLong
message-long v g k f long =
    row-second (unless (known v) UnknownVariant ∷ []) (number_checks g ++ when (ltb max_bits (length (given_bits (variant v) g))) TooLong ∷ []) (rw k)
    ∙ row-second (number_checks g) (when (ltb max_bits (length (given_bits (variant v) g))) TooLong ∷ []) f
    ∙ rw (lt-ltb max_bits (length (given_bits (variant v) g)) long)

pub message-unknown : (v : ℕ) (g : Given) → known v ≡ false → first_refusal (message_checks v g) ≡ Refused UnknownVariant
message-unknown v g k = rw k

-- ---- two ways to give the same bits

-- where a bit number is checked among other checks, what is alike is answered alike
pub alike-row : (before behind : List Check) (g h : Given) → first_refusal (number_checks g) ≡ first_refusal (number_checks h)
    → first_refusal (before ++ (number_checks g ++ behind)) ≡ first_refusal (before ++ (number_checks h ++ behind))
alike-row before behind g h e =
    row-append before (number_checks g ++ behind)
    ∙ ap (λ (s : Status). when_done (first_refusal before) s (first_refusal before))
    (row-append (number_checks g) behind ∙ ap (λ (s : Status). when_done s (first_refusal behind) s) e ∙ sym (row-append (number_checks h) behind))
    ∙ sym (row-append before (number_checks h ++ behind))

pub alike-asked : (v : ℕ) (g h : Given) → Alike (variant v) g h → first_refusal (message_checks v g) ≡ first_refusal (message_checks v h)
alike-asked v g h a =
    alike-row (unless (known v) UnknownVariant ∷ []) _ g h a.numbers
    ∙ ap (λ (m : List Bool). first_refusal (unless (known v) UnknownVariant ∷ (number_checks h ++ when (ltb max_bits (length m)) TooLong ∷ []))) a.same

pub eight-alike : EightAlike
eight-alike H m some = record { numbers = number-passes m 8 (eight_fits (length m) some); same = bits-eight H m }

pub uncounted-alike : UncountedAlike
uncounted-alike H front b c k e =
    record {
      numbers = ap (λ (n : ℕ). first_refusal (unless (is_bit_number k n) BadBitNumber ∷ [])) (same_bytes front b c);
      same = uncounted H front b c k e;
    }
