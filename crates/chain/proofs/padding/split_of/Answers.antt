-- `chain::padding::split_of` meets its contract: whole bytes and 80, or the part of the last byte that counts and the 1 bit. Assumes nothing.
use mathlib.Core.Path.{◌≡◌, sym, ap, ◌∙◌, subst}
use mathlib.Core.Bool.{Bool, true, false}
use mathlib.Core.List.{List, ◌∷◌, [], ◌++◌}
use Prim.Native.Nat.{ℕ, ◌+◌, ◌-◌, ◌*◌, ◌≤◌}
use native.Mathlib.Omega.{arith}
use lib.ListN.{length, take, replicate}
use lib.Seq.{take-length, length-take-le}
use Rattle.standard.specs.Bits.{high_first, bits_of}
use Rattle.standard.specs.Messages.{counted_of, message_bits, given_bits}
use Rattle.standard.specs.PartBytes.{last_of}
use Rattle.standard.specs.Variants.{variant}
use Rattle.standard.proofs.BitLaws.{length-bits_in}
use Rattle.standard.proofs.PartBytes.{bits-eight, bits-length}
use Rattle.answers.specs.Checks.{first_refusal}
use Rattle.answers.specs.Refusals.{Done}
use Rattle.answers.specs.Outputs.{max_bytes, max_bits}
use Rattle.chain.specs.declared.message.Ending.{Ending}
use Rattle.chain.specs.Messages.{number_checks}
use Rattle.chain.specs.MessageBytes.{given, count_of}
use Rattle.chain.specs.Padding.{Padded}
use Rattle.chain.proofs.MessageLaws.{Counts, fits-counts, given-bits, given-most, marked-eight, marked-part, message-held, holds-message}
use Rattle.chain.proofs.padding.split_of.Goals as goal

-- what the number of bits says of a message
module _ (v : ℕ) (m : List ℕ) (ending : Ending) (k : ℕ) (is : k ≡ count_of ending) (fits : first_refusal (number_checks (given m ending)) ≡ Done) where
  abbrev bits : List Bool
  bits = given_bits (variant v) (given m ending)

  counts : Counts k (length m)
  counts = subst (λ (n : ℕ). Counts n (length m)) (sym is) (fits-counts m ending fits)

  short : length m ≤ max_bytes → length bits ≤ max_bits
  short h = omega (arith, given-most (variant v) m ending fits)

  -- the bits that are given are those that k says
  same : bits ≡ message_bits (variant v) m k
  same = given-bits (variant v) m ending ∙ ap (message_bits (variant v) m) (sym is)

  whole : k ≡ 8 → (8 * length m ≡ length bits) × Padded bits (m ++ 128 ∷ [])
  whole eight =
      let e : bits ≡ message_bits (variant v) m 8 = same ∙ ap (message_bits (variant v) m) eight in
      (sym (ap length e ∙ ap length (bits-eight (variant v) m) ∙ length-bits_in high_first m), subst (λ (bs : List Bool). Padded bs (m ++ 128 ∷ [])) (sym e) (marked-eight (variant v) m))

  part : k ≤ 7 → (x : ℕ) → bits_of high_first 8 x ≡ bits_of high_first k (counted_of (variant v).family k (last_of m)) ++ true ∷ replicate (7 - k) false
      → (8 * (length m - 1) + k ≡ length bits) × Padded bits (take (length m - 1) m ++ x ∷ [])
  part h x e =
      let some : 1 ≤ length m = counts.some h in
      (sym (ap length same ∙ bits-length m some (variant v) k), subst (λ (bs : List Bool). Padded bs (take (length m - 1) m ++ x ∷ [])) (sym same) (marked-part (variant v) m some k x h e))

pub returns-then-k-eq8 : goal.returns-then-k-eq8
returns-then-k-eq8 c =
    let a = c.args in
    let w = whole a.v a.message.now a.ending _ c.count_of-k.ensures c.requires.1 c.if-k-eq8.true in
    record { front_value = (sym (take-length a.message.now), w.0); message_value = message-held _ a.message.now 128 _ w.0 w.1 }

pub invariant_of-result : goal.invariant_of-result
invariant_of-result c =
    let a = c.args in
    let w = whole a.v a.message.now a.ending _ c.count_of-k.ensures c.requires.1 c.if-k-eq8.true in
    record { holds = holds-message _ a.message.now 128 _ w.0 w.1 (short a.v a.message.now a.ending _ c.count_of-k.ensures c.requires.1 c.requires.2) }

pub bounds-message-n : goal.bounds-message-n
bounds-message-n c =
    let a = c.args in
    let f = counts a.v a.message.now a.ending _ c.count_of-k.ensures c.requires.1 in
    omega (arith, f.some (omega (arith, f.most, c.if-k-eq8.false)))

pub counted-requires : goal.counted-requires
counted-requires c =
    let a = c.args in
    (c.requires.0, (counts a.v a.message.now a.ending _ c.count_of-k.ensures c.requires.1).most)

pub with_padding_bit-requires : goal.with_padding_bit-requires
with_padding_bit-requires c =
    let a = c.args in
    let f = counts a.v a.message.now a.ending _ c.count_of-k.ensures c.requires.1 in
    (omega (arith, f.most, c.if-k-eq8.false), c.counted.ensures.1)

pub overflow_sub-result : goal.overflow_sub-result
overflow_sub-result c =
    let a = c.args in
    let f = counts a.v a.message.now a.ending _ c.count_of-k.ensures c.requires.1 in
    omega (arith, f.some (omega (arith, f.most, c.if-k-eq8.false)))

pub returns : goal.returns
returns c =
    let a = c.args in
    let m = a.message.now in
    let k = c.count_of-k.result in
    let f = counts a.v m a.ending _ c.count_of-k.ensures c.requires.1 in
    let p = part a.v m a.ending _ c.count_of-k.ensures c.requires.1 (omega (arith, f.most, c.if-k-eq8.false)) c.with_padding_bit.result
    (c.with_padding_bit.ensures ∙ ap (λ (n : ℕ). bits_of high_first k n ++ true ∷ replicate (7 - k) false) c.counted.ensures.0) in
    record {
      front_value = (ap (λ (n : ℕ). take n m) (sym (length-take-le (length m - 1) m (omega arith))), p.0);
      message_value = message-held _ (take (length m - 1) m) c.with_padding_bit.result _ p.0 p.1;
    }

pub invariant_of-result-2 : goal.invariant_of-result-2
invariant_of-result-2 c =
    let a = c.args in
    let m = a.message.now in
    let k = c.count_of-k.result in
    let f = counts a.v m a.ending _ c.count_of-k.ensures c.requires.1 in
    let p = part a.v m a.ending _ c.count_of-k.ensures c.requires.1 (omega (arith, f.most, c.if-k-eq8.false)) c.with_padding_bit.result
    (c.with_padding_bit.ensures ∙ ap (λ (n : ℕ). bits_of high_first k n ++ true ∷ replicate (7 - k) false) c.counted.ensures.0) in
    record { holds = holds-message _ (take (length m - 1) m) c.with_padding_bit.result _ p.0 p.1 (short a.v m a.ending _ c.count_of-k.ensures c.requires.1 c.requires.2) }
