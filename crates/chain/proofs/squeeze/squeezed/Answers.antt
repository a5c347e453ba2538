-- `chain::squeeze::squeezed` meets its contract: what is out and what the state still gives make the digest, and the permutations that are left lead to the last block. Assumes nothing.
use mathlib.Core.Path.{◌≡◌, refl, ap}
use Prim.Native.Nat.{ℕ, ◌+◌, ◌-◌, ◌*◌, ◌/◌, ◌%◌, ◌≤◌, ◌<◌}
use native.Mathlib.Nat.{zero-mul, add-mul, one-mul, mul-le-mul, div-add-mod', mod-lt}
use native.Mathlib.Omega.{arith}
use Rattle.standard.proofs.Variants.{bounds, rates}
use Rattle.chain.proofs.FamilyLaws.{words-length}
use Rattle.chain.proofs.SqueezeLaws.{squeezing-start, squeezing-more, squeezing-last, squeezing-end}
use Rattle.chain.proofs.squeeze.squeezed.Goals as goal

-- after each of the blocks before the last one something is left, and after them no more than a block
module _ (n q : ℕ) (pos : 0 < q) (some : 0 < n) where
  parts : (n - 1) / q * q + (n - 1) % q ≡ n - 1
  parts = div-add-mod' (n - 1) q

  before : (i : ℕ) → i < (n - 1) / q → i * q + q < n
  before i h =
      let next : i + 1 ≤ (n - 1) / q = omega arith in
      let here : q ≤ q = omega arith in
      omega (arith, parts, one-mul q, add-mul i 1 q, mul-le-mul next here)

  end : n ≤ (n - 1) / q * q + q
  end = omega (arith, parts, mod-lt (n - 1) {m = q} pos)

pub overflow_mul-n : goal.overflow_mul-n
overflow_mul-n c = omega (arith, c.digest_bytes-n.ensures, (bounds c.args.v c.requires.v_value.0).digest-most)

pub overflow_sub-whole : goal.overflow_sub-whole
overflow_sub-whole c = omega (arith, c.digest_bytes-n.ensures, (bounds c.args.v c.requires.v_value.0).digest-least)

pub nonzero_div-whole : goal.nonzero_div-whole
nonzero_div-whole c =
    let f = rates c.args.v c.requires.v_value.1 in
    omega (arith, f.least, f.quarters, c.output_nibbles-q.ensures)

pub loop-i-init : goal.loop-i-init
loop-i-init c =
    rw zero-mul
    (squeezing-start c.args.v c.requires.v_value.0 c.requires.v_value.1 _ (words-length c.args.v c.requires.v_value.0 c.args.w.now) _ _ (ap (λ (n : ℕ). n * 2) c.digest_bytes-n.ensures) c.output_nibbles-q.ensures)

pub step_words-requires : goal.step_words-requires
step_words-requires c = record { v_value = (c.requires.v_value.0, omega (arith, (bounds c.args.v c.requires.v_value.0).rate-most), (λ e. refl)); table_of = c.requires.table_of }

pub loop-i-preserved : goal.loop-i-preserved
loop-i-preserved c =
    let u = c.loop-i.invariant in
    rw (add-mul, one-mul)
    (squeezing-more _ _ _ _ _ _ _ u _ (omega arith) c.front_of-s.ensures _ _ (before _ _ u.block-least (omega (arith, u.wanted)) c.loop-i.i (omega arith)) c.put_front.ensures c.step_words.ensures)

pub returns : goal.returns
returns c =
    let e : c.loop-i.i ≡ (c.digest_bytes-n.result * 2 - 1) / c.output_nibbles-q.result = omega arith in
    let u = rw e at c.loop-i.invariant in
    let n = c.digest_bytes-n.result * 2 in
    let q = c.output_nibbles-q.result in
    let last : n ≤ (n - 1) / q * q + q = end n q u.block-least (omega (arith, u.wanted)) in
    record {
      value = squeezing-last _ _ _ _ _ _ _ u _ (omega arith) c.front_of-s-2.ensures _ last c.put_front-2.ensures;
      w_after = squeezing-end _ _ _ _ _ _ _ u last;
    }
