-- `chain::stretch::Stretch::step_at` meets its contract: a block straight from the piece, or by its bytes. Assumes nothing.
use mathlib.Core.Path.{◌≡◌, refl, sym, ap, ◌∙◌}
use Prim.Native.Nat.{ℕ, ◌*◌, ◌≤◌}
use lib.ListN.{take, drop}
use Rattle.standard.specs.Bits.{high_first, bits_in}
use native.Mathlib.Omega.{arith}
use Rattle.standard.specs.Chain.{step}
use Rattle.standard.specs.Variants.{variant}
use Rattle.standard.proofs.Variants.{bounds}
use Rattle.chain.proofs.InsideBlocks.{inside, made, even-halves}
use Rattle.chain.proofs.stretch.Stretch.step_at.Goals as goal

pub place_in_piece-requires : goal.place_in_piece-requires
place_in_piece-requires c =
    let few : (variant c.args.v).r ≤ 128 = (bounds c.args.v c.requires.v_value.0).rate-most in
    (omega (arith, few, c.requires.v_value.1), c.requires.v_value.2)

pub step_words-requires : goal.step_words-requires
step_words-requires c =
    let e : 4 * c.args.q ≡ (variant c.args.v).r = c.requires.v_value.1 in
    let i = c.in-Some.ensures in
    record { v_value = (c.requires.v_value.0, omega (arith, i.1, e), λ z. i.2 (even-halves c.args.q (variant c.args.v).r e z)); table_of = c.requires.table_of }

pub returns-in-Some : goal.returns-in-Some
returns-in-Some c =
    let a = c.args in
    let s = a.self in
    let i = c.in-Some.ensures in
    c.step_words.ensures
    ∙ ap (step (variant a.v) _)
    (ap (λ (n : ℕ). take n (drop (4 * c.in-Some.m) (bits_in high_first s.piece.now))) (sym c.requires.v_value.1)
    ∙ inside s.held.bytes s.held.nibbles s.piece.now s.last (omega arith) a.first a.q c.in-Some.m i.0 i.1)

pub block_at-block-requires : goal.block_at-block-requires
block_at-block-requires c =
    let few : (variant c.args.v).r ≤ 128 = (bounds c.args.v c.requires.v_value.0).rate-most in
    (omega (arith, few, c.requires.v_value.1), c.requires.v_value.2)

pub step_words-requires-in-None : goal.step_words-requires-in-None
step_words-requires-in-None c =
    let few : (variant c.args.v).r ≤ 128 = (bounds c.args.v c.requires.v_value.0).rate-most in
    record { v_value = (c.requires.v_value.0, omega (arith, few), λ z. refl); table_of = c.requires.table_of }

pub returns-in-None : goal.returns-in-None
returns-in-None c =
    let b = c.block_at-block in
    c.step_words-in-None.ensures ∙ ap (step (variant c.args.v) _) (made c.args.v c.requires.v_value.0 c.args.q c.requires.v_value.1 b.result _ b.ensures)
