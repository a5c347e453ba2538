-- `chain::padding::last_byte` meets its contract: the bits of the byte that are held, and the 1 bit. Assumes nothing.
use mathlib.Core.Path.{◌≡◌, sym, ap, ◌∙◌}
use mathlib.Core.Bool.{Bool, true, false}
use mathlib.Core.List.{List, ◌∷◌, ◌++◌}
use Prim.Native.Nat.{ℕ, ◌+◌, ◌-◌, ◌/◌, ◌%◌}
use native.Mathlib.Omega.{arith}
use lib.ListN.{take, get_or, replicate}
use lib.Pow.{shr_lt}
use Rattle.octets.proofs.Elements.{bytes_lt}
use Rattle.standard.specs.Bits.{high_first, bits_of}
use Rattle.standard.proofs.HighBits.{high-take}
use Rattle.chain.proofs.padding.last_byte.Goals as goal

-- the byte has as many bits as are held of it, and others behind them
width : (c : ℕ) → c % 8 + (8 - c % 8) ≡ 8
width c = omega arith

pub with_padding_bit-requires : goal.with_padding_bit-requires
with_padding_bit-requires c =
    let k = c.args.c % 8 in
    rw c.from-x.ensures (omega arith, shr_lt k (8 - k) (rw (width c.args.c) (bytes_lt 16 c.args.held _ c.well_formed.0 (c.args.c / 8))))

pub returns : goal.returns
returns c =
    let k = c.args.c % 8 in
    let x = get_or c.args.held (c.args.c / 8) 0 in
    c.with_padding_bit.ensures
    ∙ rw c.from-x.ensures (ap (λ (bs : List Bool). bs ++ true ∷ replicate (7 - k) false) (sym (high-take k (8 - k) x) ∙ ap (λ (n : ℕ). take k (bits_of high_first n x)) (width c.args.c)))
