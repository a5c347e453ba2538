-- `photon::steps::bytes_of` meets its contract: the bytes passed are the packed ones. Assumes nothing.
use mathlib.Core.Path.{refl, sym, ◌∙◌}
use native.Mathlib.Omega.{arith}
use lib.Seq.{ext_get_or}
use Rattle.standard.specs.Bits.{high_first, pack}
use Rattle.standard.specs.ForCode.{window}
use Rattle.standard.specs.Photon.{bits_of_matrix}
use Rattle.standard.proofs.BitLaws.{length-pack}
use Rattle.octets.proofs.Upto.{upto-none, upto-more}
use Rattle.standard.specs.Layout.{state_room}
use Rattle.photon.specs.Parameters.{width}
use Rattle.photon.proofs.steps.bytes_of.Goals as goal

pub loop-k-init : goal.loop-k-init
loop-k-init c = upto-none _ refl

pub byte_of-requires : goal.byte_of-requires
byte_of-requires c = record { d_nonzero = c.requires.d_nonzero; small = c.requires.small; k_lt_state_room = omega arith }

pub loop-k-preserved : goal.loop-k-preserved
loop-k-preserved c =
    let l = c.loop-k in
    upto-more l.k _ l.byte-items _ (omega arith) c.byte_of.ensures l.invariant

pub returns : goal.returns
returns c =
    let l = c.loop-k in
    let a = c.args in
    let bits = bits_of_matrix (width a.cell) (window a.d a.g) in
    ext_get_or 0 l.byte-items (pack high_first state_room bits) (l.invariant.len ∙ sym (length-pack high_first state_room bits))
    (λ k h. l.invariant.done k (omega (arith, l.invariant.len)))
