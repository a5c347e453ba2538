-- `s_box_layer` is s_box_layer on the first n bytes. The loop's invariant: the first i bytes are replaced.
-- Assumes nothing.
use mathlib.Core.Path.{◌≡◌, refl, sym, ap, ap₂, ◌∙◌}
use mathlib.Core.List.{List}
use Prim.Native.Nat.{ℕ}
use native.Mathlib.Omega.{arith}
use native.Mathlib.Numerals.{add-one}
use lib.ListN.{get_or, set}
use Rattle.standard.specs.Bits.{low_first, bits_in}
use Rattle.octets.proofs.Mapped.{mapped, mapped_at, mapped-set}
use Rattle.spongent.proofs.Layers.{byte_by, mapped-bits}
use Rattle.spongent.proofs.steps.s_box_layer.Goals as goal

pub loop-i-init : goal.loop-i-init
loop-i-init c = refl

pub s_box_byte-requires : goal.s_box_byte-requires
s_box_byte-requires c = c.requires.1

pub loop-i-preserved : goal.loop-i-preserved
loop-i-preserved c =
    let f : ℕ → ℕ = byte_by c.args.table.now in
    let i : ℕ = c.loop-i.i in
    let s : List ℕ = c.args.s in
    ap₂ (λ (l : List ℕ) (v : ℕ). set l i v) c.loop-i.invariant (c.s_box_byte.ensures ∙ ap f (ap (λ (l : List ℕ). get_or l i 0) c.loop-i.invariant ∙ mapped_at f i s))
    ∙ mapped-set f i s (omega arith) ∙ ap (λ (m : ℕ). mapped f m s) (sym (add-one i))

pub returns : goal.returns
returns c =
    let f : List ℕ = c.args.table.now in
    let e : c.loop-i.i ≡ c.args.n = omega arith in
    ap (bits_in low_first) (c.loop-i.invariant ∙ ap (λ (m : ℕ). mapped (byte_by f) m c.args.s) e)
    ∙ mapped-bits f c.args.n c.args.s
