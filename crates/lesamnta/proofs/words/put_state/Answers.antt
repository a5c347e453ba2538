-- `put_state` writes the bytes of four words over the front. The loop's invariant: the first i are written.
-- Assumes nothing.
use mathlib.Core.Path.{◌≡◌, refl, sym, ap, ap₂, ◌∙◌}
use mathlib.Core.List.{List, ◌++◌}
use Prim.Native.Nat.{ℕ, ◌*◌}
use native.Mathlib.Omega.{arith}
use lib.ListN.{set, take, drop, length}
use lib.Seq.{take_all}
use Rattle.standard.specs.Bits.{high_first, pack}
use Rattle.standard.specs.Lesamnta.{bits_of_words}
use Rattle.lesamnta.proofs.WordLaws.{in_bytes, in_bytes-at, in_bytes-length, packed-words, front-more}
use Rattle.lesamnta.proofs.words.put_state.Goals as goal

pub loop-i-init : goal.loop-i-init
loop-i-init c = refl

pub loop-i-preserved : goal.loop-i-preserved
loop-i-preserved c =
    let l = c.loop-i in
    let x : List ℕ = c.args.x in
    ap₂ (λ (out : List ℕ) (y : ℕ). set out l.i y) l.invariant (sym (in_bytes-at x l.i (omega arith)))
    ∙ front-more (in_bytes x) c.args.out.now l.i _ (omega (arith, in_bytes-length x)) (omega (arith, c.requires)) refl

pub returns : goal.returns
returns c =
    let l = c.loop-i in
    let x : List ℕ = c.args.x in
    let four : 4 ≡ length x = omega arith in
    let e : l.i ≡ 32 = omega arith in
    l.invariant
    ∙ ap (λ (n : ℕ). take n (in_bytes x) ++ drop n c.args.out.now) e
    ∙ ap (λ (bytes : List ℕ). bytes ++ drop 32 c.args.out.now)
    (take_all 32 (in_bytes x) (omega (arith, in_bytes-length x)) ∙ sym (ap (λ (n : ℕ). pack high_first (8 * n) (bits_of_words 64 x)) four ∙ packed-words x))
