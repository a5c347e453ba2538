-- From one running hash, two different pieces that each fill the block never lead to one state, in any variant. In Lesamnta-LW no more is promised of changed blocks.
-- Assumes nothing.
use mathlib.Core.Path.{◌≡◌, sym, ap, ap₂, ◌∙◌}
use mathlib.Core.Bool.{Bool}
use mathlib.Core.List.{List, [], ◌++◌}
use Prim.Native.Nat.{ℕ, ◌+◌, ◌*◌, ◌<◌}
use native.Mathlib.Omega.{arith}
use lib.ListN.{length, get_or, drop, length-append}
use lib.Seq.{drop_at}
use Rattle.answers.specs.Refusals.{Status, Done}
use Rattle.answers.specs.Outputs.{when_done}
use Rattle.standard.specs.Bits.{high_first, pack}
use Rattle.standard.specs.Families.{Variant}
use Rattle.standard.specs.Chain.{step, run}
use Rattle.standard.specs.Messages.{byte_bits, bytes}
use Rattle.standard.proofs.BitLaws.{length-bits_in, pack-bits_in}
use Rattle.standard.proofs.Streaming.{whole-one, run-one, run_none}
use Rattle.standard.proofs.Variants.{streams, blocks-tell}
use Rattle.hasher.specs.declared.Hasher.{Hasher}
use Rattle.hasher.specs.Running.{variant_of, held_count, held_in, state_of, grown, updated}
use Rattle.hasher.specs.ForCode.{Open}
use Rattle.hasher.specs.Sized.{Sized}
use Rattle.hasher.specs.Promises.{OneMoreBlock}
use Rattle.hasher.proofs.WellFormed.{Facts, facts, state-long, held-long}
use Rattle.hasher.proofs.Next.{grown-state}
use Rattle.hasher.proofs.Calls.{update-says}

module _ (h : Hasher) (z : Sized h) (o : Open h) where
  abbrev H : Variant
  H = variant_of h

  f : Facts h
  f = facts h o.0

  -- the held bits and the piece are the block
  module _ (x : List ℕ) (fills : held_count h + 8 * length x ≡ (variant_of h).r) where
    abbrev block : List Bool
    block = held_in h ++ byte_bits x

    block_size : length block ≡ H.r
    block_size = length-append (held_in h) (byte_bits x) ∙ omega (arith, held-long h f z, length-bits_in high_first x, fills)

    stepped : state_of (grown h (byte_bits x)) ≡ step H (state_of h) block
    stepped =
        grown-state h z o (byte_bits x)
        ∙ ap (run H (state_of h)) (whole-one H.r (streams h.variant f.named).rate-pos block block_size)
        ∙ run-one H (state_of h) block []
        ∙ run_none H (step H (state_of h) block)

  grown-tells : (x y : List ℕ) → ((i : ℕ) → get_or x i 0 < 256) → ((i : ℕ) → get_or y i 0 < 256) → held_count h + 8 * length x ≡ (variant_of h).r → held_count h + 8 * length y ≡ (variant_of h).r
      → state_of (grown h (byte_bits x)) ≡ state_of (grown h (byte_bits y)) → x ≡ y
  grown-tells x y hx hy fx fy e =
      let same : block x fx ≡ block y fy =
      blocks-tell h.variant f.named (state_of h) (block x fx) (block y fy) (state-long h f z) (block_size x fx) (block_size y fy) (sym (stepped x fx) ∙ e ∙ stepped y fy) in
      let bits : byte_bits x ≡ byte_bits y =
      sym (drop_at (held_in h) (byte_bits x) (held_count h) (held-long h f z)) ∙ ap (drop (held_count h)) same ∙ drop_at (held_in h) (byte_bits y) (held_count h) (held-long h f z) in
      let sizes : length x ≡ length y = omega (arith, fx, fy) in
      sym (pack-bits_in high_first x hx) ∙ ap₂ (pack high_first) sizes bits ∙ pack-bits_in high_first y hy

-- a piece that is taken is what the running hash goes on with
taken : (h : Hasher) (x : List ℕ) → (updated h (bytes x)).status ≡ Done → (updated h (bytes x)).hasher ≡ grown h (byte_bits x)
unfolding updated
taken h x e = ap (λ (s : Status). when_done s (grown h (byte_bits x)) h) e

pub one-more-block : OneMoreBlock
unfolding updated
one-more-block h z x y hx hy fx fy dx dy e =
    grown-tells h z (update-says h (bytes x) dx).follow.opened x y hx hy fx fy (sym (ap state_of (taken h x dx)) ∙ e ∙ ap state_of (taken h y dy))
