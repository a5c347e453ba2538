-- `hasher::running::fresh` meets its contract: the start state's bytes, and no held bits. Assumes nothing.
use mathlib.Core.Path.{sym, ap, ap₂, ◌∙◌}
use mathlib.Core.List.{List}
use Prim.Native.Nat.{ℕ}
use Rattle.standard.specs.Bits.{high_first}
use Rattle.standard.specs.Variants.{variant}
use Rattle.standard.specs.Chain.{start_state}
use Rattle.standard.proofs.BitLaws.{pack-none}
use Rattle.standard.specs.Layout.{block_room, packed_state}
use Rattle.hasher.specs.declared.Hasher.{Hasher}
use Rattle.hasher.proofs.running.fresh.Goals as goal

pub returns : goal.returns
returns c =
    ap₂ (λ (s : List ℕ) (h : Hasher). record { total = h.total; variant = h.variant; stage = h.stage; state = s; held = h.held }) c.start.ensures c.blank.ensures
    ∙ ap (λ (b : List ℕ). record { total = 0; variant = c.args.v; stage = 0; state = packed_state (variant c.args.v) (start_state (variant c.args.v)); held = b }) (sym (pack-none high_first block_room))
