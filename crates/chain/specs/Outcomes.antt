-- For the code: what is wanted of a state.
-- Assumes nothing.
use Rattle.std.specs.Prelude.{Bool, List, ℕ}
use Rattle.standard.specs.declared.Wanted.{Wanted}
use Rattle.standard.specs.declared.Wanted.TheVariants.{Digest, EndState}
use Rattle.standard.specs.Bits.{high_first, pack}
use Rattle.standard.specs.Families.{Variant, state_in}
use Rattle.standard.specs.Variants.{variant}
use Rattle.standard.specs.Chain.{given_out}
use Rattle.standard.specs.Layout.{state_room, packed_state}
use Rattle.chain.specs.declared.outcome.Row.{Row}
use Rattle.chain.specs.Blocks.{bytes_in, after_blocks}

-- the digest that a state gives, or the state itself, at the front of bytes that have room for either
abbrev pub outcome : Variant → Wanted → List Bool → List ℕ
outcome H Digest s = pack high_first state_room (given_out H.family H s)
outcome H EndState s = packed_state H s

-- what is wanted of the state after a row of blocks
abbrev pub outcome_of : Row → List ℕ
outcome_of r = outcome (variant r.v) r.wanted (after_blocks (variant r.v) (state_in (variant r.v) r.state) r.stretch.held (bytes_in r.stretch) r.count)
