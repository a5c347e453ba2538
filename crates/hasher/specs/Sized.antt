-- Every running hash of the code has room for the longest state and the longest block. In a definition its fields are lists, so theorems take that as a hypothesis.
-- Assumes nothing.
use Rattle.std.specs.Prelude.{◌≡◌, length}
use Rattle.standard.specs.Layout.{state_room, block_room}
use Rattle.hasher.specs.declared.Hasher.{Hasher}

pub record Sized (h : Hasher) : Type 0 where
  pub state-size : length h.state ≡ state_room
  pub held-size : length h.held ≡ block_room
