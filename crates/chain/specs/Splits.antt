-- For the code: the message that is taken apart at its last byte.
-- Assumes nothing.
use Rattle.std.specs.Prelude.{Bool, List}
use Rattle.chain.specs.MessageBytes.{message_in}
use Rattle.chain.specs.declared.split.Split.{Split}

-- its bits
abbrev pub message_held : Split → List Bool
message_held m = message_in m.front.now m.last m.bits
