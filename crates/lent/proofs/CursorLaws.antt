-- A refused step leaves the cursor as it was.
-- Assumes nothing.
use mathlib.Core.Path.{◌≡◌, refl, ap}
use Prim.Native.Nat.{ℕ, ◌+◌}
use Rattle.std.specs.Prelude.{Err}
use Rattle.answers.specs.declared.Refusal.{Refusal}
use Rattle.answers.specs.Refusals.{Status, Done, Refused}
use Rattle.answers.specs.Outputs.{when_done}
use Rattle.segments.specs.declared.Entry.{Entry}
use Rattle.segments.specs.Steps.{step_status, entry_or, found_at}
use Rattle.lent.specs.Promises.{RefusedStays}

stays : (s : Status) (entry : Entry) (r : Refusal) (k n : ℕ) → entry_or s entry ≡ Err r → when_done s n k ≡ k
stays Done entry r k n e = cc
stays (Refused q) entry r k n e = refl

pub refused-stays : RefusedStays
unfolding found_at
refused-stays c r e = ap (λ n. record { list = c.list; next = n }) (stays (step_status c.list.now c.next) _ r c.next (c.next + 1) e)
