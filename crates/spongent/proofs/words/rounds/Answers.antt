-- `rounds` is the permutation of the variant V. The loop's invariant: the rounds that are left lead to the end, and the
-- two counters are those of the round k. Assumes nothing.
use mathlib.Core.Path.{◌≡◌}
use Prim.Native.Nat.{◌-◌, ◌*◌, ◌/◌}
use native.Mathlib.Omega.{arith}
use lib.ListN.{get_or}
use Rattle.standard.specs.declared.Direction.TheVariants.{Forward}
use Rattle.standard.specs.Counters.{stepped_counter, stepped_reversed}
use Rattle.spongent.specs.Parameters.{spongent_of}
use Rattle.spongent.specs.Words.{state_of_bytes}
use Rattle.spongent.proofs.ParametersOf.{state_bits, sizes-of, tabled}
use Rattle.spongent.proofs.Carried.{carried_first, carried-next, carried_none}
use Rattle.spongent.proofs.words.rounds.Goals as goal

pub loop-k-init : goal.loop-k-init
loop-k-init g c =
    let e = tabled g.row.V c.requires.le_v.0 c.requires.le_v.1 in
    carried_first g.row.V c.requires.le_v.0 c.requires.le_v.1 Forward _ _ _ e.first c.in_reverse-reversed.ensures

pub round-requires-clause-n_bytes : goal.round-requires-clause-n_bytes
round-requires-clause-n_bytes g c =
    let z = sizes-of g.row.V c.requires.le_v.0 c.requires.le_v.1 in
    let e = tabled g.row.V c.requires.le_v.0 c.requires.le_v.1 in
    (omega arith, omega arith)

pub round-requires-clause-reversed_value : goal.round-requires-clause-reversed_value
round-requires-clause-reversed_value g c = c.loop-k.invariant.mirror

pub loop-k-preserved : goal.loop-k-preserved
unfolding state_of_bytes stepped_counter stepped_reversed
loop-k-preserved g c =
    let z = sizes-of g.row.V c.requires.le_v.0 c.requires.le_v.1 in
    let e = tabled g.row.V c.requires.le_v.0 c.requires.le_v.1 in
    let whole : 8 * (get_or state_bits (g.row.V - 6) 0 / 8) ≡ (spongent_of g.row.V).t = omega arith in
    carried-next g.row.V c.requires.le_v.0 c.requires.le_v.1 Forward c.loop-k.invariant (omega arith) (rw whole at c.round.ensures)
    (rw (e.width, e.taps) at c.next_counter-counter.ensures) (rw (e.width, e.taps) at c.next_reversed-reversed.ensures)

pub returns : goal.returns
returns g c =
    let e = tabled g.row.V c.requires.le_v.0 c.requires.le_v.1 in
    carried_none g.row.V c.requires.le_v.0 c.requires.le_v.1 Forward c.loop-k.invariant (omega arith)
