-- `permuted` is the permutation of the variant v on an image, or its inverse. The loop's invariant: the rounds that are left, from the k-th counter in turn on, lead to the end;
-- zeros stay after the t bits; and the two counters are those of the round k. Assumes nothing.
use native.Mathlib.Omega.{arith}
use Rattle.standard.specs.Bits.{unpack}
use Rattle.standard.proofs.Reversal.{reversal-low}
use Rattle.octets.proofs.Elements.{bytes_lt}
use Rattle.spongent.specs.Parameters.{spongent_of}
use Rattle.spongent.proofs.ParametersOf.{sizes-of, tabled}
use Rattle.spongent.proofs.Carried.{held_first, held_next, held_none}
use Rattle.spongent.proofs.steps.permuted.Goals as goal

pub loop-k-init : goal.loop-k-init
loop-k-init c = held_first c.args.v (omega arith) (omega arith) c.args.way c.args.s (omega arith) (bytes_lt 36 c.args.s _ c.well_formed.1.0) c.requires.s_value _ _ c.start_counter-counter.ensures c.in_reverse-reversed.ensures

pub round-after-requires : goal.round-after-requires
round-after-requires c =
    let z = sizes-of c.args.v (omega arith) (omega arith) in
    let e = tabled c.args.v (omega arith) (omega arith) in
    record { le_t = omega arith; reversed_value = c.loop-k.invariant.carried.mirror; s_value = rw e.bits c.loop-k.invariant.zeros }

pub stepped_counter-counter-requires : goal.stepped_counter-counter-requires
stepped_counter-counter-requires c =
    let z = sizes-of c.args.v (omega arith) (omega arith) in
    let e = tabled c.args.v (omega arith) (omega arith) in
    (omega arith, (omega arith, rw e.width c.loop-k.invariant.carried.bits))

pub stepped_reversed-reversed-requires : goal.stepped_reversed-reversed-requires
stepped_reversed-reversed-requires c =
    let z = sizes-of c.args.v (omega arith) (omega arith) in
    let e = tabled c.args.v (omega arith) (omega arith) in
    let u = c.loop-k.invariant.carried in
    (omega arith, (omega arith, rw (e.width, u.mirror) (reversal-low 8 (spongent_of c.args.v).width c.loop-k.counter z.wide u.bits)))

pub loop-k-preserved : goal.loop-k-preserved
unfolding unpack
loop-k-preserved c =
    let e = tabled c.args.v (omega arith) (omega arith) in
    let round = c.round-after in
    let stepped = rw (e.width, e.taps) at c.stepped_counter-counter.ensures in
    let reversed = rw (e.width, e.taps) at c.stepped_reversed-reversed.ensures in
    held_next c.args.v (omega arith) (omega arith) c.args.way c.loop-k.invariant (omega arith) (omega arith) (bytes_lt 36 round.result _ round.type_inv) (rw e.bits at round.ensures) stepped reversed

pub returns : goal.returns
returns c =
    let e = tabled c.args.v (omega arith) (omega arith) in
    held_none c.args.v (omega arith) (omega arith) c.args.way (omega arith) c.loop-k.invariant (omega arith)
