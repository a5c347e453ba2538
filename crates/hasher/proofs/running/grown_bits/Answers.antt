-- `hasher::running::grown_bits` meets its contract: the bytes before the last one, and what counts of it. Assumes nothing.
use mathlib.Core.Path.{ap, ◌∙◌}
use lib.ListN.{length}
use Rattle.chain.proofs.MessageLaws.{BitNumber, bit-number}
use Rattle.hasher.specs.Running.{variant_of, grown}
use Rattle.hasher.proofs.WellFormed.{facts}
use Rattle.hasher.proofs.PartPieces.{part_length, part-clear, part-front}
use Rattle.hasher.proofs.running.grown_bits.Goals as goal

pub counted_byte-last-requires : goal.counted_byte-last-requires
counted_byte-last-requires c =
    let number : BitNumber c.args.k (length c.args.piece.now) = bit-number c.args.k (length c.args.piece.now) c.requires.h_value.1 in
    ((facts c.args.h c.requires.fact.0).named, number.most)

pub grown-requires : goal.grown-requires
grown-requires c =
    let number : BitNumber c.args.k (length c.args.piece.now) = bit-number c.args.k (length c.args.piece.now) c.requires.h_value.1 in
    let a = c.args in
    let H = variant_of a.h in
    let some = number.some in
    let last = c.counted_byte-last in
    record { fact = c.requires.fact; h_value = (c.requires.h_value.0, number.most, rw (part_length H a.piece.now some a.k) c.requires.k_bound); last_value = part-clear H a.piece.now some a.k last.result last.ensures }

pub returns : goal.returns
returns c =
    let number : BitNumber c.args.k (length c.args.piece.now) = bit-number c.args.k (length c.args.piece.now) c.requires.h_value.1 in
    let a = c.args in
    let last = c.counted_byte-last in
    c.grown.ensures ∙ ap (grown a.h) (part-front (variant_of a.h) a.piece.now number.some a.k last.result last.ensures)
