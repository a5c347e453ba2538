-- `photon::words::add_pairs` meets its contract: after m turns the first m sums have what their column gives. Assumes nothing.
use mathlib.Core.Path.{◌≡◌}
use mathlib.Core.Bool.{cond}
use Prim.Native.Nat.{◌+◌, ◌*◌, ◌/◌, ◌%◌, ◌^◌}
use lib.Bits.{bit_xor}
use lib.Dec.{eqb}
use lib.ListN.{get_or}
use Rattle.octets.proofs.Upto.{Upto}
use Rattle.photon.proofs.words.add_pairs.Given as goal

abbrev pub invariant-loop-m : goal.invariant-loop-m
invariant-loop-m l =
    Upto 0 (λ j x. x ≡ bit_xor (get_or l.initial.f j 0) (get_or l.table (16 + 256 * l.k + get_or l.w ((j + 2 * l.k) % l.d) 0 / 2 ^ (8 * cond (eqb (l.k + 1) ((l.d + 1) / 2)) 3 l.k) % 256) 0)) 9 l.m l.initial.f l.f
