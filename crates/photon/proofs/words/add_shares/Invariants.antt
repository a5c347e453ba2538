-- `photon::words::add_shares` meets its contract: after m turns the first m sums have what their column gives. Assumes nothing.
use mathlib.Core.Path.{◌≡◌}
use Prim.Native.Nat.{◌+◌, ◌*◌, ◌/◌, ◌%◌, ◌^◌}
use lib.Bits.{bit_xor}
use lib.ListN.{get_or}
use Rattle.octets.proofs.Upto.{Upto}
use Rattle.photon_tables.specs.Columns.{place_of}
use Rattle.photon.specs.Parameters.{photon_of}
use Rattle.photon.proofs.words.add_shares.Given as goal

abbrev pub invariant-loop-m : goal.invariant-loop-m
invariant-loop-m l =
    Upto 0 (λ j x. x ≡ bit_xor (get_or l.initial.f j 0) (get_or l.table (16 + 256 * l.k + get_or l.w ((j + l.k) % 6) 0 / 2 ^ (place_of (photon_of 5) l.k) % 256) 0)) 8 l.m l.initial.f l.f
