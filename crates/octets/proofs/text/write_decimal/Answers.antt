-- `octets::text::write_decimal` meets its contract: the digits from place i on are written, and those before it are the
-- rest's. Assumes nothing.
use mathlib.Core.Path.{◌≡◌}
use Prim.Native.Nat.{◌-◌, ◌+◌, ◌≤◌}
use native.Mathlib.Omega.{arith}
use lib.ListN.{length, drop_of_length-le}
use lib.Seq.{take_all}
use Rattle.octets.specs.Text.{decimal}
use Rattle.octets.proofs.WrittenAt.{written_at-none}
use Rattle.octets.proofs.DecimalWriting.{digit-before, digits-left}
use Rattle.octets.proofs.text.write_decimal.Goals as goal

pub loop-i-init : goal.loop-i-init
loop-i-init c =
    let a = c.args in
    let n = c.digit_count.result in
    let size : length (decimal a.n) ≤ a.at + n - a.at = omega (arith, c.digit_count.ensures) in
    record {
      place = omega arith;
      written = rw (drop_of_length-le (decimal a.n) size, written_at-none);
      left = λ p. take_all (a.at + n - a.at) (decimal a.n) size;
    }

pub loop-i-preserved : goal.loop-i-preserved
loop-i-preserved c =
    let a = c.args in
    let l = c.loop-i in
    let high : l.i ≤ a.at + length (decimal a.n) = omega (arith, c.digit_count.ensures) in
    let left = l.invariant.left c.loop-i-test.true in
    record {
      place = omega arith;
      written = rw (l.invariant.written, c.last_digit.ensures) (digit-before a.n a.at a.out.now (omega arith) l.rest l.i (omega arith) high left);
      left = digits-left a.n a.at a.out.now (omega arith) l.rest l.i (omega arith) high left;
    }

pub returns-clause-out_after : goal.returns-clause-out_after
returns-clause-out_after c =
    let l = c.loop-i in
    let e : l.i ≡ c.args.at = omega (arith, l.invariant.place) in
    let none : c.args.at - c.args.at ≡ 0 = omega arith in
    rw (l.invariant.written, e, none)
