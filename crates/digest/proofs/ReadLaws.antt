-- Reading ends: each read that is followed by a further one makes the message longer, and the hash refuses one past its
-- limit.
-- Assumes nothing.
use mathlib.Core.Path.{◌≡◌, refl, sym, ap, ◌∙◌, subst}
use mathlib.Core.Bool.{Bool, true, false, cond}
use mathlib.Core.List.{List}
use Prim.Native.Nat.{ℕ, suc, ◌+◌, ◌-◌, ◌*◌, ◌≤◌, ◌<◌}
use native.Mathlib.Omega.{arith}
use lib.Dec.{T}
use lib.ListN.{length, take}
use borrow.Author.Tests.{ltb-true}
use Rattle.std.specs.Prelude.{ltb, Result, Ok, Err}
use Rattle.std.specs.Io.{ReadsAtMost}
use Rattle.standard.specs.Bits.{high_first}
use Rattle.standard.specs.Messages.{byte_bits, bytes}
use Rattle.standard.proofs.BitLaws.{length-bits_in}
use Rattle.standard.proofs.Tests.{and-true}
use Rattle.answers.specs.Refusals.{Status, Done, Refused}
use Rattle.answers.specs.Outputs.{max_bits, is_done}
use Rattle.hasher.specs.declared.Hasher.{Hasher}
use Rattle.hasher.specs.Running.{updated}
use Rattle.hasher.proofs.Calls.{update-says}
use Rattle.hasher.proofs.Next.{grown-total}
use Rattle.hasher.specs.declared.Advanced.{Advanced}
use Rattle.reads.specs.declared.Fed.{Fed}
use Rattle.reads.specs.declared.Fed.TheVariants.{More, Ended, Failed}
use Rattle.digest.specs.Input.{goes_on, after_piece}
use Rattle.digest.specs.Reads.{Longer}

done-told : (s : Status) → is_done s ≡ true → s ≡ Done
done-told Done e = refl
done-told (Refused r) e = absurd (subst T (sym e) tt)

-- an update that is Done: the piece is in the total, and within the limit
update-grows : (h : Hasher) (piece : List ℕ) → (updated h (bytes piece)).status ≡ Done
    → ((updated h (bytes piece)).hasher.total ≡ h.total + 8 * length piece) × (h.total + 8 * length piece ≤ max_bits)
unfolding updated
update-grows h piece d =
    let few = (update-says h (bytes piece) d).follow.few in (
      rw d (grown-total h (byte_bits piece) ∙ ap (λ (n : ℕ). h.total + n) (length-bits_in high_first piece)),
      omega (arith, few, length-bits_in high_first piece),
    )

-- what was read of a piece that brought something: it is followed by a further read only if the hash took it
pub longer : {E : Type 0} (h : Hasher) (buffer : List ℕ) (read : Result ℕ E) → ReadsAtMost read buffer → Longer h (after_piece h buffer read)
longer h buffer (Err e) _ = tt
longer h buffer (Ok n) fits =
    let a = updated h (bytes (take n buffer)) in
    more-or-not a (goes_on a.status n) (λ more.
    let both = and-true (ltb 0 n) (is_done a.status) more in
    let grew = update-grows h (take n buffer) (done-told a.status both.1) in
    (omega (arith, grew.0, fits.1, ltb-true 0 n both.0), omega (arith, grew.0, grew.1)))
  where
    more-or-not : (a : Advanced) (more : Bool) → (more ≡ true → (h.total < a.hasher.total) × (a.hasher.total ≤ max_bits)) → Longer h (cond more (More a) (Ended a))
    more-or-not a true f = f refl
    more-or-not a false f = tt

-- what is left to read: nothing if no read follows
abbrev pub left_of : Fed Advanced → ℕ
left_of (More answer) = suc (max_bits - answer.hasher.total)
left_of (Ended answer) = 0
left_of Failed = 0

pub less-left : (answer : Advanced) (next : Fed Advanced) → Longer answer.hasher next → left_of next < left_of (More answer)
less-left answer (More n) l = omega (arith, l.0, l.1)
less-left answer (Ended n) l = omega arith
less-left answer Failed l = omega arith
