-- The digits of a number, written from the last to the first.
-- Assumes nothing.
use mathlib.Core.Path.{◌≡◌, sym, ap, ◌∙◌}
use mathlib.Core.List.{List, ◌∷◌}
use mathlib.Core.Logic.{⊎_elim}
use Prim.Native.Nat.{ℕ, suc, ◌+◌, ◌-◌, ◌/◌, ◌%◌, ◌≤◌, ◌<◌}
use native.Mathlib.Omega.{arith}
use lib.ListN.{length, take, drop, get_or, set, length-drop}
use lib.Seq.{length-take-le, take_at, take-take, drop-cons, get_or-take, get_or-append_seam}
use Rattle.standard.proofs.Tests.{lt-or-le}
use Rattle.octets.specs.Text.{digit_code, decimal}
use Rattle.octets.specs.Slices.{written_at}
use Rattle.octets.proofs.WrittenAt.{byte-before}
use Rattle.octets.proofs.DecimalLaws.{decimal_digit, decimal-rest, length-digit, length_rest}

-- a number of k + 1 digits: the last one, and those in front of it
module _ (n k : ℕ) (h : length (decimal n) ≡ k + 1) where
  last : get_or (decimal n) k 0 ≡ digit_code (n % 10)
  last =
      ⊎_elim
      (λ l.
      let e : k ≡ 0 = omega (arith, length-digit n l) in
      let d : n % 10 ≡ n = omega arith in
      rw (e, decimal_digit n l, d))
      (λ l.
      let e : k ≡ length (decimal (n / 10)) = omega (arith, length_rest n l) in
      rw (decimal-rest n l, e, get_or-append_seam))
      (lt-or-le n 10)

  front : 0 < k → take k (decimal n) ≡ decimal (n / 10)
  front p =
      ⊎_elim
      (λ l. absurd (omega (arith, length-digit n l)))
      (λ l. rw (decimal-rest n l) (take_at (decimal (n / 10)) _ k (omega (arith, length_rest n l))))
      (lt-or-le n 10)

-- the digits of n are written from place i on, and those before it are the rest's
module _ (n at : ℕ) (out : List ℕ) (room : at + length (decimal n) ≤ length out) (rest i : ℕ) (low : at < i) (high : i ≤ at + length (decimal n)) (left : take (i - at) (decimal n) ≡ decimal rest) where
  size : length (decimal rest) ≡ i - 1 - at + 1
  size = sym (ap length left) ∙ length-take-le (i - at) (decimal n) (omega arith) ∙ omega arith

  digit : get_or (decimal n) (i - 1 - at) 0 ≡ digit_code (rest % 10)
  digit =
      sym (get_or-take (i - at) (decimal n) (i - 1 - at) 0 (omega arith)) ∙ ap (λ (text : List ℕ). get_or text (i - 1 - at) 0) left
      ∙ last rest (i - 1 - at) size

  -- the last digit of the rest
  pub digit-before : set (written_at i (drop (i - at) (decimal n)) out) (i - 1) (digit_code (rest % 10)) ≡ written_at (i - 1) (drop (i - 1 - at) (decimal n)) out
  digit-before =
      let k : i - at ≡ suc (i - 1 - at) = omega arith in
      let p : i - 1 + 1 ≡ i = omega arith in
      let cut : drop (i - 1 - at) (decimal n) ≡ digit_code (rest % 10) ∷ drop (suc (i - 1 - at)) (decimal n) = rw digit at (drop-cons (decimal n) (i - 1 - at) 0 (omega arith)) in
      rw (k, cut) (rw p at (byte-before (i - 1) (digit_code (rest % 10)) (drop (suc (i - 1 - at)) (decimal n)) out (omega (arith, length-drop (suc (i - 1 - at)) (decimal n)))))

  -- and what is left of it
  pub digits-left : at < i - 1 → take (i - 1 - at) (decimal n) ≡ decimal (rest / 10)
  digits-left p =
      sym (take-take (i - 1 - at) (i - at) (decimal n) (omega arith)) ∙ ap (take (i - 1 - at)) left ∙ front rest (i - 1 - at) size (omega arith)
