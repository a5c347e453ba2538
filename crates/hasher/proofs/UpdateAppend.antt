-- Updating with a and then with what follows is updating with both at once.
-- Assumes nothing.
use mathlib.Core.Path.{◌≡◌, refl, sym, ap, ◌∙◌}
use mathlib.Core.List.{List, ◌++◌}
use mathlib.Core.Bool.{Bool, true}
use Prim.Native.Nat.{ℕ, ◌+◌, ◌*◌, ◌≤◌}
use native.Mathlib.Omega.{arith}
use lib.ListN.{length, length-append}
use Rattle.standard.specs.Bits.{high_first}
use Rattle.standard.specs.Messages.{byte_bits, Given, bytes, given_bits}
use Rattle.standard.proofs.BitLaws.{length-bits_in, bits_in-append}
use Rattle.answers.specs.Outputs.{max_bits}
use Rattle.chain.specs.Messages.{Fits}
use Rattle.hasher.specs.declared.Hasher.{Hasher}
use Rattle.hasher.specs.declared.Advanced.{Advanced}
use Rattle.hasher.specs.Running.{variant_of, whole_so_far, grown, updated}
use Rattle.hasher.specs.ForCode.{Open}
use Rattle.hasher.specs.Sized.{Sized}
use Rattle.hasher.specs.Pieces.{and_then}
use Rattle.hasher.specs.Promises.{UpdateAppend}
use Rattle.hasher.proofs.Next.{grown-append, onward, onward-total, onward-whole, onward-open}
use Rattle.hasher.proofs.Calls.{done, update-says, update-done}

-- whole bytes and what follows them, taken in two calls and in one
module _ (h : Hasher) (z : Sized h) (o : Open h) (w : whole_so_far h ≡ true) (a : List ℕ) (g both : Given) (f : Fits g) (f' : Fits both)
    (parts : given_bits (variant_of h) both ≡ byte_bits a ++ given_bits (variant_of h) g) (few : h.total + length (given_bits (variant_of h) both) ≤ max_bits) where
  abbrev m : List Bool
  m = given_bits (variant_of h) g

  size : length (given_bits (variant_of h) both) ≡ 8 * length a + length m
  size = ap length parts ∙ length-append (byte_bits a) m ∙ omega (arith, length-bits_in high_first a)

  first : h.total + 8 * length a ≤ max_bits
  first = omega (arith, size)

  in_two : and_then (updated h (bytes a)) (λ next. updated next g) ≡ updated h both
  unfolding grown
  in_two =
      ap (λ (u : Advanced). and_then u (λ next. updated next g)) (update-done h (bytes a) o refl w (omega (arith, first, length-bits_in high_first a)))
      ∙ update-done (onward h a) g (onward-open h z o a first) f (onward-whole h w a) (omega (arith, onward-total h a, size))
      ∙ ap done (grown-append h z o (byte_bits a) m ∙ ap (grown h) (sym parts))
      ∙ sym (update-done h both o f' w few)

pub update-append : UpdateAppend
unfolding updated
update-append h z a g both f parts e =
    let says = update-says h both e in
    in_two h z says.follow.opened says.follow.whole a g both f says.fits parts says.follow.few

-- The running hash after two pieces of whole bytes.
pub update_twice : (h : Hasher) → Sized h → (a b : List ℕ) → Open h → whole_so_far h ≡ true → h.total + 8 * length (a ++ b) ≤ max_bits
    → (updated (updated h (bytes a)).hasher (bytes b)).hasher ≡ (updated h (bytes (a ++ b))).hasher
update_twice h z a b o w few =
    let l : h.total + 8 * length a ≤ max_bits = omega (arith, length-append a b) in
    let one : updated h (bytes a) ≡ done (onward h a) = update-done h (bytes a) o refl w (omega (arith, length-bits_in high_first a)) in
    ap (λ (u : Advanced). (updated u.hasher (bytes b)).hasher) one
    ∙ ap (λ (u : Advanced). u.hasher)
    (sym (ap (λ (u : Advanced). and_then u (λ next. updated next (bytes b))) one)
    ∙ in_two h z o w a (bytes b) (bytes (a ++ b)) refl refl (bits_in-append high_first a b) (omega (arith, length-bits_in high_first (a ++ b))))
