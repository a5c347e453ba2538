-- What the loop over the rounds carries from one to the next: the state, and the two counters, each stepped from its own bits.
-- Assumes nothing.
use mathlib.Core.Path.{◌≡◌, refl, sym, ap, ◌∙◌, ap₂}
use mathlib.Core.Bool.{Bool, false}
use mathlib.Core.List.{List, [], foldl, ◌++◌}
use Prim.Native.Nat.{ℕ, ◌+◌, ◌^◌, ◌≤◌, ◌<◌, ◌-◌}
use native.Mathlib.Numerals.{add-one}
use native.Mathlib.Omega.{arith}
use lib.ListN.{length, drop, length-reverse, get_or, replicate, take-append-drop}
use lib.Seq.{drop-cons, drop-length}
use Rattle.standard.specs.Rounds.{in_turn, rounds}
use Rattle.standard.specs.declared.Direction.{Direction}
use Rattle.standard.specs.declared.Direction.TheVariants.{Forward, Backward}
use Rattle.standard.specs.Spongent.{SpongentParameters, l_counters, spongent_round, spongent_permutation}
use Rattle.standard.specs.Counters.{reversal, stepped_counter, stepped_reversed, counter_in}
use Rattle.standard.specs.Bits.{low_first, bits_in, pack, unpack}
use Rattle.standard.specs.Families.{spongent, order, state_in}
use Rattle.standard.specs.Sponge.{permutation}
use Rattle.standard.specs.Variants.{variant}
use Rattle.standard.proofs.CounterSteps.{within, stepped-lt, stepped-reversed}
use Rattle.standard.proofs.CounterRounds.{SoundCounter, length-l_counters, counter_in-lt, counter_in-next}
use Rattle.standard.proofs.BitLaws.{image-eq, image-rest, length-unpack}
use Rattle.standard.proofs.SpongentLaws.{length-spongent_round, length-spongent_permutation}
use Rattle.spongent.specs.Parameters.{spongent_of}
use Rattle.spongent.proofs.ParametersOf.{Sizes, sizes-of, sound-of, quarters, family-of, bits-of}
use Rattle.spongent.proofs.Layers.{first-bits, other-bits}

-- the rounds from k on, which are left to do on the state y, lead to the permutation of x; c is the counter of the round
-- k, and r is its reverse in a byte
pub record Carried (v : ℕ) (w : Direction) (x y : List Bool) (k c r : ℕ) : Type 0 where
  pub left : foldl (spongent_round (spongent_of v).t w) y (drop k (in_turn w (l_counters (spongent_of v)))) ≡ spongent_permutation (spongent_of v) w x
  pub bits : c < 2 ^ (spongent_of v).width
  pub mirror : r ≡ reversal 8 c
  pub counter : k < (spongent_of v).R → c ≡ counter_in (spongent_of v) w k

length-in_turn : (w : Direction) (cs : List ℕ) → length (in_turn w cs) ≡ length cs
length-in_turn Forward cs = refl
length-in_turn Backward cs = length-reverse cs

module _ (v : ℕ) (low : 6 ≤ v) (high : v ≤ 10) (w : Direction) where
  abbrev p : SpongentParameters
  p = spongent_of v

  sizes : Sizes p
  sizes = sizes-of v low high

  sound : SoundCounter p
  sound = sound-of v low high

  length-turns : length (in_turn w (l_counters p)) ≡ p.R
  length-turns = length-in_turn w (l_counters p) ∙ length-l_counters p

  pub carried_first : (x : List Bool) (c r : ℕ) → c ≡ counter_in p w 0 → r ≡ reversal 8 c → Carried v w x x 0 c r
  unfolding spongent_permutation rounds
  carried_first x c r e m = record { left = refl; bits = rw e (counter_in-lt p sound w 0 sizes.some); mirror = m; counter = λ h. e }

  pub carried-next : {x y y' : List Bool} {k c r c' r' : ℕ} → Carried v w x y k c r → k < p.R → y' ≡ spongent_round p.t w y c
      → c' ≡ stepped_counter w p.width p.taps c → r' ≡ stepped_reversed w 8 p.width p.taps r → Carried v w x y' (k + 1) c' r'
  carried-next {x} {y} {y'} {k} {c} u h e ec er =
      let some : 1 ≤ p.width = sound.taps.some in
      let taps : List ℕ = p.taps in
      let more : k < length (in_turn w (l_counters p)) = rw length-turns h in
      record {
        left = rw (add-one, e, u.counter h) (rw (drop-cons (in_turn w (l_counters p)) k 0 more) at u.left);
        bits = rw ec (stepped-lt p.width taps some w c u.bits);
        mirror =
            er ∙ ap (stepped_reversed w 8 p.width taps) u.mirror
            ∙ stepped-reversed 8 p.width taps some sizes.wide (within p.width taps sound.taps 8 sizes.wide) w c u.bits ∙ ap (reversal 8) (sym ec);
        counter = λ l.
            ec ∙ ap (stepped_counter w p.width taps) (u.counter h)
            ∙ sym (ap (counter_in p w) (add-one k) ∙ counter_in-next p sound w k (omega arith));
      }

  pub carried_none : {x y : List Bool} {k c r : ℕ} → Carried v w x y k c r → k ≡ p.R → y ≡ spongent_permutation p w x
  carried_none {x} {y} {k} u e =
      let cs : List ℕ = in_turn w (l_counters p) in
      let end : drop k cs ≡ [] = ap (λ (n : ℕ). drop n cs) (e ∙ sym length-turns) ∙ drop-length cs in
      rw end at u.left

-- ---- the rounds on an image: 36 bytes that hold a state of t bits, and zeros after it

-- k rounds are done on the image s, with these two counters for the next
pub record Held (v : ℕ) (w : Direction) (s out : List ℕ) (k c r : ℕ) : Type 0 where
  pub size : length out ≡ 36
  pub bytes : (i : ℕ) → get_or out i 0 < 256
  pub zeros : drop (spongent_of v).t (bits_in low_first out) ≡ replicate (288 - (spongent_of v).t) false
  pub carried : Carried v w (unpack low_first (spongent_of v).t s) (unpack low_first (spongent_of v).t out) k c r

module _ (v : ℕ) (low : 6 ≤ v) (high : v ≤ 10) (w : Direction) where
  abbrev t : ℕ
  t = (spongent_of v).t

  most : t ≤ 288
  most = (sizes-of v low high).most

  pub held_first : (s : List ℕ) → length s ≡ 36 → ((i : ℕ) → get_or s i 0 < 256) → s ≡ pack (order (variant v)) 36 (state_in (variant v) s)
      → (c r : ℕ) → c ≡ counter_in (spongent_of v) w 0 → r ≡ reversal 8 c → Held v w s s 0 c r
  unfolding state_in
  held_first s ls hs e c r ec er =
      record {
        size = ls;
        bytes = hs;
        zeros = image-rest low_first 36 t s most ls (rw (family-of v low high, bits-of v low high) at e);
        carried = carried_first v low high w (unpack low_first t s) c r ec er;
      }

  pub held_next : {s out next : List ℕ} {k c r c' r' : ℕ} → Held v w s out k c r → k < (spongent_of v).R → length next ≡ 36 → ((i : ℕ) → get_or next i 0 < 256)
      → bits_in low_first next ≡ spongent_round t w (unpack low_first t out) c ++ replicate (288 - t) false
      → c' ≡ stepped_counter w (spongent_of v).width (spongent_of v).taps c → r' ≡ stepped_reversed w 8 (spongent_of v).width (spongent_of v).taps r
      → Held v w s next (k + 1) c' r'
  unfolding unpack
  held_next {s} {out} {next} {k} {c} u h ln hn e ec er =
      let y : List Bool = spongent_round t w (unpack low_first t out) c in
      let size : length y ≡ t = length-spongent_round t (quarters (sizes-of v low high)) w (unpack low_first t out) c in
      record {
        size = ln;
        bytes = hn;
        zeros = other-bits t (bits_in low_first next) y (replicate (288 - t) false) size e;
        carried = carried-next v low high w u.carried h (first-bits t (bits_in low_first next) y (replicate (288 - t) false) size e) ec er;
      }

  pub held_none : {s out : List ℕ} {k c r : ℕ} → length s ≡ 36 → Held v w s out k c r → k ≡ (spongent_of v).R
      → out ≡ pack (order (variant v)) 36 (permutation (spongent (spongent_of v)) w (state_in (variant v) s))
  unfolding permutation state_in unpack
  held_none {s} {out} ls u e =
      let P : List Bool = spongent_permutation (spongent_of v) w (unpack low_first t s) in
      let lp : length P ≡ t = length-spongent_permutation (spongent_of v) (quarters (sizes-of v low high)) w (unpack low_first t s) (length-unpack low_first t s (omega (arith, most))) in
      let all : bits_in low_first out ≡ P ++ replicate (288 - t) false =
      sym (take-append-drop t (bits_in low_first out)) ∙ ap₂ (λ (a b : List Bool). a ++ b) (carried_none v low high w u.carried e) u.zeros in
      rw (family-of v low high, bits-of v low high) (image-eq low_first 36 out P u.bytes u.size (omega (arith, most)) (rw lp all))
