-- The operation: what passing the checks says, the block in its bytes, and what each way through the search comes to.
-- Assumes nothing.
use mathlib.Core.Path.{◌≡◌, refl, sym, ap, ap₂, ◌∙◌, subst}
use mathlib.Core.Bool.{Bool, true, false, cond, not, ◌&&◌}
use mathlib.Core.List.{List, [], ◌∷◌, ◌++◌, head_d, append_assoc}
use mathlib.Core.Logic.{◌⊎◌, inl, inr, ⊎_elim}
use Prim.Native.Nat.{ℕ, zero, suc, ◌+◌, ◌-◌, ◌*◌, ◌%◌, ◌≤◌, ◌<◌}
use native.Mathlib.Nat.{not-suc-le-zero, le_of_suc-le-suc}
use native.Mathlib.Omega.{arith}
use lib.ListN.{length, take, drop, get_or, replicate, length-drop}
use lib.Seq.{length-take-le, take-add, drop-append-le}
use borrow.Author.Tests.{ltb-true, ltb-false, not-true}
use Rattle.answers.specs.declared.Refusal.TheVariants.{NoBlock}
use Rattle.answers.specs.Refusals.{Status, Done, Refused}
use Rattle.answers.specs.Checks.{Check, first_refusal}
use Rattle.answers.specs.Outputs.{written}
use Rattle.answers.proofs.Statuses.{kept}
use Rattle.answers.proofs.Rows.{passing-says, row_first, row-second}
use Rattle.octets.proofs.ByteLaws.{take-bytes}
use Rattle.standard.specs.Bits.{high_first, bits_in, pack, unpack}
use Rattle.standard.specs.Families.{Variant, order, state_in}
use Rattle.standard.specs.Chain.{blocks_of, block_count}
use Rattle.standard.specs.Messages.{Given, given_bits}
use Rattle.chain.specs.Messages.{message_checks}
use Rattle.standard.specs.Variants.{variant, known}
use Rattle.standard.proofs.BitLaws.{length-bits_in, length-pack, bits_in-take, image-eq, pack-bytes}
use Rattle.standard.proofs.Streaming.{block-count}
use Rattle.standard.proofs.Tests.{true-not-false}
use Rattle.standard.proofs.Variants.{Bounds, bounds, WholeBytes, layouts}
use Rattle.standard.specs.Layout.{packed_state, clear}
use Rattle.chain.specs.Holding.{Holds}
use Rattle.chain.specs.Images.{is_image}
use Rattle.chain.proofs.ImageLaws.{image-ready, image-state, image-read}
use Rattle.octets.proofs.Clear.{clear-append, clear-zeros, zeros-clear, clear-order}
use Rattle.octets.proofs.LayoutLaws.{packed-bits}
use Rattle.chain.proofs.SqueezeLaws.{output-bits}
use Rattle.recover.specs.Difference.{difference}
use Rattle.recover.specs.Recovering.{is_empty, block_size, searchable, placed_checks, leading_to, found_checks, recovered_block, recover_status, recover_into}
use Rattle.recover.proofs.LeadingLaws.{InBlock, block_from, leading-none, leading-one}
use Rattle.recover.proofs.Searching.{Searches, searches}

-- ---- what passing the checks says

-- of a place of a message, an image and an output, of a known variant
pub record Placed (v : ℕ) (m : List Bool) (place : ℕ) (image : List ℕ) (n : ℕ) : Type 0 where
  pub number : known v ≡ true
  pub within : place < length (blocks_of (variant v) m)
  pub way : searchable (variant v) (length (blocks_of (variant v) m)) place ≡ true
  pub good : is_image (variant v) image ≡ true
  pub long : block_size (variant v) ≤ n

pub checks-passed : (v : ℕ) → known v ≡ true → (m : List Bool) (place : ℕ) (image : List ℕ) (n : ℕ) → first_refusal (placed_checks (variant v) (block_count (variant v) (length m)) place image n) ≡ Done
    → Placed v m place image n
checks-passed v k m place image n e =
    let p = passing-says (placed_checks (variant v) (block_count (variant v) (length m)) place image n) e in
    record { number = k; within = rw (block-count (variant v) m) (ltb-true _ _ p.0); way = rw (block-count (variant v) m) p.1.0; good = p.1.1.0; long = ltb-false _ _ (not-true _ p.1.1.1.0) }

-- ---- the difference in its bytes

take-replicate : (n k : ℕ) → n ≤ k → take n (replicate k false) ≡ replicate n false
take-replicate zero k h = refl
take-replicate (suc n) zero h = absurd (not-suc-le-zero h)
take-replicate (suc n) (suc k) h = ap (λ (l : List Bool). false ∷ l) (take-replicate n k (le_of_suc-le-suc h))

layout_of : (v : ℕ) → known v ≡ true → (high_first ≡ order (variant v)) ⊎ ((variant v).r % 8 ≡ 0)
layout_of v k = ⊎_elim inl (λ (w : WholeBytes (variant v)). inr w.block) (layouts v k)

module _ (v : ℕ) (k : known v ≡ true) (X : List Bool) (l_x : length X ≡ (variant v).t) (x : List ℕ) (ex : x ≡ packed_state (variant v) X) where
  abbrev H : Variant
  H = variant v

  b : Bounds (variant v)
  b = bounds v k

  lx : length x ≡ 36
  lx = ap length ex ∙ length-pack (order H) 36 X

  bits : bits_in (order H) x ≡ X ++ replicate (288 - H.t) false
  bits = ap (bits_in (order H)) ex ∙ packed-bits (order H) 36 X (omega (arith, b.state-most)) ∙ ap (λ (n : ℕ). X ++ replicate (288 - n) false) l_x

  and_same : (t : Bool) → (t && true) ≡ t
  and_same true = refl
  and_same false = refl

  -- what the code asks is whether the difference lies within the block
  spare : clear (drop H.r (bits_in high_first x)) ≡ clear (drop H.r X)
  spare =
      sym (clear-order (order H) x H.r (layout_of v k))
      ∙ ap (λ (l : List Bool). clear (drop H.r l)) bits
      ∙ ap clear (drop-append-le H.r X (replicate (288 - H.t) false) (omega (arith, b.rate-fits)))
      ∙ clear-append (drop H.r X) (replicate (288 - H.t) false)
      ∙ ap (λ (t : Bool). clear (drop H.r X) && t) (zeros-clear (288 - H.t))
      ∙ and_same (clear (drop H.r X))

  pub spare-clear : clear (drop H.r (bits_in high_first x)) ≡ true → InBlock H X
  spare-clear e =
      clear-zeros (drop H.r X) (sym spare ∙ e)
      ∙ ap (λ (n : ℕ). replicate n false) (length-drop H.r X ∙ ap (λ (n : ℕ). n - H.r) l_x)

  pub spare-set : clear (drop H.r (bits_in high_first x)) ≡ false → InBlock H X → ⊥
  spare-set e z = true-not-false (sym (zeros-clear (H.t - H.r)) ∙ ap clear (sym z) ∙ sym spare ∙ e)

  -- the block's bytes are the first of the difference
  pub front_bytes : clear (drop H.r (bits_in high_first x)) ≡ true → take (block_size H) x ≡ pack high_first (block_size H) (block_from H X)
  unfolding unpack
  front_bytes e =
      let n : ℕ = block_size H in
      let Y : List Bool = bits_in high_first x in
      let l_y : length Y ≡ 288 = length-bits_in high_first x ∙ ap (λ (k : ℕ). 8 * k) lx in
      let block : block_from H X ≡ take H.r Y =
      output-bits (order H) H.t H.r X l_x b.state-most b.rate-fits (layout_of v k)
      ∙ ap (λ (l : List ℕ). take H.r (bits_in high_first l)) (sym ex) in
      let l_b : length (take H.r Y) ≡ H.r = length-take-le H.r Y (omega (arith, b.rate-most)) in
      let sum : 8 * n ≡ H.r + (8 * n - H.r) = omega arith in
      let zeros : take (8 * n - H.r) (drop H.r Y) ≡ replicate (8 * n - H.r) false =
      ap (take (8 * n - H.r)) (clear-zeros (drop H.r Y) e) ∙ take-replicate (8 * n - H.r) (length (drop H.r Y)) (omega (arith, length-drop H.r Y, b.rate-most)) in
      let same : n * 8 - length (take H.r Y) ≡ 8 * n - H.r = omega arith in
      image-eq high_first n (take n x) (take H.r Y)
      (λ i. subst (λ (l : List ℕ). get_or (take n l) i 0 < 256) (sym ex) (taken-bytes n i))
      (length-take-le n x (omega (arith, lx, b.rate-most))) (omega arith)
      (sym (bits_in-take high_first n x)
      ∙ ap (λ (k : ℕ). take k Y) sum
      ∙ take-add H.r (8 * n - H.r) Y
      ∙ ap (λ (l : List Bool). take H.r Y ++ l) (zeros ∙ ap (λ (k : ℕ). replicate k false) (sym same)))
      ∙ ap (pack high_first n) (sym block)
    where
      taken-bytes : (n i : ℕ) → get_or (take n (pack (order (variant v)) 36 X)) i 0 < 256
      taken-bytes n i = take-bytes n (pack (order (variant v)) 36 X) (pack-bytes (order (variant v)) 36 X) i

-- ---- rows of checks, and the output

-- the answer of a row of checks, and what it leaves of an output
abbrev pub Answered : List Check → List ℕ → List ℕ → Status → List ℕ → Type 0
Answered row result out s out' = (s ≡ first_refusal row) × (out' ≡ written s result out)

module _ (xs ys : List Check) (result out : List ℕ) where
  -- a row in front that refuses answers for both
  pub row-refuses : (s : Status) → s ≡ first_refusal xs → (s ≡ Done → ⊥) → Answered (xs ++ ys) result out s out
  row-refuses s e r = (e ∙ sym (row_first xs ys (λ d. r (e ∙ d))), sym (kept s (result ++ drop (length result) out) out r))

  -- behind one that passes the other answers
  pub row-passes : first_refusal xs ≡ Done → (s : Status) (out' : List ℕ) → Answered ys result out s out' → Answered (xs ++ ys) result out s out'
  row-passes d s out' a = (a.0 ∙ sym (row-second xs ys d), a.1)

-- ---- the search

-- the answer of the search for the block, and the output
abbrev pub Searched : ℕ → List Bool → ℕ → List ℕ → List ℕ → Status → List ℕ → Type 0
Searched v m place image out s out' = Answered (found_checks v m place image) (recovered_block v m place image) out s out'

-- from what the code has read and found: x is the image at the front of 36 bytes, y the difference of the two states
module _ (v : ℕ) (m : List Bool) (place : ℕ) (image out : List ℕ) (p : Placed v m place image (length out))
    {x : List ℕ} (hx : (i : ℕ) → get_or x i 0 < 256) (ex : x ≡ image ++ replicate (36 - length image) 0) where
  abbrev K : Variant
  K = variant v

  abbrev between : List Bool → List Bool
  between s = difference K m place s

  abbrev S : List Bool
  S = state_in (variant v) image

  -- the image is a state, as the way back asks
  pub ready : Holds v x
  ready = image-ready v p.number image p.good x hx ex

  size : length S ≡ K.t
  size = image-state v p.number image p.good

  module _ {y : List ℕ} (ey : y ≡ packed_state K (between (state_in K x))) where
    given : y ≡ packed_state K (between S)
    given = ey ∙ ap (λ (s : List Bool). packed_state K (between s)) (image-read v p.number image p.good x hx ex)

    search : Searches K m place S
    search = searches v p.number m place p.within p.way S size

    long : length (between S) ≡ K.t
    long = search.size

    answers : (l : List (List Bool)) → leading_to v m place image ≡ l → cond (not (is_empty l)) Done (Refused NoBlock) ≡ first_refusal (found_checks v m place image)
    answers l q = ap (λ (z : List (List Bool)). cond (not (is_empty z)) Done (Refused NoBlock)) (sym q)

    pub none_found : clear (drop K.r (bits_in high_first y)) ≡ false → Searched v m place image out (Refused NoBlock) out
    none_found z =
        let none = leading-none search (spare-set v p.number (between S) long y given z) in
        (answers [] none, refl)

    pub one_found : clear (drop K.r (bits_in high_first y)) ≡ true → (out' : List ℕ) → out' ≡ take (block_size K) y ++ drop (block_size K) out
        → Searched v m place image out Done out'
    unfolding recovered_block head_d
    one_found z out' f =
        let one = leading-one search (spare-clear v p.number (between S) long y given z) in
        let bytes : take (block_size K) y ≡ recovered_block v m place image =
        front_bytes v p.number (between S) long y given z
        ∙ ap (λ (l : List (List Bool)). pack high_first (block_size K) (head_d l [])) (sym one) in (
          answers (block_from K (between S) ∷ []) one,
          f ∙ ap₂ (λ (b : List ℕ) (n : ℕ). b ++ drop n out) bytes (sym (length-pack high_first (block_size K) _)),
        )

-- ---- the operation

-- the answer of the checks of the place and of the search, and the output
abbrev pub AnsweredAt : ℕ → List Bool → ℕ → List ℕ → List ℕ → Status → List ℕ → Type 0
AnsweredAt v m place image out s out' =
    Answered (placed_checks (variant v) (block_count (variant v) (length m)) place image (length out) ++ found_checks v m place image) (recovered_block v m place image) out s out'

-- all of it, after the checks of the variant and the message
module _ (v : ℕ) (g : Given) (place : ℕ) (image out : List ℕ) where
  abbrev whole : List Bool
  whole = given_bits (variant v) g

  abbrev asked : List Check
  asked = placed_checks (variant v) (block_count (variant v) (length whole)) place image (length out)

  abbrev rest : List Check
  rest = asked ++ found_checks v whole place image

  -- as the operation's definitions say it
  abbrev Left : Status → List ℕ → Type 0
  Left s out' = (s ≡ recover_status v g place image (length out)) × (out' ≡ recover_into v g place image out)

  settled : (s : Status) (out' : List ℕ) → Answered (message_checks v g ++ rest) (recovered_block v whole place image) out s out' → Left s out'
  unfolding recover_status recover_into
  settled s out' a =
      let e : s ≡ first_refusal ((message_checks v g ++ asked) ++ found_checks v whole place image) =
      a.0 ∙ ap first_refusal (sym (append_assoc (message_checks v g) asked (found_checks v whole place image))) in
      (e, a.1 ∙ ap (λ (t : Status). written t (recovered_block v whole place image) out) e)

  -- the first checks refuse
  pub left-refused : (s : Status) → s ≡ first_refusal (message_checks v g) → (s ≡ Done → ⊥) → Left s out
  left-refused s e r = settled s out (row-refuses (message_checks v g) rest (recovered_block v whole place image) out s e r)

  -- they pass, and the bits that the code is given are the message's
  pub left_behind : first_refusal (message_checks v g) ≡ Done → (held : List Bool) → held ≡ given_bits (variant v) g → (s : Status) (out' : List ℕ) → AnsweredAt v held place image out s out' → Left s out'
  left_behind d held e s out' a =
      settled s out' (row-passes (message_checks v g) rest (recovered_block v whole place image) out d s out' (subst (λ (x : List Bool). AnsweredAt v x place image out s out') e a))
