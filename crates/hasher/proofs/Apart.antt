-- What a caller reads of an end state tells states apart; so two messages that differ, and only within one block, are told apart by their end states.
-- Assumes nothing.
use mathlib.Core.Path.{◌≡◌, refl, sym, ap, ◌∙◌}
use mathlib.Core.Bool.{Bool, true}
use mathlib.Core.List.{List, ◌++◌}
use Prim.Native.Nat.{ℕ, ◌*◌, ◌/◌, ◌≤◌}
use native.Mathlib.Omega.{arith}
use lib.ListN.{length, take, drop}
use lib.Seq.{take_at}
use Rattle.standard.specs.Families.{Variant, image_size, image_of}
use Rattle.standard.specs.Chain.{end_state}
use Rattle.standard.specs.Messages.{Given, bytes, given_bits}
use Rattle.standard.specs.Variants.{variant, known}
use Rattle.standard.proofs.Streaming.{end-length}
use Rattle.standard.proofs.Variants.{sponge-known, streams}
use Rattle.standard.proofs.OneValue.{value-block, one-changed-row, one-changed-part}
use Rattle.standard.proofs.ImageStates.{image_of-length, image_of-injective}
use Rattle.answers.specs.Refusals.{Status, Done}
use Rattle.answers.specs.Outputs.{written, max_bits}
use Rattle.chain.specs.Messages.{Fits}
use Rattle.hasher.specs.declared.Hasher.{Hasher}
use Rattle.standard.specs.declared.Wanted.TheVariants.{EndState}
use Rattle.hasher.specs.Running.{variant_of, state_of}
use Rattle.hasher.specs.Reading.{read_status, read_into, hash_into}
use Rattle.hasher.specs.Pieces.{joined_bits, Cut, hashed_into}
use Rattle.hasher.specs.Sized.{Sized}
use Rattle.hasher.specs.Apart.{Differ, ImagesDiffer, ToldApart}
use Rattle.hasher.specs.Promises.{RowTold, BlockTold, ValueTold}
use Rattle.hasher.proofs.WellFormed.{facts, state-long}
use Rattle.hasher.proofs.Calls.{read-says}
use Rattle.hasher.proofs.Message.{few_bits, whole-done}
use Rattle.hasher.proofs.Demand2.{whole-is-pieces}

-- ---- images at the front of two outputs

module _ (H : Variant) (s u : List Bool) (ls : length s ≡ H.t) (lu : length u ≡ H.t) (n : s ≡ u → ⊥) (x y : List ℕ) where
  front : (z : List Bool) (rest : List ℕ) → take (image_size H) (image_of H z ++ rest) ≡ image_of H z
  front z rest = take_at (image_of H z) rest (image_size H) (image_of-length H z)

  fronts-differ : (a b : List ℕ) → a ≡ image_of H s ++ x → b ≡ image_of H u ++ y → Differ (image_size H) a b
  fronts-differ a b ea eb e =
      n (image_of-injective H s u ls lu
      (sym (front s x) ∙ ap (take (image_size H)) (sym ea) ∙ e ∙ ap (take (image_size H)) eb ∙ front u y))

-- a call puts the image of a state in front of the rest of an output that is long enough
abbrev Puts : Variant → List Bool → (List ℕ → List ℕ) → Type 0
Puts H s f = (out : List ℕ) → image_size H ≤ length out → f out ≡ image_of H s ++ drop (image_size H) out

-- two calls that do what two others do tell apart what those do
as-others : (H : Variant) (f f' g g' : List ℕ → List ℕ) → ((out : List ℕ) → f out ≡ f' out) → ((out : List ℕ) → g out ≡ g' out) → ImagesDiffer H f g → ImagesDiffer H f' g'
as-others H f f' g g' ef eg d out out' l l' e = d out out' l l' (ap (take (image_size H)) (ef out) ∙ e ∙ sym (ap (take (image_size H)) (eg out')))

-- the images of different end states
ends-differ : (v : ℕ) → known v ≡ true → (x y : List Bool) → (end_state (variant v) x ≡ end_state (variant v) y → ⊥) → (f g : List ℕ → List ℕ)
    → Puts (variant v) (end_state (variant v) x) f → Puts (variant v) (end_state (variant v) y) g → ImagesDiffer (variant v) f g
ends-differ v k x y n f g pf pg out out' l l' =
    let H : Variant = variant v in
    fronts-differ H (end_state H x) (end_state H y) (end-length H (streams v k) x) (end-length H (streams v k) y) n _ _ _ _ (pf out l) (pg out' l')

-- ---- two running hashes

read-image : (h : Hasher) (out : List ℕ) → read_status h EndState (length out) ≡ Done
    → read_into h EndState out ≡ image_of (variant_of h) (state_of h) ++ drop (length (image_of (variant_of h) (state_of h))) out
unfolding read_into
read-image h out d = ap (λ (s : Status). written s (image_of (variant_of h) (state_of h)) out) d

-- Two running hashes of one variant with different states, of which the end state can be read: the bytes that are read differ.
pub read-tells : (h g : Hasher) → Sized h → Sized g → h.variant ≡ g.variant → (state_of h ≡ state_of g → ⊥)
    → (out out' : List ℕ) → read_status h EndState (length out) ≡ Done → read_status g EndState (length out') ≡ Done
    → Differ (image_size (variant_of h)) (read_into h EndState out) (read_into g EndState out')
read-tells h g zh zg same n out out' dh dg =
    let H : Variant = variant_of h in
    let e : variant_of g ≡ H = ap variant (sym same) in
    let lg : length (state_of g) ≡ (variant_of g).t = state-long g (facts g (read-says g EndState (length out') dg).whole) zg in
    fronts-differ H (state_of h) (state_of g) (state-long h (facts h (read-says h EndState (length out) dh).whole) zh) (lg ∙ ap (λ (K : Variant). K.t) e) n
    _ _ _ _ (read-image h out dh) (read-image g out' dg ∙ ap (λ (K : Variant). image_of K (state_of g) ++ drop (length (image_of K (state_of g))) out') e)

-- ---- two messages

module _ (v : ℕ) (k : known v ≡ true) (x y : Given) (fits : Fits x) (fits' : Fits y) where
  abbrev X : List Bool
  X = given_bits (variant v) x

  abbrev Y : List Bool
  Y = given_bits (variant v) y

  -- different end states are told apart
  pub ends-tell : length (given_bits (variant v) x) ≤ max_bits → length (given_bits (variant v) y) ≤ max_bits
      → (end_state (variant v) (given_bits (variant v) x) ≡ end_state (variant v) (given_bits (variant v) y) → ⊥) → ToldApart v x y
  ends-tell few few' n =
      record { whole = whole; pieces = λ xs ys cx cy ex ey. as-others (variant v) _ _ _ _ (cut xs x fits cx ex) (cut ys y fits' cy ey) whole }
    where
      whole : ImagesDiffer (variant v) (hash_into v x EndState) (hash_into v y EndState)
      whole =
          ends-differ v k X Y n _ _
          (λ out l. (whole-done v k x fits few EndState out l).1) (λ out l. (whole-done v k y fits' few' EndState out l).1)

      -- the pieces of a message
      cut : (ps : List Given) (m : Given) → Fits m → Cut (variant v) ps → joined_bits (variant v) ps ≡ given_bits (variant v) m → (out : List ℕ)
          → hash_into v m EndState out ≡ hashed_into v ps EndState out
      cut ps m f c e out = (whole-is-pieces v ps m c f e EndState out).1

pub row_told : RowTold
row_told v q x y fits fits' few few' i d =
    ends-tell v (sponge-known v q) x y fits fits' few few' (one-changed-row v q i (given_bits (variant v) x) (given_bits (variant v) y) d)

pub block-told : BlockTold
block-told v q x y fits fits' few j d =
    ends-tell v (sponge-known v q) x y fits fits' few (omega (arith, d.size)) (one-changed-part v q j (given_bits (variant v) x) (given_bits (variant v) y) d)

pub value-told : ValueTold
value-told v q x y few hx hy p n d o =
    block-told v q (bytes x) (bytes y) refl refl (few_bits x few) (8 * p / (variant v).r) (value-block x y hx hy (variant v) p n d o)
