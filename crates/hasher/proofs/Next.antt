-- A running hash made of its parts; one that goes on stays well formed, and going on with x and then y is going on with x ++ y, for bits and for whole bytes; one that ends.
-- Assumes nothing.
use mathlib.Core.Path.{◌≡◌, refl, sym, ap, ap₂, ◌∙◌}
use mathlib.Core.Bool.{Bool, true}
use mathlib.Core.List.{List, [], ◌++◌, append_assoc, append-nil}
use Prim.Native.Nat.{ℕ, ◌+◌, ◌*◌, ◌%◌, ◌≤◌, ◌<◌}
use native.Mathlib.Nat.{mod-add-mod}
use native.Mathlib.Omega.{arith}
use lib.ListN.{length, length-append}
use borrow.Author.Tests.{eqb-true, eq-eqb}
use Rattle.standard.specs.Bits.{high_first, bits_in, unpack}
use Rattle.standard.specs.Families.{Variant, order}
use Rattle.standard.specs.Chain.{padding, whole_blocks, rest_of, run}
use Rattle.standard.specs.Messages.{byte_bits}
use Rattle.standard.specs.Variants.{known}
use Rattle.standard.proofs.BitLaws.{length-pack, unpack-pack, length-bits_in, bits_in-append}
use Rattle.standard.proofs.Streaming.{Streams, run-append, run_none, run_length, length_rest, whole_append, rest-append, whole-short, rest-short}
use Rattle.standard.proofs.Variants.{Bounds, bounds, streams}
use Rattle.answers.specs.Outputs.{max_bits}
use Rattle.standard.specs.Layout.{state_room, block_room, packed_state, packed_block}
use Rattle.chain.proofs.States.{stored}
use Rattle.hasher.specs.declared.Hasher.{Hasher}
use Rattle.hasher.specs.Running.{variant_of, held_count, whole_so_far, held_in, state_of, going, grown, ended}
use Rattle.hasher.specs.ForCode.{Open}
use Rattle.hasher.specs.Sized.{Sized}
use Rattle.hasher.proofs.WellFormed.{Facts, facts, well-formed, open-count, count-lt, state-long, held-long, packed-clear}

-- ---- a running hash with the state s and the held bits b

module _ (h : Hasher) (stage total : ℕ) (s b : List Bool) where
  abbrev next : Hasher
  next = going h stage total s b

  pub going-sized : Sized next
  going-sized = record { state-size = length-pack (order (variant_of h)) state_room s; held-size = length-pack high_first block_room b }

  module _ (k : known h.variant ≡ true) (ls : length s ≡ (variant_of h).t) (lb : length b ≡ held_count next) where
    B : Bounds (variant_of h)
    B = bounds h.variant k

    pub state-going : state_of next ≡ s
    unfolding state_of
    state-going = stored h.variant k (packed_state (variant_of h) s) s ls refl

    short : length b ≤ block_room * 8
    short = omega (arith, count-lt next k, B.rate-most)

    pub held-going : held_in next ≡ b
    unfolding held_in
    held-going = ap (λ (n : ℕ). unpack high_first n (packed_block b)) (sym lb) ∙ unpack-pack high_first block_room b short

    pub going-facts : stage ≤ 1 → total ≤ max_bits → Facts next
    going-facts hs ht =
        record {
          named = k;
          stages = hs;
          few = ht;
          state-clear = packed-clear (order (variant_of h)) state_room (variant_of h).t s ls B.state-most;
          held-clear = packed-clear high_first block_room (held_count next) b lb (omega (arith, short));
        }

pub going-same : (h : Hasher) (stage : ℕ) {t u : ℕ} {s x b y : List Bool} → t ≡ u → s ≡ x → b ≡ y → going h stage t s b ≡ going h stage u x y
going-same h stage {t} {u} {s} {x} {b} {y} et es eb = ap (λ (n : ℕ). going h stage n s b) et ∙ ap₂ (λ (k l : List Bool). going h stage u k l) es eb

-- ---- going on with bits

pub grown-total : (h : Hasher) (m : List Bool) → (grown h m).total ≡ h.total + length m
unfolding grown
grown-total h m = refl

module _ (h : Hasher) (z : Sized h) (o : Open h) where
  abbrev H : Variant
  H = variant_of h

  f : Facts h
  f = facts h o.0

  S : Streams H
  S = streams h.variant f.named

  module _ (m : List Bool) where
    abbrev seen : List Bool
    seen = held_in h ++ m

    abbrev after : List Bool
    after = run H (state_of h) (whole_blocks H.r seen)

    abbrev rest : List Bool
    rest = rest_of H.r seen

    after-long : length after ≡ H.t
    after-long = run_length H S (whole_blocks H.r seen) (state_of h) (state-long h f z)

    rest-long : length rest ≡ held_count (grown h m)
    unfolding grown
    rest-long =
        length_rest H.r seen
        ∙ ap (λ (n : ℕ). n % H.r)
        (length-append (held_in h) m ∙ ap (λ (i : ℕ). i + length m) (held-long h f z ∙ open-count h o.1))
        ∙ mod-add-mod h.total H.r (length m)
        ∙ sym (open-count (grown h m) o.1)

    pub grown-sized : Sized (grown h m)
    unfolding grown
    grown-sized = going-sized h h.stage (h.total + length m) after rest

    pub grown-state : state_of (grown h m) ≡ run (variant_of h) (state_of h) (whole_blocks (variant_of h).r (held_in h ++ m))
    unfolding grown
    grown-state = state-going h h.stage (h.total + length m) after rest f.named after-long rest-long

    pub grown-held : held_in (grown h m) ≡ rest_of (variant_of h).r (held_in h ++ m)
    unfolding grown
    grown-held = held-going h h.stage (h.total + length m) after rest f.named after-long rest-long

    pub grown-open : h.total + length m ≤ max_bits → Open (grown h m)
    unfolding grown
    grown-open few =
        (well-formed (grown h m) (going-facts h h.stage (h.total + length m) after rest f.named after-long rest-long f.stages few), o.1)

    -- with m and then with p
    pub grown-append : (p : List Bool) → grown (grown h m) p ≡ grown h (m ++ p)
    unfolding grown
    grown-append p =
        let all : seen ++ p ≡ held_in h ++ (m ++ p) = append_assoc (held_in h) m p in
        going-same h h.stage
        (omega (arith, length-append m p))
        (ap₂ (λ (s c : List Bool). run H s (whole_blocks H.r (c ++ p))) grown-state grown-held
        ∙ sym (run-append H (state_of h) (whole_blocks H.r seen) (whole_blocks H.r (rest ++ p)))
        ∙ ap (run H (state_of h)) (sym (whole_append H.r S.rate-pos seen p) ∙ ap (whole_blocks H.r) all))
        (ap (λ (c : List Bool). rest_of H.r (c ++ p)) grown-held ∙ sym (rest-append H.r S.rate-pos seen p) ∙ ap (rest_of H.r) all)

  -- with nothing: no change, where the bytes are those of the state and of the held bits
  pub grown-none : h.state ≡ packed_state (variant_of h) (state_of h) → h.held ≡ packed_block (held_in h) → grown h [] ≡ h
  unfolding grown
  grown-none es eh =
      let t : h.total + 0 ≡ h.total = omega arith in
      let none : held_in h ++ [] ≡ held_in h = append-nil (held_in h) in
      let held-short : length (held_in h) < H.r = omega (arith, held-long h f z, count-lt h f.named) in
      going-same h h.stage t
      (ap (run H (state_of h)) (ap (whole_blocks H.r) none ∙ whole-short H.r S.rate-pos (held_in h) held-short) ∙ run_none H (state_of h))
      (ap (rest_of H.r) none ∙ rest-short H.r S.rate-pos (held_in h) held-short)
      ∙ ap₂ (λ (x y : List ℕ). record { total = h.total; variant = h.variant; stage = h.stage; state = x; held = y }) (sym es) (sym eh)

-- ---- going on with whole bytes

abbrev pub onward : Hasher → List ℕ → Hasher
onward h m = grown h (byte_bits m)

pub onward-total : (h : Hasher) (m : List ℕ) → (onward h m).total ≡ h.total + 8 * length m
onward-total h m = grown-total h (byte_bits m) ∙ ap (λ (n : ℕ). h.total + n) (length-bits_in high_first m)

-- whole bytes behind whole bytes
pub onward-whole : (h : Hasher) → whole_so_far h ≡ true → (m : List ℕ) → whole_so_far (onward h m) ≡ true
onward-whole h w m = eq-eqb ((onward h m).total % 8) 0 (omega (arith, onward-total h m, eqb-true (h.total % 8) 0 w))

module _ (h : Hasher) (z : Sized h) (o : Open h) where
  pub onward-open : (m : List ℕ) → h.total + 8 * length m ≤ max_bits → Open (onward h m)
  onward-open m few = grown-open h z o (byte_bits m) (omega (arith, length-bits_in high_first m))

  pub onward-sized : (m : List ℕ) → Sized (onward h m)
  onward-sized m = grown-sized h z o (byte_bits m)

  pub onward-append : (m p : List ℕ) → onward (onward h m) p ≡ onward h (m ++ p)
  onward-append m p = grown-append h z o (byte_bits m) (byte_bits p) ∙ ap (grown h) (sym (bits_in-append high_first m p))

  pub onward-none : h.state ≡ packed_state (variant_of h) (state_of h) → h.held ≡ packed_block (held_in h) → onward h [] ≡ h
  unfolding bits_in
  onward-none es eh = grown-none h z o es eh

-- ---- ending

pub ended-sized : (h : Hasher) → Sized (ended h)
unfolding ended
ended-sized h = going-sized h 1 h.total _ []

module _ (h : Hasher) (f : Facts h) (z : Sized h) where
  abbrev last : List Bool
  last = run (variant_of h) (state_of h) (whole_blocks (variant_of h).r (held_in h ++ padding (variant_of h) h.total))

  last-long : length last ≡ (variant_of h).t
  last-long = run_length (variant_of h) (streams h.variant f.named) _ (state_of h) (state-long h f z)

  none-held : length {A = Bool} [] ≡ held_count (going h 1 h.total last [])
  unfolding held_count
  none-held = refl

  pub ended-facts : Facts (ended h)
  unfolding ended
  ended-facts = going-facts h 1 h.total last [] f.named last-long none-held (omega arith) f.few

  pub ended-state : state_of (ended h) ≡ run (variant_of h) (state_of h) (whole_blocks (variant_of h).r (held_in h ++ padding (variant_of h) h.total))
  unfolding ended
  ended-state = state-going h 1 h.total last [] f.named last-long none-held
