-- What a well-formed running hash is: its sizes, how many bits it holds, and that its bytes are those of its state and held bits.
-- Assumes nothing.
use mathlib.Core.Path.{◌≡◌, sym, ap, ◌∙◌, subst}
use mathlib.Core.Bool.{Bool, true, false, cond, ◌&&◌}
use mathlib.Core.List.{List, ◌++◌}
use mathlib.Core.Logic.{inl, inr, ⊎_elim}
use Prim.Native.Nat.{ℕ, ◌-◌, ◌*◌, ◌%◌, ◌≤◌, ◌<◌}
use native.Mathlib.Nat.{mod-lt, dvd-mod_iff, dvd_of_mod-eq-zero, mod-eq-zero_of_dvd}
use native.Mathlib.Omega.{arith}
use lib.Dec.{leb}
use lib.ListN.{length, take, drop, get_or, replicate, length-drop, take-append-drop}
use lib.Seq.{drop_at}
use borrow.Author.Tests.{leb-true, le-leb, eqb-true}
use Rattle.standard.specs.Bits.{Order, high_first, bits_in, pack, unpack}
use Rattle.standard.specs.Families.{order, state_in}
use Rattle.standard.specs.Variants.{known}
use Rattle.standard.proofs.Tests.{and-true, either}
use Rattle.standard.proofs.BitLaws.{length-bits_in, length-unpack, image-eq}
use Rattle.standard.proofs.Variants.{Bounds, bounds, WholeBytes, layouts}
use Rattle.answers.specs.Outputs.{max_bits}
use Rattle.standard.specs.Layout.{state_room, block_room, packed_state, packed_block, clear}
use Rattle.octets.proofs.Clear.{clear-zeros, zeros-clear, clear-order}
use Rattle.octets.proofs.LayoutLaws.{packed-bits}
use Rattle.chain.proofs.States.{state-length}
use Rattle.hasher.specs.declared.Hasher.{Hasher}
use Rattle.hasher.specs.Running.{variant_of, closed, held_count, whole_so_far, held_in, state_of, well_formed}
use Rattle.hasher.specs.Sized.{Sized}
use Rattle.hasher.proofs.Owned.{Owned}

-- ---- the five tests, to facts and from them

pub record Facts (h : Hasher) : Type 0 where
  pub named : known h.variant ≡ true
  pub stages : h.stage ≤ 1
  pub few : h.total ≤ max_bits
  pub state-clear : clear (drop (variant_of h).t (bits_in (order (variant_of h)) h.state)) ≡ true
  pub held-clear : clear (drop (held_count h) (bits_in high_first h.held)) ≡ true

pub facts : (h : Hasher) → well_formed h ≡ true → Facts h
unfolding well_formed
facts h e =
    let a = known h.variant in
    let b = leb h.stage 1 in
    let c = leb h.total max_bits in
    let d = clear (drop (variant_of h).t (bits_in (order (variant_of h)) h.state)) in
    let all = and-true (a && b && c && d) (clear (drop (held_count h) (bits_in high_first h.held))) e in
    let four = and-true (a && b && c) d all.0 in
    let three = and-true (a && b) c four.0 in
    let two = and-true a b three.0 in
    record {
      named = two.0;
      stages = leb-true h.stage 1 two.1;
      few = leb-true h.total max_bits three.1;
      state-clear = four.1;
      held-clear = all.1;
    }

pub well-formed : (h : Hasher) → Facts h → well_formed h ≡ true
unfolding well_formed
well-formed h f = simp (f.named, le-leb h.stage 1 f.stages, le-leb h.total max_bits f.few, f.state-clear, f.held-clear)

-- ---- how many bits are held

pub open-count : (h : Hasher) → closed h ≡ false → held_count h ≡ h.total % (variant_of h).r
unfolding held_count
open-count h e = ap (λ (b : Bool). cond b 0 (h.total % (variant_of h).r)) e

pub closed-count : (h : Hasher) → closed h ≡ true → held_count h ≡ 0
unfolding held_count
closed-count h e = ap (λ (b : Bool). cond b 0 (h.total % (variant_of h).r)) e

module _ (h : Hasher) (k : known h.variant ≡ true) where
  b : Bounds (variant_of h)
  b = bounds h.variant k

  pub count-lt : held_count h < (variant_of h).r
  count-lt =
      ⊎_elim
      (λ e. omega (arith, closed-count h e, b.rate-least))
      (λ e. subst (λ (n : ℕ). n < (variant_of h).r) (sym (open-count h e)) (mod-lt h.total {m = (variant_of h).r} (omega (arith, b.rate-least))))
      (either (closed h))

  -- whole bytes so far leave whole half bytes
  pub count-quarters : whole_so_far h ≡ true → held_count h % 4 ≡ 0
  count-quarters w =
      ⊎_elim
      (λ e. ap (λ (n : ℕ). n % 4) (closed-count h e))
      (λ e. ap (λ (n : ℕ). n % 4) (open-count h e)
      ∙ mod-eq-zero_of_dvd 4
      ((dvd-mod_iff 4 {m = h.total} {n = (variant_of h).r} (dvd_of_mod-eq-zero 4 b.rate-quarters)).1 (dvd_of_mod-eq-zero 4 {n = h.total} (omega (arith, eqb-true (h.total % 8) 0 w)))))
      (either (closed h))

  -- the state's spare bits, as the code looks at them
  pub spare : clear (drop (variant_of h).t (bits_in (order (variant_of h)) h.state)) ≡ clear (drop (variant_of h).t (bits_in high_first h.state))
  spare =
      clear-order (order (variant_of h)) h.state (variant_of h).t
      (⊎_elim inl (λ (u : WholeBytes (variant_of h)). inr u.state) (layouts h.variant k))

-- ---- sizes

module _ (h : Hasher) (f : Facts h) (z : Sized h) where
  pub state-long : length (state_of h) ≡ (variant_of h).t
  unfolding state_of
  state-long = state-length h.variant f.named h.state z.state-size

  pub held-long : length (held_in h) ≡ held_count h
  unfolding held_in
  held-long =
      length-unpack high_first (held_count h) h.held
      (omega (arith, count-lt h f.named, (bounds h.variant f.named).rate-most, z.held-size))

-- ---- bytes whose bits past t are clear are those of their first t bits, and the other way round

front_kept : (o : Order) (n t : ℕ) (s : List ℕ) → ((i : ℕ) → get_or s i 0 < 256) → length s ≡ n → t ≤ n * 8
    → clear (drop t (bits_in o s)) ≡ true → s ≡ pack o n (unpack o t s)
unfolding unpack
front_kept o n t s hs ls ht e =
    let bits : List Bool = bits_in o s in
    let lb : length bits ≡ 8 * length s = length-bits_in o s in
    let lt : length (take t bits) ≡ t = length-unpack o t s (omega arith) in
    let m : length (drop t bits) ≡ n * 8 - length (take t bits) = length-drop t bits ∙ omega arith in
    image-eq o n s (take t bits) hs ls (omega arith)
    (sym (take-append-drop t bits)
    ∙ ap (λ (l : List Bool). take t bits ++ l) (clear-zeros (drop t bits) e ∙ ap (λ (k : ℕ). replicate k false) m))

pub packed-clear : (o : Order) (n t : ℕ) (bs : List Bool) → length bs ≡ t → t ≤ n * 8 → clear (drop t (bits_in o (pack o n bs))) ≡ true
packed-clear o n t bs l h =
    ap (λ (x : List Bool). clear (drop t x)) (packed-bits o n bs (omega arith))
    ∙ ap clear (drop_at bs (replicate (n * 8 - length bs) false) t l)
    ∙ zeros-clear (n * 8 - length bs)

module _ (h : Hasher) (f : Facts h) (w : Owned h) where
  pub state-kept : h.state ≡ packed_state (variant_of h) (state_in (variant_of h) h.state)
  unfolding state_in
  state-kept =
      front_kept (order (variant_of h)) state_room (variant_of h).t h.state w.state-byte w.sized.state-size
      (bounds h.variant f.named).state-most f.state-clear

  pub held_kept : h.held ≡ packed_block (held_in h)
  unfolding held_in
  held_kept =
      front_kept high_first block_room (held_count h) h.held w.held-byte w.sized.held-size
      (omega (arith, count-lt h f.named, (bounds h.variant f.named).rate-most)) f.held-clear
