-- What the search for a block asks of a variant, a message, a place and a state: that what lies between the states on both sides tells the block that leads from one to the
-- other. A sponge does at every place, and Lesamnta-LW at the last.
-- Assumes nothing.
use mathlib.Core.Path.{◌≡◌, refl, sym, ap, ap₂, ◌∙◌, subst}
use mathlib.Core.Bool.{Bool, true, false, cond}
use mathlib.Core.List.{List, [], ◌∷◌, ◌++◌}
use mathlib.Core.Logic.{◌⊎◌, inl, inr, ⊎_elim}
use Prim.Native.Nat.{ℕ, suc, ◌-◌, ◌≤◌, ◌<◌}
use native.Mathlib.Omega.{arith}
use lib.Dec.{eqb}
use lib.ListN.{length, take, drop, replicate}
use lib.Seq.{set_split, drop-length}
use borrow.Author.Tests.{eqb-true}
use Rattle.standard.specs.Bits.{turned, xor_into}
use Rattle.standard.proofs.Turned.{length-turned, turned-high}
use Rattle.standard.specs.declared.Direction.TheVariants.{Backward}
use Rattle.standard.specs.Families.{Family, sponge, lesamnta, Variant, sponge_of, is_sponge, order}
use Rattle.standard.specs.Chain.{start_state, blocks_of, step, run}
use Rattle.standard.specs.Lesamnta.{cipher}
use Rattle.standard.specs.Variants.{variant, known}
use Rattle.standard.proofs.Tests.{either, true-not-false}
use Rattle.standard.proofs.BitLaws.{length-xor_into}
use Rattle.standard.proofs.Streaming.{Streams, run-append, run-one, run_none, run_length}
use Rattle.standard.proofs.Sponge.{IsSponge}
use Rattle.standard.proofs.Differences.{difference-of, difference-back}
use Rattle.standard.proofs.LesamntaLaws as lw
use Rattle.standard.proofs.Variants.{streams, is-sponge, not-sponge}
use Rattle.chain.specs.TakenBack.{permuted_state, unrun}
use Rattle.chain.proofs.TakenBack.{before-length, wanted-length, leads-to, leads-from}
use Rattle.recover.specs.Leading.{end_state_with}
use Rattle.recover.specs.Difference.{state_before, state_behind, between, difference}
use Rattle.recover.specs.Recovering.{searchable}

-- a block and zeros behind it, laid out in the order of the state
abbrev pub alone : Variant → List Bool → List Bool
alone H b = turned (order H) b ++ replicate (H.t - H.r) false

pub record Searches (H : Variant) (m : List Bool) (place : ℕ) (s : List Bool) : Type 0 where
  pub fits : H.r ≤ H.t
  pub size : length (difference H m place s) ≡ H.t
  pub tells : (b : List Bool) → length b ≡ H.r → end_state_with H m place b ≡ s → difference H m place s ≡ alone H b
  pub finds : (b : List Bool) → length b ≡ H.r → difference H m place s ≡ alone H b → end_state_with H m place b ≡ s

-- ---- a sponge, at every place

pub between-sponge : (f : Family) → sponge_of f ≡ true → (H : Variant) (s e : List Bool) → between f H s e ≡ xor_into s (permuted_state H Backward e)
between-sponge (sponge P r') q H s e = refl
between-sponge lesamnta q H s e = absurd (true-not-false (sym q))

module _ (H : Variant) (g : Streams H) (h : IsSponge H) (q : is_sponge H ≡ true) (m : List Bool) (place : ℕ) (within : place < length (blocks_of H m)) (s : List Bool) (ls : length s ≡ H.t) where
  abbrev S : List Bool
  S = state_before H m place

  abbrev Z : List Bool
  Z = permuted_state H Backward (state_behind H m place s)

  l_s : length S ≡ H.t
  l_s = before-length H g h (start_state H) g.start-length (blocks_of H m) place within s ls

  l_z : length Z ≡ H.t
  l_z = wanted-length H g h (start_state H) g.start-length (blocks_of H m) place within s ls

  D-is : difference H m place s ≡ xor_into S Z
  D-is = between-sponge H.family q H S (state_behind H m place s)

  sponge-searches : Searches H m place s
  unfolding end_state_with
  sponge-searches =
      record {
        fits = h.fits;
        size = ap length D-is ∙ length-xor_into S Z ∙ l_s;
        tells = λ b l e.
            let laid : List Bool = turned (order H) b in
            let lc : length laid ≡ H.r = length-turned (order H) b ∙ l in
            D-is
            ∙ difference-of S laid Z (omega (arith, l_s, lc, h.fits)) (leads-to H g h (start_state H) g.start-length (blocks_of H m) place within s ls b e)
            ∙ ap (λ (n : ℕ). laid ++ replicate n false) (ap₂ (λ (x y : ℕ). x - y) l_s lc);
        finds = λ b l e.
            leads-from H g h (start_state H) g.start-length (blocks_of H m) place within s ls b
            (difference-back S (turned (order H) b) Z (H.t - H.r) (l_s ∙ sym l_z) (sym D-is ∙ e));
      }

-- ---- Lesamnta-LW, at the last place

module _ (m : List Bool) (place : ℕ) (last : suc place ≡ length (blocks_of (variant 11) m)) (s : List Bool) (ls : length s ≡ (variant 11).t) where
  abbrev E : Variant
  E = variant 11

  known-eleven : known 11 ≡ true
  known-eleven = refl

  abbrev B : List Bool
  B = state_before (variant 11) m place

  -- no block is behind it
  nothing : drop (suc place) (blocks_of E m) ≡ []
  nothing = ap (λ (n : ℕ). drop n (blocks_of E m)) last ∙ drop-length (blocks_of E m)

  behind-is : state_behind E m place s ≡ s
  unfolding unrun
  behind-is = ap (unrun E s) nothing

  l_b : length B ≡ E.t
  l_b = run_length E (streams 11 known-eleven) (take place (blocks_of E m)) (start_state E) (streams 11 known-eleven).start-length

  -- the end state is one step from the state before it
  one-step : (b : List Bool) → end_state_with E m place b ≡ step E B b
  unfolding end_state_with
  one-step b =
      ap (run E (start_state E)) (set_split (blocks_of E m) place b (omega arith))
      ∙ run-append E (start_state E) (take place (blocks_of E m)) (b ∷ drop (suc place) (blocks_of E m))
      ∙ run-one E (run E (start_state E) (take place (blocks_of E m))) b (drop (suc place) (blocks_of E m))
      ∙ ap (run E (step E (run E (start_state E) (take place (blocks_of E m))) b)) nothing
      ∙ run_none E (step E (run E (start_state E) (take place (blocks_of E m))) b)

  lesamnta-searches : Searches (variant 11) m place s
  unfolding variant step
  lesamnta-searches =
      let here : (x : List Bool) → List Bool = λ x. xor_into (cipher Backward (take 128 B) x) (replicate 128 false ++ drop 128 B) in
      record {
        fits = omega arith;
        size = length-xor_into (cipher Backward (take 128 B) (state_behind E m place s)) (replicate 128 false ++ drop 128 B) ∙ lw.cipher-length Backward (take 128 B) (state_behind E m place s);
        tells = λ b l e.
            ap here behind-is
            ∙ lw.step-found B s l_b ls b l (sym (one-step b) ∙ e)
            ∙ ap (λ (x : List Bool). x ++ replicate 128 false) (sym (turned-high b));
        finds = λ b l e.
            one-step b
            ∙ lw.step-finds B s l_b ls b l (sym (ap here behind-is) ∙ e ∙ ap (λ (x : List Bool). x ++ replicate 128 false) (turned-high b));
      }

-- ---- by number

-- the place may be searched: a sponge's, or the last
pub way : (v : ℕ) → known v ≡ true → (m : List Bool) (place : ℕ) → searchable (variant v) (length (blocks_of (variant v) m)) place ≡ true
    → (is_sponge (variant v) ≡ true) ⊎ ((is_sponge (variant v) ≡ false) × (suc place ≡ length (blocks_of (variant v) m)))
way v k m place e =
    ⊎_elim inl
    (λ q. inr (q, eqb-true (suc place) (length (blocks_of (variant v) m)) (sym (ap (λ (b : Bool). cond b true (eqb (suc place) (length (blocks_of (variant v) m)))) q) ∙ e)))
    (either (is_sponge (variant v)))

pub searches : (v : ℕ) → known v ≡ true → (m : List Bool) (place : ℕ) → place < length (blocks_of (variant v) m)
    → searchable (variant v) (length (blocks_of (variant v) m)) place ≡ true → (s : List Bool) → length s ≡ (variant v).t → Searches (variant v) m place s
searches v k m place within e s ls =
    ⊎_elim (λ q. sponge-searches (variant v) (streams v k) (is-sponge v q) q m place within s ls)
    (λ w. subst (λ (n : ℕ). suc place ≡ length (blocks_of (variant n) m) → length s ≡ (variant n).t → Searches (variant n) m place s) (sym (not-sponge v k w.0))
    (λ last l. lesamnta-searches m place last s l) w.1 ls)
    (way v k m place e)
