-- What the bytes of a table make of the one that is being read, header and contents.
-- Assumes nothing.
use mathlib.Core.Path.{◌≡◌, refl, sym, ap, ◌∙◌}
use mathlib.Core.Bool.{true, false}
use mathlib.Core.List.{List, [], ◌∷◌, foldl}
use mathlib.Core.Logic.{◌⊎◌, inl, inr, ⊎_elim}
use Prim.Native.Nat.{ℕ, ◌-◌, ◌≤◌, ◌<◌}
use native.Mathlib.Omega.{arith}
use lib.Dec.{eqb, leb}
use lib.ListN.{length, take, drop}
use borrow.Author.Tests.{le-leb, lt-leb, eq-eqb, ne_eqb}
use Rattle.standard.proofs.Tests.{lt-or-le}
use Rattle.hasher.specs.Running.{started}
use Rattle.hasher.specs.Pieces.{with_byte}
use Rattle.manifest.specs.declared.current.Current.{Current}
use Rattle.manifest.specs.Tables.{axis_in, length_in, span_of, is_whole}
use Rattle.manifest.specs.Progress.{unread, variant_for, opened_table, header_byte, table_byte, is_complete}
use Rattle.manifest.proofs.StrideLaws.{further, advance-bytes}
use Rattle.manifest.proofs.TableLaws.{whole_long}

-- the table being read, after each of these bytes in turn
abbrev pub reading : List ℕ → List ℕ → Current
reading manifest s = foldl (table_byte manifest) unread s

-- the one of which these bytes were read, if they reach past the header
abbrev pub past_header : List ℕ → List ℕ → Current
past_header manifest s =
    record {
      header = take 6 s;
      got = 6;
      left = span_of s - length s;
      hasher = foldl with_byte (started (variant_for manifest (axis_in s) (length_in s))).hasher (drop 6 s);
    }

-- no more bytes are to come when as many are there as are wanted
none_left : (a b : ℕ) → eqb (a - b) 0 ≡ leb a b
none_left a b =
    ⊎_elim
    (λ l. ne_eqb (a - b) 0 (λ e. omega arith) ∙ sym (lt-leb a b l))
    (λ l. eq-eqb (a - b) 0 (omega arith) ∙ sym (le-leb a b l))
    (lt-or-le b a)

module _ (manifest : List ℕ) where
  -- a header cut short, or the whole of it
  read-so-far : (s : List ℕ) → ((length s < 6) × (is_complete (reading manifest s) ≡ false)) ⊎ ((6 ≤ length s) × (reading manifest s ≡ past_header manifest s))
  unfolding is_complete table_byte header_byte opened_table axis_in length_in
  read-so-far [] = inl (omega arith, refl)
  read-so-far (a ∷ []) = inl (omega arith, refl)
  read-so-far (a ∷ b ∷ []) = inl (omega arith, refl)
  read-so-far (a ∷ b ∷ c ∷ []) = inl (omega arith, refl)
  read-so-far (a ∷ b ∷ c ∷ d ∷ []) = inl (omega arith, refl)
  read-so-far (a ∷ b ∷ c ∷ d ∷ e ∷ []) = inl (omega arith, refl)
  read-so-far (a ∷ b ∷ c ∷ d ∷ e ∷ f ∷ m) =
      let header : List ℕ = a ∷ b ∷ c ∷ d ∷ e ∷ f ∷ [] in
      let c : Current = opened_table manifest header in
      inr (omega arith, advance-bytes manifest m c (omega arith) ∙ ap (λ (n : ℕ). further c n (foldl with_byte c.hasher m)) (omega arith))

  -- the table is over when the bytes are a whole one
  pub complete-is-whole : (s : List ℕ) → is_complete (reading manifest s) ≡ is_whole s
  unfolding is_whole is_complete
  complete-is-whole s =
      ⊎_elim
      (λ w. w.1 ∙ sym (lt-leb (span_of s) (length s) (omega (arith, w.0))))
      (λ w. ap is_complete w.1 ∙ none_left (span_of s) (length s))
      (read-so-far s)

  -- and then its header and its running hash are these
  pub whole-read : (s : List ℕ) → is_whole s ≡ true → reading manifest s ≡ past_header manifest s
  whole-read s w = ⊎_elim (λ u. absurd (omega (arith, u.0, whole_long s w))) (λ u. u.1) (read-so-far s)
