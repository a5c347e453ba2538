-- A stride of the stream taken at once is its bytes taken one by one.
-- Assumes nothing.
use mathlib.Core.Path.{◌≡◌, refl, ap, ap₂, ◌∙◌}
use mathlib.Core.Bool.{Bool, true, ◌&&◌}
use mathlib.Core.List.{List, [], ◌∷◌, ◌++◌, foldl, foldl-append}
use mathlib.Core.Logic.{◌⊎◌, inl, inr}
use Prim.Native.Nat.{ℕ, suc, ◌-◌, ◌≤◌, ◌<◌}
use native.Mathlib.Omega.{arith}
use lib.ListN.{length, get_or}
use borrow.Author.Tests.{lt-ltb, le-ltb, le-leb, ne_eqb}
use Rattle.standard.proofs.Tests.{lt-or-le}
use Rattle.hasher.specs.declared.Hasher.{Hasher}
use Rattle.hasher.specs.Pieces.{with_byte}
use Rattle.manifest.specs.declared.tally.Tally.{Tally}
use Rattle.manifest.specs.declared.current.Current.{Current}
use Rattle.manifest.specs.declared.report.Report.{Report}
use Rattle.manifest.specs.Lookups.{is_ordered}
use Rattle.manifest.specs.Tables.{max_tables}
use Rattle.manifest.specs.Progress.{header_byte, content_byte, table_byte, is_complete, tallied, settled, byte_taken, piece_taken}
use Rattle.manifest.specs.Strides.{Stride}

-- the table that is being read, with so much left and this running hash
abbrev pub further : Current → ℕ → Hasher → Current
further c n h = record { header = c.header; got = c.got; left = n; hasher = h }

-- a report of these parts
abbrev pub report_with : Bool → Tally → Current → Report
report_with p y c = record { passed = p; tally = y; current = c }

module _ (manifest : List ℕ) where
  -- a byte of the header
  pub advance-header : (c : Current) (part : List ℕ) → Stride c (length part) → c.got < 6 → foldl (table_byte manifest) c part ≡ header_byte manifest c (get_or part 0 0)
  unfolding table_byte
  advance-header c [] s l = absurd (omega (arith, s.header l))
  advance-header c (b ∷ []) s l = rw (lt-ltb c.got 6 l)
  advance-header c (b ∷ d ∷ part) s l = absurd (omega (arith, s.header l))

  -- bytes of the contents, hashed one by one
  pub advance-bytes : (part : List ℕ) (c : Current) → 6 ≤ c.got → foldl (table_byte manifest) c part ≡ further c (c.left - length part) (foldl with_byte c.hasher part)
  unfolding table_byte content_byte
  advance-bytes [] c h = let e : c.left ≡ c.left - 0 = omega arith in ap (λ (n : ℕ). further c n c.hasher) e
  advance-bytes (b ∷ part) c h =
      let e : c.left - 1 - length part ≡ c.left - suc (length part) = omega arith in
      rw (le-ltb c.got 6 h)
      (advance-bytes part (content_byte c b) h ∙ ap (λ (n : ℕ). further c n (foldl with_byte c.hasher (b ∷ part))) e)

  module _ (y : Tally) (few : tallied y < max_tables) where
    -- one byte
    one_byte : (p : Bool) (c : Current) (b : ℕ) → byte_taken manifest (report_with p y c) b ≡ settled manifest y (table_byte manifest c b)
    unfolding byte_taken
    one_byte p c b = rw (lt-ltb (tallied y) max_tables few)

    -- a byte inside the contents ends no table
    inside-byte : (p : Bool) (c : Current) (b : ℕ) → 6 ≤ c.got → 1 < c.left
        → byte_taken manifest (report_with p y c) b ≡ report_with true y (content_byte c b)
    unfolding settled table_byte is_complete content_byte
    inside-byte p c b h l = one_byte p c b ∙ rw (le-ltb c.got 6 h, le-leb 6 c.got h, ne_eqb (c.left - 1) 0 (λ e. omega arith))

    -- so bytes of the contents end one by their last alone
    inside : (part : List ℕ) (p : Bool) (c : Current) (b : ℕ) → 6 ≤ c.got → suc (length part) ≤ c.left
        → foldl (byte_taken manifest) (report_with p y c) (b ∷ part) ≡ settled manifest y (foldl (table_byte manifest) c (b ∷ part))
    unfolding table_byte content_byte
    inside [] p c b h l = one_byte p c b
    inside (d ∷ part) p c b h l =
        ap (λ (r : Report). foldl (byte_taken manifest) r (d ∷ part)) (inside-byte p c b h (omega arith))
        ∙ inside part true (content_byte c b) d h (omega arith)
        ∙ ap (λ (e : Current). settled manifest y (foldl (table_byte manifest) e (d ∷ part))) {x = content_byte c b} {y = table_byte manifest c b} (rw (le-ltb c.got 6 h))

    -- a stride
    pub stride-settled : (p : Bool) (c : Current) (part : List ℕ) → Stride c (length part)
        → foldl (byte_taken manifest) (report_with p y c) part ≡ settled manifest y (foldl (table_byte manifest) c part)
    stride-settled p c [] s = absurd (omega (arith, s.some))
    stride-settled p c (b ∷ []) s = one_byte p c b
    stride-settled p c (b ∷ d ∷ part) s =
        inside (d ∷ part) p c b (contents (lt-or-le c.got 6)) (s.inside (omega arith))
      where
        contents : (c.got < 6) ⊎ (6 ≤ c.got) → 6 ≤ c.got
        contents (inl l) = absurd (omega (arith, s.header l))
        contents (inr h) = h

  -- after the last table nothing changes
  full-byte : (r : Report) → max_tables ≤ tallied r.tally → (b : ℕ) → byte_taken manifest r b ≡ r
  unfolding byte_taken
  full-byte r h b = rw (le-ltb (tallied r.tally) max_tables h)

  pub full-stays : (r : Report) → max_tables ≤ tallied r.tally → (part : List ℕ) → foldl (byte_taken manifest) r part ≡ r
  full-stays r h [] = refl
  full-stays r h (b ∷ part) = ap (λ (q : Report). foldl (byte_taken manifest) q part) (full-byte r h b) ∙ full-stays r h part

  -- nor does a piece of no bytes
  pub nothing-stays : (r : Report) (part : List ℕ) → length part ≡ 0 → foldl (byte_taken manifest) r part ≡ r
  nothing-stays r [] e = refl
  nothing-stays r (b ∷ part) e = absurd (omega arith)

  -- a part of what is left, then the rest of it
  pub stream-stepped : (r s : Report) (left part rest : List ℕ) → left ≡ part ++ rest → s ≡ foldl (byte_taken manifest) r part
      → foldl (byte_taken manifest) r left ≡ foldl (byte_taken manifest) s rest
  stream-stepped r s left part rest parts e = rw (parts, e) (foldl-append (byte_taken manifest) r part rest)

  -- a report that takes a piece takes each byte of it
  pub piece-read : (r : Report) (piece : List ℕ) → r.passed ≡ true → is_ordered manifest ≡ true → piece_taken manifest r piece ≡ foldl (byte_taken manifest) r piece
  unfolding piece_taken
  piece-read r piece p o = let read : (r.passed && is_ordered manifest) ≡ true = ap₂ ◌&&◌ p o in rw read
