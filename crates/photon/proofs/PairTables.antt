-- Tables of pairs as the code fills them, sixteen entries at a time, and what they hold then.
-- Assumes nothing.
use mathlib.Core.Path.{◌≡◌, ap, ap₂, ◌∙◌}
use mathlib.Core.List.{List}
use mathlib.Core.Logic.{⊎_elim}
use Prim.Native.Nat.{ℕ, ◌+◌, ◌*◌, ◌/◌, ◌%◌, ◌^◌, ◌≤◌, ◌<◌}
use native.Mathlib.Nat.{lt_of_lt_of_le, div-div-eq-div-mul}
use native.Mathlib.Omega.{arith}
use lib.Bits.{bit_xor, xor_comm, xor_shifted, xor_zero_r}
use lib.ListN.{length, get_or}
use lib.Pow.{pow_mono, shl_exact, field}
use Rattle.standard.specs.declared.Direction.TheVariants.{Forward}
use Rattle.standard.specs.Photon.{PhotonParameters}
use Rattle.standard.proofs.Tests.{lt-or-le}
use Rattle.photon_tables.specs.Columns.{place_of, share}
use Rattle.photon_tables.specs.Tables.{Entries, Pairs, share_pair}
use Rattle.photon_tables.proofs.EntryTests.{entry-constant, entry-share}
use Rattle.photon_tables.proofs.LookUps.{share-lt}
use Rattle.photon_tables.proofs.PairSums.{SideBySide}

-- entry e of a table of pairs as the code makes it of the shares of each row: the share of a byte's lower half and, 32 bits higher, that of its upper half in the next row
abbrev pub pair_at : List ℕ → ℕ → ℕ
pair_at shares e = bit_xor (get_or shares (16 + 32 * (e / 256) + e % 16) 0) (get_or shares (32 + 32 * (e / 256) + e / 16 % 16) 0 * 2 ^ 32 % 2 ^ 64)

-- the constants and the first 16 h pairs are there
pub record Paired (shares : List ℕ) (h : ℕ) (out : List ℕ) : Type 0 where
  pub len : length out ≡ 1040
  pub constants : (r : ℕ) → r < 16 → get_or out r 0 ≡ get_or shares r 0
  pub pairs : (e : ℕ) → e < 16 * h → get_or out (16 + e) 0 ≡ pair_at shares e

pub paired_none : (shares out : List ℕ) → length out ≡ 1040 → ((x : ℕ) → x < 16 → get_or out (0 + x) 0 ≡ bit_xor (get_or shares (0 + x) 0) 0) → Paired shares 0 out
paired_none shares out l e = record { len = l; constants = λ r h. let z : 0 + r ≡ r = omega arith in rw z at (e r h ∙ xor_zero_r (get_or shares (0 + r) 0)); pairs = λ k h. absurd (omega arith) }

pub paired-more : (shares out next : List ℕ) (h : ℕ) → Paired shares h out → length next ≡ length out
    → ((x : ℕ) → x < 16 → get_or next (16 + 16 * h + x) 0 ≡ bit_xor (get_or shares (16 + 32 * (h / 16) + x) 0) (get_or shares (32 + 32 * (h / 16) + h % 16) 0 * 2 ^ 32 % 2 ^ 64))
    → ((k : ℕ) → k < 16 + 16 * h → get_or next k 0 ≡ get_or out k 0)
    → Paired shares (h + 1) next
paired-more shares out next h u l new old =
    record {
      len = l ∙ u.len;
      constants = λ r hr. old r (omega arith) ∙ u.constants r hr;
      pairs = λ e he. ⊎_elim (λ lt. old (16 + e) (omega arith) ∙ u.pairs e lt) (λ le. last e le he) (lt-or-le e (16 * h));
    }
  where
    last : (e : ℕ) → 16 * h ≤ e → e < 16 * (h + 1) → get_or next (16 + e) 0 ≡ pair_at shares e
    last e le he =
        let place : 16 + e ≡ 16 + 16 * h + e % 16 = omega arith in
        let turn : h ≡ e / 16 = omega arith in
        let row : h / 16 ≡ e / 256 = ap (λ (k : ℕ). k / 16) turn ∙ div-div-eq-div-mul e 16 16 in
        let upper : h % 16 ≡ e / 16 % 16 = ap (λ (k : ℕ). k % 16) turn in
        rw place (rw (row, upper) at (new (e % 16) (omega arith)))

-- ---- what the filled table holds

module _ (p : PhotonParameters) (b : SideBySide (place_of p) p) (shares : List ℕ) (S : Entries 144 p shares) where
  -- a share, read from the tested table
  read : (i x : ℕ) → i < 8 → x < 16 → get_or shares (16 + 16 * i + x) 0 ≡ share (place_of p) p i x
  read i x hi hx =
      let sixteen : 2 ^ p.s ≡ 16 = ap (λ (k : ℕ). 2 ^ k) b.four in
      rw sixteen at (entry-share 144 p shares S i x (omega (arith, sixteen)) (rw sixteen (omega arith)))

  small : (i x : ℕ) → x < 16 → share (place_of p) p i x < 2 ^ 32
  small i x hx =
      let sixteen : 2 ^ p.s ≡ 16 = ap (λ (k : ℕ). 2 ^ k) b.four in
      lt_of_lt_of_le (share-lt p b.sound (place_of p) b.rise i x ((b.sound.boxes Forward).within x (omega (arith, sixteen)))) (pow_mono b.low)

  pair_is : (e : ℕ) → e < 1024 → pair_at shares e ≡ share_pair (place_of p) p (e / 256) (e % 256)
  unfolding share_pair
  pair_is e he =
      let k : ℕ = e / 256 in
      let lo : 16 + 32 * k + e % 16 ≡ 16 + 16 * (2 * k) + e % 256 % 16 = omega arith in
      let hi : 32 + 32 * k + e / 16 % 16 ≡ 16 + 16 * (2 * k + 1) + e % 256 / 16 = omega (arith, field e 4 4) in
      let A : ℕ = share (place_of p) p (2 * k) (e % 256 % 16) in
      let B : ℕ = share (place_of p) p (2 * k + 1) (e % 256 / 16) in
      ap₂ (λ (x y : ℕ). bit_xor (get_or shares x 0) (get_or shares y 0 * 2 ^ 32 % 2 ^ 64)) lo hi
      ∙ ap₂ (λ (x y : ℕ). bit_xor x (y * 2 ^ 32 % 2 ^ 64)) (read (2 * k) (e % 256 % 16) (omega arith) (omega arith)) (read (2 * k + 1) (e % 256 / 16) (omega arith) (omega arith))
      ∙ ap (bit_xor A) (shl_exact 32 32 64 (small (2 * k + 1) (e % 256 / 16) (omega arith)) (omega arith))
      ∙ xor_comm A (B * 2 ^ 32) ∙ xor_shifted B 32 A (small (2 * k) (e % 256 % 16) (omega arith))

  pub pairs_of : (n : ℕ) → n ≡ (p.d + 1) / 2 → p.d ≤ 8 → (h : ℕ) → 16 * n ≤ h → (out : List ℕ) → Paired shares h out → Pairs p out
  pairs_of n en few h all out u =
      record {
        size = omega (arith, b.sound.pos, u.len);
        constant = λ r h. u.constants r (omega arith) ∙ entry-constant 144 p shares S r (omega arith) (omega arith);
        pair = λ k x hk hx.
            let e : ℕ = 256 * k + x in
            let place : 16 + 256 * k + x ≡ 16 + e = omega arith in
            let row : e / 256 ≡ k = omega arith in
            let val : e % 256 ≡ x = omega arith in
            ap (λ (y : ℕ). get_or out y 0) place ∙ u.pairs e (omega arith) ∙ pair_is e (omega arith) ∙ ap₂ (share_pair (place_of p) p) row val;
      }
