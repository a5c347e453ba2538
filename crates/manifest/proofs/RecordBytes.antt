-- The 35 bytes of a record, and what is read from them.
-- Assumes nothing.
use mathlib.Core.Path.{◌≡◌, sym, ap, ap₂, ◌∙◌}
use mathlib.Core.Bool.{true}
use mathlib.Core.List.{List, ◌∷◌, ◌++◌}
use Prim.Native.Nat.{ℕ, suc, ◌+◌, ◌*◌, ◌-◌, ◌≤◌, ◌<◌}
use native.Mathlib.Omega.{arith}
use lib.ListN.{length, take, drop, get_or, replicate, length-append, length-drop, length-replicate, take-append-drop}
use lib.Seq.{drop-cons, length-take-le, take-take, take-add, take_at, drop_at, get_or_at, get_or-take, get_or-drop, drop-drop, drop-append-le, take-append-le, take_all}
use Rattle.octets.specs.Numbers.{Bytes, big_endian, in_bytes}
use Rattle.octets.proofs.ByteLaws.{take-bytes, drop-bytes, cons-bytes, append-bytes, number-bytes, zero-bytes}
use Rattle.octets.proofs.CompareLaws.{zeros-are, zeros-all}
use Rattle.octets.proofs.NumberLaws.{length-in_bytes, big_endian-in_bytes, in_bytes-big_endian, two_bytes}
use Rattle.standard.specs.Variants.{known}
use Rattle.standard.proofs.Variants.{bounds, known-high}
use Rattle.manifest.specs.Records.{record_count, axis_at, variant_at, digest_field_at, digest_bytes, digest_at, filler_at}
use Rattle.octets.specs.Slices.{zeros}
use Rattle.manifest.specs.Installations.{Expected, IsSound, record_of, expected_at}
use Rattle.manifest.proofs.RecordLaws.{filled-length}

-- the bytes of record k
abbrev pub row_at : List ℕ → ℕ → List ℕ
row_at manifest k = take 35 (drop (35 * k) manifest)

-- two bytes, one, and the rest
row-parts : (manifest : List ℕ) (o : ℕ) → o + 35 ≤ length manifest → take 35 (drop o manifest) ≡ take 2 (drop o manifest) ++ get_or manifest (o + 2) 0 ∷ take 32 (drop (o + 3) manifest)
row-parts manifest o h =
    let next : suc (o + 2) ≡ o + 3 = omega arith in
    take-add 2 33 (drop o manifest)
    ∙ ap (λ (rest : List ℕ). take 2 (drop o manifest) ++ take 33 rest) (drop-drop 2 o manifest ∙ drop-cons manifest (o + 2) 0 (omega arith))
    ∙ ap (λ (i : ℕ). take 2 (drop o manifest) ++ get_or manifest (o + 2) 0 ∷ take 32 (drop i manifest)) next

-- the rest, after the first three
after-three : (p : List ℕ) (x : ℕ) (q : List ℕ) → length p ≡ 2 → drop 3 (p ++ x ∷ q) ≡ q
after-three p x q l =
    sym (drop-drop 1 2 (p ++ x ∷ q)) ∙ ap (drop 1) (drop_at p (x ∷ q) 2 l)

-- ---- records of a list

module _ (manifest : List ℕ) (k : ℕ) (h : k < record_count manifest) where
  whole : 35 * k + 35 ≤ length manifest
  whole = omega arith

  row-split : row_at manifest k ≡ take 2 (drop (35 * k) manifest) ++ variant_at manifest k ∷ digest_field_at manifest k
  row-split = row-parts manifest (35 * k) whole

  front-two : length (take 2 (drop (35 * k) manifest)) ≡ 2
  front-two = length-take-le 2 (drop (35 * k) manifest) (omega (arith, whole, length-drop (35 * k) manifest))

  -- an axis number of two bytes
  pub axis-below : Bytes manifest → axis_at manifest k < 65536
  axis-below hb = omega (arith, two_bytes manifest (35 * k) (omega (arith, whole)), hb (35 * k), hb (35 * k + 1))

  -- The bytes of a sound record are those of its axis, variant and digest.
  pub row_written : Bytes manifest → known (variant_at manifest k) ≡ true → zeros (filler_at manifest k) ≡ true → row_at manifest k ≡ record_of (axis_at manifest k) (expected_at manifest k)
  unfolding record_of digest_at filler_at
  row_written hb named filled =
      let n : ℕ = digest_bytes (variant_at manifest k) in
      let long : length (digest_field_at manifest k) ≡ 32 = filled-length manifest k h in
      let room : n ≤ 32 = omega (arith, (bounds (variant_at manifest k) named).digest-most) in
      let digest : length (digest_at manifest k) ≡ n = length-take-le n (digest_field_at manifest k) (omega arith) in
      let filler : length (filler_at manifest k) ≡ 32 - length (digest_at manifest k) = length-drop n (digest_field_at manifest k) ∙ omega (arith, long, digest) in
      let axis : in_bytes 2 (axis_at manifest k) ≡ take 2 (drop (35 * k) manifest) =
      ap (λ (w : ℕ). in_bytes w (axis_at manifest k)) (sym front-two) ∙ in_bytes-big_endian (take 2 (drop (35 * k) manifest)) (take-bytes 2 (drop (35 * k) manifest) (drop-bytes (35 * k) manifest hb)) in
      row-split
      ∙ ap₂ (λ (a rest : List ℕ). a ++ variant_at manifest k ∷ rest) (sym axis)
      (sym (take-append-drop n (digest_field_at manifest k))
      ∙ ap (λ (z : List ℕ). digest_at manifest k ++ z) (zeros-are (filler_at manifest k) filled ∙ ap (λ (m : ℕ). replicate m 0) filler))

  -- what is expected of its axis is sound
  pub row-sound : Bytes manifest → known (variant_at manifest k) ≡ true → IsSound (expected_at manifest k)
  unfolding digest_at
  row-sound hb named =
      let n : ℕ = digest_bytes (variant_at manifest k) in
      let room : n ≤ 32 = omega (arith, (bounds (variant_at manifest k) named).digest-most) in
      record {
        named = named;
        long = length-take-le n (digest_field_at manifest k) (omega (arith, filled-length manifest k h));
        bytes = take-bytes n (digest_field_at manifest k) (take-bytes 32 (drop (35 * k + 3) manifest) (drop-bytes (35 * k + 3) manifest hb));
      }

-- ---- records written

-- what a record says if its bytes are those of an axis and what is expected of it
pub record Says (manifest : List ℕ) (k axis : ℕ) (e : Expected) : Type 0 where
  pub axis-is : axis_at manifest k ≡ axis
  pub expected-is : expected_at manifest k ≡ e
  pub filled : zeros (filler_at manifest k) ≡ true

module _ (axis : ℕ) (e : Expected) (s : IsSound e) where
  room : length e.digest ≤ 32
  room = omega (arith, s.long, (bounds e.variant s.named).digest-most)

  -- it has 35 bytes
  pub record-length : length (record_of axis e) ≡ 35
  unfolding record_of
  record-length =
      let zs : List ℕ = replicate (32 - length e.digest) 0 in
      length-append (in_bytes 2 axis) (e.variant ∷ e.digest ++ zs)
      ∙ omega (arith, length-in_bytes 2 axis, length-append e.digest zs, length-replicate {A = ℕ} (32 - length e.digest) 0, room)

  pub record-bytes : Bytes (record_of axis e)
  unfolding record_of
  record-bytes =
      let zs : List ℕ = replicate (32 - length e.digest) 0 in
      append-bytes (in_bytes 2 axis) (e.variant ∷ e.digest ++ zs) (number-bytes 2 axis)
      (cons-bytes e.variant (e.digest ++ zs) (omega (arith, known-high e.variant s.named))
      (append-bytes e.digest zs s.bytes (zero-bytes (32 - length e.digest))))

  -- and reads back
  pub row-says : axis < 65536 → (manifest : List ℕ) (k : ℕ) → k < record_count manifest → row_at manifest k ≡ record_of axis e → Says manifest k axis e
  unfolding record_of digest_at filler_at
  row-says small manifest k h is =
      let zs : List ℕ = replicate (32 - length e.digest) 0 in
      let two : length (in_bytes 2 axis) ≡ 2 = length-in_bytes 2 axis in
      let number : variant_at manifest k ≡ e.variant =
      ap (λ (i : ℕ). get_or manifest i 0) (omega arith) ∙ sym (get_or-drop (35 * k) manifest 2 0) ∙ sym (get_or-take 35 (drop (35 * k) manifest) 2 0 (omega arith))
      ∙ ap (λ (row : List ℕ). get_or row 2 0) is ∙ get_or_at (in_bytes 2 axis) e.variant (e.digest ++ zs) 0 2 two in
      let filling : digest_field_at manifest k ≡ e.digest ++ zs =
      sym (after-three (take 2 (drop (35 * k) manifest)) (variant_at manifest k) (digest_field_at manifest k) (front-two manifest k h))
      ∙ ap (drop 3) (sym (row-split manifest k h) ∙ is) ∙ after-three (in_bytes 2 axis) e.variant (e.digest ++ zs) two in
      let size : length e.digest ≡ digest_bytes (variant_at manifest k) = s.long ∙ ap digest_bytes (sym number) in
      record {
        axis-is =
            ap big_endian (sym (take-take 2 35 (drop (35 * k) manifest) (omega arith)) ∙ ap (take 2) is ∙ take_at (in_bytes 2 axis) _ 2 two)
            ∙ big_endian-in_bytes 2 axis (omega arith);
        expected-is = ap₂ (λ (v : ℕ) (d : List ℕ). record { variant = v; digest = d }) number (ap (take (digest_bytes (variant_at manifest k))) filling ∙ take_at e.digest zs _ size);
        filled = ap zeros (ap (drop (digest_bytes (variant_at manifest k))) filling ∙ drop_at e.digest zs _ size) ∙ zeros-all (32 - length e.digest);
      }

-- ---- one record more

-- those before it stay
pub row_before : (manifest more : List ℕ) (k : ℕ) → 35 * k + 35 ≤ length manifest → row_at (manifest ++ more) k ≡ row_at manifest k
row_before manifest more k h =
    ap (take 35) (drop-append-le (35 * k) manifest more (omega arith))
    ∙ take-append-le 35 (drop (35 * k) manifest) more (omega (arith, length-drop (35 * k) manifest))

-- and it is the last
pub row_last : (manifest row : List ℕ) (k : ℕ) → length manifest ≡ 35 * k → length row ≡ 35 → row_at (manifest ++ row) k ≡ row
row_last manifest row k l r = ap (take 35) (drop_at manifest row (35 * k) l) ∙ take_all 35 row (omega arith)
