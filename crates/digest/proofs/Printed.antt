-- What is printed for a message is its digest: demand 2, read off the line.
-- Assumes nothing.
use mathlib.Core.Path.{◌≡◌, refl, sym, ap, ◌∙◌}
use mathlib.Core.Bool.{true}
use mathlib.Core.List.{List, [], ◌∷◌}
use Prim.Native.Nat.{ℕ, ◌/◌}
use lib.ListN.{length, take, drop, replicate}
use lib.Seq.{take_at, take-length}
use Rattle.standard.specs.Chain.{digest_of, end_state}
use Rattle.standard.specs.Messages.{byte_bits, Given, given_bits}
use Rattle.standard.specs.Variants.{variant, known}
use Rattle.answers.specs.Refusals.{Status, Done, Refused}
use Rattle.answers.specs.Outputs.{when_done}
use Rattle.hasher.specs.declared.Hasher.{Hasher}
use Rattle.hasher.specs.declared.Advanced.{Advanced}
use Rattle.standard.specs.declared.Wanted.TheVariants.{Digest}
use Rattle.hasher.specs.Running.{variant_of, started_over, started, updated, finished, grown, ended}
use Rattle.hasher.specs.Reading.{read_status, read_into, result_of}
use Rattle.hasher.specs.Pieces.{plain, joined, and_then, all_updated, hashed}
use Rattle.hasher.proofs.Calls.{result-length}
use Rattle.hasher.proofs.Demand2.{demand-2-bytes}
use Rattle.digest.specs.Answers.{digest_line, digest_in, closed_line}
use Rattle.digest.specs.Promises.{DigestPrinted}
use Rattle.digest.proofs.LineLaws.{digest-short, digest-read}

-- ---- the variant stays

either-variant : (s : Status) (x y : Hasher) → x.variant ≡ y.variant → (when_done s x y).variant ≡ y.variant
either-variant Done x y e = e
either-variant (Refused r) x y e = refl

update-variant : (h : Hasher) (g : Given) → (updated h g).hasher.variant ≡ h.variant
unfolding updated grown
update-variant h g = either-variant (updated h g).status (grown h (given_bits (variant_of h) g)) h refl

finish-variant : (h : Hasher) → (finished h).hasher.variant ≡ h.variant
unfolding finished ended
finish-variant h = either-variant (finished h).status (ended h) h refl

then-variant : (a : Advanced) (g : Given) → (and_then a (λ h. updated h g)).hasher.variant ≡ a.hasher.variant
then-variant a g = by-status a.status
  where
    by-status : (s : Status) → (when_done s (updated a.hasher g) a).hasher.variant ≡ a.hasher.variant
    by-status Done = update-variant a.hasher g
    by-status (Refused r) = refl

all-variant : (pieces : List Given) (a : Advanced) → (all_updated a pieces).hasher.variant ≡ a.hasher.variant
unfolding all_updated
all-variant [] a = refl
all-variant (p ∷ ps) a = all-variant ps (and_then a (λ h. updated h p)) ∙ then-variant a p

start-variant : (v : ℕ) → known v ≡ true → (started v).hasher.variant ≡ v
unfolding started started_over
start-variant v k = rw k

-- ---- the line

pub digest-printed : DigestPrinted
unfolding hashed closed_line digest_of
digest-printed v k pieces few =
    let cut = plain pieces in
    let a = all_updated (started v) cut in
    let H = demand-2-bytes v k pieces few in
    let taken : a.status ≡ Done = ap (λ (ps : List Given). (all_updated (started v) ps).status) (sym (take-length cut)) ∙ H.every-update (length cut) in
    let closed = (finished a.hasher).hasher in
    let same : (hashed v cut).hasher ≡ closed = rw taken in
    let named : closed.variant ≡ v = finish-variant a.hasher ∙ all-variant cut (started v) ∙ start-variant v k in
    let read = H.read Digest (replicate 32 0) (digest-short v) in
    let done : read_status closed Digest 32 ≡ Done = ap (λ (h : Hasher). read_status h Digest 32) (sym same) ∙ read.0 in
    let digest = result_of (variant v) Digest (end_state (variant v) (byte_bits (joined pieces))) in
    let front : take ((variant v).n / 8) (read_into closed Digest (replicate 32 0)) ≡ digest =
    ap (λ (h : Hasher). take ((variant v).n / 8) (read_into h Digest (replicate 32 0))) (sym same)
    ∙ ap (take ((variant v).n / 8)) read.1
    ∙ take_at digest (drop ((variant v).n / 8) (replicate 32 0)) ((variant v).n / 8) (result-length (variant v) Digest (end_state (variant v) (byte_bits (joined pieces)))) in
    let own : take ((variant v).n / 8) (read_into closed Digest (replicate 32 0)) ≡ digest_in closed =
    ap (λ (w : ℕ). take ((variant w).n / 8) (read_into closed Digest (replicate 32 0))) (sym named) ∙ digest-read closed (replicate 32 0) refl done in
    rw (taken, done) (ap digest_line (sym own ∙ front))
