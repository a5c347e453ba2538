-- The rounds one by one: what is left of them after each, forward with the key schedule beside them, the round keys alone, and back.
-- Assumes nothing.
use mathlib.Core.Path.{◌≡◌, refl, sym, ap, ap₂, ◌∙◌}
use mathlib.Core.List.{List, [], ◌∷◌, ◌++◌, foldl, reverse, reverse-append, append-nil, append_assoc}
use Prim.Native.Nat.{ℕ, suc, ◌+◌, ◌-◌, ◌≤◌, ◌<◌}
use native.Mathlib.Numerals.{add-one}
use native.Mathlib.Omega.{arith}
use lib.ListN.{length, get_or, set, take, drop, length-set}
use lib.Seq.{drop-cons, take-suc, take-suc-set, take_all}
use Rattle.standard.specs.Rounds.{rounds}
use Rattle.standard.specs.declared.Direction.TheVariants.{Forward, Backward}
use Rattle.standard.specs.Lesamnta.{mixing, scheduled, round_keys, generated, cipher_constants}
use Rattle.standard.proofs.Tab.{get_d-tab}

-- the constants from round r on
left : (r : ℕ) → r < 64 → drop r cipher_constants ≡ generated r ∷ drop (r + 1) cipher_constants
left r h = drop-cons cipher_constants r 0 h ∙ ap₂ (λ (c : ℕ) (cs : List ℕ). c ∷ cs) (get_d-tab 64 generated r 0 h) (ap (λ (n : ℕ). drop n cipher_constants) (sym (add-one r)))

-- ---- forward

-- what the rounds from r on make of the words
pub to_go : ℕ → List ℕ → List ℕ → List ℕ
to_go r x k = foldl (mixing Forward) x (round_keys (drop r cipher_constants) k)

pub go_all : (x k : List ℕ) → to_go 0 x k ≡ rounds mixing Forward (round_keys cipher_constants k) x
unfolding to_go rounds
go_all x k = refl

pub go-none : (r : ℕ) (x k : List ℕ) → r ≡ 64 → to_go r x k ≡ x
unfolding to_go round_keys
go-none r x k e = ap (λ (n : ℕ). foldl (mixing Forward) x (round_keys (drop n cipher_constants) k)) e

pub go-more : (r : ℕ) (x k : List ℕ) (c : ℕ) → r < 64 → c ≡ generated r → to_go (r + 1) (mixing Forward x (get_or k 0 0)) (scheduled k c) ≡ to_go r x k
unfolding to_go round_keys
go-more r x k c h e =
    ap (λ (n : ℕ). foldl (mixing Forward) (mixing Forward x (get_or k 0 0)) (round_keys (drop (r + 1) cipher_constants) (scheduled k n))) e
    ∙ sym (ap (λ (cs : List ℕ). foldl (mixing Forward) x (round_keys cs k)) (left r h))

-- ---- the round keys

-- the first r are written, and the others are those of the key state
pub record Keyed (r : ℕ) (key now out : List ℕ) : Type 0 where
  pub size : length out ≡ 64
  pub all : take r out ++ round_keys (drop r cipher_constants) now ≡ round_keys cipher_constants key

pub keyed-none : (key now out : List ℕ) → now ≡ key → length out ≡ 64 → Keyed 0 key now out
keyed-none key now out e size = record { size = size; all = ap (round_keys cipher_constants) e }

pub keyed-more : (r : ℕ) (key k out : List ℕ) (c : ℕ) → r < 64 → c ≡ generated r → Keyed r key k out → Keyed (r + 1) key (scheduled k c) (set out r (get_or k 0 0))
unfolding round_keys
keyed-more r key k out c h e u =
    let k0 : ℕ = get_or k 0 0 in
    let next : ℕ → List ℕ = λ n. round_keys (drop (r + 1) cipher_constants) (scheduled k n) in
    record {
      size = length-set out r k0 ∙ u.size;
      all = ap₂ (λ (m : ℕ) (n : ℕ). take m (set out r k0) ++ next n) (add-one r) e
          ∙ ap (λ (front : List ℕ). front ++ next (generated r)) (take-suc-set out r k0 (omega (arith, u.size)))
          ∙ append_assoc (take r out) (k0 ∷ []) (next (generated r))
          ∙ ap (λ (cs : List ℕ). take r out ++ round_keys cs k) (sym (left r h))
          ∙ u.all;
    }

pub keyed-all : (r : ℕ) (key now out : List ℕ) → r ≡ 64 → Keyed r key now out → out ≡ round_keys cipher_constants key
unfolding round_keys
keyed-all r key now out e u =
    sym (take_all 64 out (omega (arith, u.size)))
    ∙ sym (append-nil (take 64 out))
    ∙ ap (λ (n : ℕ). take n out ++ round_keys (drop n cipher_constants) now) (sym e)
    ∙ u.all

-- ---- back

-- what the first r rounds, taken back from the last on, make of the words
pub back_to : ℕ → List ℕ → List ℕ → List ℕ
back_to r keys x = foldl (mixing Backward) x (reverse (take r keys))

pub back-all : (keys x : List ℕ) → length keys ≡ 64 → back_to 64 keys x ≡ rounds mixing Backward keys x
unfolding back_to rounds
back-all keys x e = ap (λ (ks : List ℕ). foldl (mixing Backward) x (reverse ks)) (take_all 64 keys (omega arith))

pub back_none : (r : ℕ) (keys x : List ℕ) → r ≡ 0 → back_to r keys x ≡ x
unfolding back_to
back_none r keys x e = ap (λ (n : ℕ). foldl (mixing Backward) x (reverse (take n keys))) e

pub back_more : (r : ℕ) (keys x : List ℕ) → 0 < r → r ≤ length keys → back_to (r - 1) keys (mixing Backward x (get_or keys (r - 1) 0)) ≡ back_to r keys x
unfolding back_to
back_more r keys x some few =
    let last : r ≡ suc (r - 1) = omega arith in
    sym (ap (λ (n : ℕ). foldl (mixing Backward) x (reverse (take n keys))) last
    ∙ ap (λ (ks : List ℕ). foldl (mixing Backward) x (reverse ks)) (take-suc keys (r - 1) 0 (omega arith))
    ∙ ap (foldl (mixing Backward) x) (reverse-append (take (r - 1) keys) (get_or keys (r - 1) 0 ∷ [])))
