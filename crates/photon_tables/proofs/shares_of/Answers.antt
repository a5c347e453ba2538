-- `photon_tables::shares_of` meets its contract: the rule is computed at each entry. Assumes nothing.
use mathlib.Core.Path.{◌≡◌, refl, subst}
use mathlib.Core.List.{List}
use Prim.Native.Nat.{ℕ}
use native.Mathlib.Omega.{arith}
use Rattle.standard.specs.Field.{double, times, mul, dot}
use Rattle.standard.specs.Photon.{PhotonParameters, serial}
use Rattle.standard.specs.Families.{sponge, photon}
use Rattle.standard.specs.Variants.{variant, photon100, photon144, photon196, photon256}
use Rattle.photon_tables.specs.Columns.{mixed, share, constant_column}
use Rattle.photon_tables.specs.Tables.{entry_of, Entries}
use Rattle.photon_tables.proofs.EntryTests.{entries-of}
use Rattle.photon_tables.proofs.shares_of.Goals as goal

-- a family has its parameters only
same : (p q : PhotonParameters) (r s : ℕ) → sponge (photon q) s ≡ sponge (photon p) r → q ≡ p
same p q r s e = cc

for : (p q : PhotonParameters) (r s : ℕ) (table : List ℕ) → Entries 144 q table → sponge (photon q) s ≡ sponge (photon p) r → Entries 144 p table
for p q r s table t e = subst (λ (x : PhotonParameters). Entries 144 x table) (same p q r s e) t

is : (v k : ℕ) (p : PhotonParameters) (r : ℕ) → v ≡ k → (variant v).family ≡ sponge (photon p) r → (variant k).family ≡ sponge (photon p) r
is v k p r e f = rw e at f

pub returns-in-1 : goal.returns-in-1
unfolding variant entry_of constant_column share mixed serial dot mul times double
returns-in-1 c p r e = for p photon100 r 16 _ (entries-of 144 photon100 _ refl tt) (is c.args.v 1 p r c.in-1.is e)

pub returns-in-2 : goal.returns-in-2
unfolding variant entry_of constant_column share mixed serial dot mul times double
returns-in-2 c p r e = for p photon144 r 16 _ (entries-of 144 photon144 _ refl tt) (is c.args.v 2 p r c.in-2.is e)

pub returns-in-3 : goal.returns-in-3
unfolding variant entry_of constant_column share mixed serial dot mul times double
returns-in-3 c p r e = for p photon196 r 36 _ (entries-of 144 photon196 _ refl tt) (is c.args.v 3 p r c.in-3.is e)

pub returns-in_default : goal.returns-in_default
unfolding variant entry_of constant_column share mixed serial dot mul times double
returns-in_default c p r e = for p photon256 r 32 _ (entries-of 144 photon256 _ refl tt) (is c.args.v 4 p r (omega arith) e)
