-- What this crate promises of its operations, each a statement that is proved under the same name.
-- Assumes nothing.
use Rattle.std.specs.Prelude.{◌≡◌, true, List, ◌++◌, ℕ, ◌+◌, ◌*◌, ◌≤◌, ◌<◌, length, drop, get_or}
use Rattle.standard.specs.Families.{is_sponge}
use Rattle.standard.specs.Chain.{blocks_of, DifferAt, digest_of}
use Rattle.standard.specs.Messages.{byte_bits, Given, bytes, given_bits}
use Rattle.standard.specs.Variants.{variant, known}
use Rattle.standard.specs.Values.{DifferWithin, in_one_block}
use Rattle.answers.specs.Refusals.{Done}
use Rattle.answers.specs.Outputs.{max_bytes, max_bits}
use Rattle.chain.specs.Messages.{Fits, Alike}
use Rattle.hasher.specs.declared.Hasher.{Hasher}
use Rattle.standard.specs.declared.Wanted.{Wanted}
use Rattle.standard.specs.declared.Wanted.TheVariants.{Digest}
use Rattle.hasher.specs.Running.{variant_of, held_count, state_of, well_formed, started_over, started, updated, finished}
use Rattle.hasher.specs.Reading.{result_size, hash_status, hash_into}
use Rattle.hasher.specs.Pieces.{joined_bits, Cut, plain, joined, and_then, hashed_status, hashed_into, Hashes}
use Rattle.hasher.specs.Apart.{ToldApart}
use Rattle.hasher.specs.Sized.{Sized}

-- ---- demand 1: a refusal leaves the running hash as it was, well formed or not

abbrev pub StartUnchanged : Type 0
StartUnchanged = (h : Hasher) (v : ℕ) → ((started_over h v).status ≡ Done → ⊥) → (started_over h v).hasher ≡ h

abbrev pub UpdateUnchanged : Type 0
UpdateUnchanged = (h : Hasher) (g : Given) → ((updated h g).status ≡ Done → ⊥) → (updated h g).hasher ≡ h

abbrev pub FinishUnchanged : Type 0
FinishUnchanged = (h : Hasher) → ((finished h).status ≡ Done → ⊥) → (finished h).hasher ≡ h

-- A start that is Done gives a well-formed running hash, and every call gives one where it was given one, refused or not.
abbrev pub StartWellFormed : Type 0
StartWellFormed = (v : ℕ) → (started v).status ≡ Done → well_formed (started v).hasher ≡ true

abbrev pub UpdateWellFormed : Type 0
UpdateWellFormed = (h : Hasher) → Sized h → well_formed h ≡ true → (g : Given) → well_formed (updated h g).hasher ≡ true

abbrev pub FinishWellFormed : Type 0
FinishWellFormed = (h : Hasher) → Sized h → well_formed h ≡ true → well_formed (finished h).hasher ≡ true

-- ---- demand 2: the standard's digest and end state

-- For every known variant and every message within the limit, cut between bytes anywhere: start, an update with each piece in turn and finish
-- are all Done, and a read gives the standard's digest of the message, or the image of its end state.
abbrev pub Demand2 : Type 0
Demand2 =
    (v : ℕ) → known v ≡ true → (pieces : List Given) → Cut (variant v) pieces → length (joined_bits (variant v) pieces) ≤ max_bits
    → Hashes v pieces (joined_bits (variant v) pieces)

-- The same where all bits count: pieces of bytes, as they are.
abbrev pub Demand2Bytes : Type 0
Demand2Bytes =
    (v : ℕ) → known v ≡ true → (pieces : List (List ℕ)) → length (joined pieces) ≤ max_bytes → Hashes v (plain pieces) (byte_bits (joined pieces))

-- A start over a running hash that is there is a start, for a known variant: so the same holds of the calls over a lent running hash.
abbrev pub OverStarted : Type 0
OverStarted = (h : Hasher) (v : ℕ) → known v ≡ true → started_over h v ≡ started v

-- For every variant number, known or not, every message, within the limit or not, however it is cut, and every output: the whole-message call
-- answers what start, an update with each piece, finish and a read answer, and leaves the same bytes in the output.
abbrev pub WholeIsPieces : Type 0
WholeIsPieces =
    (v : ℕ) (pieces : List Given) (g : Given) → Cut (variant v) pieces → Fits g → joined_bits (variant v) pieces ≡ given_bits (variant v) g
    → (wanted : Wanted) (out : List ℕ)
    → (hash_status v g wanted (length out) ≡ hashed_status v pieces wanted (length out)) × (hash_into v g wanted out ≡ hashed_into v pieces wanted out)

-- The same where all bits count.
abbrev pub WholeIsPiecesBytes : Type 0
WholeIsPiecesBytes =
    (v : ℕ) (pieces : List (List ℕ)) (wanted : Wanted) (out : List ℕ)
    → (hash_status v (bytes (joined pieces)) wanted (length out) ≡ hashed_status v (plain pieces) wanted (length out))
    × (hash_into v (bytes (joined pieces)) wanted out ≡ hashed_into v (plain pieces) wanted out)

-- What a whole message within the limit gives is hash(M) of 5.2.3, 5.3.3 and 6.2.4, over the front of an output that is long enough.
abbrev pub WholeDigest : Type 0
WholeDigest =
    (v : ℕ) → known v ≡ true → (g : Given) → Fits g → length (given_bits (variant v) g) ≤ max_bits → (out : List ℕ) → result_size (variant v) Digest ≤ length out
    → hash_into v g Digest out ≡ digest_of (variant v) (given_bits (variant v) g) ++ drop (result_size (variant v) Digest) out

-- Where an update with a and then g is Done in one call, it is Done in two, and gives the same running hash.
abbrev pub UpdateAppend : Type 0
UpdateAppend =
    (h : Hasher) → Sized h → (a : List ℕ) (g both : Given) → Fits g → given_bits (variant_of h) both ≡ byte_bits a ++ given_bits (variant_of h) g
    → (updated h both).status ≡ Done → and_then (updated h (bytes a)) (λ next. updated next g) ≡ updated h both

-- Two ways to give the same bits are one to an update and to a whole message.
abbrev pub UpdateAlike : Type 0
UpdateAlike = (h : Hasher) (g g' : Given) → Alike (variant_of h) g g' → updated h g ≡ updated h g'

abbrev pub WholeAlike : Type 0
WholeAlike =
    (v : ℕ) (g g' : Given) → Alike (variant v) g g' → (wanted : Wanted) (out : List ℕ)
    → (hash_status v g wanted (length out) ≡ hash_status v g' wanted (length out)) × (hash_into v g wanted out ≡ hash_into v g' wanted out)

-- ---- demand 3, for what a caller reads

-- Of a sponge: two messages within the limit whose padded rows of blocks have equal count and differ at exactly one place are told apart.
abbrev pub RowTold : Type 0
RowTold =
    (v : ℕ) → is_sponge (variant v) ≡ true → (x y : Given) → Fits x → Fits y
    → length (given_bits (variant v) x) ≤ max_bits → length (given_bits (variant v) y) ≤ max_bits
    → (i : ℕ) → DifferAt i (blocks_of (variant v) (given_bits (variant v) x)) (blocks_of (variant v) (given_bits (variant v) y)) → ToldApart v x y

-- Of a sponge: two messages of equal length within the limit whose bits differ, and only within one block, are told apart.
abbrev pub BlockTold : Type 0
BlockTold =
    (v : ℕ) → is_sponge (variant v) ≡ true → (x y : Given) → Fits x → Fits y → length (given_bits (variant v) x) ≤ max_bits
    → (j : ℕ) → DifferWithin (j * (variant v).r) (variant v).r (given_bits (variant v) x) (given_bits (variant v) y) → ToldApart v x y

-- Of a sponge: two messages of bytes within the limit that differ only in the n bytes from p on, which lie in one block, are told apart.
abbrev pub ValueTold : Type 0
ValueTold =
    (v : ℕ) → is_sponge (variant v) ≡ true → (x y : List ℕ) → length x ≤ max_bytes → ((i : ℕ) → get_or x i 0 < 256) → ((i : ℕ) → get_or y i 0 < 256)
    → (p n : ℕ) → DifferWithin p n x y → in_one_block (variant v) p n ≡ true → ToldApart v (bytes x) (bytes y)

-- Of every variant (document 02, Q-7): from one running hash, two different pieces that each fill the block never lead to one state.
abbrev pub OneMoreBlock : Type 0
OneMoreBlock =
    (h : Hasher) → Sized h → (x y : List ℕ) → ((i : ℕ) → get_or x i 0 < 256) → ((i : ℕ) → get_or y i 0 < 256)
    → held_count h + 8 * length x ≡ (variant_of h).r → held_count h + 8 * length y ≡ (variant_of h).r
    → (updated h (bytes x)).status ≡ Done → (updated h (bytes y)).status ≡ Done
    → state_of (updated h (bytes x)).hasher ≡ state_of (updated h (bytes y)).hasher → x ≡ y
