-- The tables in a stream of bytes (document 02, Q-1): each is led by two bytes of axis number and four of length.
-- Assumes nothing.
use Rattle.std.specs.Prelude.{Bool, cond, List, [], ◌∷◌, ℕ, zero, suc, ◌+◌, leb, length, take, drop}
use Rattle.octets.specs.Numbers.{big_endian}

-- a table of an axis
pub record Table : Type 0 where
  pub axis : ℕ
  pub contents : List ℕ

-- the bytes of axis and length
abbrev pub header_bytes : ℕ
header_bytes = 6

-- the axis and the length that stand at the front of a stream
unfoldable pub axis_in : List ℕ → ℕ
axis_in stream = big_endian (take 2 stream)

unfoldable pub length_in : List ℕ → ℕ
length_in stream = big_endian (take 4 (drop 2 stream))

-- the bytes from the front of a stream to the end of its first table
abbrev pub span_of : List ℕ → ℕ
span_of stream = header_bytes + length_in stream

-- that table is there to its end: one cut short, in its contents or before them, is none
unfoldable pub is_whole : List ℕ → Bool
is_whole stream = leb (span_of stream) (length stream)

unfoldable pub first_table : List ℕ → Table
first_table stream = record { axis = axis_in stream; contents = take (length_in stream) (drop header_bytes stream) }

-- the tables of a stream, n at most
abbrev pub tables_up_to : ℕ → List ℕ → List Table
tables_up_to zero stream = []
tables_up_to (suc n) stream = cond (is_whole stream) (first_table stream ∷ tables_up_to n (drop (span_of stream) stream)) []

-- the maximum number of tables that a report looks at
abbrev pub max_tables : ℕ
max_tables = 65535

-- the tables of a stream
unfoldable pub tables_in : List ℕ → List Table
tables_in stream = tables_up_to max_tables stream
