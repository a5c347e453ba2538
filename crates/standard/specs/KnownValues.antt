-- The known values that are to be proved: rows of what the definitions give and what is expected. Those of `stated` are
-- the papers', by document 01 or, for Lesamnta-LW, by the standard; those of `ours` are stated by no paper. Crates
-- above may add rows of their own: `holds-append`.
-- Assumes nothing.
use Rattle.std.specs.Prelude.{◌≡◌, Bool, true, false, ℕ, suc, ◌-◌, ◌/◌, length, get_or, take, drop, replicate}
use mathlib.Core.List.{List, [], ◌∷◌, ◌++◌, map, flat_map}
use Rattle.standard.specs.Bits.{high_first, bits_of, value_of, cut}
use Rattle.standard.specs.Field.{mul}
use Rattle.standard.specs.Photon.{serial, aes}
use Rattle.standard.specs.Spongent.{l_counters, goes_to}
use Rattle.standard.specs.Lesamnta.{word_q, word_g, cipher_constants}
use Rattle.standard.specs.Chain.{blocks_of, start_state, given_out, digest_of}
use Rattle.standard.specs.Messages.{byte_bits, message_bits}
use Rattle.standard.specs.Variants.{variant, photon100, spongent88}
use Rattle.standard.specs.LowestFreeBit.{lowest_free_bit}

-- what a definition gives, and what is expected
pub record Row : Type 0 where
  pub gives : List ℕ
  pub expected : List ℕ

-- every row gives what is expected
abbrev pub AllHold : List Row → Type 0
AllHold rows = map (λ (row : Row). row.gives) rows ≡ map (λ (row : Row). row.expected) rows

-- the blocks of a message of bytes as numbers, their first bit the most significant
abbrev pub block_values : ℕ → List ℕ → List ℕ
block_values v m = map (value_of high_first) (blocks_of (variant v) (byte_bits m))

-- and of one of whose last byte k bits count
abbrev pub bit_block_values : ℕ → List ℕ → ℕ → List ℕ
bit_block_values v m k = map (value_of high_first) (blocks_of (variant v) (message_bits (variant v) m k))

-- the last 24 bits of the start state
abbrev pub start_end : ℕ → ℕ
start_end v = value_of high_first (drop ((variant v).t - 24) (start_state (variant v)))

-- the places of the bits that are set, from i on
abbrev pub places : ℕ → List Bool → List ℕ
places i [] = []
places i (true ∷ s) = i ∷ places (suc i) s
places i (false ∷ s) = places (suc i) s

-- 6.2.5.3.2, as printed but for C(25), which has lost a digit there (c3bbb82)
abbrev pub printed_constants : List ℕ
printed_constants =
    0xa432337f ∷ 0x945e1f8f ∷ 0x92539a11 ∷ 0x24b90062 ∷
    0x6971c64c ∷ 0xd6e3f449 ∷ 0x2c2f0da9 ∷ 0x33769295 ∷
    0xeb506df2 ∷ 0x708cebfe ∷ 0xb83ab7bf ∷ 0x97df0f17 ∷
    0x9223b802 ∷ 0x7fa29140 ∷ 0x0ff45228 ∷ 0x01fe8a45 ∷
    0xed016ee8 ∷ 0x1da02ddd ∷ 0xee8aba1b ∷ 0x46c4c223 ∷
    0x53cd0d24 ∷ 0xd1b46d24 ∷ 0xc1fb4124 ∷ 0xc3f2a4a4 ∷
    0xc3b39814 ∷ 0xc3bbbf82 ∷ 0x759191b0 ∷ 0x0eb23236 ∷
    0xb7fd6c86 ∷ 0xa0d48750 ∷ 0x141a90ea ∷ 0x6f65b45d ∷
    0xe0d2092b ∷ 0x470fd445 ∷ 0xe5df4528 ∷ 0x1cbbe8a5 ∷
    0xeea9c2b4 ∷ 0xc618f4d6 ∷ 0xaee8345a ∷ 0x783be0cb ∷
    0x5412e979 ∷ 0x3c712e0f ∷ 0x87567c21 ∷ 0x2619bca4 ∷
    0xdf0efb14 ∷ 0xc02c13e2 ∷ 0x75e3643c ∷ 0xd571a007 ∷
    0x9a766de0 ∷ 0x134ecdbc ∷ 0xd9a41537 ∷ 0x9becdb46 ∷
    0xa556b1a8 ∷ 0x14aad635 ∷ 0xefabe566 ∷ 0xabde566c ∷
    0xceb6064d ∷ 0xf4e87f69 ∷ 0x286e7ccd ∷ 0xe8337039 ∷
    0x2bf51d27 ∷ 0x85a6fa44 ∷ 0xcb7913c8 ∷ 0x196f2279 ∷ []

-- the papers' rows
abbrev pub stated : List Row
stated =
    -- the empty message: variant 1; variant 6 by the wording of document 01
    record { gives = block_values 1 []; expected = 0x80000 ∷ [] }
    ∷ record { gives = flat_map (λ b. b) (lowest_free_bit 8 []); expected = 0x01 ∷ [] }
    -- bytes AB CD in variants 1 and 3; byte AB in variant 8 by the wording of document 01
    ∷ record { gives = block_values 1 (0xab ∷ 0xcd ∷ []); expected = 0xabcd8 ∷ [] }
    ∷ record { gives = block_values 3 (0xab ∷ 0xcd ∷ []); expected = 0xabcd80000 ∷ [] }
    ∷ record { gives = flat_map (λ b. b) (lowest_free_bit 16 (0xab ∷ [])); expected = 0xab ∷ 0x01 ∷ [] }
    -- five bytes in variant 1: three blocks, the last 80000
    ∷ record { gives = block_values 1 (1 ∷ 2 ∷ 3 ∷ 4 ∷ 5 ∷ []); expected = 0x01020 ∷ 0x30405 ∷ 0x80000 ∷ [] }
    -- the last 24 bits of the start
    ∷ record { gives = start_end 1 ∷ start_end 4 ∷ []; expected = 0x141410 ∷ 0x382020 ∷ [] }
    -- variant 6: the counter, and the places that 05 sets in reverse
    ∷ record { gives = take 5 (l_counters spongent88); expected = 0x05 ∷ 0x0a ∷ 0x14 ∷ 0x29 ∷ 0x13 ∷ [] }
    ∷ record { gives = places 0 (bits_of high_first 88 0x05); expected = 85 ∷ 87 ∷ [] }
    -- t = 88: where the bits 1, 4, 86 and 87 go
    ∷ record {
      gives = map (goes_to spongent88.t (spongent88.t / 4)) (1 ∷ 4 ∷ 86 ∷ 87 ∷ []);
      expected = 22 ∷ 1 ∷ 65 ∷ 87 ∷ [];
    }
    -- the AES S-box, and products in both fields
    ∷ record { gives = get_or aes 0xab 0 ∷ []; expected = 0x62 ∷ [] }
    ∷ record { gives = mul 16 0x13 2 9 ∷ mul 256 0x11b 0x02 0x8d ∷ []; expected = 1 ∷ 0x01 ∷ [] }
    -- d = 5: one multiplication of a column
    ∷ record {
      gives = serial 16 photon100.poly photon100.z (0 ∷ 0 ∷ 0 ∷ 0 ∷ 1 ∷ []);
      expected = 0 ∷ 0 ∷ 0 ∷ 1 ∷ 2 ∷ [];
    }
    -- variant 3: five output blocks, the last giving 16 bits
    ∷ record {
      gives = map length (cut 36 5 (given_out (variant 3).family (variant 3) (start_state (variant 3))));
      expected = 36 ∷ 36 ∷ 36 ∷ 36 ∷ 16 ∷ [];
    }
    -- Lesamnta-LW: Q (B.3.2) and G (B.3.3)
    ∷ record { gives = word_q 0xa4323129 ∷ []; expected = 0x95f80b6e ∷ [] }
    ∷ record { gives = word_g 0x0000025600000256 0x00000256 ∷ []; expected = 0xa58d6363636326c8 ∷ [] }
    -- the round constants (6.2.5.3.2)
    ∷ record { gives = cipher_constants; expected = printed_constants }
    -- "abc" (B.3.4)
    ∷ record {
      gives = digest_of (variant 11) (byte_bits (0x61 ∷ 0x62 ∷ 0x63 ∷ []));
      expected =
          0xab ∷ 0x32 ∷ 0xca ∷ 0x45 ∷ 0x17 ∷ 0x48 ∷ 0x25 ∷ 0x5e ∷ 0x3b ∷ 0xf0 ∷ 0xe3 ∷ 0x4a ∷ 0x5a ∷ 0xd6 ∷ 0x00
          ∷ 0xf0 ∷ 0xce ∷ 0x76 ∷ 0x60 ∷ 0xec ∷ 0xea ∷ 0x2f ∷ 0xe0 ∷ 0x83 ∷ 0xba ∷ 0x54 ∷ 0x13 ∷ 0x9b ∷ 0x77 ∷ 0x07
          ∷ 0x66 ∷ 0xd0 ∷ [];
    }
    ∷ []

-- rows that no paper states
abbrev pub ours : List Row
ours =
    -- no bytes in variant 6, and the byte AB in variant 8, in the padding in use (Annex B.2; docs/DECISIONS.md, D-1)
    record { gives = block_values 6 []; expected = 0x80 ∷ [] }
    ∷ record { gives = block_values 8 (0xab ∷ []); expected = 0xab80 ∷ [] }
    -- document 02, Q-6: three bits of the byte B7, 101 in variant 2 and 111 in variant 6
    ∷ record { gives = bit_block_values 2 (0xb7 ∷ []) 3; expected = 0xb000 ∷ [] }
    ∷ record { gives = bit_block_values 6 (0xb7 ∷ []) 3; expected = 0xf0 ∷ [] }
    -- three bits that read otherwise from their other end: 110 of C0 in variants 2 and 11, 011 of 03 in variant 6
    ∷ record { gives = bit_block_values 2 (0xc0 ∷ []) 3; expected = 0xd000 ∷ [] }
    ∷ record { gives = bit_block_values 6 (0x03 ∷ []) 3; expected = 0x70 ∷ [] }
    ∷ record { gives = bit_block_values 11 (0xc0 ∷ []) 3; expected = 0xd0000000000000000000000000000000 ∷ 3 ∷ [] }
    -- 19 bits in variant 1, which the 1 bit makes a block
    ∷ record { gives = bit_block_values 1 (0xab ∷ 0xcd ∷ 0xef ∷ []) 3; expected = 0xabcdf ∷ [] }
    -- seven 0 bits in variant 6, whose row is not that of no bits
    ∷ record { gives = bit_block_values 6 (0x00 ∷ []) 7; expected = 0x01 ∷ [] }
    -- variant 11: the blocks of no bits, of three bytes, of one block, and of 127 and 129 bits
    ∷ record { gives = block_values 11 []; expected = 0x80000000000000000000000000000000 ∷ [] }
    ∷ record {
      gives = block_values 11 (0x61 ∷ 0x62 ∷ 0x63 ∷ []);
      expected = 0x61626380000000000000000000000000 ∷ 0x18 ∷ [];
    }
    ∷ record {
      gives = block_values 11 (replicate 16 0x11);
      expected = 0x11111111111111111111111111111111 ∷ 0x80000000000000000000000000000080 ∷ [];
    }
    ∷ record {
      gives = bit_block_values 11 (replicate 16 0x10) 7;
      expected = 0x10101010101010101010101010101011 ∷ 0x7f ∷ [];
    }
    ∷ record {
      gives = bit_block_values 11 (replicate 17 0x80) 1;
      expected = 0x80808080808080808080808080808080 ∷ 0xc0000000000000000000000000000000 ∷ 0x81 ∷ [];
    }
    ∷ []

-- all of them
abbrev pub known_rows : List Row
known_rows = stated ++ ours
