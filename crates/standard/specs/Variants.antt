-- The variants by number: Table 1 (1 to 5), Table 9 (6 to 10), and Lesamnta-LW (11; document 02, Q-7); and the digest
-- sizes of 5.2.1, 5.3.1 and 6.2.4. Clause 5.3 states no rate: SPONGENT's r is that of Table C.1 and document 01, and r'
-- = r.
-- Assumes nothing.
use Rattle.std.specs.Prelude.{Bool, ◌&&◌, List, [], ◌∷◌, ℕ, ltb, length, get_or}
use Rattle.standard.specs.Backward.{unpresent, unaes}
use Rattle.standard.specs.Photon.{PhotonParameters, present, aes}
use Rattle.standard.specs.Spongent.{SpongentParameters}
use Rattle.standard.specs.Families.{photon, spongent, sponge, lesamnta, Variant}

-- Table 1; `unz` is no part of it (docs/DECISIONS.md, D-5)

abbrev pub photon100 : PhotonParameters
photon100 = record {
  d = 5;
  s = 4;
  poly = 0x13;
  box = present;
  unbox = unpresent;
  ic = 0 ∷ 1 ∷ 3 ∷ 6 ∷ 4 ∷ [];
  z = 1 ∷ 2 ∷ 9 ∷ 9 ∷ 2 ∷ [];
  unz = 1 ∷ 2 ∷ 9 ∷ 9 ∷ 2 ∷ [];
}

abbrev pub photon144 : PhotonParameters
photon144 = record {
  d = 6;
  s = 4;
  poly = 0x13;
  box = present;
  unbox = unpresent;
  ic = 0 ∷ 1 ∷ 3 ∷ 7 ∷ 6 ∷ 4 ∷ [];
  z = 1 ∷ 2 ∷ 8 ∷ 5 ∷ 8 ∷ 2 ∷ [];
  unz = 1 ∷ 2 ∷ 8 ∷ 5 ∷ 8 ∷ 2 ∷ [];
}

abbrev pub photon196 : PhotonParameters
photon196 = record {
  d = 7;
  s = 4;
  poly = 0x13;
  box = present;
  unbox = unpresent;
  ic = 0 ∷ 1 ∷ 2 ∷ 5 ∷ 3 ∷ 6 ∷ 4 ∷ [];
  z = 1 ∷ 4 ∷ 6 ∷ 1 ∷ 1 ∷ 6 ∷ 4 ∷ [];
  unz = 1 ∷ 4 ∷ 6 ∷ 1 ∷ 1 ∷ 6 ∷ 4 ∷ [];
}

abbrev pub photon256 : PhotonParameters
photon256 = record {
  d = 8;
  s = 4;
  poly = 0x13;
  box = present;
  unbox = unpresent;
  ic = 0 ∷ 1 ∷ 3 ∷ 7 ∷ 15 ∷ 14 ∷ 12 ∷ 8 ∷ [];
  z = 2 ∷ 4 ∷ 2 ∷ 11 ∷ 2 ∷ 8 ∷ 5 ∷ 6 ∷ [];
  unz = 9 ∷ 3 ∷ 11 ∷ 4 ∷ 1 ∷ 12 ∷ 1 ∷ 2 ∷ [];
}

abbrev pub photon288 : PhotonParameters
photon288 = record {
  d = 6;
  s = 8;
  poly = 0x11b;
  box = aes;
  unbox = unaes;
  ic = 0 ∷ 1 ∷ 3 ∷ 7 ∷ 6 ∷ 4 ∷ [];
  z = 2 ∷ 3 ∷ 1 ∷ 2 ∷ 1 ∷ 4 ∷ [];
  unz = 141 ∷ 2 ∷ 141 ∷ 1 ∷ 141 ∷ 140 ∷ [];
}

-- Table 9

abbrev pub spongent88 : SpongentParameters
spongent88 = record { t = 88; R = 45; width = 6; first = 0x05; taps = 5 ∷ 4 ∷ [] }

abbrev pub spongent136 : SpongentParameters
spongent136 = record { t = 136; R = 70; width = 7; first = 0x7a; taps = 6 ∷ 5 ∷ [] }

abbrev pub spongent176 : SpongentParameters
spongent176 = record { t = 176; R = 90; width = 7; first = 0x45; taps = 6 ∷ 5 ∷ [] }

abbrev pub spongent240 : SpongentParameters
spongent240 = record { t = 240; R = 120; width = 7; first = 0x01; taps = 6 ∷ 5 ∷ [] }

abbrev pub spongent272 : SpongentParameters
spongent272 = record { t = 272; R = 140; width = 8; first = 0x9e; taps = 7 ∷ 3 ∷ 2 ∷ 1 ∷ [] }

-- what stands where there is no variant, and is no sponge
abbrev pub none : Variant
none = record { t = 0; r = 0; n = 0; family = lesamnta }

-- the variants by number, from 1 on
abbrev pub variants : List Variant
variants =
    none
    ∷ record { t = 100; r = 20; n = 80; family = sponge (photon photon100) 16 }
    ∷ record { t = 144; r = 16; n = 128; family = sponge (photon photon144) 16 }
    ∷ record { t = 196; r = 36; n = 160; family = sponge (photon photon196) 36 }
    ∷ record { t = 256; r = 32; n = 224; family = sponge (photon photon256) 32 }
    ∷ record { t = 288; r = 32; n = 256; family = sponge (photon photon288) 32 }
    ∷ record { t = 88; r = 8; n = 88; family = sponge (spongent spongent88) 8 }
    ∷ record { t = 136; r = 8; n = 128; family = sponge (spongent spongent136) 8 }
    ∷ record { t = 176; r = 16; n = 160; family = sponge (spongent spongent176) 16 }
    ∷ record { t = 240; r = 16; n = 224; family = sponge (spongent spongent240) 16 }
    ∷ record { t = 272; r = 16; n = 256; family = sponge (spongent spongent272) 16 }
    ∷ record { t = 256; r = 128; n = 256; family = lesamnta }
    ∷ []

-- the variant of a number, and `none` where there is none
unfoldable pub variant : ℕ → Variant
variant v = get_or variants v none

-- the numbers of variants: those of the table, but 0
abbrev pub known : ℕ → Bool
known v = ltb 0 v && ltb v (length variants)
