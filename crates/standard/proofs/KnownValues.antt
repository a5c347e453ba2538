-- Every known value is what the definitions give: one statement for the list, which computes.
-- Assumes nothing.
use mathlib.Core.Path.{refl}
use mathlib.Core.Bool.{xor}
use mathlib.Core.List.{List, ◌++◌, flat_map, map-append}
use Rattle.standard.specs.Bits.{low_bits, low_value, ordered, bits_of, value_of, bits_in, unpack, filled, pack, cut, turned}
use Rattle.standard.specs.Rounds.{rounds}
use Rattle.standard.specs.Grid.{transpose}
use Rattle.standard.specs.Field.{double, times, mul, dot}
use Rattle.standard.specs.Photon.{add_constants, sub_cells, shift_rows, serial, columns, mix_columns, photon_round, photon_rounds, matrix_of, bits_of_matrix, photon_permutation, aes}
use Rattle.standard.specs.Spongent.{tapped, next_counter, counters, l_counters, goes_to}
use Rattle.standard.specs.Lesamnta.{sub_bytes, mix_column, word_q, bytes_r, word_g, shifted, generated, lesamnta_padding, four_words, bits_of_words, feistel, mixing, scheduled, round_keys, cipher, lesamnta_start, lesamnta_step}
use Rattle.standard.specs.Sponge.{permutation, sponge_padding, output_blocks, squeezed}
use Rattle.standard.specs.Chain.{start_state, padding, padded, whole_blocks, blocks_of, step, run, end_state, digest_of}
use Rattle.standard.specs.Messages.{message_bits}
use Rattle.standard.specs.Variants.{variant}
use Rattle.standard.specs.LowestFreeBit.{lowest_free_bit}
use Rattle.standard.specs.KnownValues.{Row, AllHold}
use Rattle.standard.specs.Promises.{KnownValuesHold}

-- two lists that hold, one behind the other
pub holds-append : (xs ys : List Row) → AllHold xs → AllHold ys → AllHold (xs ++ ys)
holds-append xs ys p q = rw (map-append, map-append, p, q)

pub known_values : KnownValuesHold
unfolding xor flat_map low_bits low_value ordered bits_of value_of bits_in unpack filled pack cut rounds transpose double times mul dot add_constants sub_cells shift_rows serial columns mix_columns photon_round photon_rounds matrix_of bits_of_matrix photon_permutation aes tapped next_counter counters l_counters goes_to permutation start_state sponge_padding turned message_bits padding padded whole_blocks blocks_of output_blocks squeezed variant lowest_free_bit sub_bytes mix_column word_q bytes_r word_g shifted generated lesamnta_padding four_words bits_of_words feistel mixing scheduled round_keys cipher lesamnta_start lesamnta_step step run end_state digest_of
known_values = refl
