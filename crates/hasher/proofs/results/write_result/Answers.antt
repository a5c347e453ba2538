-- `hasher::results::write_result` meets its contract: the front of the digest's bytes, or of the state's. Assumes nothing.
use native.Mathlib.Omega.{arith}
use Rattle.hasher.proofs.Calls.{result_fits, digest-front, image-front}
use Rattle.hasher.proofs.results.write_result.Goals as goal

pub copy_front-requires : goal.copy_front-requires
copy_front-requires c = (omega (arith, result_fits c.args.v c.requires.v_value c.args.wanted _ c.result_size-n.ensures), omega (arith, c.result_size-n.ensures, c.requires.wanted_in_bounds))

pub copy_front-requires-in-EndState : goal.copy_front-requires-in-EndState
copy_front-requires-in-EndState c = (omega (arith, result_fits c.args.v c.requires.v_value c.args.wanted _ c.result_size-n.ensures), omega (arith, c.result_size-n.ensures, c.requires.wanted_in_bounds))

pub returns-in-Digest : goal.returns-in-Digest
returns-in-Digest c = digest-front c.args.v c.requires.v_value c.args.wanted _ c.result_size-n.ensures _ _ c.args.out.now _ c.copy_front.ensures c.in-Digest.is c.digest_of.ensures

pub returns-in-EndState : goal.returns-in-EndState
returns-in-EndState c = image-front c.args.v c.requires.v_value c.args.wanted _ c.result_size-n.ensures _ _ c.args.out.now _ c.copy_front-in-EndState.ensures c.in-EndState.is c.requires.holds
