-- `key` meets its contract: a remainder is below its divisor.
use mathlib.Core.Path.{refl}
use Prim.Native.Nat.{◌%◌}
use native.Mathlib.Nat.{mod-lt}
use Rattle.chains.specs.Chains.{key_of}
use Rattle.chains.proofs.key.Goals as goal

pub returns : goal.returns
unfolding key_of
returns c = (refl, mod-lt (c.args.label % 4294967296) c.requires)
