-- `total` meets its contract: the sum of each word's ones is how many marks are set.
use Rattle.std.proofs.Common.{◌≡◌, sym, ◌∙◌, rules, sum, map}
use lib.Count.{ones}
use Rattle.removal.proofs.Packing.{marked_sum}
use Rattle.removal.proofs.total.Goals as goal

pub returns : goal.returns
returns c =
    let sums : c.sum.result ≡ sum (map ones c.args.words.now) = search rules in
    sums ∙ sym (marked_sum c.args.words.now)
