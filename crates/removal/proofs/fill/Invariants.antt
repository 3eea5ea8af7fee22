-- `fill` meets its contract. The loop's invariant: the first i words are there.
use mathlib.Core.Path.{◌≡◌}
use Prim.Native.Nat.{ℕ, ◌*◌, ◌<◌}
use lib.ListN.{get_or}
use Rattle.connectivity.specs.Fallen.{per_word, word_from}
use Rattle.removal.specs.Fallen.{is_unseen}
use Rattle.removal.proofs.fill.Given as goal

abbrev pub invariant-loop-i : goal.invariant-loop-i
invariant-loop-i l = (j : ℕ) → j < l.i → get_or l.words j 0 ≡ word_from (is_unseen l.n l.first l.barred) (per_word * j) per_word
