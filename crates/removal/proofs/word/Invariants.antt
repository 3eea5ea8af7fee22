-- `word` meets its contract. The loop's invariant: the marks from v on are in the word.
use mathlib.Core.Path.{◌≡◌}
use Prim.Native.Nat.{◌+◌, ◌-◌, ◌≤◌, ◌<◌}
use Rattle.connectivity.specs.Fallen.{per_word, word_from}
use Rattle.removal.specs.Fallen.{is_unseen}
use Rattle.removal.proofs.word.Given as goal

abbrev pub invariant-loop-v : goal.invariant-loop-v
invariant-loop-v l = (l.from ≤ l.v) × (l.v ≤ l.from + per_word) × (l.from < l.v → l.v ≤ l.n) × (l.word ≡ word_from (is_unseen l.n l.first l.barred) l.v (l.from + per_word - l.v))
