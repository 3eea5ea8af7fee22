-- `store` meets its contract. The loop's invariant: what is left to be stored, from drawn tab e on, makes the whole.
use mathlib.Core.Path.{◌≡◌}
use mathlib.Core.Bool.{true}
use Prim.Native.Nat.{◌+◌, ◌*◌, ◌-◌, ◌≤◌}
use lib.ListN.{length, drop}
use lib.Seq.{sets}
use Rattle.drawn.specs.Drawing.{all_ends, wide_ones, wide_numbers}
use Rattle.drawn.specs.Text.{form, header_size, edge_size, edges_fit, edges_in}
use Rattle.drawn.proofs.take.store.Given as goal

abbrev pub invariant-loop-e : goal.invariant-loop-e
invariant-loop-e l =
    let rest = drop (header_size form + l.e * edge_size form) l.text in
    let left = edges_in form (l.edges - l.e) rest in
    let whole = edges_in form l.edges (drop (header_size form) l.text) in
    record {
      few : l.count ≤ l.e;
      fits : edges_fit form (l.edges - l.e) rest ≡ true;
      many : l.count + length (wide_numbers l.least l.e left) ≡ length (wide_numbers l.least 0 whole);
      ends_set : sets l.ends (2 * l.count) (all_ends (wide_ones l.least left)) ≡ sets l.initial.ends 0 (all_ends (wide_ones l.least whole));
      numbers_set : sets l.numbers l.count (wide_numbers l.least l.e left) ≡ sets l.initial.numbers 0 (wide_numbers l.least 0 whole);
    }
